-- One after another of those that await a task gets its copy, until nobody awaits it.
use Rattle.std.proofs.Common.{◌≡◌, ℕ, Bool, cond, ◌+◌, ◌≤◌, ◌⊎◌, inl, inr, false, nat_eq, List, [], ◌∷◌, ◌++◌, length, Option, None, Some, refl, sym, ap, subst, ◌∙◌, arith}
use Rattle.std.specs.Prelude.{set}
use Rattle.std.specs.Option.{option_map}
use Rattle.std.specs.List.{Contains, IsDistinct, AllByRecursion}
use Rattle.std.proofs.lemmas.List.Elements.{Contains-push, Contains-push_cases, Contains-append_left, Contains-append_right}
use Rattle.std.proofs.lemmas.List.Sorted.{length_permutation}
use Rattle.cht_ids.specs.declared.refs.Ref.{Ref}
use Rattle.cht_ids.specs.declared.refs.Ref.TheVariants.{Null, Id as Held}
use Rattle.name_states.specs.declared.holder.Holder.{Holder}
use Rattle.name_states.specs.declared.holder.Holder.TheVariants.{Caller as ByCaller, Task as ByTask}
use Rattle.name_states.specs.States.{NameState, id_at, IsLiveRef}
use Rattle.name_states.specs.Steps.{IsOutside}
use Rattle.name_states.specs.Rules.{AreWithin}
use Rattle.name_states.proofs.Within.{within-copied, live-kept}
use Rattle.task_states.specs.declared.states.Awaiter.{Awaiter}
use Rattle.task_states.specs.declared.states.Awaiter.TheVariants.{Input as AtInput, Asked}
use Rattle.task_states.specs.declared.states.TaskStatus.{TaskStatus}
use Rattle.task_states.specs.declared.states.TaskStatus.TheVariants.{Unknown, Waiting, Ready, Running}
use Rattle.task_states.specs.States.{Input, Known, Awaits, Unfinished, Graph, task_at, input_at, status, status_of, asked_of}
use Rattle.task_states.specs.Steps.{delivered, all_delivered}
use Rattle.task_states.specs.Awaiters.{number_of, IsAsked, IsAwaiter, IsNotAwaited}
use Rattle.task_states.specs.Listing.{awaiters}
use Rattle.task_states.proofs.Maps.{same_or_not, test_apart}
use Rattle.task_states.proofs.Options.{not_none, none_or_some}
use Rattle.task_states.proofs.Changes.{changed_here, changed_other}
use Rattle.task_states.proofs.Awaited.{awaits_nothing}
use Rattle.task_states.proofs.Deliveries.{delivers_one_by_one, delivers_to_none, delivers_to_one}
use Rattle.task_states.proofs.Listings.{takes_one_out}
use Rattle.name_machine.specs.Control.{with_number, copy_of, copies_of, awaiting}
use Rattle.name_machine.proofs.FinishNames.{IsIn, IsCopy, GrowBy, grow_copy}
use Rattle.name_machine.proofs.FinishNamesOrder.{AreFree, copies_in_any_order}
use Rattle.name_machine.proofs.FinishTasks.{free_by}
use Rattle.name_machine.proofs.FinishAwaiting.{IsAwaiter as IsNumbered, ByInput, ByAsk, awaiter_of, awaiter_in}
use Rattle.task_graph.specs.Contents.{is_ready, is_ready_at}
use Rattle.core_steps.specs.Delivered.{holder_for, asked_by, listed_if, listed_by, with_ready, AreSetApart, IsNowReady}

listed_at : (status : TaskStatus) (task : ℕ) (tasks : List ℕ) → cond (is_ready status) (tasks ++ task ∷ []) tasks ≡ listed_if status task tasks
listed_at Unknown task tasks = refl
listed_at Waiting task tasks = refl
listed_at Ready task tasks = refl
listed_at Running task tasks = refl

-- what is told of a task is what its status says
pub listed_ready : {K : Type 0} (graph : Graph Ref K) (a : Awaiter) (tasks : List ℕ) (told : Bool) → told ≡ is_ready_at graph a → listed_by told a tasks ≡ with_ready graph a tasks
listed_ready graph (AtInput task place number) tasks told is = ap (λ b. cond b (tasks ++ task ∷ []) tasks) is ∙ listed_at (status graph task) task tasks
listed_ready graph (Asked caller number) tasks told is = refl

-- ---- Awaiters, and the list of numbers and holders

module _ {K : Type 0} (graph : Graph Ref K) (task : ℕ) where
  -- an awaiter gives its number and its holder
  pub awaiter_listed : (a : Awaiter) → IsAwaiter graph task a → IsIn {X = ℕ × Holder} (number_of a, holder_for a) (awaiting graph task)
  awaiter_listed (AtInput of place number) awaits = awaiter_in graph task number (ByTask of) (ByInput of place awaits refl)
  awaiter_listed (Asked caller number) asked =
      awaiter_in graph task number (ByCaller caller) (ByAsk asked.unfinished asked.there asked.number_is (ap ByCaller (sym asked.caller_is)))

  -- and each of these comes from one
  pub awaiter_behind : (n : ℕ) (h : Holder) → IsIn {X = ℕ × Holder} (n, h) (awaiting graph task) → (a : Awaiter) × IsAwaiter graph task a × (number_of a ≡ n) × (holder_for a ≡ h)
  awaiter_behind n h is = go (awaiter_of graph task n h is)
    where
      go : IsNumbered graph task n h → (a : Awaiter) × IsAwaiter graph task a × (number_of a ≡ n) × (holder_for a ≡ h)
      go (ByInput of place at held) = (AtInput of place n, at, refl, sym held)
      go (ByAsk t at asked held) = (Asked t.caller n, record { unfinished = t; there = at; caller_is = refl; number_is = asked }, refl, sym held)

  -- where nobody awaits a task the list is empty
  nobody_listed : IsNotAwaited graph task → awaiting graph task ≡ []
  nobody_listed none = go (awaiting graph task) refl
    where
      go : (list : List (ℕ × Holder)) → awaiting graph task ≡ list → list ≡ []
      go [] is = refl
      go (one ∷ more) is =
          let among : IsIn {X = ℕ × Holder} (one.0, one.1) (awaiting graph task) = subst (λ l. IsIn {X = ℕ × Holder} (one.0, one.1) l) (sym is) (inl refl) in
          let a = awaiter_behind one.0 one.1 among in
          absurd (none a.0 a.1)

outside : (a : Awaiter) → IsOutside (holder_for a)
outside (AtInput of place number) = tt
outside (Asked caller number) = tt

module _ {C : Type 0} where
  within_copy : (names : NameState C) (r : Ref) (number : ℕ) (holder : Holder) (bound : ℕ) → AreWithin names bound → number ≤ bound → AreWithin (copy_of names r number holder) bound
  within_copy names Null number holder bound within low = within
  within_copy names (Held id) number holder bound within low = within-copied names id.number number holder bound within low

-- ---- What was asked, and how far tasks are

module _ {K : Type 0} where
  abbrev asked_in : Option (Unfinished Ref K) → Option ℕ
  asked_in o = elim o as (λ _. Option ℕ) [ None ↦ None | Some task ↦ task.asked ]

  abbrev status_in : Option (Unfinished Ref K) → TaskStatus
  status_in o = elim o as (λ _. TaskStatus) [ None ↦ Unknown | Some task ↦ status_of task ]

  abbrev with_input : ℕ → Input Ref → Unfinished Ref K → Unfinished Ref K
  with_input place input u = record u { inputs = set u.inputs place input }

  abbrev not_asked : Unfinished Ref K → Unfinished Ref K
  not_asked u = record u { asked = None }

  asked_map : (place : ℕ) (input : Input Ref) (o : Option (Unfinished Ref K)) → asked_in (option_map (with_input place input) o) ≡ asked_in o
  asked_map place input None = refl
  asked_map place input (Some u) = refl

  asked_gone : (o : Option (Unfinished Ref K)) → asked_in (option_map not_asked o) ≡ None
  asked_gone None = refl
  asked_gone (Some u) = refl

  status_map : (o : Option (Unfinished Ref K)) → status_in (option_map not_asked o) ≡ status_in o
  status_map None = refl
  status_map (Some u) = refl

  asked_there : (graph : Graph Ref K) (task n : ℕ) (o : Option (Unfinished Ref K)) → task_at graph task ≡ o → asked_in o ≡ Some n → (c : ℕ) × IsAsked graph task c n
  asked_there graph task n None at is = absurd (not_none None n refl is)
  asked_there graph task n (Some u) at is = (u.caller, record { unfinished = u; there = at; caller_is = refl; number_is = is })

  nobody_asked : (graph : Graph Ref K) (task : ℕ) → IsNotAwaited graph task → asked_of graph task ≡ None
  nobody_asked graph task none = elim (none_or_some (asked_of graph task)) [
    | inl is ↦ is
    | inr some ↦ absurd (let its = asked_there graph task some.0 (task_at graph task) refl some.1 in none (Asked its.0 some.0) its.1)
  ]

  asked_is : (graph : Graph Ref K) (task c n : ℕ) → IsAsked graph task c n → asked_of graph task ≡ Some n
  asked_is graph task c n asked = ap asked_in asked.there ∙ asked.number_is

  module _ (graph : Graph Ref K) (task : ℕ) (value : Ref) where
    asked_after_input : (of place number : ℕ) → asked_of (delivered graph task (AtInput of place number) value) task ≡ asked_of graph task
    asked_after_input of place number = elim (same_or_not task of) [
      | inl same ↦ ap asked_in (changed_here graph of task (with_input place (Known value)) same) ∙ asked_map place (Known value) (task_at graph task)
      | inr apart ↦ ap asked_in (changed_other graph of task (with_input place (Known value)) apart)
    ]

    asked_after_ask : (caller number : ℕ) → asked_of (delivered graph task (Asked caller number) value) task ≡ None
    asked_after_ask caller number = ap asked_in (changed_here graph task task not_asked refl) ∙ asked_gone (task_at graph task)

    -- what is still asked was asked
    still_asked : (a : Awaiter) (n : ℕ) → asked_of (delivered graph task a value) task ≡ Some n → asked_of graph task ≡ Some n
    still_asked (AtInput of place number) n is = sym (asked_after_input of place number) ∙ is
    still_asked (Asked caller number) n is = absurd (not_none (asked_of (delivered graph task (Asked caller number) value) task) n (asked_after_ask caller number) is)

    -- the number is told once nothing is asked any more
    asked_told : (a : Awaiter) (asked was : Option ℕ) → IsAwaiter graph task a → ((n : ℕ) → asked_of graph task ≡ Some n → was ≡ Some n) → (asked_of graph task ≡ None → asked ≡ was)
        → asked_of (delivered graph task a value) task ≡ None → asked_by a asked ≡ was
    asked_told (AtInput of place number) asked was awaits same told none = told (sym (asked_after_input of place number) ∙ none)
    asked_told (Asked caller number) asked was awaits same told none = sym (same number (asked_is graph task caller number awaits))

    status_other : (of place number q : ℕ) → (q ≡ of → ⊥) → status (delivered graph task (AtInput of place number) value) q ≡ status graph q
    status_other of place number q apart = ap status_in (changed_other graph of q (with_input place (Known value)) apart)

    status_ask : (caller number q : ℕ) → status (delivered graph task (Asked caller number) value) q ≡ status graph q
    status_ask caller number q = elim (same_or_not q task) [
      | inl same ↦ ap status_in (changed_here graph task q not_asked same) ∙ status_map (task_at graph q)
      | inr apart ↦ ap status_in (changed_other graph task q not_asked apart)
    ]

  -- a task that awaits is Waiting
  waits : (graph : Graph Ref K) (of place t n : ℕ) → input_at graph of place ≡ Some (Awaits t n) → (s : TaskStatus) → status graph of ≡ s → s ≡ Waiting
  waits graph of place t n is Unknown at = absurd (awaits_nothing graph of (λ waiting. let clash : Unknown ≡ Waiting = sym at ∙ waiting in cc) place t n is)
  waits graph of place t n is Waiting at = refl
  waits graph of place t n is Ready at = absurd (awaits_nothing graph of (λ waiting. let clash : Ready ≡ Waiting = sym at ∙ waiting in cc) place t n is)
  waits graph of place t n is Running at = absurd (awaits_nothing graph of (λ waiting. let clash : Running ≡ Waiting = sym at ∙ waiting in cc) place t n is)

  not_ready : (graph : Graph Ref K) (of place t n : ℕ) → input_at graph of place ≡ Some (Awaits t n) → status graph of ≡ Ready → ⊥
  not_ready graph of place t n is ready = let clash : Ready ≡ Waiting = waits graph of place t n is Ready ready in cc

-- ---- Tasks that are listed

distinct_first : (x y : ℕ) (xs : List ℕ) → AllByRecursion (λ z. nat_eq x z ≡ false) xs → nat_eq x y ≡ false → AllByRecursion (λ z. nat_eq x z ≡ false) (xs ++ y ∷ [])
distinct_first x y [] all one = (one, tt)
distinct_first x y (z ∷ xs) all one = (all.0, distinct_first x y xs all.1 one)

module _ (task : ℕ) where
  contains_tail : (x : ℕ) (xs : List ℕ) → Contains xs task → Contains (x ∷ xs) task
  contains_tail x xs is = Contains-append_right (x ∷ []) xs task is

  contains_head : (x : ℕ) (xs : List ℕ) → x ≡ task → Contains (x ∷ xs) task
  contains_head x xs same = subst (λ y. Contains (y ∷ xs) task) (sym same) (Contains-append_left (task ∷ []) xs task (Contains-push [] task))

  distinct_more : (xs : List ℕ) → IsDistinct nat_eq xs → (Contains xs task → ⊥) → IsDistinct nat_eq (xs ++ task ∷ [])
  unfolding IsDistinct
  distinct_more [] distinct none = (tt, tt)
  distinct_more (x ∷ xs) distinct none = (
    distinct_first x task xs distinct.0 (test_apart x task (λ same. none (contains_head x xs same))),
    distinct_more xs distinct.1 (λ is. none (contains_tail x xs is)),
  )

  listed_from : (s : TaskStatus) (tasks : List ℕ) (q : ℕ) → Contains (listed_if s task tasks) q → Contains tasks q ⊎ ((s ≡ Ready) × (q ≡ task))
  listed_from Unknown tasks q is = inl is
  listed_from Waiting tasks q is = inl is
  listed_from Ready tasks q is = elim (Contains-push_cases tasks task q is) [ inl old ↦ inl old | inr new ↦ inr (refl, sym new) ]
  listed_from Running tasks q is = inl is

  listed_still : (s : TaskStatus) (tasks : List ℕ) (q : ℕ) → Contains tasks q → Contains (listed_if s task tasks) q
  listed_still Unknown tasks q is = is
  listed_still Waiting tasks q is = is
  listed_still Ready tasks q is = Contains-append_left tasks (task ∷ []) q is
  listed_still Running tasks q is = is

  listed_new : (s : TaskStatus) (tasks : List ℕ) → s ≡ Ready → Contains (listed_if s task tasks) task
  listed_new Unknown tasks is = absurd (let clash : Unknown ≡ Ready = is in cc)
  listed_new Waiting tasks is = absurd (let clash : Waiting ≡ Ready = is in cc)
  listed_new Ready tasks is = Contains-push tasks task
  listed_new Running tasks is = absurd (let clash : Running ≡ Ready = is in cc)

  listed_distinct : (s : TaskStatus) (tasks : List ℕ) → IsDistinct nat_eq tasks → (Contains tasks task → ⊥) → IsDistinct nat_eq (listed_if s task tasks)
  listed_distinct Unknown tasks distinct none = distinct
  listed_distinct Waiting tasks distinct none = distinct
  listed_distinct Ready tasks distinct none = distinct_more tasks distinct none
  listed_distinct Running tasks distinct none = distinct

-- the tasks that are listed are those that were, and those that became Ready
pub record AreListed {K : Type 0} (start : Graph Ref K) (before : List ℕ) (graph : Graph Ref K) (ready : List ℕ) : Type 0 where
  pub listed : (q : ℕ) → Contains ready q → Contains before q ⊎ IsNowReady start graph q
  pub lists : (q : ℕ) → Contains before q ⊎ IsNowReady start graph q → Contains ready q
  pub distinct : IsDistinct nat_eq before → ((q : ℕ) → Contains before q → status start q ≡ Waiting → ⊥) → IsDistinct nat_eq ready

module _ {K : Type 0} (start : Graph Ref K) (before : List ℕ) (graph : Graph Ref K) (ready : List ℕ) (task : ℕ) (value : Ref) (are : AreListed start before graph ready) where
  now_by : (after : Graph Ref K) (q : ℕ) → status after q ≡ status graph q → IsNowReady start graph q → IsNowReady start after q
  now_by after q same now = record { ready = same ∙ now.ready; not_before = now.not_before }

  now_from : (after : Graph Ref K) (q : ℕ) → status after q ≡ status graph q → IsNowReady start after q → IsNowReady start graph q
  now_from after q same now = record { ready = sym same ∙ now.ready; not_before = now.not_before }

  -- one awaiter gets its copy
  listed_step : (a : Awaiter) → IsAwaiter graph task a → IsAwaiter start task a → AreListed start before (delivered graph task a value) (with_ready (delivered graph task a value) a ready)
  listed_step (AtInput of place number) awaits awaited =
      let after : Graph Ref K = delivered graph task (AtInput of place number) value in
      let s : TaskStatus = status after of in
      let apart : (q : ℕ) → status graph q ≡ Ready → q ≡ of → ⊥ = λ q is same. not_ready graph of place task number awaits (ap (status graph) (sym same) ∙ is) in
      record {
        listed = λ q is. elim (listed_from of s ready q is) [
          | inl old ↦ elim (are.listed q old) [
            | inl was ↦ inl was
            | inr now ↦ inr (now_by after q (status_other graph task value of place number q (apart q now.ready)) now)
          ]
          | inr new ↦ inr (record {
            ready = ap (status after) new.1 ∙ new.0;
            not_before = λ was. not_ready start of place task number awaited (ap (status start) (sym new.1) ∙ was);
          })
        ];
        lists = λ q some. elim some [
          | inl was ↦ listed_still of s ready q (are.lists q (inl was))
          | inr now ↦ elim (same_or_not q of) [
            | inl same ↦ subst (λ t. Contains (listed_if s of ready) t) (sym same) (listed_new of s ready (ap (status after) (sym same) ∙ now.ready))
            | inr other ↦ listed_still of s ready q (are.lists q (inr (now_from after q (status_other graph task value of place number q other) now)))
          ]
        ];
        distinct = λ was none. listed_distinct of s ready (are.distinct was none) (λ is. elim (are.listed of is) [
          | inl old ↦ none of old (waits start of place task number awaited (status start of) refl)
          | inr now ↦ apart of now.ready refl
        ]);
      }
  listed_step (Asked caller number) awaits awaited =
      let after : Graph Ref K = delivered graph task (Asked caller number) value in
      record {
        listed = λ q is. elim (are.listed q is) [ inl was ↦ inl was | inr now ↦ inr (now_by after q (status_ask graph task value caller number q) now) ];
        lists = λ q some. elim some [
          | inl was ↦ are.lists q (inl was)
          | inr now ↦ are.lists q (inr (now_from after q (status_ask graph task value caller number q) now))
        ];
        distinct = are.distinct;
      }

-- ---- One step

module _ {C K : Type 0} (names : NameState C) (graph : Graph Ref K) (task : ℕ) (r : Ref) (a : Awaiter) (live : IsLiveRef names r) (apart : AreSetApart names graph task) (awaits : IsAwaiter graph task a) where
  abbrev copied : NameState C
  copied = copy_of names r (number_of a) (holder_for a)

  abbrev after : Graph Ref K
  after = delivered graph task a (with_number r (number_of a))

  abbrev one_first : List (ℕ × Holder)
  one_first = (number_of a, holder_for a) ∷ awaiting after task

  still : (b : Awaiter) → IsAwaiter after task b → IsAwaiter graph task b × (b ≡ a → ⊥)
  still b is = let was = (delivers_to_one graph task a (with_number r (number_of a)) awaits task b).0 is in (was.0, was.1 refl)

  left : (b : Awaiter) → IsAwaiter graph task b → (b ≡ a → ⊥) → IsAwaiter after task b
  left b is other = (delivers_to_one graph task a (with_number r (number_of a)) awaits task b).1 (is, λ _ same. other same)

  free_all : AreFree names (awaiting graph task)
  free_all = record {
    free = λ n h is. let b = awaiter_behind graph task n h is in ap (id_at names) (sym b.2) ∙ apart.free b.0 b.1;
    one = λ n h k one two.
        let b = awaiter_behind graph task n h one in
        let d = awaiter_behind graph task n k two in
        sym b.3 ∙ ap holder_for (apart.apart b.0 d.0 b.1 d.1 (b.2 ∙ sym d.2)) ∙ d.3;
  }

  to_all : (n : ℕ) (h : Holder) → IsIn {X = ℕ × Holder} (n, h) one_first → IsIn {X = ℕ × Holder} (n, h) (awaiting graph task)
  to_all n h (inl here) = subst (λ (p : ℕ × Holder). IsIn p (awaiting graph task)) (sym here) (awaiter_listed graph task a awaits)
  to_all n h (inr rest) =
      let b = awaiter_behind after task n h rest in
      subst (λ (p : ℕ × Holder). IsIn p (awaiting graph task)) (λ i. (b.2 i, b.3 i)) (awaiter_listed graph task b.0 (still b.0 b.1).0)

  from_all : (n : ℕ) (h : Holder) → IsIn {X = ℕ × Holder} (n, h) (awaiting graph task) → IsIn {X = ℕ × Holder} (n, h) one_first
  from_all n h is =
      let b = awaiter_behind graph task n h is in
      elim (same_or_not (number_of b.0) (number_of a)) [
        | inl same ↦
            let number_is : n ≡ number_of a = sym b.2 ∙ same in
            let holder_is : h ≡ holder_for a = sym b.3 ∙ ap holder_for (apart.apart b.0 a b.1 awaits same) in
            inl (λ i. (number_is i, holder_is i))
        | inr other ↦
            inr (subst (λ (p : ℕ × Holder). IsIn p (awaiting after task)) (λ i. (b.2 i, b.3 i)) (awaiter_listed after task b.0 (left b.0 b.1 (λ same. other (ap number_of same)))))
      ]

  free_first : AreFree names one_first
  free_first = record {
    free = λ n h is. free_all.free n h (to_all n h is);
    one = λ n h k one two. free_all.one n h k (to_all n h one) (to_all n k two);
  }

  copies_step : copies_of copied r (awaiting after task) ≡ copies_of names r (awaiting graph task)
  copies_step = copies_in_any_order names r one_first (awaiting graph task) live free_first free_all to_all from_all

  grow : GrowBy names copied (IsCopy r (number_of a) (holder_for a))
  grow = grow_copy names r (number_of a) (holder_for a) live (apart.free a awaits) (outside a)

  live_after : IsLiveRef copied r
  live_after = live-kept names copied r grow.keeps live

  apart_after : AreSetApart copied after task
  apart_after = record {
    free = λ b is.
        let was = still b is in
        free_by names copied (IsCopy r (number_of a) (holder_for a)) grow (number_of b) (λ entry new. was.1 (apart.apart b a was.0 awaits new.0)) (apart.free b was.0);
    apart = λ b d one two same. apart.apart b d (still b one).0 (still d two).0 same;
  }

-- one awaiter less
pub one_less : {K : Type 0} (graph after : Graph Ref K) (task : ℕ) (a : Awaiter) (value : Ref) → IsAwaiter graph task a → after ≡ delivered graph task a value → length (awaiters after task) + 1 ≡ length (awaiters graph task)
one_less graph after task a value awaits is =
    let same = length_permutation (awaiters graph task) (a ∷ awaiters (delivered graph task a value) task) (takes_one_out graph task a value awaits) in
    let gone : length (awaiters after task) ≡ length (awaiters (delivered graph task a value) task) = ap (λ g. length (awaiters g task)) is in
    omega (arith, same)

-- ---- The loop

-- what holds before each step, from what there was at the start
pub record IsSettling {C K : Type 0} (first : NameState C) (start : Graph Ref K) (before : List ℕ) (task : ℕ) (r : Ref) (names : NameState C) (graph : Graph Ref K) (ready : List ℕ) (told : Option ℕ) : Type 0 where
  pub live : IsLiveRef names r
  pub apart : AreSetApart names graph task
  pub copies : copies_of names r (awaiting graph task) ≡ copies_of first r (awaiting start task)
  pub delivers : all_delivered graph task (with_number r) ≡ all_delivered start task (with_number r)
  pub asked_same : (n : ℕ) → asked_of graph task ≡ Some n → asked_of start task ≡ Some n
  pub asked_told : asked_of graph task ≡ None → told ≡ asked_of start task
  pub awaits : (b : Awaiter) → IsAwaiter graph task b → IsAwaiter start task b
  pub listed : AreListed start before graph ready
  pub within : (bound : ℕ) → AreWithin first bound → ((b : Awaiter) → IsAwaiter start task b → number_of b ≤ bound) → AreWithin names bound

module _ {C K : Type 0} (first : NameState C) (start : Graph Ref K) (before : List ℕ) (task : ℕ) (r : Ref) where
  pub settling_starts : IsLiveRef first r → AreSetApart first start task → IsSettling first start before task r first start before None
  settling_starts live apart = record {
    live = live;
    apart = apart;
    copies = refl;
    delivers = refl;
    asked_same = λ n is. is;
    asked_told = λ none. sym none;
    awaits = λ b is. is;
    listed = record {
      listed = λ q is. inl is;
      lists = λ q some. elim some [ inl was ↦ was | inr now ↦ absurd (now.not_before now.ready) ];
      distinct = λ distinct none. distinct;
    };
    within = λ bound within low. within;
  }

  settling_more : (names : NameState C) (graph : Graph Ref K) (ready : List ℕ) (told : Option ℕ) (a : Awaiter) → IsSettling first start before task r names graph ready told → IsAwaiter graph task a
      → IsSettling first start before task r (copy_of names r (number_of a) (holder_for a)) (delivered graph task a (with_number r (number_of a)))
      (with_ready (delivered graph task a (with_number r (number_of a))) a ready) (asked_by a told)
  settling_more names graph ready told a was awaits = record {
    live = live_after names graph task r a was.live was.apart awaits;
    apart = apart_after names graph task r a was.live was.apart awaits;
    copies = copies_step names graph task r a was.live was.apart awaits ∙ was.copies;
    delivers = delivers_one_by_one graph task a (with_number r) awaits ∙ was.delivers;
    asked_same = λ n is. was.asked_same n (still_asked graph task (with_number r (number_of a)) a n is);
    asked_told = asked_told graph task (with_number r (number_of a)) a told (asked_of start task) awaits was.asked_same was.asked_told;
    awaits = λ b is. was.awaits b (still names graph task r a was.live was.apart awaits b is).0;
    listed = listed_step start before graph ready task (with_number r (number_of a)) was.listed a awaits (was.awaits a awaits);
    within = λ bound within low. within_copy names r (number_of a) (holder_for a) bound (was.within bound within low) (low a (was.awaits a awaits));
  }

  pub settling_step : (names more : NameState C) (graph after : Graph Ref K) (ready longer : List ℕ) (told later : Option ℕ) (a : Awaiter) (copy : Ref)
      → IsSettling first start before task r names graph ready told → IsAwaiter graph task a
      → copy ≡ with_number r (number_of a) → more ≡ copy_of names r (number_of a) (holder_for a) → after ≡ delivered graph task a copy → longer ≡ with_ready after a ready → later ≡ asked_by a told
      → IsSettling first start before task r more after longer later
  settling_step names more graph after ready longer told later a copy was awaits copy_is more_is after_is longer_is later_is =
      let delivers : after ≡ delivered graph task a (with_number r (number_of a)) = after_is ∙ ap (delivered graph task a) copy_is in
      let lists : longer ≡ with_ready (delivered graph task a (with_number r (number_of a))) a ready = longer_is ∙ ap (λ g. with_ready g a ready) delivers in
      subst (λ n. IsSettling first start before task r n after longer later) (sym more_is)
      (subst (λ g. IsSettling first start before task r (copy_of names r (number_of a) (holder_for a)) g longer later) (sym delivers)
      (subst (λ l. IsSettling first start before task r (copy_of names r (number_of a) (holder_for a)) (delivered graph task a (with_number r (number_of a))) l later) (sym lists)
      (subst (λ o. IsSettling first start before task r (copy_of names r (number_of a) (holder_for a)) (delivered graph task a (with_number r (number_of a))) (with_ready (delivered graph task a (with_number r (number_of a))) a ready) o) (sym later_is)
      (settling_more names graph ready told a was awaits))))

  module _ (names : NameState C) (graph : Graph Ref K) (ready : List ℕ) (told : Option ℕ) (is : IsSettling first start before task r names graph ready told) (none : IsNotAwaited graph task) where
    pub names_settled : names ≡ copies_of first r (awaiting start task)
    names_settled = sym (ap (copies_of names r) (nobody_listed graph task none)) ∙ is.copies

    pub graph_settled : graph ≡ all_delivered start task (with_number r)
    graph_settled = sym (delivers_to_none graph task (with_number r) none) ∙ is.delivers

    pub asked_settled : told ≡ asked_of start task
    asked_settled = is.asked_told (nobody_asked graph task none)
