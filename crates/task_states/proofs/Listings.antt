-- The list of the awaiters of a task, before and after a delivery. For every crate that cites `specs/Listing.antt`.
use Rattle.std.proofs.Common.{◌≡◌, ◌↔◌, ℕ, zero, suc, ◌+◌, cond, T, Option, Some, None, nat_eq, refl, sym, ap, subst, ◌∙◌, inl, inr, List, [], ◌∷◌, ◌++◌, arith}
use Rattle.std.specs.Prelude.{set, slice_get, IsPermutation}
use Rattle.std.specs.List.{flat_map, All, Contains}
use Rattle.std.specs.Option.{option_map}
use Rattle.std.specs.Ordering.{nat_cmp, is_eq}
use Rattle.std.specs.Cmp.{nat_cmp_total, unsigned_tied}
use Rattle.std.specs.declared.cmp.Ordering.TheVariants.{Less, Equal, Greater}
use Rattle.std.specs.FinMap as map
use Rattle.std.specs.FinMap.{find, is_sorted}
use Rattle.std.specs.FinMap.Entries.{put, by_order}
use Rattle.std.proofs.lemmas.List.Concat.{flat_map-append}
use Rattle.std.proofs.lemmas.List.Sorted.{IsPermutation-middle}
use Rattle.std.proofs.lemmas.List.Elements.{All-nil, All-cons, All-head, All-append, All-contains, All-contains_itself, Contains-append_left, Contains-append_right}
use Rattle.std.proofs.lemmas.List.{append_assoc}
use Rattle.task_states.specs.declared.states.Awaiter.{Awaiter}
use Rattle.task_states.specs.declared.states.Awaiter.TheVariants.{Input as AtInput, Asked}
use Rattle.task_states.specs.States.{Input, Known, Awaits, Unfinished, Graph, task_at, input_at}
use Rattle.task_states.specs.Steps.{with_task, delivered}
use Rattle.task_states.specs.Awaiters.{IsAwaiter, IsNotAwaited}
use Rattle.task_states.specs.Listing.{input_awaiting, inputs_awaiting, asked_under, askers, entry_awaiting, awaiters}
use Rattle.task_states.proofs.Maps.{same_or_not, test_same, test_apart, same_maps, get_inserted, get_removed, first_part, second_part, missed}
use Rattle.task_states.proofs.Options.{not_none, same_some}
use Rattle.task_states.proofs.Changes.{changed_here, changed_other}
use Rattle.task_states.proofs.Deliveries.{input_there, task_behind}

-- ---- Maps as lists

module _ {V : Type 0} where
  -- where a key is put that is not there
  split_put : (k : ℕ) (es : List (ℕ × V)) → find nat_cmp k es ≡ None → (front : List (ℕ × V)) × (back : List (ℕ × V)) × ((v : V) → put nat_cmp k v es ≡ front ++ (k, v) ∷ back)
  split_put k [] none = ([], [], λ v. refl)
  split_put k (e ∷ es) none =
      elim (nat_cmp k e.0) as (λ o. nat_cmp k e.0 ≡ o → cond (is_eq o) (Some e.1) (find nat_cmp k es) ≡ None
      → (front : List (ℕ × V)) × (back : List (ℕ × V)) × ((v : V) → by_order o ((k, v) ∷ e ∷ es) ((e.0, v) ∷ es) (e ∷ put nat_cmp k v es) ≡ front ++ (k, v) ∷ back)) [
        | Less ↦ λ is found. ([], e ∷ es, λ v. refl)
        | Equal ↦ λ is found. absurd (not_none (Some e.1) e.1 found refl)
        | Greater ↦ λ is found. let rest = split_put k es found in (e ∷ rest.0, rest.1, λ v. ap (λ l. e ∷ l) (rest.2 v))
      ] refl none

  gone_from : (m : map.FinMap nat_cmp V) (k : ℕ) → map.get (map.remove m k) k ≡ None
  gone_from m k = get_removed m k k ∙ ap (λ b. cond b None (map.get m k)) (test_same k)

  -- a map whose value under a key is this one
  put_back : (m n : map.FinMap nat_cmp V) (k : ℕ) (v : V) → map.get n k ≡ Some v → ((q : ℕ) → (q ≡ k → ⊥) → map.get n q ≡ map.get m q) → n ≡ map.insert (map.remove m k) k v
  put_back m n k v here rest =
      same_maps n (map.insert (map.remove m k) k v) (λ q. elim (same_or_not q k) [
        | inl same ↦
            ap (map.get n) same ∙ here ∙ sym (get_inserted (map.remove m k) k v q ∙ ap (λ b. cond b (Some v) (map.get (map.remove m k) q)) (ap (λ r. nat_eq r k) same ∙ test_same k))
        | inr apart ↦
            rest q apart
            ∙ sym (get_inserted (map.remove m k) k v q
            ∙ ap (λ b. cond b (Some v) (map.get (map.remove m k) q)) (test_apart q k apart)
            ∙ get_removed m k q
            ∙ ap (λ b. cond b None (map.get m q)) (test_apart q k apart))
      ])

  module _ {A : Type 0} (f : ℕ × V → List A) where
    flat_split : (front back : List (ℕ × V)) (e : ℕ × V) → flat_map f (front ++ e ∷ back) ≡ flat_map f front ++ (f e ++ flat_map f back)
    flat_split front back e = flat_map-append f front (e ∷ back)

    -- the parts of a list from a map, around the value under a key
    around : (m n : map.FinMap nat_cmp V) (k : ℕ) (v w : V) → map.get m k ≡ Some v → map.get n k ≡ Some w → ((q : ℕ) → (q ≡ k → ⊥) → map.get n q ≡ map.get m q)
        → (front : List A) × (back : List A) × (flat_map f (map.entries m) ≡ front ++ (f (k, v) ++ back)) × (flat_map f (map.entries n) ≡ front ++ (f (k, w) ++ back))
    around m n k v w was now rest =
        let base = map.remove m k in
        let split = split_put k (map.entries base) (sym (map.get-entries base k) ∙ gone_from m k) in (
          flat_map f split.0,
          flat_map f split.1,
          ap (λ l. flat_map f (map.entries l)) (put_back m m k v was (λ q _. refl)) ∙ ap (flat_map f) (map.entries-insert nat_cmp_total base k v ∙ split.2 v) ∙ flat_split split.0 split.1 (k, v),
          ap (λ l. flat_map f (map.entries l)) (put_back m n k w now rest) ∙ ap (flat_map f) (map.entries-insert nat_cmp_total base k w ∙ split.2 w) ∙ flat_split split.0 split.1 (k, w),
        )

    -- all members come from what is found
    all_found : (P : A → Type 0) (es : List (ℕ × V)) → T (is_sorted nat_cmp es) → ((q : ℕ) (v : V) → find nat_cmp q es ≡ Some v → All P (f (q, v))) → All P (flat_map f es)
    all_found P [] sorted each = All-nil P
    all_found P (e ∷ es) sorted each =
        All-append P (f e) (flat_map f es)
        (each e.0 e.1 (ap (λ b. cond b (Some e.1) (find nat_cmp e.0 es)) (unsigned_tied e.0 e.0 ∙ test_same e.0)))
        (all_found P es (second_part _ _ sorted) (λ q v is. each q v (elim (same_or_not q e.0) [
          | inl same ↦ absurd (not_none (find nat_cmp q es) v (ap (λ k. find nat_cmp k es) same ∙ missed e.0 es (first_part _ _ sorted)) is)
          | inr apart ↦ ap (λ b. cond b (Some e.1) (find nat_cmp q es)) (unsigned_tied q e.0 ∙ test_apart q e.0 apart) ∙ is
        ])))

    all_from : (P : A → Type 0) (m : map.FinMap nat_cmp V) → ((q : ℕ) (v : V) → map.get m q ≡ Some v → All P (f (q, v))) → All P (flat_map f (map.entries m))
    all_from P m each = all_found P (map.entries m) (map.entries_sorted m) (λ q v is. each q v (map.get-entries m q ∙ is))

-- ---- The members

above_none : (place : ℕ) → place ≡ 0 + place
above_none place = omega arith

-- an input that awaits another task is not listed
not_listed : (X : Type 0) (task of place number : ℕ) → input_awaiting {X = X} task of place (Awaits (suc task) number) ≡ []
not_listed X task of place number = ap (λ b. cond b (AtInput of place number ∷ []) []) (test_apart (suc task) task (λ same. absurd (omega arith)))

module _ {X : Type 0} where
  input_listed : (P : Awaiter → Type 0) (task of place : ℕ) (input : Input X) → ((number : ℕ) → input ≡ Awaits task number → P (AtInput of place number)) → All P (input_awaiting task of place input)
  input_listed P task of place (Known x) each = All-nil P
  input_listed P task of place (Awaits t n) each =
      elim (same_or_not t task) [
        | inl same ↦
            subst (λ b. All P (cond b (AtInput of place n ∷ []) [])) (sym (ap (λ s. nat_eq s task) same ∙ test_same task))
            (All-cons P (AtInput of place n) [] (each n (ap (λ s. Awaits s n) same)) (All-nil P))
        | inr apart ↦ subst (λ b. All P (cond b (AtInput of place n ∷ []) [])) (sym (test_apart t task apart)) (All-nil P)
      ]

  inputs_listed : (P : Awaiter → Type 0) (task of place : ℕ) (inputs : List (Input X)) → ((k at number : ℕ) → at ≡ place + k → slice_get inputs k ≡ Some (Awaits task number) → P (AtInput of at number))
      → All P (inputs_awaiting task of place inputs)
  inputs_listed P task of place [] each = All-nil P
  inputs_listed P task of place (input ∷ inputs) each =
      All-append P (input_awaiting task of place input) (inputs_awaiting task of (suc place) inputs)
      (input_listed P task of place input (λ number is. each 0 place number (omega arith) (ap Some is)))
      (inputs_listed P task of (suc place) inputs (λ k at number far is. each (suc k) at number (omega arith) is))

  -- the inputs around one that awaits a task, and is another one then that does not
  inputs_around : (task of place : ℕ) (new : Input X) → ((j : ℕ) → input_awaiting task of j new ≡ []) → (inputs : List (Input X)) (k at number : ℕ) → at ≡ place + k
      → slice_get inputs k ≡ Some (Awaits task number)
      → (front : List Awaiter) × (back : List Awaiter) × (inputs_awaiting task of place inputs ≡ front ++ AtInput of at number ∷ back)
      × (inputs_awaiting task of place (set inputs k new) ≡ front ++ back)
  inputs_around task of place new gone [] k at number far is = absurd (not_none None (Awaits task number) refl is)
  inputs_around task of place new gone (input ∷ inputs) zero at number far is =
      let rest = inputs_awaiting task of (suc place) inputs in
      let here : place ≡ at = omega arith in (
        [],
        rest,
        ap (λ i. input_awaiting task of place i ++ rest) (same_some input (Awaits task number) is)
            ∙ ap (λ b. cond b (AtInput of place number ∷ []) [] ++ rest) (test_same task)
            ∙ ap (λ j. AtInput of j number ∷ rest) here,
        ap (λ l. l ++ rest) (gone place),
      )
  inputs_around task of place new gone (input ∷ inputs) (suc k) at number far is =
      let rest = inputs_around task of (suc place) new gone inputs k at number (omega arith) is in
      let first = input_awaiting task of place input in (
        first ++ rest.0,
        rest.1,
        ap (λ l. first ++ l) rest.2 ∙ sym (append_assoc first rest.0 (AtInput of at number ∷ rest.1)),
        ap (λ l. first ++ l) rest.3 ∙ sym (append_assoc first rest.0 rest.1),
      )

regroup : {A : Type 0} (p a z q r : List A) → (p ++ ((a ++ z) ++ q)) ++ r ≡ (p ++ a) ++ ((z ++ q) ++ r)
regroup p a z q r =
    ap (λ l. (p ++ l) ++ r) (append_assoc a z q)
    ∙ append_assoc p (a ++ (z ++ q)) r
    ∙ ap (λ l. p ++ l) (append_assoc a (z ++ q) r)
    ∙ sym (append_assoc p a ((z ++ q) ++ r))

contains_first : {A : Type 0} (a : A) (l : List A) → Contains (a ∷ l) a
contains_first a l = All-head (Contains (a ∷ l)) a l (All-contains_itself (a ∷ l))

asked_listed : (P : Awaiter → Type 0) (caller : ℕ) (o : Option ℕ) → ((number : ℕ) → o ≡ Some number → P (Asked caller number)) → All P (asked_under caller o)
asked_listed P caller None each = All-nil P
asked_listed P caller (Some number) each = All-cons P (Asked caller number) [] (each number refl) (All-nil P)

module _ {X K : Type 0} where
  askers_listed : (P : Awaiter → Type 0) (o : Option (Unfinished X K)) → ((u : Unfinished X K) (number : ℕ) → o ≡ Some u → u.asked ≡ Some number → P (Asked u.caller number)) → All P (askers o)
  askers_listed P None each = All-nil P
  askers_listed P (Some u) each = asked_listed P u.caller u.asked (λ number is. each u number refl is)

  -- all that are listed await
  pub all_await : (graph : Graph X K) (task : ℕ) → All (IsAwaiter graph task) (awaiters graph task)
  all_await graph task =
      All-append (IsAwaiter graph task) (flat_map (entry_awaiting task) (map.entries graph.tasks)) (askers (task_at graph task))
      (all_from (entry_awaiting task) (IsAwaiter graph task) graph.tasks (λ q u there. inputs_listed (IsAwaiter graph task) task q 0 u.inputs (λ k at number far is. ap (input_at graph q) (far ∙ sym (above_none k)) ∙ input_there graph q k u there ∙ is)))
      (askers_listed (IsAwaiter graph task) (task_at graph task) (λ u number there is. record { unfinished = u; there = there; caller_is = refl; number_is = is }))

  -- nobody is listed
  pub lists_none : (graph : Graph X K) (task : ℕ) → IsNotAwaited graph task → awaiters graph task ≡ []
  lists_none graph task none =
      elim (awaiters graph task) as (λ l. All (IsAwaiter graph task) l → l ≡ []) [ [] ↦ λ _. refl | a ∷ l ↦ λ all. absurd (none a (All-head (IsAwaiter graph task) a l all)) ] (all_await graph task)

  same_askers : (change : Unfinished X K → Unfinished X K) → ((u : Unfinished X K) → ((change u).caller ≡ u.caller) × ((change u).asked ≡ u.asked)) → (o : Option (Unfinished X K)) → askers (option_map change o) ≡ askers o
  same_askers change keeps None = refl
  same_askers change keeps (Some u) = ap (λ c. asked_under c (change u).asked) (keeps u).0 ∙ ap (asked_under u.caller) (keeps u).1

  askers_kept : (graph : Graph X K) (of task : ℕ) (change : Unfinished X K → Unfinished X K) → ((u : Unfinished X K) → ((change u).caller ≡ u.caller) × ((change u).asked ≡ u.asked)) → askers (task_at (with_task graph of change) task) ≡ askers (task_at graph task)
  askers_kept graph of task change keeps =
      elim (same_or_not task of) [
        | inl same ↦ ap askers (changed_here graph of task change same) ∙ same_askers change keeps (task_at graph task)
        | inr apart ↦ ap askers (changed_other graph of task change apart)
      ]

  -- the tasks around one that changes
  tasks_around : (graph : Graph X K) (task of : ℕ) (change : Unfinished X K → Unfinished X K) (u : Unfinished X K) → task_at graph of ≡ Some u
      → (front : List Awaiter) × (back : List Awaiter) × (flat_map (entry_awaiting task) (map.entries graph.tasks) ≡ front ++ (entry_awaiting task (of, u) ++ back))
      × (flat_map (entry_awaiting task) (map.entries (with_task graph of change).tasks) ≡ front ++ (entry_awaiting task (of, change u) ++ back))
  tasks_around graph task of change u there =
      around (entry_awaiting task) graph.tasks (with_task graph of change).tasks of u (change u) there
      (changed_here graph of of change refl ∙ ap (option_map change) there)
      (λ q apart. changed_other graph of q change apart)

  -- one is taken out
  pub takes_one_out : (graph : Graph X K) (task : ℕ) (awaiter : Awaiter) (value : X) → IsAwaiter graph task awaiter
      → IsPermutation (awaiters graph task) (awaiter ∷ awaiters (delivered graph task awaiter value) task)
  takes_one_out graph task (AtInput of place number) value awaits =
      let change : Unfinished X K → Unfinished X K = λ u. record u { inputs = set u.inputs place (Known value) } in
      let u = task_behind graph of place (Awaits task number) awaits in
      let tasks = tasks_around graph task of change u.0 u.1 in
      let inputs = inputs_around task of 0 (Known value) (λ j. refl) u.0.inputs place place number (above_none place) u.2 in
      let r = askers (task_at graph task) in
      let before : awaiters graph task ≡ (tasks.0 ++ inputs.0) ++ AtInput of place number ∷ ((inputs.1 ++ tasks.1) ++ r) =
      ap (λ l. l ++ r) (tasks.2 ∙ ap (λ l. tasks.0 ++ (l ++ tasks.1)) inputs.2) ∙ regroup tasks.0 inputs.0 (AtInput of place number ∷ inputs.1) tasks.1 r in
      let after : awaiters (with_task graph of change) task ≡ (tasks.0 ++ inputs.0) ++ ((inputs.1 ++ tasks.1) ++ r) =
      ap (λ l. flat_map (entry_awaiting task) (map.entries (with_task graph of change).tasks) ++ l) (askers_kept graph of task change (λ v. (refl, refl)))
      ∙ ap (λ l. l ++ r) (tasks.3 ∙ ap (λ l. tasks.0 ++ (l ++ tasks.1)) inputs.3)
      ∙ regroup tasks.0 inputs.0 inputs.1 tasks.1 r in
      subst (λ l. IsPermutation l (AtInput of place number ∷ awaiters (with_task graph of change) task)) (sym before)
      (subst (λ l. IsPermutation ((tasks.0 ++ inputs.0) ++ AtInput of place number ∷ ((inputs.1 ++ tasks.1) ++ r)) (AtInput of place number ∷ l)) (sym after)
      (IsPermutation-middle (tasks.0 ++ inputs.0) (AtInput of place number) ((inputs.1 ++ tasks.1) ++ r)))
  takes_one_out graph task (Asked caller number) value awaits =
      let change : Unfinished X K → Unfinished X K = λ u. record u { asked = None } in
      let u = awaits.unfinished in
      let tasks = tasks_around graph task task change u awaits.there in
      let list = flat_map (entry_awaiting task) (map.entries graph.tasks) in
      let before : awaiters graph task ≡ list ++ Asked caller number ∷ [] =
      ap (λ o. list ++ askers o) awaits.there ∙ ap (λ c. list ++ asked_under c u.asked) awaits.caller_is ∙ ap (λ o. list ++ asked_under caller o) awaits.number_is in
      let after : awaiters (with_task graph task change) task ≡ list ++ [] =
      ap (λ o. flat_map (entry_awaiting task) (map.entries (with_task graph task change).tasks) ++ askers o) (changed_here graph task task change refl ∙ ap (option_map change) awaits.there)
      ∙ ap (λ l. l ++ []) (tasks.3 ∙ sym tasks.2) in
      subst (λ l. IsPermutation l (Asked caller number ∷ awaiters (with_task graph task change) task)) (sym before)
      (subst (λ l. IsPermutation (list ++ Asked caller number ∷ []) (Asked caller number ∷ l)) (sym after) (IsPermutation-middle list (Asked caller number) []))

  -- where an awaiter is listed
  listed_at : (graph : Graph X K) (task : ℕ) (awaiter : Awaiter) → IsAwaiter graph task awaiter → Contains (awaiters graph task) awaiter
  listed_at graph task (AtInput of place number) awaits =
      let change : Unfinished X K → Unfinished X K = λ u. u in
      let u = task_behind graph of place (Awaits task number) awaits in
      let tasks = tasks_around graph task of change u.0 u.1 in
      let inputs = inputs_around task of 0 (Awaits (suc task) 0) (λ j. not_listed X task of j 0) u.0.inputs place place number (above_none place) u.2 in
      let own : Contains (inputs.0 ++ AtInput of place number ∷ inputs.1) (AtInput of place number) = Contains-append_right inputs.0 (AtInput of place number ∷ inputs.1) (AtInput of place number) (contains_first (AtInput of place number) inputs.1) in
      Contains-append_left (flat_map (entry_awaiting task) (map.entries graph.tasks)) (askers (task_at graph task)) (AtInput of place number)
      (subst (λ l. Contains l (AtInput of place number)) (sym (tasks.2 ∙ ap (λ l. tasks.0 ++ (l ++ tasks.1)) inputs.2))
      (Contains-append_right tasks.0 ((inputs.0 ++ AtInput of place number ∷ inputs.1) ++ tasks.1) (AtInput of place number)
      (Contains-append_left (inputs.0 ++ AtInput of place number ∷ inputs.1) tasks.1 (AtInput of place number) own)))
  listed_at graph task (Asked caller number) awaits =
      Contains-append_right (flat_map (entry_awaiting task) (map.entries graph.tasks)) (askers (task_at graph task)) (Asked caller number)
      (subst (λ l. Contains l (Asked caller number))
      (sym (ap askers awaits.there ∙ ap (λ c. asked_under c awaits.unfinished.asked) awaits.caller_is ∙ ap (asked_under caller) awaits.number_is))
      (contains_first (Asked caller number) []))

  -- the members are the awaiters
  pub lists_awaiters : (graph : Graph X K) (task : ℕ) (awaiter : Awaiter) → Contains (awaiters graph task) awaiter ↔ IsAwaiter graph task awaiter
  lists_awaiters graph task awaiter = (λ in'. All-contains (IsAwaiter graph task) (awaiters graph task) awaiter (all_await graph task) in', listed_at graph task awaiter)
