-- All that awaited a finished task gets copies of what its result names, or awaits another task.
use Rattle.std.proofs.Common.{◌≡◌, ℕ, zero, suc, ◌≤◌, ◌⊎◌, inl, inr, true, cond, nat_eq, List, [], ◌∷◌, map as each, slice_get, Option, None, Some, refl, sym, ap, subst, ◌∙◌, arith, nat_cmp}
use Rattle.std.specs.Option.{option_map}
use Rattle.std.specs.FinMap as map
use Rattle.cht_ids.specs.declared.refs.Id.{Id}
use Rattle.cht_ids.specs.declared.refs.Ref.{Ref}
use Rattle.cht_ids.specs.declared.refs.Ref.TheVariants.{Null as NullRef, Id as Held}
use Rattle.name_states.specs.declared.holder.Holder.{Holder}
use Rattle.name_states.specs.declared.holder.Holder.TheVariants.{Caller as ByCaller, Task as ByTask}
use Rattle.name_states.specs.States.{NameState, IdRecord, id_at, IsLiveRef}
use Rattle.name_states.specs.Steps.{IsOutside}
use Rattle.name_states.proofs.Basics.{none_not_some, same_some, same_or_not, test_same, test_apart, removed_here, removed_other, removed_from}
use Rattle.name_states.proofs.Within.{AreMore}
use Rattle.task_states.specs.Maps.{each_changed}
use Rattle.task_states.specs.States.{Input, Known, Awaits, Unfinished, Graph, task_at, input_at, asked_of}
use Rattle.task_states.specs.Steps.{settled, redirected, all_delivered, forwarded, removed}
use Rattle.task_states.proofs.Maps.{get-each_changed}
use Rattle.name_machine.specs.States.{Ask}
use Rattle.name_machine.specs.Control.{Control, with_number, copies_of, awaiting, answered_with}
use Rattle.name_machine.specs.Standing.{HasNumber, HasNoOutput, IsRefOf}
use Rattle.name_machine.proofs.Ordered.{input_from}
use Rattle.name_machine.proofs.Tasks.{changed_other, mapped_from}
use Rattle.name_machine.proofs.Invariant.{IsAskFor}
use Rattle.name_machine.proofs.Stands.{ByTask as StandsTask, become, stood_at}
use Rattle.name_machine.proofs.Orderly.{held_entry}
use Rattle.name_machine.proofs.FinishNames.{IsIn, GrowBy, more_by, sound_by, reached_by, within_by, IsCopyIn, IsCopyThere, grow_copies, copies_there}
use Rattle.name_machine.proofs.FinishMiddle.{Middle, ref_more}
use Rattle.name_machine.proofs.FinishTasks.{free_by, known_is, holder_is}
use Rattle.name_machine.proofs.FinishAwaiting.{IsAwaiter, ByInput, ByAsk, awaiter_of, awaiter_in}

-- ---- Inputs where one task ends

each_input : {X : Type 0} (f : Input X → Input X) (inputs : List (Input X)) (p : ℕ) → slice_get (each f inputs) p ≡ option_map f (slice_get inputs p)
each_input f [] p = refl
each_input f (x ∷ inputs) zero = refl
each_input f (x ∷ inputs) (suc p) = each_input f inputs p

module _ {X K : Type 0} where
  abbrev input_in : ℕ → Option (Unfinished X K) → Option (Input X)
  input_in p o = elim o as (λ x. Option (Input X)) [ None ↦ None | Some task ↦ slice_get task.inputs p ]

  abbrev pub deliver : ℕ → (ℕ → X) → Unfinished X K → Unfinished X K
  deliver task value t = record t { inputs = each (settled task value) t.inputs }

  abbrev ask_no_more : Unfinished X K → Unfinished X K
  ask_no_more t = record t { asked = None }

  -- what stands under another number where a task is settled and goes
  pub settled_at : (graph : Graph X K) (task q : ℕ) (value : ℕ → X) → (q ≡ task → ⊥)
      → task_at (removed (all_delivered graph task value) task) q ≡ option_map (deliver task value) (task_at graph q)
  settled_at graph task q value apart =
      removed_other (all_delivered graph task value).tasks task q apart
      ∙ changed_other (record graph { tasks = each_changed (deliver task value) graph.tasks }) task q ask_no_more apart
      ∙ get-each_changed (deliver task value) graph.tasks q

  changed_input : (f : Input X → Input X) (change : Unfinished X K → Unfinished X K) → ((t : Unfinished X K) → (change t).inputs ≡ each f t.inputs) → (p : ℕ) (o : Option (Unfinished X K))
      → input_in p (option_map change o) ≡ option_map f (input_in p o)
  changed_input f change same p None = refl
  changed_input f change same p (Some t) = ap (λ inputs. slice_get inputs p) (same t) ∙ each_input f t.inputs p

  -- Inputs where a task has ended: those of all other tasks, each changed.
  pub record EndsBy (graph after : Graph X K) (gone : ℕ) (f : Input X → Input X) : Type 0 where
    pub none : task_at after gone ≡ None
    pub there : (q : ℕ) (t : Unfinished X K) → task_at after q ≡ Some t → (u : Unfinished X K) × (task_at graph q ≡ Some u)
    pub inputs : (q p : ℕ) → (q ≡ gone → ⊥) → input_at after q p ≡ option_map f (input_at graph q p)

  pub ends_settled : (graph : Graph X K) (task : ℕ) (value : ℕ → X) → EndsBy graph (removed (all_delivered graph task value) task) task (settled task value)
  ends_settled graph task value = record {
    none = removed_here (all_delivered graph task value).tasks task task refl;
    there = λ q t is.
        let apart = (removed_from (all_delivered graph task value).tasks task q t is).0 in
        let was = mapped_from (deliver task value) (task_at graph q) t (sym (settled_at graph task q value apart) ∙ is) in
        (was.0, was.1);
    inputs = λ q p apart. ap (input_in p) (settled_at graph task q value apart) ∙ changed_input (settled task value) (deliver task value) (λ t. refl) p (task_at graph q);
  }

  pub ends_forwarded : (graph : Graph X K) (task to : ℕ) → EndsBy graph (removed (forwarded graph task to) task) task (redirected task to)
  ends_forwarded graph task to = record {
    none = removed_here (forwarded graph task to).tasks task task refl;
    there = λ q t is.
        let apart = (removed_from (forwarded graph task to).tasks task q t is).0 in
        let was = mapped_from (become task (StandsTask to) (asked_of graph task) q) (task_at graph q) t (sym (stood_at graph task q (StandsTask to) apart) ∙ is) in
        (was.0, was.1);
    inputs = λ q p apart.
        ap (input_in p) (stood_at graph task q (StandsTask to) apart)
        ∙ changed_input (redirected task to) (become task (StandsTask to) (asked_of graph task) q) (λ t. refl) p (task_at graph q);
  }

  module _ (graph after : Graph X K) (gone : ℕ) (f : Input X → Input X) (ends : EndsBy graph after gone f) where
    pub end_from : (q p : ℕ) (x : Input X) → input_at after q p ≡ Some x → (q ≡ gone → ⊥) × (i : Input X) × (input_at graph q p ≡ Some i) × (x ≡ f i)
    end_from q p x is =
        let t = input_from after q p x is in
        let apart : q ≡ gone → ⊥ = λ same. none_not_some (ap (task_at after) same ∙ ends.none) t.1 in
        let was = mapped_from f (input_at graph q p) x (sym (ends.inputs q p apart) ∙ is) in
        (apart, was.0, was.1, was.2)

    pub end_to : (q p : ℕ) (i : Input X) → (q ≡ gone → ⊥) → input_at graph q p ≡ Some i → input_at after q p ≡ Some (f i)
    end_to q p i apart is = ends.inputs q p apart ∙ ap (option_map f) is

module _ {X : Type 0} (gone : ℕ) (value : ℕ → X) where
  pub settled_here : (n : ℕ) → settled gone value (Awaits gone n) ≡ Known (value n)
  settled_here n = ap (λ b. cond b (Known (value n)) (Awaits gone n)) (test_same gone)

  pub settled_known : (input : Input X) (x : X) → Known x ≡ settled gone value input → (input ≡ Known x) ⊎ ((n : ℕ) × (input ≡ Awaits gone n) × (value n ≡ x))
  settled_known (Known y) x is = inl (sym is)
  settled_known (Awaits a n) x is =
      elim (same_or_not a gone) [
        | inl same ↦
            let settled_is : settled gone value (Awaits a n) ≡ Known (value n) = ap (λ k. settled gone value (Awaits k n)) same ∙ settled_here n in
            inr (n, ap (λ k. Awaits k n) same, known_is (value n) x (sym (is ∙ settled_is)))
        | inr apart ↦
            absurd (let clash : Known x ≡ Awaits a n = is ∙ ap (λ b. cond b (Known (value n)) (Awaits a n)) (test_apart a gone apart) in cc)
      ]

  pub settled_awaits : (input : Input X) (a m : ℕ) → Awaits a m ≡ settled gone value input → (input ≡ Awaits a m) × (a ≡ gone → ⊥)
  settled_awaits (Known y) a m is = absurd (let clash : Awaits a m ≡ Known y = is in cc)
  settled_awaits (Awaits b n) a m is =
      elim (same_or_not b gone) [
        | inl same ↦
            absurd (let clash : Awaits a m ≡ Known (value n) = is ∙ ap (λ k. settled gone value (Awaits k n)) same ∙ settled_here n in cc)
        | inr apart ↦
            let equal : Awaits a m ≡ Awaits b n = is ∙ ap (λ c. cond c (Known (value n)) (Awaits b n)) (test_apart b gone apart) in
            let task_is : a ≡ b = cc in
            (sym equal, λ same. apart (sym task_is ∙ same))
      ]

number_named : (r : Ref) (id : Id) (n : ℕ) → with_number r n ≡ Held id → id.number ≡ n
number_named NullRef id n is = absurd (let clash : NullRef ≡ Held id = is in cc)
number_named (Held other) id n is =
    let next : Id = record { owner = other.owner; number = n } in
    let heads : Held next ≡ Held id = is in
    let same : next ≡ id = cc in
    ap (λ (i : Id). i.number) (sym same)

has_number : (r : Ref) (n m : ℕ) → m ≡ n → HasNumber m (with_number r n)
has_number NullRef n m same = tt
has_number (Held id) n m same = sym same

task_of_awaits : {X : Type 0} (a b n m : ℕ) → ◌≡◌ {A = Input X} (Awaits a n) (Awaits b m) → a ≡ b
task_of_awaits a b n m same = cc

-- ---- Asks

-- the ask under the number of what was asked gets its copy; each other one stays
pub data IsAnswered (asked : Option ℕ) (r : Ref) (a b : Ask (Unit {0}) Ref) : Type 0 where
  Answered : asked ≡ Some a.number → b ≡ record a { delivered = Some (with_number r a.number) } → IsAnswered asked r a b
  Stays : (asked ≡ Some a.number → ⊥) → b ≡ a → IsAnswered asked r a b

pub answer_is : (asked : Option ℕ) (r : Ref) (a : Ask (Unit {0}) Ref) → IsAnswered asked r a (answered_with asked r a)
answer_is None r a = Stays (λ is. none_not_some refl is) refl
answer_is (Some n) r a =
    elim (same_or_not a.number n) [
      | inl same ↦
          let test : nat_eq a.number n ≡ true = ap (λ k. nat_eq k n) same ∙ test_same n in
          Answered (ap Some (sym same))
          (ap (λ b. cond b (record a { delivered = Some (with_number r n) }) a) test ∙ ap (λ k. let b : Ask (Unit {0}) Ref = record a { delivered = Some (with_number r k) } in b) (sym same))
      | inr apart ↦
          Stays (λ is. apart (same_some a.number n (sym is)))
          (ap (λ b. cond b (record a { delivered = Some (with_number r n) }) a) (test_apart a.number n apart))
    ]

module _ {C K : Type 0} (arity : C → ℕ) (gone : ℕ) (control : Control C (Unit {0}) K) (middle : Middle arity gone control) (ran : Unfinished Ref K) (there : task_at control.graph gone ≡ Some ran)
    (own_ask : (n : ℕ) → ran.asked ≡ Some n → IsAskFor control.asks ran.caller n)
    (differ : (k l : ℕ) (a b : Ask (Unit {0}) Ref) → map.get control.asks k ≡ Some a → map.get control.asks l ≡ Some b → a.number ≡ b.number → k ≡ l) where
  -- ---- A result that is a reference

  module _ (r : Ref) (live : IsLiveRef control.names r) where
    abbrev pub list : List (ℕ × Holder)
    list = awaiting control.graph gone

    abbrev pub copied : NameState C
    copied = copies_of control.names r list

    abbrev pub settled_graph : Graph Ref K
    settled_graph = removed (all_delivered control.graph gone (with_number r)) gone

    abbrev pub answered_asks : map.FinMap nat_cmp (Ask (Unit {0}) Ref)
    answered_asks = each_changed (answered_with ran.asked r) control.asks

    -- the state once the result is handed on and the task is gone, but not what it holds
    abbrev pub settled_control : Control C (Unit {0}) K
    settled_control = record { drawn = control.drawn; names = copied; asks = answered_asks; graph = settled_graph }

    ran_is : (t : Unfinished Ref K) → task_at control.graph gone ≡ Some t → t ≡ ran
    ran_is t at = same_some t ran (sym at ∙ there)

    pub asked_free : (n : ℕ) → ran.asked ≡ Some n → id_at control.names n ≡ None
    asked_free n asked =
        let own = own_ask n asked in
        ap (id_at control.names) (sym own.4) ∙ middle.aside.outputs own.0 own.1 own.2 (subst HasNoOutput (sym own.5) tt)

    free : (n : ℕ) (h : Holder) → IsIn {X = ℕ × Holder} (n, h) list → (id_at control.names n ≡ None) × IsOutside h
    free n h among = go (awaiter_of control.graph gone n h among)
      where
        go : IsAwaiter control.graph gone n h → (id_at control.names n ≡ None) × IsOutside h
        go (ByInput of place at held) = ((middle.aside.inputs n (of, place, gone, at)).1, subst IsOutside (sym held) tt)
        go (ByAsk t at asked held) = (asked_free n (ap (λ (v : Unfinished Ref K). v.asked) (sym (ran_is t at)) ∙ asked), subst IsOutside (sym held) tt)

    one_holder : (n : ℕ) (h k : Holder) → IsIn {X = ℕ × Holder} (n, h) list → IsIn {X = ℕ × Holder} (n, k) list → h ≡ k
    one_holder n h k first second = go (awaiter_of control.graph gone n h first) (awaiter_of control.graph gone n k second)
      where
        never : (of place : ℕ) (t : Unfinished Ref K) → input_at control.graph of place ≡ Some (Awaits gone n) → task_at control.graph gone ≡ Some t → t.asked ≡ Some n → ⊥
        never of place t at is asked =
            let own = own_ask n (ap (λ (v : Unfinished Ref K). v.asked) (sym (ran_is t is)) ∙ asked) in
            middle.aside.unasked own.0 own.1 own.2 (of, place, gone, at ∙ ap (λ m. Some (Awaits gone m)) (sym own.4))

        go : IsAwaiter control.graph gone n h → IsAwaiter control.graph gone n k → h ≡ k
        go (ByInput of place at held) (ByInput other second_place is own) =
            let both = middle.aside.one_place of place gone other second_place gone n at is in held ∙ ap ByTask both.0 ∙ sym own
        go (ByInput of place at held) (ByAsk t is asked own) = absurd (never of place t at is asked)
        go (ByAsk t is asked own) (ByInput of place at held) = absurd (never of place t at is asked)
        go (ByAsk t is asked own) (ByAsk u at asked_too held) =
            own ∙ ap (λ (v : Unfinished Ref K). ByCaller v.caller) (ran_is t is ∙ sym (ran_is u at)) ∙ sym held

    pub grow : GrowBy control.names copied (IsCopyIn r list)
    grow = grow_copies control.names r list live free

    pub settled_more : AreMore control.names copied
    settled_more = more_by control.names copied (IsCopyIn r list) grow

    copy_is_there : (n : ℕ) (h : Holder) → IsAwaiter control.graph gone n h → IsCopyThere control.names copied r n h
    copy_is_there n h awaits =
        let among = awaiter_in control.graph gone n h awaits in
        copies_there arity control.names r list middle.sound live free n h (λ k other. one_holder n k h other among) among

    -- an input that awaited gets its copy, and so does the ask
    pub input_copy : (q p n : ℕ) → input_at control.graph q p ≡ Some (Awaits gone n) → IsCopyThere control.names copied r n (ByTask q)
    input_copy q p n at = copy_is_there n (ByTask q) (ByInput q p at refl)

    pub asked_copy : (n : ℕ) → ran.asked ≡ Some n → IsCopyThere control.names copied r n (ByCaller ran.caller)
    asked_copy n asked = copy_is_there n (ByCaller ran.caller) (ByAsk ran there asked refl)

    pub ends : EndsBy control.graph settled_graph gone (settled gone (with_number r))
    ends = ends_settled control.graph gone (with_number r)

    from_input : (q p : ℕ) (x : Input Ref) → input_at settled_graph q p ≡ Some x → (q ≡ gone → ⊥) × (i : Input Ref) × (input_at control.graph q p ≡ Some i) × (x ≡ settled gone (with_number r) i)
    from_input q p x is = end_from control.graph settled_graph gone (settled gone (with_number r)) ends q p x is

    to_input : (q p : ℕ) (i : Input Ref) → (q ≡ gone → ⊥) → input_at control.graph q p ≡ Some i → input_at settled_graph q p ≡ Some (settled gone (with_number r) i)
    to_input q p i apart is = end_to control.graph settled_graph gone (settled gone (with_number r)) ends q p i apart is

    -- a known input was known, or it is a copy
    known_was : (q p : ℕ) (x : Ref) → input_at settled_graph q p ≡ Some (Known x)
        → (input_at control.graph q p ≡ Some (Known x)) ⊎ ((n : ℕ) × (input_at control.graph q p ≡ Some (Awaits gone n)) × (with_number r n ≡ x))
    known_was q p x is =
        let was = from_input q p (Known x) is in
        elim (settled_known gone (with_number r) was.1 x was.3) [
          | inl old ↦ inl (was.2 ∙ ap Some old)
          | inr new ↦ inr (new.0, was.2 ∙ ap Some new.1, new.2)
        ]

    awaits_was : (q p a m : ℕ) → input_at settled_graph q p ≡ Some (Awaits a m) → (input_at control.graph q p ≡ Some (Awaits a m)) × (a ≡ gone → ⊥)
    awaits_was q p a m is =
        let was = from_input q p (Awaits a m) is in
        let old = settled_awaits gone (with_number r) was.1 a m was.3 in
        (was.2 ∙ ap Some old.0, old.1)

    -- a known input that was known has another number than a copy
    not_both : (q p : ℕ) (old new : Id) (n : ℕ) → input_at control.graph q p ≡ Some (Known (Held old)) → id_at control.names n ≡ None → with_number r n ≡ Held new → old.number ≡ new.number → ⊥
    not_both q p old new n is none named same =
        let entry = held_entry control.names (ByTask q) old (middle.inputs q p (Held old) is) in
        none_not_some (ap (id_at control.names) (same ∙ number_named r new n named) ∙ none) entry.1

    awaited_free : (q p n : ℕ) → input_at control.graph q p ≡ Some (Awaits gone n) → id_at control.names n ≡ None
    awaited_free q p n is = (middle.aside.inputs n (q, p, gone, is)).1

    -- a number that nobody awaits the task under stays free
    still_free : (m : ℕ) → ((h : Holder) → IsAwaiter control.graph gone m h → ⊥) → id_at control.names m ≡ None → id_at copied m ≡ None
    still_free m never none = free_by control.names copied (IsCopyIn r list) grow m (λ entry new. never entry.holder (awaiter_of control.graph gone m entry.holder new.0)) none

    pub answered_was : (key : ℕ) (b : Ask (Unit {0}) Ref) → map.get answered_asks key ≡ Some b → (a : Ask (Unit {0}) Ref) × (map.get control.asks key ≡ Some a) × IsAnswered ran.asked r a b
    answered_was key b is =
        let was = mapped_from (answered_with ran.asked r) (map.get control.asks key) b (sym (get-each_changed (answered_with ran.asked r) control.asks key) ∙ is) in
        (was.0, was.1, subst (IsAnswered ran.asked r was.0) (sym was.2) (answer_is ran.asked r was.0))

    same_number : (a b : Ask (Unit {0}) Ref) → IsAnswered ran.asked r a b → b.number ≡ a.number
    same_number a b (Answered asked is) = ap (λ (x : Ask (Unit {0}) Ref). x.number) is
    same_number a b (Stays never is) = ap (λ (x : Ask (Unit {0}) Ref). x.number) is

    -- the caller of the ask that is answered
    answered_caller : (key : ℕ) (a : Ask (Unit {0}) Ref) → map.get control.asks key ≡ Some a → ran.asked ≡ Some a.number → a.caller ≡ ran.caller
    answered_caller key a is asked =
        let own = own_ask a.number asked in
        let same : own.0 ≡ key = differ own.0 key own.1 a own.2 is own.4 in
        ap (λ (x : Ask (Unit {0}) Ref). x.caller) (same_some a own.1 (sym is ∙ ap (map.get control.asks) (sym same) ∙ own.2)) ∙ own.3

    output_after : (key : ℕ) (a b : Ask (Unit {0}) Ref) (x : Ref) → map.get control.asks key ≡ Some a → IsAnswered ran.asked r a b → b.delivered ≡ Some x → IsRefOf copied (ByCaller b.caller) x × HasNumber b.number x
    output_after key a b x at (Answered asked is) done =
        let one : with_number r a.number ≡ x = same_some (with_number r a.number) x (ap (λ (c : Ask (Unit {0}) Ref). c.delivered) (sym is) ∙ done) in
        let caller : b.caller ≡ ran.caller = ap (λ (c : Ask (Unit {0}) Ref). c.caller) is ∙ answered_caller key a at asked in (
          subst (λ c. IsRefOf copied (ByCaller c) x) (sym caller) (subst (IsRefOf copied (ByCaller ran.caller)) one (asked_copy a.number asked).0),
          subst (HasNumber b.number) one (has_number r a.number b.number (ap (λ (c : Ask (Unit {0}) Ref). c.number) is)),
        )
    output_after key a b x at (Stays never is) done =
        let own = middle.outputs key a x at (ap (λ (c : Ask (Unit {0}) Ref). c.delivered) (sym is) ∙ done) in
        subst (λ (c : Ask (Unit {0}) Ref). IsRefOf copied (ByCaller c.caller) x × HasNumber c.number x) (sym is)
        (ref_more control.names copied (ByCaller a.caller) x settled_more own.0, own.1)

    -- a copy of null is none
    null_free : (x : Ref) (n : ℕ) → HasNoOutput (Some (with_number x n)) → (list : List (ℕ × Holder)) → id_at control.names n ≡ None → id_at (copies_of control.names x list) n ≡ None
    null_free NullRef n none [] is = is
    null_free NullRef n none (one ∷ more) is = null_free NullRef n none more is
    null_free (Held id) n none all is = absurd none

    unanswered_free : (key : ℕ) (a b : Ask (Unit {0}) Ref) → map.get control.asks key ≡ Some a → IsAnswered ran.asked r a b → HasNoOutput b.delivered → id_at copied b.number ≡ None
    unanswered_free key a b at (Answered asked is) none =
        ap (λ (c : Ask (Unit {0}) Ref). id_at copied c.number) is
        ∙ null_free r a.number (subst (λ (c : Ask (Unit {0}) Ref). HasNoOutput c.delivered) is none) list (asked_free a.number asked)
    unanswered_free key a b at (Stays never is) none =
        ap (λ (c : Ask (Unit {0}) Ref). id_at copied c.number) is ∙ still_free a.number go (middle.aside.outputs key a at (subst (λ (c : Ask (Unit {0}) Ref). HasNoOutput c.delivered) is none))
      where
        go : (h : Holder) → IsAwaiter control.graph gone a.number h → ⊥
        go h (ByInput of place input held) = middle.aside.unasked key a at (of, place, gone, input)
        go h (ByAsk t there_too asked held) = never (ap (λ (v : Unfinished Ref K). v.asked) (sym (ran_is t there_too)) ∙ asked)

    pub settled_middle : Middle arity gone settled_control
    settled_middle = record {
      sound = sound_by arity control.names copied (IsCopyIn r list) middle.sound grow;
      reached = reached_by control.names copied (IsCopyIn r list) middle.reached grow;
      within = within_by control.names copied (IsCopyIn r list) control.drawn control.drawn middle.within (omega arith) low grow;
      inputs = λ q p x is. elim (known_was q p x is) [
        | inl old ↦ ref_more control.names copied (ByTask q) x settled_more (middle.inputs q p x old)
        | inr new ↦ subst (IsRefOf copied (ByTask q)) new.2 (input_copy q p new.0 new.1).0
      ];
      apart = λ q p other one two is at same. elim (known_was q p (Held one) is) [
        | inl old ↦ elim (known_was q other (Held two) at) [
          | inl rest ↦ middle.apart q p other one two old rest same
          | inr new ↦ absurd (not_both q p one two new.0 old (awaited_free q other new.0 new.1) new.2 same)
        ]
        | inr new ↦ elim (known_was q other (Held two) at) [
          | inl old ↦ absurd (not_both q other two one new.0 old (awaited_free q p new.0 new.1) new.2 (sym same))
          | inr rest ↦
              let numbers : new.0 ≡ rest.0 = sym (number_named r one new.0 new.2) ∙ same ∙ number_named r two rest.0 rest.2 in
              (middle.aside.one_place q p gone q other gone rest.0 (new.1 ∙ ap (λ n. Some (Awaits gone n)) numbers) rest.1).1
        ]
      ];
      nothing_else = λ number q entry apart is held. elim (grow.from number entry is) [
        | inl was ↦
            let place = middle.nothing_else number q entry apart was held in
            (place.0, to_input q place.0 (Known (Held (record { owner = entry.owner; number = number }))) apart place.1)
        | inr new ↦ held_by_copy number q entry apart held (awaiter_of control.graph gone number entry.holder new.0.0) new.0.1
      ];
      outputs = λ key b x is done.
          let was = answered_was key b is in
          output_after key was.0 b x was.1 was.2 done;
      aside = record {
        inputs = λ m awaits.
            let was = awaits_was awaits.0 awaits.1 awaits.2 m awaits.3 in
            let own = middle.aside.inputs m (awaits.0, awaits.1, awaits.2, was.0) in
            (own.0, still_free m (never_awaited awaits.0 awaits.1 awaits.2 m was.0 was.1) own.1);
        outputs = λ key b is none.
            let was = answered_was key b is in
            unanswered_free key was.0 b was.1 was.2 none;
        drawn = λ key b is.
            let was = answered_was key b is in
            subst (λ n. n ≤ control.drawn) (sym (same_number was.0 b was.2)) (middle.aside.drawn key was.0 was.1);
        one_place = λ q p a other place b m is at. middle.aside.one_place q p a other place b m (awaits_was q p a m is).0 (awaits_was other place b m at).0;
        unasked = λ key b is awaits.
            let was = answered_was key b is in
            let input = (awaits_was awaits.0 awaits.1 awaits.2 b.number awaits.3).0 in
            middle.aside.unasked key was.0 was.1 (awaits.0, awaits.1, awaits.2, input ∙ ap (λ n. Some (Awaits awaits.2 n)) (same_number was.0 b was.2));
      };
      numbered = λ q t is. let was = ends.there q t is in middle.numbered q was.0 was.1;
      gone_low = middle.gone_low;
    }
      where
        low : (q : ℕ) (entry : IdRecord) → IsCopyIn r list q entry → q ≤ control.drawn
        low q entry new = go (awaiter_of control.graph gone q entry.holder new.0)
          where
            go : IsAwaiter control.graph gone q entry.holder → q ≤ control.drawn
            go (ByInput of place at held) = (middle.aside.inputs q (of, place, gone, at)).0
            go (ByAsk t at asked held) =
                let own = own_ask q (ap (λ (v : Unfinished Ref K). v.asked) (sym (ran_is t at)) ∙ asked) in
                subst (λ n. n ≤ control.drawn) own.4 (middle.aside.drawn own.0 own.1 own.2)

        held_by_copy : (number q : ℕ) (entry : IdRecord) → (q ≡ gone → ⊥) → entry.holder ≡ ByTask q → IsAwaiter control.graph gone number entry.holder
            → with_number r number ≡ Held (record { owner = entry.owner; number = number })
            → (place : ℕ) × (input_at settled_graph q place ≡ Some (Known (Held (record { owner = entry.owner; number = number }))))
        held_by_copy number q entry apart held (ByInput of place at own) named =
            let of_is : of ≡ q = holder_is of q (sym own ∙ held) in
            (place, to_input q place (Awaits gone number) apart (ap (λ k. input_at control.graph k place) (sym of_is) ∙ at) ∙ ap Some (settled_here gone (with_number r) number ∙ ap Known named))
        held_by_copy number q entry apart held (ByAsk t at asked own) named = absurd (let clash : ByTask q ≡ ByCaller t.caller = sym held ∙ own in cc)

        never_awaited : (q p a m : ℕ) → input_at control.graph q p ≡ Some (Awaits a m) → (a ≡ gone → ⊥) → (h : Holder) → IsAwaiter control.graph gone m h → ⊥
        never_awaited q p a m is apart h (ByInput of place at held) =
            let both = middle.aside.one_place of place gone q p a m at is in
            apart (task_of_awaits a gone m m (same_some (Awaits a m) (Awaits gone m) (sym is ∙ (λ i. input_at control.graph (sym both.0 i) (sym both.1 i)) ∙ at)))
        never_awaited q p a m is apart h (ByAsk t at asked held) =
            let own = own_ask m (ap (λ (v : Unfinished Ref K). v.asked) (sym (ran_is t at)) ∙ asked) in
            middle.aside.unasked own.0 own.1 own.2 (q, p, a, is ∙ ap (λ n. Some (Awaits a n)) (sym own.4))

    -- what callers hold they held, or it is the output that was asked
    pub settled_from : (q : ℕ) (entry : IdRecord) (by : ℕ) → id_at copied q ≡ Some entry → entry.holder ≡ ByCaller by → (id_at control.names q ≡ Some entry) ⊎ ((ran.asked ≡ Some q) × (by ≡ ran.caller))
    settled_from q entry by is held = elim (grow.from q entry is) [
      | inl was ↦ inl was
      | inr new ↦ inr (go (awaiter_of control.graph gone q entry.holder new.0.0))
    ]
      where
        caller_is : (a b : ℕ) → ByCaller a ≡ ByCaller b → a ≡ b
        caller_is a b same = cc

        go : IsAwaiter control.graph gone q entry.holder → (ran.asked ≡ Some q) × (by ≡ ran.caller)
        go (ByInput of place at own) = absurd (let clash : ByCaller by ≡ ByTask of = sym held ∙ own in cc)
        go (ByAsk t at asked own) = (
          ap (λ (v : Unfinished Ref K). v.asked) (sym (ran_is t at)) ∙ asked,
          caller_is by ran.caller (sym held ∙ own ∙ ap (λ (v : Unfinished Ref K). ByCaller v.caller) (ran_is t at)),
        )

    -- the finished task holds what it held, where it awaits nothing
    pub settled_own : ((place a n : ℕ) → input_at control.graph gone place ≡ Some (Awaits a n) → ⊥) → (q : ℕ) (entry : IdRecord) → id_at copied q ≡ Some entry → entry.holder ≡ ByTask gone
        → id_at control.names q ≡ Some entry
    settled_own idle q entry is held = elim (grow.from q entry is) [
      | inl was ↦ was
      | inr new ↦ absurd (go (awaiter_of control.graph gone q entry.holder new.0.0))
    ]
      where
        go : IsAwaiter control.graph gone q entry.holder → ⊥
        go (ByInput of place at own) = idle place gone q (ap (λ k. input_at control.graph k place) (holder_is gone of (sym held ∙ own)) ∙ at)
        go (ByAsk t at asked own) = let clash : ByTask gone ≡ ByCaller t.caller = sym held ∙ own in cc

  -- ---- A result that is a new task

  module _ (to : ℕ) where
    abbrev pub forwarded_graph : Graph Ref K
    forwarded_graph = removed (forwarded control.graph gone to) gone

    abbrev pub forwarded_control : Control C (Unit {0}) K
    forwarded_control = record control { graph = forwarded_graph }

    redirected_known : (input : Input Ref) (x : Ref) → Known x ≡ redirected gone to input → input ≡ Known x
    redirected_known (Known y) x is = sym is
    redirected_known (Awaits a n) x is = absurd (let clash : Known x ≡ Awaits (cond (nat_eq a gone) to a) n = is in cc)

    redirected_awaits : (input : Input Ref) (a m : ℕ) → Awaits a m ≡ redirected gone to input → (b : ℕ) × (input ≡ Awaits b m)
    redirected_awaits (Known y) a m is = absurd (let clash : Awaits a m ≡ Known y = is in cc)
    redirected_awaits (Awaits b n) a m is =
        let equal : Awaits a m ≡ Awaits (cond (nat_eq b gone) to b) n = is in
        let number : m ≡ n = cc in
        (b, ap (λ k. Awaits b k) (sym number))

    pub forward_ends : EndsBy control.graph forwarded_graph gone (redirected gone to)
    forward_ends = ends_forwarded control.graph gone to

    forward_from : (q p : ℕ) (x : Input Ref) → input_at forwarded_graph q p ≡ Some x → (q ≡ gone → ⊥) × (i : Input Ref) × (input_at control.graph q p ≡ Some i) × (x ≡ redirected gone to i)
    forward_from q p x is = end_from control.graph forwarded_graph gone (redirected gone to) forward_ends q p x is

    forward_known : (q p : ℕ) (x : Ref) → input_at forwarded_graph q p ≡ Some (Known x) → input_at control.graph q p ≡ Some (Known x)
    forward_known q p x is = let was = forward_from q p (Known x) is in was.2 ∙ ap Some (redirected_known was.1 x was.3)

    forward_awaits : (q p a m : ℕ) → input_at forwarded_graph q p ≡ Some (Awaits a m) → (b : ℕ) × (input_at control.graph q p ≡ Some (Awaits b m))
    forward_awaits q p a m is = let was = forward_from q p (Awaits a m) is in let old = redirected_awaits was.1 a m was.3 in (old.0, was.2 ∙ ap Some old.1)

    pub forwarded_middle : Middle arity gone forwarded_control
    forwarded_middle = record {
      sound = middle.sound;
      reached = middle.reached;
      within = middle.within;
      inputs = λ q p x is. middle.inputs q p x (forward_known q p x is);
      apart = λ q p other one two is at same. middle.apart q p other one two (forward_known q p (Held one) is) (forward_known q other (Held two) at) same;
      nothing_else = λ number q entry apart is held.
          let place = middle.nothing_else number q entry apart is held in
          (place.0, end_to control.graph forwarded_graph gone (redirected gone to) forward_ends q place.0 (Known (Held (record { owner = entry.owner; number = number }))) apart place.1);
      outputs = middle.outputs;
      aside = record {
        inputs = λ m awaits.
            let was = forward_awaits awaits.0 awaits.1 awaits.2 m awaits.3 in
            middle.aside.inputs m (awaits.0, awaits.1, was.0, was.1);
        outputs = middle.aside.outputs;
        drawn = middle.aside.drawn;
        one_place = λ q p a other place b m is at.
            let one = forward_awaits q p a m is in
            let two = forward_awaits other place b m at in
            middle.aside.one_place q p one.0 other place two.0 m one.1 two.1;
        unasked = λ key ask is awaits.
            let was = forward_awaits awaits.0 awaits.1 awaits.2 ask.number awaits.3 in
            middle.aside.unasked key ask is (awaits.0, awaits.1, was.0, was.1);
      };
      numbered = λ q t is. let was = forward_ends.there q t is in middle.numbered q was.0 was.1;
      gone_low = middle.gone_low;
    }
