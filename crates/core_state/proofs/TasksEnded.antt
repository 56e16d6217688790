-- The identifiers that a task holds go one input after the other, and those of a caller's tasks one task after the other.
use Rattle.std.proofs.Common.{◌≡◌, ℕ, zero, suc, ◌+◌, ◌-◌, ◌^◌, ◌≤◌, ◌<◌, inl, inr, true, false, List, [], ◌∷◌, slice_get, Option, None, Some, IsSome, is_some, refl, sym, ap, subst, ◌∙◌, arith}
use Rattle.std.specs.Option.{option_map}
use Rattle.cht_ids.specs.declared.refs.Id.{Id}
use Rattle.cht_ids.specs.declared.refs.Ref.{Ref}
use Rattle.cht_ids.specs.declared.refs.Ref.TheVariants.{Null, Id as Held}
use Rattle.name_states.specs.declared.holder.Holder.{Holder}
use Rattle.name_states.specs.declared.holder.Holder.TheVariants.{Caller as ByCaller, Task as ByTask, Body as ByBody}
use Rattle.name_states.specs.States.{NameState, IdRecord, id_at}
use Rattle.name_states.specs.Reached.{swept}
use Rattle.name_states.specs.Rules.{IsSound, AreReached}
use Rattle.name_states.proofs.Basics.{none_not_some, same_some, same_or_not, same_from_test, test_same, test_apart}
use Rattle.name_states.proofs.Reaching.{sound-down}
use Rattle.task_states.specs.declared.states.Slot.{Slot}
use Rattle.task_states.specs.declared.states.Slot.TheVariants.{Known as KnownSlot, Awaits as AwaitsSlot}
use Rattle.task_states.specs.States.{Input, Known, Awaits, Unfinished, Graph, task_at, input_at, caller_of}
use Rattle.task_states.specs.Awaiters.{IsLeastOf, IsLater}
use Rattle.task_graph.specs.Contents.{input_of}
use Rattle.name_machine.specs.Control.{is_task, is_task_of, is_held_by, without_ids}
use Rattle.name_machine.specs.Standing.{IsRefOf}
use Rattle.name_machine.proofs.Grow.{false_or}
use Rattle.core_state.specs.Ended.{is_number_of, ref_in, is_task_for, is_held_for, IsHeldOutside, HoldsFrom}
use Rattle.core_state.proofs.Ended.{was_at, still_ref, held_at, none_go, named_after, number_is, is_its_number, not_its_number}

-- past the end of a list there is nothing
none_beyond : {X : Type 0} (xs : List X) (place at : ℕ) → slice_get xs place ≡ None → place ≤ at → slice_get xs at ≡ None
none_beyond [] place at none low = refl
none_beyond (x ∷ xs) zero at none low = absurd (none_not_some none refl)
none_beyond (x ∷ xs) (suc place) zero none low = absurd (omega arith)
none_beyond (x ∷ xs) (suc place) (suc at) none low = none_beyond xs place at none (omega arith)

-- which task a holder is
task_is : (task : ℕ) (holder : Holder) → is_task task holder ≡ true → holder ≡ ByTask task
task_is task (ByCaller caller) is = absurd (let clash : false ≡ true = is in cc)
task_is task (ByTask other) is = ap ByTask (same_from_test other task is)
task_is task (ByBody body) is = absurd (let clash : false ≡ true = is in cc)

is_this_task : (task : ℕ) (holder : Holder) → holder ≡ ByTask task → is_task task holder ≡ true
is_this_task task holder is = ap (is_task task) is ∙ test_same task

same_task : (task other : ℕ) → ByTask task ≡ ByTask other → task ≡ other
same_task task other is = let same : ByTask task ≡ ByTask other = is in cc

-- an input that is given as null, or awaited, is known as no identifier
known_from : (slot : Slot) (id : Id) → input_of slot ≡ Known (Held id) → ref_in slot ≡ Held id
known_from (KnownSlot r) id is = let same : Known r ≡ Known (Held id) = is in cc
known_from (AwaitsSlot task number) id is = absurd (let clash : Awaits task number ≡ Known (Held id) = is in cc)

known_to : (slot : Slot) (id : Id) → ref_in slot ≡ Held id → input_of slot ≡ Known (Held id)
known_to (KnownSlot r) id is = ap Known is
known_to (AwaitsSlot task number) id is = absurd (let clash : Null ≡ Held id = is in cc)

-- ---- Tasks by their numbers

-- the tasks from one on; none where there is none
abbrev pub IsFrom : Option ℕ → ℕ → Type 0
IsFrom None task = ⊥
IsFrom (Some next) task = next ≤ task

-- how far a task is from the greatest number
abbrev pub rest_after : Option ℕ → ℕ
rest_after None = 0
rest_after (Some task) = 2 ^ 128 - task

module _ {K : Type 0} (graph : Graph Ref K) where
  first_from : (caller : ℕ) (first : Option ℕ) → IsLeastOf (λ task. caller_of graph task ≡ Some caller) first → (task : ℕ) → caller_of graph task ≡ Some caller → IsFrom first task
  first_from caller None least task own = least task own
  first_from caller (Some first) least task own = least.1 task own

  first_own : (caller : ℕ) (first : Option ℕ) → IsLeastOf (λ task. caller_of graph task ≡ Some caller) first → (task : ℕ) → first ≡ Some task → caller_of graph task ≡ Some caller
  first_own caller None least task is = absurd (none_not_some refl is)
  first_own caller (Some first) least task is = ap (caller_of graph) (sym (same_some first task is)) ∙ least.0

  later_from : (caller task : ℕ) (next : Option ℕ) → IsLeastOf (IsLater graph caller task) next → (other : ℕ) → caller_of graph other ≡ Some caller → task < other → IsFrom next other
  later_from caller task None least other own above = least other (own, above)
  later_from caller task (Some next) least other own above = least.1 other (own, above)

  from_later : (caller task : ℕ) (next : Option ℕ) → IsLeastOf (IsLater graph caller task) next → (other : ℕ) → IsFrom next other → task < other
  from_later caller task None least other from = absurd from
  from_later caller task (Some next) least other from = let above = least.0.1 in omega arith

  later_own : (caller task : ℕ) (next : Option ℕ) → IsLeastOf (IsLater graph caller task) next → (other : ℕ) → next ≡ Some other → caller_of graph other ≡ Some caller
  later_own caller task None least other is = absurd (none_not_some refl is)
  later_own caller task (Some next) least other is = ap (caller_of graph) (sym (same_some next other is)) ∙ least.0.0

  pub nearer : (caller task : ℕ) (next : Option ℕ) → IsLeastOf (IsLater graph caller task) next → task < 2 ^ 128 → rest_after next < rest_after (Some task)
  nearer caller task None least small = omega arith
  nearer caller task (Some next) least small = let above = least.0.1 in omega arith

  -- a task of a caller is there
  pub is_there : (caller task : ℕ) → caller_of graph task ≡ Some caller → IsSome (task_at graph task)
  is_there caller task own = there (task_at graph task) own
    where
      there : (o : Option (Unfinished Ref K)) → option_map (λ (t : Unfinished Ref K). t.caller) o ≡ Some caller → is_some o ≡ true
      there None is = absurd (none_not_some refl is)
      there (Some t) is = refl

module _ {C K : Type 0} (graph : Graph Ref K) where
  -- ---- The inputs of a task

  -- what is left to go of what a task holds, once the inputs below a place are gone
  pub record InputsLeft (start now : NameState C) (task place : ℕ) : Type 0 where
    pub same : swept (without_ids now (is_held_by task)) ≡ swept (without_ids start (is_held_by task))
    pub holds : HoldsFrom now graph task place
    pub few : place ≤ 4

  pub inputs_start : (names : NameState C) (task : ℕ) → HoldsFrom names graph task 0 → InputsLeft names names task 0
  inputs_start names task holds = record { same = refl; holds = holds; few = omega arith }

  module _ (start now : NameState C) (task place : ℕ) (left : InputsLeft start now task place) where
    -- the input at the place can go
    pub input_outside : (slot : Slot) → input_at graph task place ≡ Some (input_of slot) → IsHeldOutside now (ref_in slot)
    input_outside slot is = (ByTask task, tt, its slot is)
      where
        its : (s : Slot) → input_at graph task place ≡ Some (input_of s) → IsRefOf now (ByTask task) (ref_in s)
        its (KnownSlot r) is = left.holds.inputs place r (omega arith) is
        its (AwaitsSlot other number) is = tt

    module _ (arity : C → ℕ) (sound : IsSound arity now) where
      pub inputs_step : (slot : Slot) (next : NameState C) → input_at graph task place ≡ Some (input_of slot) → place < 4
          → next ≡ swept (without_ids now (is_number_of (ref_in slot))) → InputsLeft start next task (place + 1)
      inputs_step slot next is low next_is =
          subst (λ n. InputsLeft start n task (place + 1)) (sym next_is)
          (record {
            same =
                named_after now (is_number_of (ref_in slot)) (is_held_by task) (sound-down arity now sound)
                (λ q entry at its.
                let found = number_is (ref_in slot) q (Some entry) its in
                let held = held_at now found.0 (ByTask task) (left.holds.inputs place (Held found.0) (omega arith) (is ∙ ap Some (known_to slot found.0 found.1))) in
                is_this_task task entry.holder
                (ap (λ (e : IdRecord). e.holder) (same_some entry held.0 (sym at ∙ ap (id_at now) found.2 ∙ held.1)) ∙ held.3))
                ∙ left.same;
            holds = record {
              inputs = λ at r above there.
                  still_ref now (is_number_of (ref_in slot)) (ByTask task) r (sound-down arity now sound) tt (left.holds.inputs at r (omega arith) there)
                  (λ id entry r_is found held.
                  not_its_number (ref_in slot) id.number (Some entry) (λ other its same.
                  let place_is = left.holds.apart at place id other (there ∙ ap (λ x. Some (Known x)) r_is) (is ∙ ap Some (known_to slot other its)) same in
                  omega arith));
              apart = left.holds.apart;
              nothing_else = λ number entry found held.
                  let was = was_at now (is_number_of (ref_in slot)) number entry found in
                  let input = left.holds.nothing_else number entry was.0 held in (
                    input.0,
                    elim (same_or_not input.0 place) [
                      | inl here ↦
                          let id : Id = record { owner = entry.owner; number = number } in
                          let its : ref_in slot ≡ Held id = known_from slot id (same_some (input_of slot) (Known (Held id)) (sym is ∙ ap (input_at graph task) (sym here) ∙ input.2)) in
                          absurd (let clash : true ≡ false = sym (is_its_number (ref_in slot) id (Some entry) its) ∙ was.1 in cc)
                      | inr apart ↦ let above = input.1 in omega arith
                    ],
                    input.2,
                  );
            };
            few = omega arith;
          })

      -- where there is no input any more the task holds nothing
      pub inputs_end : AreReached now → IsSome (task_at graph task) → option_map input_of None ≡ input_at graph task place
          → now ≡ swept (without_ids start (is_held_by task))
      inputs_end reached there none =
          sym (none_go arity now (is_held_by task) sound reached (λ q entry at.
          false_or (is_task task entry.holder) (λ its.
          let input = left.holds.nothing_else q entry at (task_is task entry.holder its) in
          none_not_some (past input.0 input.1) input.2)))
          ∙ left.same
        where
          past_in : (o : Option (Unfinished Ref K)) (at : ℕ) → elim o as (λ x. Option (Input Ref)) [ None ↦ None | Some t ↦ slice_get t.inputs place ] ≡ None → place ≤ at
              → elim o as (λ x. Option (Input Ref)) [ None ↦ None | Some t ↦ slice_get t.inputs at ] ≡ None
          past_in None at none low = refl
          past_in (Some t) at none low = none_beyond t.inputs place at none low

          past : (at : ℕ) → place ≤ at → input_at graph task at ≡ None
          past at low = past_in (task_at graph task) at (sym none) low

  -- ---- The tasks of a caller

  -- what is left to go of what the tasks of a caller hold, from a task on
  pub record TasksLeft (start now : NameState C) (caller : ℕ) (next : Option ℕ) : Type 0 where
    pub same : swept (without_ids now (is_held_for graph caller)) ≡ swept (without_ids start (is_held_for graph caller))
    pub own : (task : ℕ) → next ≡ Some task → caller_of graph task ≡ Some caller
    pub holds : (task : ℕ) → caller_of graph task ≡ Some caller → IsFrom next task → HoldsFrom now graph task 0
    pub nothing_else : (number task : ℕ) (entry : IdRecord) → id_at now number ≡ Some entry → entry.holder ≡ ByTask task → caller_of graph task ≡ Some caller → IsFrom next task

  pub tasks_start : (names : NameState C) (caller : ℕ) (first : Option ℕ) → IsLeastOf (λ task. caller_of graph task ≡ Some caller) first
      → ((task : ℕ) → caller_of graph task ≡ Some caller → HoldsFrom names graph task 0) → TasksLeft names names caller first
  tasks_start names caller first least holds = record {
    same = refl;
    own = first_own graph caller first least;
    holds = λ task own from. holds task own;
    nothing_else = λ number task entry is held own. first_from graph caller first least task own;
  }

  module _ (arity : C → ℕ) (start now : NameState C) (caller : ℕ) (sound : IsSound arity now) where
    pub tasks_step : (task : ℕ) (next : NameState C) (after : Option ℕ) → TasksLeft start now caller (Some task) → IsLeastOf (IsLater graph caller task) after
        → next ≡ swept (without_ids now (is_held_by task)) → TasksLeft start next caller after
    tasks_step task next after left least next_is =
        let down = sound-down arity now sound in
        subst (λ n. TasksLeft start n caller after) (sym next_is)
        (record {
          same =
              named_after now (is_held_by task) (is_held_for graph caller) down
              (λ q entry at its.
              ap (is_task_for graph caller) (task_is task entry.holder its) ∙ ap (is_task_of caller) (left.own task refl) ∙ test_same caller)
              ∙ left.same;
          own = later_own graph caller task after least;
          holds = λ other own from.
              let above = from_later graph caller task after least other from in
              let was = left.holds other own (omega arith) in
              record {
                inputs = λ at r low there.
                    still_ref now (is_held_by task) (ByTask other) r down tt (was.inputs at r low there)
                    (λ id entry r_is found held. ap (is_task task) held ∙ test_apart other task (λ same. omega arith));
                apart = was.apart;
                nothing_else = λ number entry found held. was.nothing_else number entry (was_at now (is_held_by task) number entry found).0 held;
              };
          nothing_else = λ number other entry found held own.
              let was = was_at now (is_held_by task) number entry found in
              let low = left.nothing_else number other entry was.0 held own in
              elim (same_or_not other task) [
                | inl same ↦ absurd (let clash : true ≡ false = sym (is_this_task task entry.holder (held ∙ ap ByTask same)) ∙ was.1 in cc)
                | inr apart ↦ later_from graph caller task after least other own (omega arith)
              ];
        })

    held_for : (holder : Holder) → is_task_for graph caller holder ≡ true → (task : ℕ) × (holder ≡ ByTask task) × (caller_of graph task ≡ Some caller)
    held_for (ByCaller other) is = absurd (let clash : false ≡ true = is in cc)
    held_for (ByTask task) is = (task, refl, of (caller_of graph task) is)
      where
        of : (o : Option ℕ) → is_task_of caller o ≡ true → o ≡ Some caller
        of None is = absurd (let clash : false ≡ true = is in cc)
        of (Some other) is = ap Some (same_from_test other caller is)
    held_for (ByBody body) is = absurd (let clash : false ≡ true = is in cc)

    -- where there is no task any more nothing is held by one
    pub tasks_end : AreReached now → TasksLeft start now caller None → now ≡ swept (without_ids start (is_held_for graph caller))
    tasks_end reached left =
        sym (none_go arity now (is_held_for graph caller) sound reached (λ q entry at.
        false_or (is_task_for graph caller entry.holder) (λ its.
        let task = held_for entry.holder its in
        left.nothing_else q task.0 entry at task.1 task.2)))
        ∙ left.same
