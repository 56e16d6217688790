-- What is left of a finish once all that awaited its task is settled, or handed on to a new task.
use Rattle.std.proofs.Common.{◌≡◌, ℕ, List, Option, None, Some, refl, sym, ap, ◌∙◌, nat_cmp}
use Rattle.std.specs.FinMap as map
use Rattle.cht_ids.specs.declared.refs.Ref.{Ref}
use Rattle.cht_ids.specs.declared.refs.Ref.TheVariants.{Null as NullRef}
use Rattle.task_types.specs.declared.outcome.Place.{Place}
use Rattle.task_types.specs.declared.outcome.Place.TheVariants.{Null, Input as AtInput, Child, Chunk, Task}
use Rattle.name_states.specs.States.{NameState}
use Rattle.task_states.specs.Maps.{each_changed}
use Rattle.task_states.specs.States.{Graph, asked_of}
use Rattle.task_states.specs.Steps.{all_delivered, forwarded}
use Rattle.task_states.proofs.Maps.{same_maps, get-each_changed}
use Rattle.task_states.proofs.Options.{map_id}
use Rattle.name_machine.specs.States.{Ask}
use Rattle.name_machine.specs.NewTasks.{number_at}
use Rattle.name_machine.specs.Control.{Control, with_number, copies_of, awaiting, answered_with, settled_to, resolved_to}

-- a place that is not the output of a new task
abbrev pub IsReference : Place → Type 0
IsReference Null = Unit {0}
IsReference (AtInput i) = Unit {0}
IsReference (Child i j) = Unit {0}
IsReference (Chunk i) = Unit {0}
IsReference (Task i) = ⊥

-- where nothing was asked no ask changes
pub unanswered : (asks : map.FinMap nat_cmp (Ask (Unit {0}) Ref)) (r : Ref) → each_changed (answered_with None r) asks ≡ asks
unanswered asks r = same_maps _ _ (λ q. get-each_changed (answered_with None r) asks q ∙ map_id (answered_with None r) (λ ask. refl) (map.get asks q))

-- the asks, as the number that is told leaves them
pub answered_as_told : (asks after : map.FinMap nat_cmp (Ask (Unit {0}) Ref)) (r : Ref) (told : Option ℕ) → (told ≡ None → after ≡ asks)
    → ((number : ℕ) → told ≡ Some number → after ≡ each_changed (answered_with (Some number) r) asks) → after ≡ each_changed (answered_with told r) asks
answered_as_told asks after r None none some = none refl ∙ sym (unanswered asks r)
answered_as_told asks after r (Some number) none some = some number refl

module _ {C K : Type 0} (control : Control C (Unit {0}) K) (task : ℕ) (numbers : List ℕ) (read : Place → Ref) where
  -- a result that is a reference settles all that awaits
  pub resolved_settles : (place : Place) → IsReference place → read Null ≡ NullRef → resolved_to control task numbers read place ≡ settled_to control task (read place)
  resolved_settles Null is none = ap (settled_to control task) (sym none)
  resolved_settles (AtInput i) is none = refl
  resolved_settles (Child i j) is none = refl
  resolved_settles (Chunk i) is none = refl
  resolved_settles (Task i) is none = absurd is

  -- names, tasks and asks once all that awaited got its copy
  pub settled_is : (place : Place) (names : NameState C) (graph : Graph Ref K) (asks : map.FinMap nat_cmp (Ask (Unit {0}) Ref)) (told : Option ℕ) → IsReference place → read Null ≡ NullRef
      → names ≡ copies_of control.names (read place) (awaiting control.graph task)
      → graph ≡ all_delivered control.graph task (with_number (read place))
      → told ≡ asked_of control.graph task
      → (told ≡ None → asks ≡ control.asks)
      → ((number : ℕ) → told ≡ Some number → asks ≡ each_changed (answered_with (Some number) (read place)) control.asks)
      → record { drawn = control.drawn; names = names; asks = asks; graph = graph } ≡ resolved_to control task numbers read place
  settled_is place names graph asks told is none names_are graph_is told_is unasked asked =
      let asks_are : asks ≡ each_changed (answered_with (asked_of control.graph task) (read place)) control.asks =
      answered_as_told control.asks asks (read place) told unasked asked ∙ ap (λ o. each_changed (answered_with o (read place)) control.asks) told_is in
      let settled : ◌≡◌ {A = Control C (Unit {0}) K} (record { drawn = control.drawn; names = names; asks = asks; graph = graph }) (settled_to control task (read place)) =
      λ i. record { drawn = control.drawn; names = names_are i; asks = asks_are i; graph = graph_is i } in
      settled ∙ sym (resolved_settles place is none)

  -- tasks once all that awaited awaits a new task; names and asks stay
  pub forwarded_is : (i : ℕ) (graph : Graph Ref K) → graph ≡ forwarded control.graph task (number_at numbers i)
      → record { drawn = control.drawn; names = control.names; asks = control.asks; graph = graph } ≡ resolved_to control task numbers read (Task i)
  forwarded_is i graph graph_is = λ k. record { drawn = control.drawn; names = control.names; asks = control.asks; graph = graph_is k }
