-- A task comes with its inputs, one after another.
use Rattle.std.specs.Prelude.{◌≡◌, ℕ, Bool, not, ◌&&◌, zero, suc, ◌<◌, ◌⊎◌, List, [], ◌∷◌, slice_get, map as each, Some}
use Rattle.cht_ids.specs.declared.refs.Ref.{Ref}
use Rattle.cht_ids.specs.declared.refs.Ref.TheVariants.{Null}
use Rattle.task_states.specs.declared.states.Slot.{Slot}
use Rattle.task_states.specs.declared.states.Slot.TheVariants.{Known, Awaits}
use Rattle.std.specs.List.{list_any}
use Rattle.task_states.specs.States.{Input, Known as KnownInput, Graph, is_awaiting, is_stopped}
use Rattle.task_states.specs.Steps.{added}
use Rattle.task_links.specs.declared.entries.Link.{Link}
use Rattle.task_links.specs.declared.entries.Place.{Place}
use Rattle.task_links.specs.declared.entries.Place.TheVariants.{Known as KnownPlace}
use Rattle.task_links.specs.declared.entries.Spot.{Spot}
use Rattle.task_graph.specs.declared.parts.Parts.{Parts}
use Rattle.task_links.specs.Inside.{entries_at}
use Rattle.task_links.specs.Weave.{link_at}
use Rattle.task_graph.specs.Contents.{input_of}
use Rattle.task_graph.specs.Graphs.{graph_of, IsWhole}

-- whether a task of a caller that comes with inputs can be run
abbrev pub can_run_with : {K : Type 0} → Graph Ref K → ℕ → List (Input Ref) → Bool
can_run_with graph caller inputs = not (is_stopped graph caller) && not (list_any is_awaiting inputs)

-- an input without what it awaits
abbrev pub known_place : Slot → Place
known_place (Known r) = KnownPlace r
known_place (Awaits task number) = KnownPlace Null

-- the same as contracts see it
abbrev pub bare_input : Slot → Input Ref
bare_input (Known r) = KnownInput r
bare_input (Awaits task number) = KnownInput Null

-- inputs of which the first so many await what they are to await
abbrev pub mixed : ℕ → List Slot → List (Input Ref)
mixed zero slots = each bare_input slots
mixed (suc i) [] = []
mixed (suc i) (slot ∷ slots) = input_of slot ∷ mixed i slots

module _ {K : Type 0} where
  -- an input awaits under a number under which one awaited before, or one of the first inputs does
  abbrev pub IsNumbered : Parts K → List Slot → ℕ → ℕ → Type 0
  IsNumbered old inputs upto number =
      ((spot : Spot) × (link : Link) × (link_at (entries_at old.entries) spot ≡ Some link) × (link.number ≡ number))
      ⊎ ((k : ℕ) × (task : ℕ) × (k < upto) × (slice_get inputs k ≡ Some (Awaits task number)))

  -- so far so many inputs of a new task await what they are to await
  pub record IsAdding (old now : Parts K) (task caller : ℕ) (kind : K) (inputs : List Slot) (upto : ℕ) : Type 0 where
    pub whole : IsWhole now
    pub graph : graph_of now ≡ added (graph_of old) task caller kind (mixed upto inputs)
    pub numbers : (spot : Spot) (link : Link) → link_at (entries_at now.entries) spot ≡ Some link → IsNumbered old inputs upto link.number
