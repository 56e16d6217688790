-- One input after another comes to await another task.
use Rattle.std.specs.Prelude.{◌≡◌, ℕ, ◌⊎◌, slice_get, set, Option, None, Some}
use Rattle.cht_ids.specs.declared.refs.Ref.{Ref}
use Rattle.task_states.specs.States.{Input, Awaits, Unfinished, Graph, task_at}
use Rattle.task_links.specs.declared.entries.Link.{Link}
use Rattle.task_links.specs.declared.entries.Spot.{Spot}
use Rattle.task_graph.specs.declared.parts.Parts.{Parts}
use Rattle.task_links.specs.Inside.{entries_at}
use Rattle.task_links.specs.Weave.{Head, head_at, link_at, row_of, IsFirst}
use Rattle.task_graph.specs.Graphs.{graph_of}

-- an input as before, or one that awaited the first task and awaits the second
abbrev pub IsInputMoved : ℕ → ℕ → Option (Input Ref) → Option (Input Ref) → Type 0
IsInputMoved task to before after = (after ≡ before) ⊎ ((number : ℕ) × (before ≡ Some (Awaits task number)) × (after ≡ Some (Awaits to number)))

module _ {K : Type 0} where
  -- a task that is as before, but for inputs that moved
  pub record IsTaskMoved (task to : ℕ) (before after : Unfinished Ref K) : Type 0 where
    pub caller : after.caller ≡ before.caller
    pub kind : after.kind ≡ before.kind
    pub runner : after.runner ≡ before.runner
    pub asked : after.asked ≡ before.asked
    pub inputs : (place : ℕ) → IsInputMoved task to (slice_get before.inputs place) (slice_get after.inputs place)

  -- tasks that are as before, but for inputs that moved
  pub record AreMoved (task to : ℕ) (before after : Graph Ref K) : Type 0 where
    pub stopped : after.stopped ≡ before.stopped
    pub none : (q : ℕ) → task_at before q ≡ None → task_at after q ≡ None
    pub some : (q : ℕ) (unfinished : Unfinished Ref K) → task_at before q ≡ Some unfinished → (moved : Unfinished Ref K) × (task_at after q ≡ Some moved) × IsTaskMoved task to unfinished moved

  -- the first of a list, whose task may await another
  pub record IsMovable (parts : Parts K) (spot : Spot) (to : ℕ) : Type 0 where
    pub first : IsFirst (head_at (entries_at parts.entries)) (link_at (entries_at parts.entries)) spot
    pub there : (own : Head) (other : Head) → head_at (entries_at parts.entries) spot.task ≡ Some own → head_at (entries_at parts.entries) to ≡ Some other → other.caller ≡ own.caller
    pub other : (head : Head) × (head_at (entries_at parts.entries) to ≡ Some head)

  -- the input awaits the other task then, under the number that it had, and every other input awaits what it did
  pub record IsMoved (old new : Parts K) (spot : Spot) (to : ℕ) : Type 0 where
    pub link : Link
    pub was : link_at (entries_at old.entries) spot ≡ Some link
    pub here : (next : Link) × (link_at (entries_at new.entries) spot ≡ Some next) × (next.task ≡ to)
    pub rest : (other : Spot) → (other ≡ spot → ⊥) → row_of (link_at (entries_at new.entries)) other ≡ row_of (link_at (entries_at old.entries)) other
    pub stopped : (graph_of new).stopped ≡ (graph_of old).stopped
    pub tasks : (q : ℕ) → (q ≡ spot.task → ⊥) → task_at (graph_of new) q ≡ task_at (graph_of old) q
    pub own : (unfinished : Unfinished Ref K) → task_at (graph_of old) spot.task ≡ Some unfinished
        → task_at (graph_of new) spot.task ≡ Some (record unfinished { inputs = set unfinished.inputs spot.place (Awaits to link.number) })
