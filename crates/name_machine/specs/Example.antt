-- A journal of eleven events: a caller registers a number, copies it and asks their sum; one worker begins and gives back, another
-- finishes; the caller deletes all that it holds.
use Rattle.std.specs.Prelude.{◌≡◌, ℕ, true, false, List, [], ◌∷◌, Some}
use Rattle.std.specs.FinMap as map
use Rattle.cht_ids.specs.declared.refs.Id.{Id}
use Rattle.cht_ids.specs.declared.refs.Ref.TheVariants.{Id as Held}
use Rattle.task_types.specs.declared.outcome.Place.TheVariants.{Chunk}
use Rattle.task_types.specs.declared.outcome.Places.{Places}
use Rattle.task_types.specs.Presence.{Presence, Present}
use Rattle.task_types.specs.Places.{filled, shape_from}
use Rattle.task_types.specs.Deciding.{is_one_of}
use Rattle.name_states.specs.States.{no_names}
use Rattle.task_states.specs.States.{no_tasks}
use Rattle.cht_history.specs.declared.event.Event.{Event}
use Rattle.cht_history.specs.declared.event.Event.TheVariants.{Register, Copy, Delete, Ask, Collect, Start, GiveBack, Finish}
use Rattle.name_machine.specs.Replay.{Plans, replay}

-- an identifier
abbrev pub id : ℕ → ℕ → Id
id owner number = record { owner = owner; number = number }

-- no child places
abbrev pub childless : Places
childless = filled []

-- Caller 0 registers 0:2 without children, copies it as 0:3, and asks a task on both, which is 4. Worker 1 begins it and gives it back,
-- and worker 2 begins it. The caller deletes 0:2 and 0:3. Worker 2 finishes the task with one chunk without children, its result. The
-- caller collects that as 2:7, and deletes it.
abbrev pub example_events : {K : Type 0} → K → List (Event K)
example_events kind =
    Register 0 (id 0 2) [] ∷ Copy 0 (id 0 2) (id 0 3) ∷ Ask 0 4 kind (Held (id 0 2) ∷ Held (id 0 3) ∷ []) ∷ Start 1 4 ∷ GiveBack 1 4 ∷ Start 2 4 ∷ Delete 0 (id 0 2)
    ∷ Delete 0 (id 0 3) ∷ Finish 2 4 (childless ∷ []) [] (Chunk 0) ∷ Collect 0 4 (Held (id 2 7)) ∷ Delete 0 (id 2 7) ∷ []

-- what is known of an input without children
abbrev pub bare : Presence
bare = Present false false false false

-- where the plan allows one new chunk without children as the result, a replay takes these events, has drawn nine numbers, and nothing
-- is left
abbrev pub TakesExample : {K : Type 0} → Plans K → Type 0
TakesExample {K} plans =
    (kind : K) → is_one_of plans.same (shape_from (childless ∷ []) [] (Chunk 0)) (plans.plan kind (bare ∷ bare ∷ [])) ≡ true
    → replay plans (example_events kind) ≡ Some (record { drawn = 9; names = no_names; asks = map.empty; graph = no_tasks })
