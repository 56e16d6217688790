-- All awaiters of a task, in one list.
use Rattle.std.specs.Prelude.{ℕ, suc, ◌==◌, if◌then◌else◌, List, [], ◌∷◌, ◌++◌, Option, None, Some}
use Rattle.std.specs.List.{flat_map}
use Rattle.std.specs.FinMap as map
use Rattle.task_states.specs.declared.states.Awaiter.{Awaiter}
use Rattle.task_states.specs.declared.states.Awaiter.TheVariants.{Input as AtInput, Asked}
use Rattle.task_states.specs.States.{Input, Known, Awaits, Unfinished, Graph, task_at}

module _ {X : Type 0} where
  -- the input of a task at a place, if it awaits another one
  abbrev pub input_awaiting : ℕ → ℕ → ℕ → Input X → List Awaiter
  input_awaiting task of place (Known x) = []
  input_awaiting task of place (Awaits awaited number) = if awaited == task then AtInput of place number ∷ [] else []

  -- the inputs of a task from a place on that await another one
  abbrev pub inputs_awaiting : ℕ → ℕ → ℕ → List (Input X) → List Awaiter
  inputs_awaiting task of place [] = []
  inputs_awaiting task of place (input ∷ inputs) = input_awaiting task of place input ++ inputs_awaiting task of (suc place) inputs

-- a caller that asked under a number, if it did
abbrev pub asked_under : ℕ → Option ℕ → List Awaiter
asked_under caller None = []
asked_under caller (Some number) = Asked caller number ∷ []

module _ {X K : Type 0} where
  -- the caller that asked for a task, if it did
  abbrev pub askers : Option (Unfinished X K) → List Awaiter
  askers None = []
  askers (Some task) = asked_under task.caller task.asked

  -- the inputs of a task with its number that await another one
  abbrev pub entry_awaiting : ℕ → ℕ × Unfinished X K → List Awaiter
  entry_awaiting task entry = inputs_awaiting task entry.0 0 entry.1.inputs

  -- all awaiters of a task: the inputs in the order of their tasks and places, and the caller that asked for it
  abbrev pub awaiters : Graph X K → ℕ → List Awaiter
  awaiters graph task = flat_map (entry_awaiting task) (map.entries graph.tasks) ++ askers (task_at graph task)
