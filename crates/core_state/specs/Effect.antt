-- What the outcome of a task wants, and what it makes of the control state.
use Rattle.std.specs.Prelude.{◌≡◌, ◌≢◌, ℕ, ◌<◌, ◌≤◌, List, [], length, map as each, vec_capacity, Option, None, Some}
use Rattle.std.specs.Ordering.{nat_cmp}
use Rattle.std.specs.FinMap as map
use Rattle.cht_ids.specs.declared.refs.Ref.{Ref}
use Rattle.task_types.specs.declared.outcome.Place.{Place}
use Rattle.task_types.specs.declared.outcome.Place.TheVariants.{Null, Input, Child, Chunk, Task}
use Rattle.name_states.specs.States.{NameState}
use Rattle.task_states.specs.States.{Unfinished, Graph, task_at, caller_of}
use Rattle.task_graph.specs.Contents.{AreOfOneCaller, IsAskedOnce}
use Rattle.name_machine.specs.States.{Ask}
use Rattle.name_machine.specs.NewTasks.{number_at}
use Rattle.name_machine.specs.Control.{Control, ref_known}
use Rattle.core_state.specs.declared.finish.Space.{Space}

-- a control state of its fields
abbrev pub control_of : {C K : Type 0} → ℕ → NameState C → map.FinMap nat_cmp (Ask (Unit {0}) Ref) → Graph Ref K → Control C (Unit {0}) K
control_of drawn names asks graph = record { drawn = drawn; names = names; asks = asks; graph = graph }

-- the number of the new task whose output a place is, if it is one
abbrev pub task_named : List ℕ → Place → Option ℕ
task_named numbers Null = None
task_named numbers (Input i) = None
task_named numbers (Child i j) = None
task_named numbers (Chunk i) = None
task_named numbers (Task i) = Some (number_at numbers i)

module _ {K : Type 0} where
  -- What an outcome fills: the task's caller and the references of its inputs are there, and the rest is empty and has room for so many new
  -- chunks and new tasks.
  pub record HasRoom (graph : Graph Ref K) (task new_chunks new_tasks : ℕ) (space : Space) : Type 0 where
    pub caller : caller_of graph task ≡ Some space.caller
    pub inputs : (ran : Unfinished Ref K) → task_at graph task ≡ Some ran → space.inputs.items ≡ each ref_known ran.inputs
    pub made : space.made.items ≡ []
    pub numbers : space.numbers.items ≡ []
    pub chunks : new_chunks ≤ vec_capacity space.made
    pub tasks : new_tasks ≤ vec_capacity space.numbers

  -- where the result of a task is the output of a new one, all that awaits the task may be handed to that one
  pub record CanForward (graph : Graph Ref K) (task : ℕ) (numbers : List ℕ) (i : ℕ) : Type 0 where
    pub within : i < length numbers
    pub callers : AreOfOneCaller graph task (number_at numbers i)
    pub apart : task ≢ number_at numbers i
    pub asked : IsAskedOnce graph task (number_at numbers i)
