-- What the tests know of a core between its calls.
use Rattle.std.specs.Prelude.{◌≡◌, ℕ, ◌^◌, ◌≤◌, false, Some, unsigned_abs}
use Rattle.std.specs.FinMap as map
use Rattle.cht_ids.specs.declared.refs.Id.{Id}
use Rattle.cht_ids.specs.declared.refs.Ref.TheVariants.{Id as Held}
use Rattle.task_types.specs.declared.outcome.Outcome.{Outcome}
use Rattle.task_types.specs.Tree.{Tree, Nothing, child}
use Rattle.task_types.specs.Sound.{IsSound}
use Rattle.task_states.specs.States.{Unfinished, task_at, is_stopped}
use Rattle.name_machine.specs.States.{Machine, Holds, tree_named, Runs}
use Rattle.name_machine.specs.Steps.{input_trees}
use Rattle.name_machine.specs.Parts.{asks_of}
use Rattle.core_state.specs.Contents.{Contents}
use Rattle.cht_core.specs.Events.{state}
use Rattle.quad_matrix.specs.declared.chunk.MatChunk.{MatChunk}
use Rattle.quad_matrix.specs.declared.kind.MatKind.{MatKind}
use Rattle.quad_matrix.specs.Chunks.{arity_of}
use Rattle.quad_matrix.specs.Blocks.{IsNumber, number_of}
use Rattle.quad_matrix.specs.Matrices.{matrices}

-- the state that a core of matrices stands for
abbrev pub state_of : Contents MatChunk MatKind → Machine MatChunk MatKind
state_of core = state matrices core

-- a core with one caller and three workers
pub record IsTried (core : Contents MatChunk MatKind) : Type 0 where
  pub callers : core.callers ≡ 1
  pub workers : core.workers ≡ 3

-- such a core whose caller is not stopped
pub record GoesOn (core : Contents MatChunk MatKind) : Type 0 where
  pub tried : IsTried core
  pub going : is_stopped (state_of core).graph 0 ≡ false

-- such a core whose caller asked a task and has not collected its output
pub record Awaits (task : ℕ) (core : Contents MatChunk MatKind) : Type 0 where
  pub tried : IsTried core
  pub goal : Tree MatChunk
  pub there : map.get (asks_of (state_of core).asks 0) task ≡ Some goal

-- a tree has no children
pub record HasNoChildren (tree : Tree MatChunk) : Type 0 where
  pub first : child tree 0 ≡ Nothing
  pub second : child tree 1 ≡ Nothing
  pub third : child tree 2 ≡ Nothing
  pub fourth : child tree 3 ≡ Nothing

-- the caller holds an identifier, which names a number of at most 2 ^ 62 in absolute value
pub record NamesNumber (core : Contents MatChunk MatKind) (id : Id) : Type 0 where
  pub held : Holds (state_of core) 0 id
  pub number : IsNumber (tree_named (state_of core) (Held id))
  pub small : unsigned_abs (number_of (tree_named (state_of core) (Held id))) ≤ 2 ^ 62

-- a worker runs a task, for which an outcome is sound
abbrev pub MayFinish : Contents MatChunk MatKind → ℕ → Outcome MatChunk MatKind → Type 0
MayFinish core worker outcome =
    (task : ℕ) × (unfinished : Unfinished (Tree MatChunk) MatKind) × Runs (state_of core) worker task
    × (task_at (state_of core).graph task ≡ Some unfinished) × IsSound arity_of matrices unfinished.kind (input_trees unfinished) outcome
