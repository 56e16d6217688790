-- What is left after a task was begun, or not.
use Rattle.std.specs.Prelude.{◌≡◌, Option, None, Some, Result, Ok, Err}
use Rattle.cht_ids.specs.declared.memory.Memory.{Memory}
use Rattle.task_types.specs.Meanings.{Meanings}
use Rattle.core_state.specs.Contents.{Contents}
use Rattle.cht_core.specs.declared.answers.Execution.{Execution}
use Rattle.cht_plain.specs.Alone.{seen_of, left, Executes}

module _ {L C K : Type 0} (lib : Meanings C K) (before after : Contents C K) where
  -- the worker runs what it began, and the caller sees no difference
  pub record HasBegun (started : Execution L C K) : Type 0 where
    pub executes : Executes lib after started
    pub seen : seen_of lib after ≡ seen_of lib before
    pub as_much : left lib after ≡ left lib before

  -- a task was begun, or memory was wanting and all is as before
  abbrev pub IsBegun : Result (Execution L C K) Memory → Type 0
  IsBegun (Ok started) = HasBegun started
  IsBegun (Err memory) = after ≡ before

  -- a task was begun, or none was, and all is as before
  abbrev pub IsTried : Result (Option (Execution L C K)) Memory → Type 0
  IsTried (Ok (Some started)) = HasBegun started
  IsTried (Ok None) = after ≡ before
  IsTried (Err memory) = after ≡ before
