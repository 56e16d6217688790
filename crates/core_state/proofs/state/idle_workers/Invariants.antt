-- So far as many workers, none of which runs a task.
use Rattle.std.proofs.Common.{◌≡◌, length}
use Rattle.core_state.specs.Lists.{AreIdle}
use Rattle.core_state.proofs.state.idle_workers.Given as goal

abbrev pub invariant-loop-worker : goal.invariant-loop-worker
invariant-loop-worker l = record { workers : length l.running.items ≡ l._worker; idle : AreIdle l.running.items }
