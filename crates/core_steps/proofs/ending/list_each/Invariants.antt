use Rattle.std.proofs.Common.{◌≡◌, ◌+◌, ◌≤◌, ◌++◌, length, vec_len, vec_capacity}
use Rattle.core_steps.specs.Ending.{idle_numbers}
use Rattle.core_steps.proofs.ending.list_each.Given as goal

abbrev pub decreases-loop-task : goal.decreases-loop-task
decreases-loop-task g l = length l.left

abbrev pub invariant-loop-task : goal.invariant-loop-task
invariant-loop-task g l = record {
  room : vec_len l.ready + length l.unread ≤ vec_capacity l.ready;
  len : vec_len l.ready + length l.unread ≤ vec_len l.fn.ready + length l.fn.numbers;
  capacity : vec_capacity l.ready ≡ vec_capacity l.fn.ready;
  listed : l.ready.items ++ idle_numbers l.left l.unread ≡ l.fn.ready.items ++ idle_numbers l.fn.tasks l.fn.numbers;
}
