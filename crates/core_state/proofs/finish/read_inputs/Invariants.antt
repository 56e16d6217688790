use Rattle.std.proofs.Common.{◌≡◌, ◌-◌, ◌≤◌, length, take}
use Rattle.std.proofs.Common.{map as each}
use Rattle.name_machine.specs.Control.{ref_known}
use Rattle.task_graph.specs.Rows.{unfinished_in}
use Rattle.core_state.proofs.finish.read_inputs.Given as goal

abbrev pub decreases-loop-slot : goal.decreases-loop-slot
decreases-loop-slot g l = 4 - l.place

abbrev pub invariant-loop-slot : goal.invariant-loop-slot
invariant-loop-slot g l = record {
  row : l.row ≡ l.fn.row;
  far : l.place ≤ 4;
  within : l.place ≤ length (unfinished_in l.fn.row).inputs;
  read : l.inputs.items ≡ each ref_known (take l.place (unfinished_in l.fn.row).inputs);
}
