use Rattle.std.proofs.Common.{◌≡◌, ◌++◌, suc}
use Rattle.cht_load.specs.Draws.{state_after}
use Rattle.cht_load.specs.Script.{texts, entry_line, column_of, value_of}
use Rattle.cht_load.proofs.script.push_row.Given as goal

abbrev pub invariant-loop-number : goal.invariant-loop-number
invariant-loop-number l = record {
  text : l.text.items ≡ l.initial.text.items ++ texts (λ k. entry_line l.row (column_of l.size l.fill l.fn.draws.state k) (value_of l.fn.draws.state k)) l.number;
  drawn : l.draws.state ≡ state_after l.fn.draws.state (suc l.number);
}
