use Rattle.std.proofs.Common.{◌≡◌, ◌++◌, ◌+◌, ◌*◌}
use Rattle.cht_load.specs.Draws.{state_after}
use Rattle.cht_load.specs.Script.{texts, row_text}
use Rattle.cht_load.proofs.script.push_matrix.Given as goal

abbrev pub invariant-loop-row : goal.invariant-loop-row
invariant-loop-row l = record {
  text : l.text.items ≡ l.initial.text.items ++ texts (λ r. row_text l.size l.fill (r + 1) (state_after l.fn.draws.state (r * (l.fill + 1)))) l.row;
  drawn : l.draws.state ≡ state_after l.fn.draws.state (l.row * (l.fill + 1));
}
