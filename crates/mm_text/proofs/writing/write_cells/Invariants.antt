use Rattle.std.proofs.Common.{◌≤◌}
use Rattle.cht_io.proofs.Adds.{IsCut}
use Rattle.mm_text.proofs.Passing.{text_so_far}
use Rattle.mm_text.proofs.writing.write_cells.Given as goal

abbrev pub invariant-loop-cell : goal.invariant-loop-cell
invariant-loop-cell g l = record {
  later : g.K.Sink.faults l.fn.sink ≤ g.K.Sink.faults l.sink;
  cut : IsCut (g.K.Sink.took l.fn.sink) (text_so_far l.fn.text l.cells l.cell-index) l.text (g.K.Sink.took l.sink);
}
