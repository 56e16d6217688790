use Rattle.std.proofs.Common.{◌≡◌, ◌≤◌, drop}
use Rattle.cht_session.proofs.Underway.{IsUnderway}
use Rattle.cht_session.proofs.run.run_statements.Given as goal

abbrev pub invariant-loop-step : goal.invariant-loop-step
invariant-loop-step g l = record {
  same : l.step-items ≡ l.fn.checked.steps;
  later : g.K.Sink.faults l.fn.out ≤ g.K.Sink.faults l.out;
  underway :
      IsUnderway l.fn.checked.grid l.fn.checked.leaf l.fn.checked.height l.fn.checked.steps (drop l.step-index l.step-items)
      (g.E.Engine.seen l.fn.engine) (g.E.Engine.seen l.engine) l.held (g.K.Sink.took l.fn.out) (g.K.Sink.took l.out);
}
