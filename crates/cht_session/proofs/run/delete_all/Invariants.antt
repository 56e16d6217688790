use Rattle.std.proofs.Common.{drop}
use Rattle.cht_session.proofs.Turning.{IsEmptying}
use Rattle.cht_session.proofs.run.delete_all.Given as goal

abbrev pub invariant-loop-r : goal.invariant-loop-r
invariant-loop-r g l = IsEmptying (g.E.Engine.seen l.fn.engine) (g.E.Engine.seen l.engine) l.order (drop l.r-index l.order)
