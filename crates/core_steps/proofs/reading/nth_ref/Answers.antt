use Rattle.std.proofs.Common.{sym}
use Rattle.core_steps.proofs.Places.{ref_none, ref_some}
use Rattle.core_steps.proofs.reading.nth_ref.Goals as goal

pub returns-in-None : goal.returns-in-None
returns-in-None c = ref_none c.args.refs.now c.args.i (sym c.in-None.ensures)

pub returns-in-Some : goal.returns-in-Some
returns-in-Some c = ref_some c.args.refs.now c.args.i c.in-Some.r.now (sym c.in-Some.ensures)
