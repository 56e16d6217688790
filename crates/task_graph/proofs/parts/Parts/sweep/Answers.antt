use Rattle.std.proofs.Common.{refl, subst, arith}
use Rattle.task_graph.specs.Sweeping.{IsSwept}
use Rattle.task_graph.proofs.Sweeps.{swept_none, swept_more}
use Rattle.task_graph.proofs.parts.Parts.sweep.Goals as goal

pub loop-next-init : goal.loop-next-init
loop-next-init g c = (swept_none c.args.self.now c.args.caller c.requires.whole c.get-row.result c.get-row.ensures, refl, omega arith, omega arith)

pub loop-next-preserved : goal.loop-next-preserved
loop-next-preserved g c =
    let swept = subst (IsSwept c.args.self.now c.loop-next.self c.args.caller) c.in-Some.is c.loop-next.invariant.0 in
    let len = c.remove-entry.ensures.len in
    let room = c.remove-entry.ensures.room in
    let low = c.loop-next.invariant.2 in
    let more = c.loop-next.invariant.3 in (
      swept_more c.args.self.now c.args.caller c.requires.whole c.loop-next.self (record c.loop-next.self { entries = c.remove-entry.new.self }) c.in-Some.task c.remove-entry.result swept c.remove-entry.ensures.entry c.remove-entry.ensures.at,
      c.loop-next.invariant.1,
      omega arith,
      omega arith,
    )
