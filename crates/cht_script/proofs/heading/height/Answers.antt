use Rattle.std.proofs.Common.{arith, below_more}
use Rattle.cht_script.proofs.Headings.{doubled}
use Rattle.cht_script.proofs.heading.height.Goals as goal

pub loop-side-preserved : goal.loop-side-preserved
loop-side-preserved c = record {
  doubled = doubled c.loop-side.side c.args.leaf c.loop-side.height c.loop-side.invariant.doubled;
  room = omega arith;
  least = below_more _ _ c.loop-side.invariant.least (omega arith);
}
