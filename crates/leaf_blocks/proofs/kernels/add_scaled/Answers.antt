use Rattle.std.proofs.Common.{rules, arith, FitsSigned}
use Rattle.std.specs.Int.{w128}
use Rattle.leaf_blocks.specs.Block.{number_at}
use Rattle.leaf_blocks.proofs.Rows.{WrittenBelow-more}
use Rattle.leaf_blocks.proofs.Terms.{multiply_add}
use Rattle.leaf_blocks.proofs.kernels.add_scaled.Goals as goal

pub loop-j-preserved : goal.loop-j-preserved
loop-j-preserved c =
    let fits : FitsSigned w128 (number_at c.args.other.now c.loop-j.j) = search rules in
    WrittenBelow-more _ _ _ _ _ c.loop-j.invariant (omega arith)
    (multiply_add _ _ _ _ (c.loop-j.invariant.left c.loop-j.j (omega arith)) c.ranges.factor fits (c.requires.fits c.loop-j.j (omega arith)))
