use Rattle.std.proofs.Common.{rules, arith, FitsSigned, ◌∙◌}
use Rattle.std.specs.Int.{w128}
use Rattle.std.proofs.lemmas.Int.{to_z-of_z}
use Rattle.dense_def.proofs.Totals.{total_fits, total_more}
use Rattle.leaf_blocks.specs.Block.{place}
use Rattle.leaf_blocks.proofs.kernels.trace_of.Goals as goal

pub overflow_add-sum-in-loop-i : goal.overflow_add-sum-in-loop-i
overflow_add-sum-in-loop-i c =
    let fits : FitsSigned w128 (place c.args.side c.args.numbers.now c.loop-i.i c.loop-i.i) = search rules in
    total_fits c.loop-i.i c.args.side (λ i. place c.args.side c.args.numbers.now i i) _ _ c.requires.fits (omega arith) c.loop-i.invariant (to_z-of_z w128 _ fits)

pub loop-i-preserved : goal.loop-i-preserved
loop-i-preserved c =
    let fits : FitsSigned w128 (place c.args.side c.args.numbers.now c.loop-i.i c.loop-i.i) = search rules in
    to_z-of_z w128 _ (overflow_add-sum-in-loop-i c)
    ∙ total_more c.loop-i.i (λ i. place c.args.side c.args.numbers.now i i) _ _ c.loop-i.invariant (to_z-of_z w128 _ fits)
