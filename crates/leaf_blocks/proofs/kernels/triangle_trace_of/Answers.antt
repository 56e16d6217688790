use Rattle.std.proofs.Common.{rules, arith, FitsSigned, ap, ◌∙◌}
use Rattle.std.specs.Int.{w128}
use Rattle.std.proofs.lemmas.Int.{to_z-of_z}
use Rattle.dense_def.proofs.Totals.{total_fits, total_more}
use Rattle.leaf_blocks.specs.Block.{number_at}
use Rattle.leaf_blocks.specs.Symmetric.{triangle_index}
use Rattle.leaf_blocks.proofs.Triangles.{index_within}
use Rattle.leaf_blocks.proofs.kernels.triangle_trace_of.Goals as goal

pub bounds-numbers-triangle_index : goal.bounds-numbers-triangle_index
bounds-numbers-triangle_index c =
    rw (c.triangle_index.ensures, c.requires.full) (index_within c.args.side c.loop-i.i c.loop-i.i (omega arith) (omega arith))

pub overflow_add-sum : goal.overflow_add-sum
overflow_add-sum c =
    let fits : FitsSigned w128 (number_at c.args.numbers.now c.triangle_index.result) = search rules in
    total_fits c.loop-i.i c.args.side (λ i. number_at c.args.numbers.now (triangle_index c.args.side i i)) _ _ c.requires.fits (omega arith) c.loop-i.invariant
    (to_z-of_z w128 _ fits ∙ ap (number_at c.args.numbers.now) c.triangle_index.ensures)

pub loop-i-preserved : goal.loop-i-preserved
loop-i-preserved c =
    let fits : FitsSigned w128 (number_at c.args.numbers.now c.triangle_index.result) = search rules in
    to_z-of_z w128 _ (overflow_add-sum c)
    ∙ total_more c.loop-i.i (λ i. number_at c.args.numbers.now (triangle_index c.args.side i i)) _ _ c.loop-i.invariant
    (to_z-of_z w128 _ fits ∙ ap (number_at c.args.numbers.now) c.triangle_index.ensures)
