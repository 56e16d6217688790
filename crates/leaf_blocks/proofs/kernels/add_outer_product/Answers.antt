use Rattle.std.proofs.Common.{rules, arith, ℤ, ◌+◌, ◌*◌, ◌<◌, ◌≤◌, length, FitsSigned, ◌∙◌, length-take, length-drop}
use Rattle.std.specs.Int.{w128}
use Rattle.leaf_blocks.specs.Block.{number_at}
use Rattle.leaf_blocks.proofs.Rows.{RowsWritten-more, RowsWritten-skip, row_within}
use Rattle.leaf_blocks.proofs.Terms.{outer_term_fits, outer_term_added, nothing_added}
use Rattle.leaf_blocks.proofs.kernels.add_outer_product.Goals as goal
use Rattle.leaf_blocks.proofs.kernels.add_outer_product.Goals.{then-factor-ne0, else-factor-ne0}

pub add_scaled-requires-clause-fits : goal.add_scaled-requires-clause-fits
add_scaled-requires-clause-fits c = λ j h.
    let fits : FitsSigned w128 (number_at c.args.factors.now c.loop-i.i) = search rules in
    let within : j < length c.args.other.now = omega (arith, length-take {A = ℤ}) in
    outer_term_fits _ _ _ _ _ _ _ _ (omega arith) fits within (c.loop-i.invariant.left c.loop-i.i j (omega arith) within) (c.requires.fits c.loop-i.i (omega arith) j within)

pub loop-i-preserved : goal.loop-i-preserved
loop-i-preserved c =
    let side = length c.args.other.now in
    let fits : FitsSigned w128 (number_at c.args.factors.now c.loop-i.i) = search rules in
    let row : c.loop-i.i * side + side ≤ length c.loop-i.out = omega (arith, row_within c.loop-i.i (length c.args.factors.now) side (omega arith)) in
    elim c.if-factor-ne0.branch [
      | then-factor-ne0 w ↦ rw w.out-is
          (RowsWritten-more _ _ _ _ _ _ _ c.loop-i.invariant (omega arith) (omega (arith, length-take {A = ℤ}, length-drop {A = ℤ})) (omega arith)
          (λ j h. w.add_scaled.ensures.sums j (omega (arith, length-take {A = ℤ}, length-drop {A = ℤ}))
          ∙ outer_term_added _ _ _ _ _ _ _ _ (omega arith) fits h (c.loop-i.invariant.left c.loop-i.i j (omega arith) h)))
      | else-factor-ne0 w ↦ rw w.out-is
          (RowsWritten-skip _ _ _ _ _ c.loop-i.invariant (λ j h. nothing_added _ _ _ fits w.if-factor-ne0.false))
    ]
