use Rattle.std.proofs.Common.{rules, arith, FitsSigned, ap, ◌∙◌}
use Rattle.std.specs.Int.{w128}
use Rattle.leaf_blocks.specs.Block.{number_at}
use Rattle.leaf_blocks.proofs.Terms.{row_term_fits, row_term_added, row_term_skipped}
use Rattle.leaf_blocks.proofs.kernels.add_terms.Goals as goal
use Rattle.leaf_blocks.proofs.kernels.add_terms.Goals.{then-factor-ne0, else-factor-ne0}

pub add_scaled-requires-clause-fits : goal.add_scaled-requires-clause-fits
add_scaled-requires-clause-fits c = λ j h.
    let fits : FitsSigned w128 (number_at c.args.factors.now c.loop-k.k) = search rules in
    row_term_fits c.args.factors.now c.args.other.now _ j c.loop-k.k _ (omega arith) fits (omega arith) _ _ (c.loop-k.invariant j h) (omega arith) (c.requires.fits j (omega arith))

pub loop-k-preserved : goal.loop-k-preserved
loop-k-preserved c = λ j h.
    let fits : FitsSigned w128 (number_at c.args.factors.now c.loop-k.k) = search rules in
    elim c.if-factor-ne0.branch [
      | then-factor-ne0 w ↦
          row_term_added c.args.factors.now c.args.other.now _ j c.loop-k.k _ (omega arith) fits (omega arith) _ _ (c.loop-k.invariant j (omega arith))
          (ap (λ row. number_at row j) w.row-is ∙ w.add_scaled.ensures.sums j (omega arith))
      | else-factor-ne0 w ↦
          row_term_skipped c.args.factors.now c.args.other.now _ j c.loop-k.k fits w.if-factor-ne0.false _ _ (c.loop-k.invariant j (omega arith))
          (ap (λ row. number_at row j) w.row-is)
    ]
