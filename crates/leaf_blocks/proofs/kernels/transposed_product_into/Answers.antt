use Rattle.std.proofs.Common.{arith, ℤ, ◌<◌, length-take, length-drop}
use Rattle.leaf_blocks.proofs.Rows.{row_within, length-row}
use Rattle.leaf_blocks.proofs.Terms.{transposed_term_fits, transposed_term_added}
use Rattle.leaf_blocks.proofs.kernels.transposed_product_into.Goals as goal

pub add_outer_product-requires-clause-fits : goal.add_outer_product-requires-clause-fits
add_outer_product-requires-clause-fits c = λ i h j k.
    let row = row_within c.loop-k.k c.args.side c.args.side (omega arith) in
    let within : i < c.args.side = omega (arith, length-take {A = ℤ}) in
    let column : j < c.args.side = omega (arith, length-take {A = ℤ}) in
    transposed_term_fits _ _ _ _ _ _ _ _ _ (omega arith) (length-row _ _ _ (omega arith)) within column (c.loop-k.invariant i j within column) (omega arith) (c.requires.fits i j within column)

pub loop-k-preserved : goal.loop-k-preserved
loop-k-preserved c = λ i j h k.
    let row = row_within c.loop-k.k c.args.side c.args.side (omega arith) in
    transposed_term_added _ _ _ _ _ _ _ _ _ (omega arith) (length-row _ _ _ (omega arith)) h k (c.loop-k.invariant i j h k) _
    (c.add_outer_product.ensures.sums i (omega (arith, length-take {A = ℤ}, length-drop {A = ℤ})) j (omega (arith, length-take {A = ℤ}, length-drop {A = ℤ})))
