use Rattle.std.proofs.Common.{arith, ℤ, ◌+◌, ◌-◌, ◌*◌, ◌<◌, ◌∙◌, length-take, length-drop}
use Rattle.leaf_blocks.proofs.Rows.{RowsWritten-more, row_within, length-row}
use Rattle.leaf_blocks.proofs.Terms.{product_row_is, product_row_fits}
use Rattle.leaf_blocks.proofs.kernels.product_into.Goals as goal

pub product_row_into-requires-clause-fits : goal.product_row_into-requires-clause-fits
product_row_into-requires-clause-fits c = λ j h.
    let side = c.args.side in
    let from = c.loop-i.i * side in
    let row = row_within c.loop-i.i side side (omega arith) in
    let within : j < side = omega (arith, length-take {A = ℤ}) in
    product_row_fits c.args.first.now c.args.second.now side c.loop-i.i j (from + side - from) _ _ (omega arith) (length-row c.args.first.now from side (omega arith)) (length-row c.loop-i.out from side (omega arith))
    (c.requires.fits c.loop-i.i j (omega arith) within)

pub loop-i-preserved : goal.loop-i-preserved
loop-i-preserved c =
    let side = c.args.side in
    let from = c.loop-i.i * side in
    let row = row_within c.loop-i.i side side (omega arith) in
    RowsWritten-more _ _ _ _ _ _ _ c.loop-i.invariant (omega arith) (omega (arith, length-take {A = ℤ}, length-drop {A = ℤ})) (omega arith)
    (λ j h. c.product_row_into.ensures.sums j (omega (arith, length-take {A = ℤ}, length-drop {A = ℤ}))
    ∙ product_row_is c.args.first.now c.args.second.now side c.loop-i.i j (from + side - from) _ _ (omega arith) (length-row c.args.first.now from side (omega arith)) (length-row c.loop-i.out from side (omega arith)))
