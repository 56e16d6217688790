use Rattle.std.proofs.Common.{arith, ℤ, ◌≡◌, ◌+◌, ◌-◌, ◌*◌, ◌<◌, refl, sym, ap, ◌∙◌, length-take, length-drop}
use Rattle.leaf_blocks.specs.Block.{number_at}
use Rattle.leaf_blocks.specs.Symmetric.{triangle_index}
use Rattle.leaf_blocks.proofs.Rows.{row_within, length-row}
use Rattle.leaf_blocks.proofs.Terms.{product_row_is, product_row_fits}
use Rattle.leaf_blocks.proofs.Triangles.{within_row}
use Rattle.quad_symm.proofs.Tails.{number_at-slice}
use Rattle.quad_symm.proofs.Written.{UpperWritten-more}
use Rattle.quad_symm.proofs.kernels.upper_product_into.Goals as goal

pub product_tail_into-requires-clause-empty : goal.product_tail_into-requires-clause-empty
product_tail_into-requires-clause-empty c = λ j h.
    let i = c.loop-i.i in
    let side = c.args.side in
    let from = c.row_start-from.result in
    let within : j < side - i = omega (arith, length-take {A = ℤ}) in
    let place : from + j ≡ triangle_index side i (i + j) = ap (λ p. p + j) c.row_start-from.ensures.start ∙ sym (within_row side i j (omega arith)) in
    number_at-slice c.loop-i.out from (from + (side - i) - from) j (omega arith)
    ∙ ap (number_at c.loop-i.out) place ∙ c.loop-i.invariant.left i (i + j) (omega arith) (omega arith) (omega arith)

pub product_tail_into-requires-clause-fits : goal.product_tail_into-requires-clause-fits
product_tail_into-requires-clause-fits c = λ j h.
    let i = c.loop-i.i in
    let side = c.args.side in
    let from = i * side in
    let row = row_within i side side (omega arith) in
    let within : j < side - i = omega (arith, length-take {A = ℤ}) in
    product_row_fits c.args.first.now c.args.second.now side i (i + j) (from + side - from) _ side (omega arith) (length-row c.args.first.now from side (omega arith)) refl
    (c.requires.fits i (i + j) (omega arith) (omega arith))

pub loop-i-preserved : goal.loop-i-preserved
loop-i-preserved c =
    let i = c.loop-i.i in
    let side = c.args.side in
    let from = i * side in
    let row = row_within i side side (omega arith) in
    UpperWritten-more _ _ _ _ _ _ _ _ c.loop-i.invariant (omega arith) c.row_start-from.ensures.start (omega arith) (omega arith) (omega (arith, length-take {A = ℤ}, length-drop {A = ℤ}))
    (λ q h. c.product_tail_into.ensures.sums q (omega (arith, length-take {A = ℤ}, length-drop {A = ℤ}))
    ∙ product_row_is c.args.first.now c.args.second.now side i (i + q) (from + side - from) _ side (omega arith) (length-row c.args.first.now from side (omega arith)) refl)
