use Rattle.std.proofs.Common.{arith, ◌*◌, ◌≤◌}
use Rattle.std.proofs.lemmas.Nat.{mul-le}
use Rattle.dense_def.specs.Matrix.{Matrix, height, peak_of, SumFits, ProductFits, TmulFits, MultFits}
use Rattle.dense_def.proofs.Peaks.{sum_fits, product_fits, tmul_fits, mult_fits, trace_fits}
use Rattle.leaf_blocks.specs.Block.{IsBlock}
use Rattle.call_tests.proofs.leaf_block_calls.textbook_values.Goals as goal

-- terms fit in blocks of side 2 with peaks of at most 3 and 4
module _ (a b : Matrix) (first : IsBlock 2 a) (second : IsBlock 2 b) (low : peak_of a ≤ 3) (high : peak_of b ≤ 4) where
  two_wide : a.columns * peak_of a * peak_of b ≤ 2 * 3 * 4
  two_wide = mul-le (a.columns * peak_of a) (peak_of b) (2 * 3) 4 (mul-le a.columns (peak_of a) 2 3 (omega (arith, first.wide)) low) high

  two_tall : height a * peak_of a * peak_of b ≤ 2 * 3 * 4
  two_tall = mul-le (height a * peak_of a) (peak_of b) (2 * 3) 4 (mul-le (height a) (peak_of a) 2 3 (omega (arith, first.tall)) low) high

  sums : SumFits a b
  sums = sum_fits a b (omega (arith, first.tall, second.tall)) (omega (arith, first.wide, second.wide)) (omega arith)

  products : ProductFits a b
  products = product_fits a b (omega (arith, first.wide, second.tall)) (omega (arith, two_wide))

  first_turned : TmulFits a b
  first_turned = tmul_fits a b (omega (arith, first.tall, second.tall)) (omega (arith, two_tall))

  second_turned : MultFits a b
  second_turned = mult_fits a b (omega (arith, first.wide, second.wide)) (omega (arith, two_wide))

pub trace-requires : goal.trace-requires
trace-requires g c =
    let a = c.in_ok-first.first in
    let block = c.in_ok-first.ensures.block in
    trace_fits a (omega (arith, block.tall, block.wide)) (omega (arith, mul-le (height a) (peak_of a) 2 3 (omega (arith, block.tall)) c.in_ok-first.ensures.peak))

pub add-requires-clause-fits : goal.add-requires-clause-fits
add-requires-clause-fits g c = sums _ _ c.in_ok-first.ensures.block c.in_ok-second.ensures.block c.in_ok-first.ensures.peak c.in_ok-second.ensures.peak

pub mul-requires-clause-fits : goal.mul-requires-clause-fits
mul-requires-clause-fits g c = products _ _ c.in_ok-first.ensures.block c.in_ok-second.ensures.block c.in_ok-first.ensures.peak c.in_ok-second.ensures.peak

pub tmul-requires-clause-fits : goal.tmul-requires-clause-fits
tmul-requires-clause-fits g c = first_turned _ _ c.in_ok-first.ensures.block c.in_ok-second.ensures.block c.in_ok-first.ensures.peak c.in_ok-second.ensures.peak

pub mult-requires-clause-fits : goal.mult-requires-clause-fits
mult-requires-clause-fits g c = second_turned _ _ c.in_ok-first.ensures.block c.in_ok-second.ensures.block c.in_ok-first.ensures.peak c.in_ok-second.ensures.peak
