use Rattle.std.proofs.Common.{rules, arith, [], ◌+ℤ◌, FitsSigned, length, ap, ap₂, ◌∙◌}
use Rattle.std.specs.Int.{w128}
use Rattle.std.proofs.lemmas.Int.{to_z-of_z}
use Rattle.dense_def.proofs.Entries.{length-tabulate}
use Rattle.dense_def.proofs.RowByRow.{tabulate_push}
use Rattle.dense_def.proofs.Totals.{two_fit}
use Rattle.leaf_blocks.specs.Block.{number_at}
use Rattle.leaf_blocks.proofs.kernels.sum_of.Goals as goal

pub push_reserved-requires : goal.push_reserved-requires
push_reserved-requires c =
    omega (arith, c.loop-i.sum.ok.0, simp length-tabulate at (ap length c.loop-i.invariant.1))

pub loop-i-preserved : goal.loop-i-preserved
loop-i-preserved c =
    let i = c.loop-i.i in
    let first : FitsSigned w128 (number_at c.args.first.now i) = search rules in
    let second : FitsSigned w128 (number_at c.args.second.now i) = search rules in
    let fit = two_fit _ _ _ _ (to_z-of_z w128 _ first) (to_z-of_z w128 _ second) (c.requires.fits i (omega arith)) in (
      c.push_reserved.ensures.capacity ∙ c.loop-i.invariant.0,
      tabulate_push [] _ _ i (λ i. number_at c.args.first.now i +ℤ number_at c.args.second.now i) _ c.loop-i.invariant.1 c.push_reserved.ensures.items
          (to_z-of_z w128 _ fit ∙ ap₂ ◌+ℤ◌ (to_z-of_z w128 _ first) (to_z-of_z w128 _ second)),
    )
