use Rattle.std.proofs.Common.{◌<◌, ◌+ℤ◌, rules, ◌∙◌, ap₂, SFits, to_z-of_z}
use Rattle.std.specs.Int.{w128}
use Rattle.dense_def.specs.Matrix.{entry}
use Rattle.dense_def.proofs.RowByRow.{tabulate_push}
use Rattle.dense_def.proofs.Totals.{two_fit}
use Rattle.dense_def.proofs.dense.Dense.push_row_of_sum.Goals as goal

pub loop-column-preserved : goal.loop-column-preserved
loop-column-preserved c =
    let left : SFits w128 c.at.result = search rules in
    let right : SFits w128 c.at-in-loop-column.result = search rules in
    let below : c.loop-column.column < c.args.self.now.columns = search rules in
    let l = to_z-of_z left ∙ c.at.ensures in
    let r = to_z-of_z right ∙ c.at-in-loop-column.ensures in
    tabulate_push _ _ _ _ (λ j. entry c.args.self.now c.args.row j +ℤ entry c.args.other.now c.args.row j) _ c.loop-column.invariant c.in_ok-push.ensures.items
    (to_z-of_z (two_fit _ _ _ _ l r (c.requires.fits c.args.row c.loop-column.column c.requires.row_in below)) ∙ ap₂ ◌+ℤ◌ l r)
