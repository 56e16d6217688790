use Rattle.std.proofs.Common.{◌<◌, ◌*ℤ◌, rules, ◌∙◌, SFits, to_z-of_z}
use Rattle.std.specs.Int.{w128}
use Rattle.dense_def.specs.Matrix.{entry, sum_below}
use Rattle.dense_def.proofs.RowByRow.{tabulate_push}
use Rattle.dense_def.proofs.dense.Dense.push_row_of_product.Goals as goal

pub row_by_column-requires-clause-fits : goal.row_by_column-requires-clause-fits
row_by_column-requires-clause-fits c =
    let below : c.loop-column.column < c.args.other.now.columns = search rules in
    c.requires.fits c.args.row c.loop-column.column c.requires.row_in below

pub loop-column-preserved : goal.loop-column-preserved
loop-column-preserved c =
    let fits : SFits w128 c.row_by_column.result = search rules in
    tabulate_push _ _ _ _ (λ j. sum_below c.args.self.now.columns (λ k. entry c.args.self.now c.args.row k *ℤ entry c.args.other.now k j)) _ c.loop-column.invariant c.in_ok-push.ensures.items
    (to_z-of_z fits ∙ c.row_by_column.ensures)
