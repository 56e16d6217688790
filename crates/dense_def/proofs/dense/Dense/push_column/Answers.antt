use Rattle.std.proofs.Common.{rules, ◌∙◌, SFits, to_z-of_z}
use Rattle.std.specs.Int.{w128}
use Rattle.dense_def.specs.Matrix.{entry}
use Rattle.dense_def.proofs.RowByRow.{tabulate_push}
use Rattle.dense_def.proofs.dense.Dense.push_column.Goals as goal

pub loop-row-preserved : goal.loop-row-preserved
loop-row-preserved c =
    let fits : SFits w128 c.at.result = search rules in
    tabulate_push _ _ _ _ (λ i. entry c.args.self.now i c.args.column) _ c.loop-row.invariant c.in_ok-push.ensures.items (to_z-of_z fits ∙ c.at.ensures)
