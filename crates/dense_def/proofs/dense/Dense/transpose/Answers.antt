use Rattle.std.proofs.Common.{◌≡◌, arith, ◌∙◌}
use Rattle.dense_def.specs.Matrix.{entry}
use Rattle.dense_def.proofs.RowByRow.{stores, filled, filled_length}
use Rattle.dense_def.proofs.dense.Dense.transpose.Goals as goal

pub invariant_of-result : goal.invariant_of-result
invariant_of-result c =
    let s = stores _ _ _ _ c.self.view_is in
    let all : c.loop-column.column ≡ c.args.self.now.columns = omega arith in
    c.loop-column.entries.ok.0
    ∙ filled_length _ _ _ _ _ _ (λ j i. entry c.args.self.now i j) c.loop-column.invariant all s.wide s.tall

pub returns : goal.returns
returns c =
    let s = stores _ _ _ _ c.self.view_is in
    let all : c.loop-column.column ≡ c.args.self.now.columns = omega arith in
    filled _ _ _ _ _ _ (λ j i. entry c.args.self.now i j) c.loop-column.invariant all s.wide s.tall
