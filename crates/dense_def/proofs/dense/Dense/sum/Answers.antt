use Rattle.std.proofs.Common.{◌≡◌, ◌+ℤ◌, arith, ◌∙◌}
use Rattle.dense_def.specs.Matrix.{height, entry}
use Rattle.dense_def.proofs.RowByRow.{stores, filled, filled_length}
use Rattle.dense_def.proofs.dense.Dense.sum.Goals as goal

pub invariant_of-result : goal.invariant_of-result
invariant_of-result c =
    let s = stores _ _ _ _ c.self.view_is in
    let all : c.loop-row.row ≡ height c.args.self.now = omega arith in
    c.loop-row.entries.ok.0
    ∙ filled_length _ _ _ _ _ _ (λ i j. entry c.args.self.now i j +ℤ entry c.args.other.now i j) c.loop-row.invariant all s.tall s.wide

pub returns : goal.returns
returns c =
    let s = stores _ _ _ _ c.self.view_is in
    let all : c.loop-row.row ≡ height c.args.self.now = omega arith in
    filled _ _ _ _ _ _ (λ i j. entry c.args.self.now i j +ℤ entry c.args.other.now i j) c.loop-row.invariant all s.tall s.wide
