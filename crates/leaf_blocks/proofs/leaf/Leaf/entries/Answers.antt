use Rattle.std.proofs.Common.{sym, ap, subst, ◌∙◌}
use Rattle.dense_def.specs.Matrix.{row_by_row}
use Rattle.dense_def.proofs.RowByRow.{stores}
use Rattle.leaf_blocks.specs.Block.{FillsSquare}
use Rattle.leaf_blocks.proofs.leaf.Leaf.entries.Goals as goal

pub returns-clause-value : goal.returns-clause-value
returns-clause-value c =
    let tall = (stores _ _ _ _ c.self.view_is).tall in
    ap (λ n. row_by_row n n c.self.inside.entries.items) tall ∙ c.self.view_is

pub returns-clause-fills : goal.returns-clause-fills
returns-clause-fills c =
    let tall = (stores _ _ _ _ c.self.view_is).tall in
    subst (λ n. FillsSquare n c.self.inside.entries.items) (sym tall) c.self.invariant
