use Rattle.std.proofs.Common.{rules, arith, FitsSigned, ◌∙◌}
use Rattle.std.specs.Int.{w128}
use Rattle.std.proofs.lemmas.Int.{to_z-of_z}
use Rattle.dense_def.proofs.RowByRow.{stores}
use Rattle.leaf_blocks.proofs.Squares.{place_within, place_read, place_small}
use Rattle.leaf_blocks.proofs.leaf.Leaf.at.Goals as goal

pub index-requires : goal.index-requires
index-requires c =
    omega (arith, c.self.inside.entries.ok.0, place_within _ _ _ (stores _ _ _ _ c.self.view_is) c.self.invariant _ _ c.requires.row_in c.requires.column_in)

pub returns-clause-value : goal.returns-clause-value
returns-clause-value c =
    let fits : FitsSigned w128 c.index.result.now = search rules in
    to_z-of_z w128 _ fits ∙ place_read _ _ _ (stores _ _ _ _ c.self.view_is) c.self.invariant _ _ c.requires.row_in c.requires.column_in _ c.index.ensures

pub returns-clause-small : goal.returns-clause-small
returns-clause-small c =
    rw (returns-clause-value c) (place_small _ _ _ (stores _ _ _ _ c.self.view_is) c.self.invariant _ _ c.requires.row_in c.requires.column_in)
