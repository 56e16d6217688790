use Rattle.std.proofs.Common.{rules, arith, FitsSigned, refl, ◌∙◌, ap₂}
use Rattle.std.specs.Int.{w128}
use Rattle.std.proofs.lemmas.Int.{to_z-of_z}
use Rattle.leaf_blocks.specs.Symmetric.{triangle_index}
use Rattle.leaf_blocks.proofs.Triangles.{mirrors, mirrored_within, mirrored_read, mirrored_small}
use Rattle.leaf_blocks.proofs.symmetric.SymLeaf.at.Goals as goal

pub triangle_index-requires-clause-within : goal.triangle_index-requires-clause-within
triangle_index-requires-clause-within c =
    let tall = (mirrors _ _ _ _ refl c.self.view_is).tall in
    omega (arith, tall, c.requires.row_in, c.requires.column_in, c.max-lower.ensures)

pub index-requires : goal.index-requires
index-requires c =
    let place = c.triangle_index.ensures ∙ ap₂ (triangle_index c.self.inside.side) c.min-upper.ensures c.max-lower.ensures in
    omega (arith, c.self.inside.entries.ok.0, place, mirrored_within _ _ _ (mirrors _ _ _ _ refl c.self.view_is) c.self.invariant _ _ c.requires.row_in c.requires.column_in)

pub returns-clause-value : goal.returns-clause-value
returns-clause-value c =
    let fits : FitsSigned w128 c.index.result.now = search rules in
    let place = c.triangle_index.ensures ∙ ap₂ (triangle_index c.self.inside.side) c.min-upper.ensures c.max-lower.ensures in
    to_z-of_z w128 _ fits
    ∙ mirrored_read _ _ _ (mirrors _ _ _ _ refl c.self.view_is) c.self.invariant _ _ c.requires.row_in c.requires.column_in _ _ place c.index.ensures

pub returns-clause-small : goal.returns-clause-small
returns-clause-small c =
    rw (returns-clause-value c) (mirrored_small _ _ _ (mirrors _ _ _ _ refl c.self.view_is) c.self.invariant _ _ c.requires.row_in c.requires.column_in)
