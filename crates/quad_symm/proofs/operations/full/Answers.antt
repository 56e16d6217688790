use Rattle.std.proofs.Common.{◌≡◌, List, ℤ, sym, ap, subst, ◌∙◌}
use Rattle.std.specs.Prelude.{All}
use Rattle.dense_def.specs.Matrix.{height, row_by_row, IsSymmetric}
use Rattle.leaf_blocks.specs.Block.{IsSmall, FillsSquare}
use Rattle.leaf_blocks.proofs.Triangles.{Mirrors}
use Rattle.quad_symm.proofs.Blocks.{mirrors_at, triangle_at, made_block, whole_is, whole_fills}
use Rattle.quad_symm.proofs.operations.full.Goals as goal

-- the block as the loop saw it, and the numbers that it made
module _ (c : goal.After-from_vec) where
  tall : height c.args.s.now ≡ c.side-side.result
  tall = c.side-side.ensures.square.tall

  seen : Mirrors c.deref.result.now c.side-side.result c.args.s.now
  seen = mirrors_at _ _ _ _ tall c.deref.ensures.value c.entries-upper.ensures.value

  fills : FillsSquare c.side-side.result c.in_ok-numbers.numbers.items
  fills = whole_fills _ _ _ _ seen c.in_ok-numbers.ensures.numbers (sym c.in_ok-numbers.numbers.ok.0 ∙ c.in_ok-numbers.ensures.length)
      (triangle_at _ _ _ _ tall c.deref.ensures.value c.entries-upper.ensures.fills)

pub new-requires-clause-small : goal.new-requires-clause-small
new-requires-clause-small c = subst (λ (xs : List ℤ). All IsSmall xs) (sym c.from_vec.ensures) (fills c).small

pub returns-clause-whole : goal.returns-clause-whole
returns-clause-whole c =
    c.new.ensures ∙ ap (λ (xs : List ℤ). row_by_row c.side-side.result c.side-side.result xs) c.from_vec.ensures
    ∙ whole_is _ _ _ _ (seen c.before) c.in_ok-numbers.ensures.numbers

pub returns-clause-side : goal.returns-clause-side
returns-clause-side c = record {
  square = made_block _ _ _ _ _ (tall c.before) c.from_vec.ensures c.new.ensures (fills c.before);
  symmetric = subst IsSymmetric (sym (returns-clause-whole c)) (seen c.before).symmetric;
}
