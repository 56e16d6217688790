use Rattle.std.proofs.Common.{arith, ◌≡◌, List, ℤ, sym, ap, subst, ◌∙◌}
use Rattle.std.specs.Prelude.{All}
use Rattle.std.proofs.lemmas.List.{with_items_is}
use Rattle.dense_def.specs.Matrix.{height}
use Rattle.dense_def.proofs.RowByRow.{Stores}
use Rattle.leaf_blocks.specs.Block.{IsSmall}
use Rattle.leaf_blocks.specs.Symmetric.{mirrored, FillsTriangle}
use Rattle.quad_symm.proofs.Blocks.{stores_at, made_symmetric, upper_fits, upper_product_is, upper_product_fills}
use Rattle.quad_symm.proofs.operations.symmetric_product.Goals as goal

pub upper_product_into-requires-clause-fits : goal.upper_product_into-requires-clause-fits
upper_product_into-requires-clause-fits c =
    let tall = c.side-side.ensures.tall in
    upper_fits c.args.a.now c.args.b.now c.side-side.result c.deref.result.now c.deref-2.result.now
    (stores_at _ _ _ _ tall c.deref.ensures.value c.entries-first.ensures.value)
    (stores_at _ _ _ _ (sym c.requires.sides ∙ tall) c.deref-2.ensures.value c.entries.ensures.value)
    c.requires.fits

-- the blocks as the loop saw them, and the numbers that it leaves
module _ (c : goal.After-from_vec) where
  tall : height c.args.a.now ≡ c.side-side.result
  tall = c.side-side.ensures.tall

  first : Stores c.deref.result.now c.side-side.result c.side-side.result c.args.a.now
  first = stores_at _ _ _ _ tall c.deref.ensures.value c.entries-first.ensures.value

  second : Stores c.deref-2.result.now c.side-side.result c.side-side.result c.args.b.now
  second = stores_at _ _ _ _ (sym c.requires.sides ∙ tall) c.deref-2.ensures.value c.entries.ensures.value

  kept : c.from_vec.result ≡ c.upper_product_into.new.out
  kept = c.from_vec.ensures
      ∙ with_items_is c.in_ok-numbers.numbers c.upper_product_into.new.out (omega (arith, c.upper_product_into.ensures.length, c.in_ok-numbers.ensures.len))

  fills : FillsTriangle c.side-side.result c.upper_product_into.new.out
  fills = upper_product_fills _ _ _ _ _ first second c.upper_product_into.new.out c.upper_product_into.ensures.sums c.upper_product_into.ensures.length c.requires.fits

pub new-requires-clause-small : goal.new-requires-clause-small
new-requires-clause-small c = subst (λ (xs : List ℤ). All IsSmall xs) (sym (kept c)) (fills c).small

pub returns-clause-whole : goal.returns-clause-whole
returns-clause-whole c =
    c.new.ensures ∙ ap (λ (xs : List ℤ). mirrored c.side-side.result xs) (kept c.before)
    ∙ upper_product_is _ _ _ _ _ (first c.before) (second c.before) c.upper_product_into.new.out c.upper_product_into.ensures.sums c.requires.symmetric

pub returns-clause-side : goal.returns-clause-side
returns-clause-side c = made_symmetric _ _ _ _ _ (tall c.before) (kept c.before) c.new.ensures (fills c.before)
