use Rattle.std.proofs.Common.{arith, ◌≡◌, ◌*ℤ◌, List, ℤ, length, ap, sym, subst, ◌∙◌}
use Rattle.std.specs.Vec.{with_items}
use Rattle.std.proofs.lemmas.List.{with_items_is}
use Rattle.dense_def.specs.Matrix.{row_by_row}
use Rattle.dense_def.proofs.RowByRow.{Stores, stores}
use Rattle.leaf_blocks.specs.Block.{place, FillsSquare}
use Rattle.leaf_blocks.proofs.Squares.{seen, result_block, other_full, tmul_fits, tmul_is, tmul_entries, sums_fill}
use Rattle.leaf_blocks.proofs.leaf.Leaf.tmul.Goals as goal

pub transposed_product_into-requires-clause-second_full : goal.transposed_product_into-requires-clause-second_full
transposed_product_into-requires-clause-second_full c =
    ap length c.deref-2.ensures.value ∙ other_full _ _ _ _ _ _ (stores _ _ _ _ c.self.view_is) (stores _ _ _ _ c.other.view_is) c.requires.sides c.other.invariant

pub transposed_product_into-requires-clause-fits : goal.transposed_product_into-requires-clause-fits
transposed_product_into-requires-clause-fits c =
    tmul_fits c.args.self.now c.args.other.now c.self.inside.side c.other.inside.side c.deref.result.now c.deref-2.result.now
    (seen _ _ _ _ c.deref.ensures.value c.self.view_is) (seen _ _ _ _ c.deref-2.ensures.value c.other.view_is) c.requires.sides c.requires.fits

-- the blocks as the kernel saw them, and the vector that it leaves
module _ (c : goal.After-entries-3-1) where
  first : Stores c.deref.result.now c.self.inside.side c.self.inside.side c.args.self.now
  first = seen _ _ _ _ c.deref.ensures.value c.self.view_is

  second : Stores c.deref-2.result.now c.other.inside.side c.other.inside.side c.args.other.now
  second = seen _ _ _ _ c.deref-2.ensures.value c.other.view_is

  kept : (with_items c.in_ok-entries.entries c.transposed_product_into.new.out).items ≡ c.transposed_product_into.new.out
  kept = with_items_is c.in_ok-entries.entries c.transposed_product_into.new.out
      (omega (arith, c.transposed_product_into.ensures.length, c.in_ok-entries.ensures.len, c.len.ensures, c.self.inside.entries.ok.0, c.self.invariant.full))

pub invariant_of-result : goal.invariant_of-result
invariant_of-result c =
    let side = c.self.inside.side in
    subst (λ (xs : List ℤ). FillsSquare side xs) (sym (kept c))
    (sums_fill side c.transposed_product_into.new.out (λ i j k. place side c.deref.result.now k i *ℤ place side c.deref-2.result.now k j) c.transposed_product_into.ensures.length c.transposed_product_into.ensures.sums
    (tmul_fits _ _ _ _ _ _ (first c) (second c) c.requires.sides c.requires.fits))

pub returns-clause-whole : goal.returns-clause-whole
returns-clause-whole c =
    ap (λ (xs : List ℤ). row_by_row c.self.inside.side c.self.inside.side xs) (kept c)
    ∙ tmul_is _ _ _ _ c.deref.result.now c.deref-2.result.now (first c) (second c) c.requires.sides c.transposed_product_into.new.out c.transposed_product_into.ensures.sums

pub returns-clause-places : goal.returns-clause-places
returns-clause-places c =
    tmul_entries c.args.self.now c.args.other.now ((first c).wide ∙ sym (first c).tall) ((second c).wide ∙ sym (second c).tall) c.requires.sides _ (returns-clause-whole c)

pub returns-clause-side : goal.returns-clause-side
returns-clause-side c = result_block _ _ _ _ (first c) (invariant_of-result c)
