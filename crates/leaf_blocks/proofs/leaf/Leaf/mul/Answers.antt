use Rattle.std.proofs.Common.{arith, ◌≡◌, ◌*ℤ◌, List, ℤ, length, ap, sym, subst, ◌∙◌}
use Rattle.std.specs.Vec.{with_items}
use Rattle.std.proofs.lemmas.List.{with_items_is}
use Rattle.dense_def.specs.Matrix.{row_by_row}
use Rattle.dense_def.proofs.RowByRow.{Stores, stores}
use Rattle.leaf_blocks.specs.Block.{place, FillsSquare}
use Rattle.leaf_blocks.proofs.Squares.{seen, result_block, other_full, times_fits, times_is, times_entries, sums_fill}
use Rattle.leaf_blocks.proofs.leaf.Leaf.mul.Goals as goal

pub product_into-requires-clause-second_full : goal.product_into-requires-clause-second_full
product_into-requires-clause-second_full c =
    ap length c.deref-2.ensures.value ∙ other_full _ _ _ _ _ _ (stores _ _ _ _ c.self.view_is) (stores _ _ _ _ c.other.view_is) c.requires.sides c.other.invariant

pub product_into-requires-clause-fits : goal.product_into-requires-clause-fits
product_into-requires-clause-fits c =
    times_fits c.args.self.now c.args.other.now c.self.inside.side c.other.inside.side c.deref.result.now c.deref-2.result.now
    (seen _ _ _ _ c.deref.ensures.value c.self.view_is) (seen _ _ _ _ c.deref-2.ensures.value c.other.view_is) c.requires.sides c.requires.fits

-- the blocks as the kernel saw them, and the vector that it leaves
module _ (c : goal.After-entries-3-1) where
  first : Stores c.deref.result.now c.self.inside.side c.self.inside.side c.args.self.now
  first = seen _ _ _ _ c.deref.ensures.value c.self.view_is

  second : Stores c.deref-2.result.now c.other.inside.side c.other.inside.side c.args.other.now
  second = seen _ _ _ _ c.deref-2.ensures.value c.other.view_is

  kept : (with_items c.in_ok-entries.entries c.product_into.new.out).items ≡ c.product_into.new.out
  kept = with_items_is c.in_ok-entries.entries c.product_into.new.out
      (omega (arith, c.product_into.ensures.length, c.in_ok-entries.ensures.len, c.len.ensures, c.self.inside.entries.ok.0, c.self.invariant.full))

pub invariant_of-result : goal.invariant_of-result
invariant_of-result c =
    let side = c.self.inside.side in
    subst (λ (xs : List ℤ). FillsSquare side xs) (sym (kept c))
    (sums_fill side c.product_into.new.out (λ i j k. place side c.deref.result.now i k *ℤ place side c.deref-2.result.now k j) c.product_into.ensures.length c.product_into.ensures.sums
    (times_fits _ _ _ _ _ _ (first c) (second c) c.requires.sides c.requires.fits))

pub returns-clause-whole : goal.returns-clause-whole
returns-clause-whole c =
    ap (λ (xs : List ℤ). row_by_row c.self.inside.side c.self.inside.side xs) (kept c)
    ∙ times_is _ _ _ _ c.deref.result.now c.deref-2.result.now (first c) (second c) c.requires.sides c.product_into.new.out c.product_into.ensures.sums

pub returns-clause-places : goal.returns-clause-places
returns-clause-places c =
    times_entries c.args.self.now c.args.other.now ((first c).wide ∙ sym (first c).tall) ((second c).wide ∙ sym (second c).tall) c.requires.sides _ (returns-clause-whole c)

pub returns-clause-side : goal.returns-clause-side
returns-clause-side c = result_block _ _ _ _ (first c) (invariant_of-result c)
