use Rattle.std.proofs.Common.{length, ap, sym, ◌∙◌}
use Rattle.dense_def.proofs.RowByRow.{stores}
use Rattle.leaf_blocks.proofs.Squares.{seen, result_block, other_full, plus_fits, plus_is, plus_fills, plus_entries}
use Rattle.leaf_blocks.proofs.leaf.Leaf.add.Goals as goal

pub sum_of-requires-clause-lengths : goal.sum_of-requires-clause-lengths
sum_of-requires-clause-lengths c =
    ap length c.deref.ensures.value ∙ c.self.invariant.full
    ∙ sym (ap length c.deref-2.ensures.value ∙ other_full _ _ _ _ _ _ (stores _ _ _ _ c.self.view_is) (stores _ _ _ _ c.other.view_is) c.requires.sides c.other.invariant)

pub sum_of-requires-clause-fits : goal.sum_of-requires-clause-fits
sum_of-requires-clause-fits c =
    let long = ap length c.deref.ensures.value ∙ c.self.invariant.full in
    λ i h. plus_fits _ _ _ _ _ _ (seen _ _ _ _ c.deref.ensures.value c.self.view_is) (seen _ _ _ _ c.deref-2.ensures.value c.other.view_is) c.requires.sides c.requires.fits i (rw (← long) h)

pub invariant_of-result : goal.invariant_of-result
invariant_of-result c =
    plus_fills _ _ _ _ _ _ (seen _ _ _ _ c.deref.ensures.value c.self.view_is) (seen _ _ _ _ c.deref-2.ensures.value c.other.view_is) c.requires.sides _
    (ap length c.deref.ensures.value ∙ c.self.invariant.full) c.in_ok-entries.ensures c.requires.fits

pub returns-clause-whole : goal.returns-clause-whole
returns-clause-whole c =
    plus_is _ _ _ _ _ _ (seen _ _ _ _ c.deref.ensures.value c.self.view_is) (seen _ _ _ _ c.deref-2.ensures.value c.other.view_is) c.requires.sides _
    (ap length c.deref.ensures.value ∙ c.self.invariant.full) c.in_ok-entries.ensures

pub returns-clause-places : goal.returns-clause-places
returns-clause-places c =
    let self = stores _ _ _ _ c.self.view_is in
    let other = stores _ _ _ _ c.other.view_is in
    plus_entries c.args.self.now c.args.other.now (self.wide ∙ sym self.tall) (other.wide ∙ sym other.tall) c.requires.sides _ (returns-clause-whole c)

pub returns-clause-side : goal.returns-clause-side
returns-clause-side c = result_block _ _ _ _ (stores _ _ _ _ c.self.view_is) (invariant_of-result c)
