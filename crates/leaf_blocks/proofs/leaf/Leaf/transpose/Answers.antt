use Rattle.std.proofs.Common.{sym, ◌∙◌}
use Rattle.leaf_blocks.proofs.Squares.{seen, result_block, transposed_is, transposed_fills, transposed_entries}
use Rattle.leaf_blocks.proofs.leaf.Leaf.transpose.Goals as goal

pub invariant_of-result : goal.invariant_of-result
invariant_of-result c =
    transposed_fills _ _ _ _ (seen _ _ _ _ c.deref.ensures.value c.self.view_is) c.in_ok-entries.ensures.numbers
    (sym c.in_ok-entries.entries.ok.0 ∙ c.in_ok-entries.ensures.length) (rw c.deref.ensures.value c.self.invariant)

pub returns-clause-whole : goal.returns-clause-whole
returns-clause-whole c =
    transposed_is _ _ _ _ (seen _ _ _ _ c.deref.ensures.value c.self.view_is) c.in_ok-entries.ensures.numbers

pub returns-clause-places : goal.returns-clause-places
returns-clause-places c =
    let self = seen _ _ _ _ c.deref.ensures.value c.self.view_is in
    transposed_entries c.args.self.now (self.wide ∙ sym self.tall) _ (returns-clause-whole c)

pub returns-clause-side : goal.returns-clause-side
returns-clause-side c = result_block _ _ _ _ (seen _ _ _ _ c.deref.ensures.value c.self.view_is) (invariant_of-result c)
