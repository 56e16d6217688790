use Rattle.std.proofs.Common.{length, ap, ◌∙◌}
use Rattle.leaf_blocks.proofs.Triangles.{mirrors, triangle_peak_is}
use Rattle.leaf_blocks.proofs.symmetric.SymLeaf.peak.Goals as goal

pub returns-clause-value : goal.returns-clause-value
returns-clause-value c =
    triangle_peak_is c.args.self.now c.self.inside.side c.deref.result.now (mirrors _ _ _ _ c.deref.ensures.value c.self.view_is)
    (ap length c.deref.ensures.value ∙ c.self.invariant.full) c.peak_of.result c.peak_of.ensures.above c.peak_of.ensures.least

pub returns-clause-small : goal.returns-clause-small
returns-clause-small c = c.peak_of.ensures.least _ (rw c.deref.ensures.value c.self.invariant.small)
