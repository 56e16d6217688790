use Rattle.std.proofs.Common.{length, ap, ◌∙◌}
use Rattle.leaf_blocks.proofs.Triangles.{mirrors, triangle_zero_is}
use Rattle.leaf_blocks.proofs.symmetric.SymLeaf.is_zero.Goals as goal

pub returns : goal.returns
returns c =
    let same = triangle_zero_is c.args.self.now c.self.inside.side c.deref.result.now (mirrors _ _ _ _ c.deref.ensures.value c.self.view_is) (ap length c.deref.ensures.value ∙ c.self.invariant.full) in
    (λ yes. same.0 (c.are_zero.ensures.0 yes), λ zero. c.are_zero.ensures.1 (same.1 zero))
