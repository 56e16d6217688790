use Rattle.std.proofs.Common.{refl}
use Rattle.leaf_blocks.proofs.Triangles.{mirrors, symmetric_block}
use Rattle.leaf_blocks.proofs.symmetric.SymLeaf.side.Goals as goal

pub returns : goal.returns
returns c = symmetric_block _ _ _ (mirrors _ _ _ _ refl c.self.view_is) c.self.invariant
