use Rattle.dense_def.proofs.RowByRow.{stores}
use Rattle.leaf_blocks.proofs.Squares.{block_is}
use Rattle.leaf_blocks.proofs.leaf.Leaf.side.Goals as goal

pub returns : goal.returns
returns c = block_is _ _ _ (stores _ _ _ _ c.self.view_is) c.self.invariant
