use Rattle.std.proofs.Common.{◌∙◌}
use Rattle.leaf_blocks.specs.Block.{place}
use Rattle.leaf_blocks.proofs.Rows.{RowsBuilt-more}
use Rattle.leaf_blocks.proofs.kernels.transpose_of.Goals as goal

pub loop-i-preserved : goal.loop-i-preserved
loop-i-preserved c = (
  c.push_column.ensures.capacity ∙ c.loop-i.invariant.0,
  rw c.push_column.ensures.items (RowsBuilt-more _ _ _ (λ i j. place c.args.side c.args.numbers.now j i) c.loop-i.invariant.1),
)
