use Rattle.std.proofs.Common.{◌∙◌}
use Rattle.leaf_blocks.specs.Symmetric.{mirrored_place}
use Rattle.leaf_blocks.proofs.Rows.{RowsBuilt-more}
use Rattle.quad_symm.proofs.kernels.mirrored_of.Goals as goal

pub loop-i-preserved : goal.loop-i-preserved
loop-i-preserved c = (
  c.push_mirrored_row.ensures.capacity ∙ c.loop-i.invariant.0,
  rw c.push_mirrored_row.ensures.items (RowsBuilt-more _ _ _ (mirrored_place c.args.side c.args.numbers.now) c.loop-i.invariant.1),
)
