use Rattle.std.proofs.Common.{rules}
use Rattle.symm_tasks.proofs.MirroredSides.{mirrored_side}
use Rattle.symm_tasks.proofs.leaves.assign.Goals as goal

pub symmetric_leaf_outcome-requires : goal.symmetric_leaf_outcome-requires
symmetric_leaf_outcome-requires c =
    mirrored_side c.in-Some.entries.now.leaf c.in-Some.entries.now.list c.in_ok-symmetric_leaf_block-in-Some.field-0 c.in_ok-symmetric_leaf_block-in-Some.ensures (search rules)
