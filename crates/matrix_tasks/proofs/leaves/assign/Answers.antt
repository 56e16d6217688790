use Rattle.std.proofs.Common.{rules}
use Rattle.matrix_tasks.proofs.Contents.{listed_side}
use Rattle.matrix_tasks.proofs.leaves.assign.Goals as goal

pub leaf_outcome-requires : goal.leaf_outcome-requires
leaf_outcome-requires c =
    listed_side c.in-Some.entries.now.leaf c.in-Some.entries.now.list c.in_ok-leaf_block-in-Some.field-0 c.in_ok-leaf_block-in-Some.ensures (search rules)
