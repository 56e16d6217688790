use Rattle.std.proofs.Common.{◌+◌, ◌-◌, ◌*◌, length}
use Rattle.tree_entries.proofs.walk.+tree.Given as goal

-- a child stands one level lower, and comes after its node
abbrev pub decreases-gather : goal.decreases-gather
decreases-gather g l = 3 * (16 - length l.path.now.items) + 2

abbrev pub decreases-gather_node : goal.decreases-gather_node
decreases-gather_node g l = 3 * (16 - length l.path.now.items) + 1

abbrev pub decreases-gather_symmetric : goal.decreases-gather_symmetric
decreases-gather_symmetric g l = 3 * (16 - length l.path.now.items) + 1

abbrev pub decreases-gather_child : goal.decreases-gather_child
decreases-gather_child g l = 3 * (16 - length l.path.now.items)
