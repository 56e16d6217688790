use Rattle.std.proofs.Common.{◌≡◌, length}
use Rattle.tree_entries.specs.Strips.{first_side}
use Rattle.tree_entries.proofs.strips.leaf_side.Given as goal

abbrev pub invariant-loop-strip : goal.invariant-loop-strip
invariant-loop-strip l = first_side l.left ≡ first_side l.fn.strips

abbrev pub decreases-loop-strip : goal.decreases-loop-strip
decreases-loop-strip l = length l.left
