-- The numbers in contents.
use Rattle.std.specs.Prelude.{ℕ, ℤ, pos}
use Rattle.task_types.specs.Tree.{Tree, Nothing, Root}
use Rattle.quad_matrix.specs.Chunks.{peak_in}
use Rattle.quad_matrix.specs.declared.chunk.MatChunk.{MatChunk}
use Rattle.quad_matrix.specs.declared.chunk.MatChunk.TheVariants.{Leaf, Node, SymLeaf, SymNode, Entries, Num}

-- the number that a content is, and 0 where it is none
abbrev pub number_in : MatChunk → ℤ
number_in (Leaf m) = pos 0
number_in (Node height peak) = pos 0
number_in (SymLeaf m) = pos 0
number_in (SymNode height peak) = pos 0
number_in (Entries entries) = pos 0
number_in (Num n) = n

-- the greatest absolute value that the root of a tree tells
abbrev pub root_peak : Tree MatChunk → ℕ
root_peak Nothing = 0
root_peak (Root content a b c d) = peak_in content
