-- The contents of chunks.
use Rattle.std.specs.Prelude.{ℕ, ◌≤◌, unsigned_abs}
use Rattle.std.proofs.Common.{arith}
use Rattle.dense_def.specs.Matrix.{height, peak_of}
use Rattle.chunk_codec.specs.Spots.{AreSoundSpots, greatest_of}
use Rattle.chunk_codec.specs.Sound.{IsSoundBlock, IsSoundNode, IsSoundNumber}
use Rattle.quad_matrix.specs.declared.chunk.MatChunk.{MatChunk}
use Rattle.quad_matrix.specs.declared.chunk.MatChunk.TheVariants.{Leaf, Node, SymLeaf, SymNode, Entries, Num}

-- how many children a content has
abbrev pub arity_of : MatChunk → ℕ
arity_of (Leaf m) = 0
arity_of (Node height peak) = 4
arity_of (SymLeaf m) = 0
arity_of (SymNode height peak) = 3
arity_of (Entries entries) = 0
arity_of (Num n) = 0

-- no content has more than four children
pub few_children_of : (chunk : MatChunk) → arity_of chunk ≤ 4
few_children_of (Leaf m) = omega arith
few_children_of (Node height peak) = omega arith
few_children_of (SymLeaf m) = omega arith
few_children_of (SymNode height peak) = omega arith
few_children_of (Entries entries) = omega arith
few_children_of (Num n) = omega arith

-- which contents are sound: those that have bytes
abbrev pub IsSoundChunk : MatChunk → Type 0
IsSoundChunk (Leaf m) = IsSoundBlock (height m) (peak_of m)
IsSoundChunk (Node levels peak) = IsSoundNode levels peak
IsSoundChunk (SymLeaf m) = IsSoundBlock (height m) (peak_of m)
IsSoundChunk (SymNode levels peak) = IsSoundNode levels peak
IsSoundChunk (Entries entries) = AreSoundSpots entries.leaf entries.height entries.symmetric entries.list
IsSoundChunk (Num n) = IsSoundNumber n

-- the peak of a content: the greatest absolute value of a number in it
abbrev pub peak_in : MatChunk → ℕ
peak_in (Leaf m) = peak_of m
peak_in (Node height peak) = peak
peak_in (SymLeaf m) = peak_of m
peak_in (SymNode height peak) = peak
peak_in (Entries entries) = greatest_of entries.list
peak_in (Num n) = unsigned_abs n
