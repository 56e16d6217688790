-- What each kind of task asks, as a function of dense values.
use Rattle.std.specs.Prelude.{◌≡◌, ℕ, ◌+◌, ◌-◌, ◌*◌, ◌^◌, ◌≤◌, Bool, true, false, List, [], ◌∷◌, ◌+ℤ◌, unsigned_abs}
use Rattle.dense_def.specs.Matrix.{plus, times, tmul_of, mult_of, transposed, joined, trace_of, SumFits, ProductFits, TmulFits, MultFits, TraceFits}
use Rattle.task_types.specs.Tree.{Tree, Nothing, Root}
use Rattle.quad_matrix.specs.declared.chunk.MatChunk.{MatChunk}
use Rattle.quad_matrix.specs.declared.chunk.MatChunk.TheVariants as chunk
use Rattle.quad_matrix.specs.declared.kind.What.{What}
use Rattle.quad_matrix.specs.declared.kind.What.TheVariants.{Assign, Add, Mul, TMul, MulT, Transpose, Join, Trace, AddNum, SAssign, SAdd, Square, RankMul, TRank, SMul, MulS, Full, SJoin, STrace}
use Rattle.quad_matrix.specs.declared.kind.MatKind.{MatKind}
use Rattle.quad_matrix.specs.Spots.{AreSoundEntries}
use Rattle.quad_matrix.specs.Blocks.{block_of, number_of, canonical, canonical_symmetric, number_tree, IsCanonical, IsCanonicalSymmetric, IsNumber, leaf_in}

-- a kind
abbrev pub kind_of : What → ℕ → MatKind
kind_of what height = record { what = what; height = height }

-- the kind that computes something on blocks of a height; a sum of numbers has height 0
abbrev pub kind_at : ℕ → What → MatKind
kind_at height Assign = kind_of Assign height
kind_at height Add = kind_of Add height
kind_at height Mul = kind_of Mul height
kind_at height TMul = kind_of TMul height
kind_at height MulT = kind_of MulT height
kind_at height Transpose = kind_of Transpose height
kind_at height Join = kind_of Join height
kind_at height Trace = kind_of Trace height
kind_at height AddNum = kind_of AddNum 0
kind_at height SAssign = kind_of SAssign height
kind_at height SAdd = kind_of SAdd height
kind_at height Square = kind_of Square height
kind_at height RankMul = kind_of RankMul height
kind_at height TRank = kind_of TRank height
kind_at height SMul = kind_of SMul height
kind_at height MulS = kind_of MulS height
kind_at height Full = kind_of Full height
kind_at height SJoin = kind_of SJoin height
kind_at height STrace = kind_of STrace height

-- ---- Goals

-- the goal of a kind of height h on trees whose leaves have side b
abbrev pub goal_at : ℕ → What → ℕ → List (Tree MatChunk) → Tree MatChunk
goal_at b Assign h (x ∷ []) = canonical b h (block_of b h x)
goal_at b Add h (x ∷ y ∷ []) = canonical b h (plus (block_of b h x) (block_of b h y))
goal_at b Mul h (x ∷ y ∷ []) = canonical b h (times (block_of b h x) (block_of b h y))
goal_at b TMul h (x ∷ y ∷ []) = canonical b h (tmul_of (block_of b h x) (block_of b h y))
goal_at b MulT h (x ∷ y ∷ []) = canonical b h (mult_of (block_of b h x) (block_of b h y))
goal_at b Transpose h (x ∷ []) = canonical b h (transposed (block_of b h x))
goal_at b Join h (x ∷ y ∷ z ∷ w ∷ []) =
    canonical b h (joined (block_of b (h - 1) x) (block_of b (h - 1) y) (block_of b (h - 1) z) (block_of b (h - 1) w))
goal_at b Trace h (x ∷ []) = number_tree (trace_of (block_of b h x))
goal_at b AddNum h (x ∷ y ∷ []) = number_tree (number_of x +ℤ number_of y)
goal_at b SAssign h (x ∷ []) = canonical_symmetric b h (block_of b h x)
goal_at b SAdd h (x ∷ y ∷ []) = canonical_symmetric b h (plus (block_of b h x) (block_of b h y))
goal_at b Square h (x ∷ []) = canonical_symmetric b h (times (block_of b h x) (block_of b h x))
goal_at b RankMul h (x ∷ []) = canonical_symmetric b h (mult_of (block_of b h x) (block_of b h x))
goal_at b TRank h (x ∷ []) = canonical_symmetric b h (tmul_of (block_of b h x) (block_of b h x))
goal_at b SMul h (x ∷ y ∷ []) = canonical b h (times (block_of b h x) (block_of b h y))
goal_at b MulS h (x ∷ y ∷ []) = canonical b h (times (block_of b h x) (block_of b h y))
goal_at b Full h (x ∷ []) = canonical b h (block_of b h x)
goal_at b STrace h (x ∷ []) = number_tree (trace_of (block_of b h x))
goal_at b SJoin h (x ∷ y ∷ z ∷ []) =
    canonical_symmetric b h (joined (block_of b (h - 1) x) (block_of b (h - 1) y) (transposed (block_of b (h - 1) y)) (block_of b (h - 1) z))
goal_at b Assign h trees = Nothing
goal_at b Add h trees = Nothing
goal_at b Mul h trees = Nothing
goal_at b TMul h trees = Nothing
goal_at b MulT h trees = Nothing
goal_at b Transpose h trees = Nothing
goal_at b Join h trees = Nothing
goal_at b Trace h trees = Nothing
goal_at b AddNum h trees = Nothing
goal_at b SAssign h trees = Nothing
goal_at b SAdd h trees = Nothing
goal_at b Square h trees = Nothing
goal_at b RankMul h trees = Nothing
goal_at b TRank h trees = Nothing
goal_at b SMul h trees = Nothing
goal_at b MulS h trees = Nothing
goal_at b Full h trees = Nothing
goal_at b SJoin h trees = Nothing
goal_at b STrace h trees = Nothing

-- the goal of a kind on trees
abbrev pub goal_of : MatKind → List (Tree MatChunk) → Tree MatChunk
goal_of kind trees = goal_at (leaf_in trees) kind.what kind.height trees

-- ---- Where goals are defined

-- nothing, or a sound list of entries, of a symmetric block or of a general one
abbrev pub IsList : ℕ → ℕ → Bool → Tree MatChunk → Type 0
IsList b h mirrored Nothing = Unit {0}
IsList b h mirrored (Root (chunk.Entries entries) x y z w) =
    AreSoundEntries b h mirrored entries × (x ≡ Nothing) × (y ≡ Nothing) × (z ≡ Nothing) × (w ≡ Nothing)
IsList b h mirrored (Root content x y z w) = ⊥

-- The trees are as many as the kind has inputs, they are nothing, canonical or sound, their heights and leaves fit, and at
-- each place of the output the absolute values of the terms sum to at most 2 ^ 126.
abbrev pub FitsAt : ℕ → What → ℕ → List (Tree MatChunk) → Type 0
FitsAt b Assign h (x ∷ []) = IsList b h false x
FitsAt b Add h (x ∷ y ∷ []) = IsCanonical b h x × IsCanonical b h y × SumFits (block_of b h x) (block_of b h y)
FitsAt b Mul h (x ∷ y ∷ []) = IsCanonical b h x × IsCanonical b h y × ProductFits (block_of b h x) (block_of b h y)
FitsAt b TMul h (x ∷ y ∷ []) = IsCanonical b h x × IsCanonical b h y × TmulFits (block_of b h x) (block_of b h y)
FitsAt b MulT h (x ∷ y ∷ []) = IsCanonical b h x × IsCanonical b h y × MultFits (block_of b h x) (block_of b h y)
FitsAt b Transpose h (x ∷ []) = IsCanonical b h x
FitsAt b Join h (x ∷ y ∷ z ∷ w ∷ []) =
    (1 ≤ h) × IsCanonical b (h - 1) x × IsCanonical b (h - 1) y × IsCanonical b (h - 1) z × IsCanonical b (h - 1) w
FitsAt b Trace h (x ∷ []) = IsCanonical b h x × TraceFits (block_of b h x)
FitsAt b AddNum h (x ∷ y ∷ []) =
    (h ≡ 0) × IsNumber x × IsNumber y × (unsigned_abs (number_of x) + unsigned_abs (number_of y) ≤ 2 ^ 126)
FitsAt b SAssign h (x ∷ []) = IsList b h true x
FitsAt b SAdd h (x ∷ y ∷ []) =
    IsCanonicalSymmetric b h x × IsCanonicalSymmetric b h y × SumFits (block_of b h x) (block_of b h y)
FitsAt b Square h (x ∷ []) = IsCanonicalSymmetric b h x × ProductFits (block_of b h x) (block_of b h x)
FitsAt b RankMul h (x ∷ []) = IsCanonical b h x × MultFits (block_of b h x) (block_of b h x)
FitsAt b TRank h (x ∷ []) = IsCanonical b h x × TmulFits (block_of b h x) (block_of b h x)
FitsAt b SMul h (x ∷ y ∷ []) =
    IsCanonicalSymmetric b h x × IsCanonical b h y × ProductFits (block_of b h x) (block_of b h y)
FitsAt b MulS h (x ∷ y ∷ []) =
    IsCanonical b h x × IsCanonicalSymmetric b h y × ProductFits (block_of b h x) (block_of b h y)
FitsAt b Full h (x ∷ []) = IsCanonicalSymmetric b h x
FitsAt b STrace h (x ∷ []) = IsCanonicalSymmetric b h x × TraceFits (block_of b h x)
FitsAt b SJoin h (x ∷ y ∷ z ∷ []) =
    (1 ≤ h) × IsCanonicalSymmetric b (h - 1) x × IsCanonical b (h - 1) y × IsCanonicalSymmetric b (h - 1) z
FitsAt b Assign h trees = ⊥
FitsAt b Add h trees = ⊥
FitsAt b Mul h trees = ⊥
FitsAt b TMul h trees = ⊥
FitsAt b MulT h trees = ⊥
FitsAt b Transpose h trees = ⊥
FitsAt b Join h trees = ⊥
FitsAt b Trace h trees = ⊥
FitsAt b AddNum h trees = ⊥
FitsAt b SAssign h trees = ⊥
FitsAt b SAdd h trees = ⊥
FitsAt b Square h trees = ⊥
FitsAt b RankMul h trees = ⊥
FitsAt b TRank h trees = ⊥
FitsAt b SMul h trees = ⊥
FitsAt b MulS h trees = ⊥
FitsAt b Full h trees = ⊥
FitsAt b SJoin h trees = ⊥
FitsAt b STrace h trees = ⊥

-- the goal of a kind on trees is defined: for some side of the leaves they fit
pub record IsDefined (kind : MatKind) (trees : List (Tree MatChunk)) : Type 0 where
  pub low : kind.height ≤ 16
  pub leaf : ℕ
  pub leaf_high : leaf ≤ 64
  pub fits : FitsAt leaf kind.what kind.height trees

-- what the goal of a kind is: a canonical tree, of a general block or of a symmetric one, or the tree of a number
abbrev pub IsOutput : ℕ → What → ℕ → Tree MatChunk → Type 0
IsOutput b Assign h tree = IsCanonical b h tree
IsOutput b Add h tree = IsCanonical b h tree
IsOutput b Mul h tree = IsCanonical b h tree
IsOutput b TMul h tree = IsCanonical b h tree
IsOutput b MulT h tree = IsCanonical b h tree
IsOutput b Transpose h tree = IsCanonical b h tree
IsOutput b Join h tree = IsCanonical b h tree
IsOutput b Trace h tree = IsNumber tree
IsOutput b AddNum h tree = IsNumber tree
IsOutput b SAssign h tree = IsCanonicalSymmetric b h tree
IsOutput b SAdd h tree = IsCanonicalSymmetric b h tree
IsOutput b Square h tree = IsCanonicalSymmetric b h tree
IsOutput b RankMul h tree = IsCanonicalSymmetric b h tree
IsOutput b TRank h tree = IsCanonicalSymmetric b h tree
IsOutput b SMul h tree = IsCanonical b h tree
IsOutput b MulS h tree = IsCanonical b h tree
IsOutput b Full h tree = IsCanonical b h tree
IsOutput b SJoin h tree = IsCanonicalSymmetric b h tree
IsOutput b STrace h tree = IsNumber tree

-- ---- Ranks

-- the rank of what is computed at a height
abbrev pub rank_at : What → ℕ → ℕ
rank_at Join h = 4 * h
rank_at Assign h = 4 * h + 1
rank_at Add h = 4 * h + 1
rank_at Mul h = 4 * h + 2
rank_at TMul h = 4 * h + 2
rank_at MulT h = 4 * h + 2
rank_at Transpose h = 4 * h + 1
rank_at Trace h = 4 * h + 1
rank_at AddNum h = 0
rank_at SAssign h = 4 * h + 1
rank_at SAdd h = 4 * h + 1
rank_at Square h = 4 * h + 3
rank_at RankMul h = 4 * h + 2
rank_at TRank h = 4 * h + 2
rank_at SMul h = 4 * h + 2
rank_at MulS h = 4 * h + 2
rank_at Full h = 4 * h + 1
rank_at SJoin h = 4 * h
rank_at STrace h = 4 * h + 1

-- the rank of a kind: its new tasks have lower ones
abbrev pub rank_of : MatKind → ℕ
rank_of kind = rank_at kind.what kind.height
