-- The blocks of sound lists of entries, and the goals of all kinds.
use Rattle.std.proofs.Common.{◌≡◌, ℕ, ◌^◌, ◌<◌, ◌≤◌, min, max, Bool, true, false, IsTrue, List, [], ◌∷◌, length, All, ◌==◌, ℤ, pos, unsigned_abs, refl, sym, ap₂, ◌∙◌, subst, arith, le_trans, eq-eqb}
use Rattle.std.proofs.lemmas.Bool.{cond_both, cond-true, and_from}
use Rattle.std.proofs.lemmas.List.Elements.{All-head, All-tail}
use Rattle.dense_def.specs.Matrix.{Matrix, height, entry, IsMatrix, peak_of, IsSymmetric}
use Rattle.dense_def.proofs.Entries.{IsMatrix-made, height-made, entry_made}
use Rattle.dense_def.proofs.Peaks.{entry_le_peak}
use Rattle.leaf_blocks.specs.Block.{IsBlock}
use Rattle.task_types.specs.Tree.{Tree, Nothing, Root}
use Rattle.chunk_codec.specs.declared.plain.Spot.{Spot}
use Rattle.quad_matrix.specs.declared.chunk.Entries.{Entries}
use Rattle.quad_matrix.specs.declared.chunk.MatChunk.{MatChunk}
use Rattle.quad_matrix.specs.declared.chunk.MatChunk.TheVariants as chunk
use Rattle.quad_matrix.specs.declared.kind.What.{What}
use Rattle.quad_matrix.specs.declared.kind.What.TheVariants.{Assign, Add, Mul, TMul, MulT, Transpose, Join, Trace, AddNum, SAssign, SAdd, Square, RankMul, TRank, SMul, MulS, Full, SJoin, STrace}
use Rattle.chunk_codec.specs.Spots.{side_of, IsSpot, IsUpper}
use Rattle.quad_matrix.specs.Spots.{is_at, spot_value, block_of_spots, mirrored_block, block_listed, AreSoundEntries}
use Rattle.quad_matrix.specs.Blocks.{block_of, IsCanonical, IsCanonicalSymmetric}
use Rattle.quad_matrix.specs.Products.{Neither, First, Second}
use Rattle.quad_matrix.specs.Goals.{IsList, FitsAt, goal_at, IsOutput}
use Rattle.quad_matrix.proofs.Canonical.{canonical_of_block, nothing_is_canonical}
use Rattle.quad_matrix.proofs.Symmetric.{symmetric_by_entries, zeros_symmetric, symmetric_of_block}
use Rattle.quad_matrix.proofs.Sums.{add_canonical, join_goal_canonical}
use Rattle.quad_matrix.proofs.Products.{product_canonical}
use Rattle.quad_matrix.proofs.Transposes.{transpose_canonical}
use Rattle.quad_matrix.proofs.SymmetricJoins.{symmetric_join_goal_canonical}
use Rattle.quad_matrix.proofs.SymmetricSums.{symmetric_add_canonical, full_canonical}
use Rattle.quad_matrix.proofs.SymmetricProducts.{square_canonical, rank_canonical, transposed_rank_canonical, symmetric_first_canonical, symmetric_second_canonical}
use Rattle.quad_matrix.proofs.Numbers.{zero_from_abs, trace_is_number, addnum_is_number}

-- the number at each place of a list of entries has 64 bits
pub spot_value_small : (side : ℕ) (spots : List Spot) (i j : ℕ) → All (IsSpot side) spots → unsigned_abs (spot_value spots i j) ≤ 2 ^ 63
spot_value_small side [] i j all = omega arith
spot_value_small side (spot ∷ spots) i j all =
    cond_both (is_at i j spot) spot.value (spot_value spots i j) (λ v. unsigned_abs v ≤ 2 ^ 63)
    (λ e. (All-head (IsSpot side) spot spots all).small)
    (λ e. spot_value_small side spots i j (All-tail (IsSpot side) spot spots all))

-- the block of some entries is a square
pub spots_whole : (side : ℕ) (spots : List Spot) → IsMatrix (block_of_spots side spots)
spots_whole side spots = IsMatrix-made side side (λ i j. spot_value spots i j)

-- of that side
pub spots_tall : (side : ℕ) (spots : List Spot) → height (block_of_spots side spots) ≡ side
spots_tall side spots = height-made side side (λ i j. spot_value spots i j)

-- whose numbers are their values
pub entry-spots : (side : ℕ) (spots : List Spot) (i j : ℕ) → i < side → j < side → entry (block_of_spots side spots) i j ≡ spot_value spots i j
entry-spots side spots i j p q = entry_made side side (λ k l. spot_value spots k l) i j p q

-- the block of some entries of either form is a block
listed_block : (mirrored : Bool) (side : ℕ) (spots : List Spot) → All (IsSpot side) spots → IsBlock side (block_listed mirrored side spots)
listed_block false side spots all =
    record {
      whole = spots_whole side spots;
      tall = spots_tall side spots;
      wide = refl;
      small = λ i j p q. rw entry-spots (le_trans (spot_value_small side spots i j all) (omega arith));
    }
listed_block true side spots all =
    let value : ℕ → ℕ → ℤ = λ i j. spot_value spots (min i j) (max i j) in
    record {
      whole = IsMatrix-made side side value;
      tall = height-made side side value;
      wide = refl;
      small = λ i j p q.
          rw (entry_made side side value i j p q) (le_trans (spot_value_small side spots (min i j) (max i j) all) (omega arith));
    }

-- the block of a sound list is a block
pub block_of_sound : (b h : ℕ) (mirrored : Bool) (entries : Entries) → AreSoundEntries b h mirrored entries → IsBlock (side_of b h) (block_listed entries.symmetric (side_of b h) entries.list)
block_of_sound b h mirrored entries sound =
    subst (λ mirrored. IsBlock (side_of b h) (block_listed mirrored (side_of b h) entries.list)) (sym sound.symmetric) (listed_block mirrored (side_of b h) entries.list sound.listed.spots)

-- the block of the upper triangle of a symmetric block is symmetric
mirrored_symmetric : (side : ℕ) (spots : List Spot) → IsSymmetric (mirrored_block side spots)
mirrored_symmetric side spots =
    let value : ℕ → ℕ → ℤ = λ i j. spot_value spots (min i j) (max i j) in
    symmetric_by_entries side (mirrored_block side spots) (IsMatrix-made side side value) (height-made side side value) refl
    (λ i j p q.
    let low : min j i ≡ min i j = omega arith in
    let high : max j i ≡ max i j = omega arith in
    entry_made side side value j i q p ∙ ap₂ (λ r c. spot_value spots r c) low high ∙ sym (entry_made side side value i j p q))

-- the number that the first entry gives its place
first_value : (spot : Spot) (spots : List Spot) → spot_value (spot ∷ spots) spot.row spot.column ≡ spot.value
first_value spot spots =
    cond-true (is_at spot.row spot.column spot) spot.value (spot_value spots spot.row spot.column)
    (and_from (spot.row == spot.row) (spot.column == spot.column) (eq-eqb spot.row spot.row refl) (eq-eqb spot.column spot.column refl))

-- a matrix with a number other than 0 is not zero
not_flat_at : (m : Matrix) (i j : ℕ) (value : ℤ) → i < height m → j < m.columns → entry m i j ≡ value → (value ≡ pos 0 → ⊥) → peak_of m ≡ 0 → ⊥
not_flat_at m i j value p q same some flat =
    let low : unsigned_abs (entry m i j) ≤ peak_of m = entry_le_peak m i j p q in
    some (sym same ∙ zero_from_abs (entry m i j) (omega arith))

-- the block of some entries of which there is one is not zero
listed_not_flat : (mirrored : Bool) (side : ℕ) (spots : List Spot) → 1 ≤ length spots → All (IsSpot side) spots → (IsTrue mirrored → All IsUpper spots) → peak_of (block_listed mirrored side spots) ≡ 0 → ⊥
listed_not_flat mirrored side [] some all upper flat = omega arith
listed_not_flat false side (spot ∷ spots) some all upper flat =
    let first = All-head (IsSpot side) spot spots all in
    not_flat_at (block_of_spots side (spot ∷ spots)) spot.row spot.column spot.value (rw (spots_tall side (spot ∷ spots)) first.row) first.column
    (entry-spots side (spot ∷ spots) spot.row spot.column first.row first.column ∙ first_value spot spots) first.value flat
listed_not_flat true side (spot ∷ spots) some all upper flat =
    let first = All-head (IsSpot side) spot spots all in
    let diagonal : spot.row ≤ spot.column = All-head IsUpper spot spots (upper refl) in
    let value : ℕ → ℕ → ℤ = λ i j. spot_value (spot ∷ spots) (min i j) (max i j) in
    let low : min spot.row spot.column ≡ spot.row = omega arith in
    let high : max spot.row spot.column ≡ spot.column = omega arith in
    not_flat_at (mirrored_block side (spot ∷ spots)) spot.row spot.column spot.value (rw (height-made side side value) first.row) first.column
    (entry_made side side value spot.row spot.column first.row first.column ∙ ap₂ (λ r c. spot_value (spot ∷ spots) r c) low high ∙ first_value spot spots) first.value flat

-- the block of a sound list is not zero
pub sound_some : (b h : ℕ) (mirrored : Bool) (entries : Entries) → AreSoundEntries b h mirrored entries → peak_of (block_listed entries.symmetric (side_of b h) entries.list) ≡ 0 → ⊥
sound_some b h mirrored entries sound =
    subst (λ mirrored. peak_of (block_listed mirrored (side_of b h) entries.list) ≡ 0 → ⊥) (sym sound.symmetric)
    (listed_not_flat mirrored (side_of b h) entries.list sound.listed.some sound.listed.spots sound.listed.upper)

-- nothing, or a sound list, stands for a block
pub block_of_list : (b h : ℕ) (mirrored : Bool) (x : Tree MatChunk) → IsList b h mirrored x → IsBlock (side_of b h) (block_of b h x)
block_of_list b h mirrored Nothing is = (nothing_is_canonical b h).sized
block_of_list b h mirrored (Root (chunk.Entries entries) x y z w) is = block_of_sound b h mirrored entries is.0
block_of_list b h mirrored (Root (chunk.Leaf m) x y z w) is = absurd is
block_of_list b h mirrored (Root (chunk.Node k peak) x y z w) is = absurd is
block_of_list b h mirrored (Root (chunk.SymLeaf m) x y z w) is = absurd is
block_of_list b h mirrored (Root (chunk.SymNode k peak) x y z w) is = absurd is
block_of_list b h mirrored (Root (chunk.Num n) x y z w) is = absurd is

-- where it is the list of a symmetric block, for a symmetric one
pub list_symmetric : (b h : ℕ) (x : Tree MatChunk) → IsList b h true x → IsSymmetric (block_of b h x)
list_symmetric b h Nothing is = zeros_symmetric (side_of b h)
list_symmetric b h (Root (chunk.Entries entries) x y z w) is =
    subst (λ mirrored. IsSymmetric (block_listed mirrored (side_of b h) entries.list)) (sym is.0.symmetric) (mirrored_symmetric (side_of b h) entries.list)
list_symmetric b h (Root (chunk.Leaf m) x y z w) is = absurd is
list_symmetric b h (Root (chunk.Node k peak) x y z w) is = absurd is
list_symmetric b h (Root (chunk.SymLeaf m) x y z w) is = absurd is
list_symmetric b h (Root (chunk.SymNode k peak) x y z w) is = absurd is
list_symmetric b h (Root (chunk.Num n) x y z w) is = absurd is

-- a list that is there stands for a block other than zero
pub list_some : (b h : ℕ) (mirrored : Bool) (c : MatChunk) (x y z w : Tree MatChunk) → IsList b h mirrored (Root c x y z w) → peak_of (block_of b h (Root c x y z w)) ≡ 0 → ⊥
list_some b h mirrored (chunk.Entries entries) x y z w is flat = sound_some b h mirrored entries is.0 flat
list_some b h mirrored (chunk.Leaf m) x y z w is flat = is
list_some b h mirrored (chunk.Node k peak) x y z w is flat = is
list_some b h mirrored (chunk.SymLeaf m) x y z w is flat = is
list_some b h mirrored (chunk.SymNode k peak) x y z w is flat = is
list_some b h mirrored (chunk.Num n) x y z w is flat = is

-- ---- The goals of all kinds

-- the goal of an assignment is canonical
pub assign_canonical : (b h : ℕ) (x : Tree MatChunk) → FitsAt b Assign h (x ∷ []) → IsCanonical b h (goal_at b Assign h (x ∷ []))
assign_canonical b h x fits = canonical_of_block b h (block_of b h x) (block_of_list b h false x fits)

-- so is that of an assignment of a symmetric block
pub symmetric_assign_canonical : (b h : ℕ) (x : Tree MatChunk) → FitsAt b SAssign h (x ∷ []) → IsCanonicalSymmetric b h (goal_at b SAssign h (x ∷ []))
symmetric_assign_canonical b h x fits =
    symmetric_of_block b h (block_of b h x) (block_of_list b h true x fits) (list_symmetric b h x fits)

-- the goal of a kind is a canonical tree or one of a number
pub goal_is_canonical : (b : ℕ) (what : What) (h : ℕ) (trees : List (Tree MatChunk)) → FitsAt b what h trees → IsOutput b what h (goal_at b what h trees)
goal_is_canonical b Assign h (x ∷ []) fits = assign_canonical b h x fits
goal_is_canonical b Assign h [] fits = absurd fits
goal_is_canonical b Assign h (x ∷ y ∷ trees) fits = absurd fits
goal_is_canonical b Add h (x ∷ y ∷ []) fits = add_canonical b h x y fits
goal_is_canonical b Add h [] fits = absurd fits
goal_is_canonical b Add h (x ∷ []) fits = absurd fits
goal_is_canonical b Add h (x ∷ y ∷ z ∷ trees) fits = absurd fits
goal_is_canonical b Mul h (x ∷ y ∷ []) fits = product_canonical b h Neither x y fits
goal_is_canonical b Mul h [] fits = absurd fits
goal_is_canonical b Mul h (x ∷ []) fits = absurd fits
goal_is_canonical b Mul h (x ∷ y ∷ z ∷ trees) fits = absurd fits
goal_is_canonical b TMul h (x ∷ y ∷ []) fits = product_canonical b h First x y fits
goal_is_canonical b TMul h [] fits = absurd fits
goal_is_canonical b TMul h (x ∷ []) fits = absurd fits
goal_is_canonical b TMul h (x ∷ y ∷ z ∷ trees) fits = absurd fits
goal_is_canonical b MulT h (x ∷ y ∷ []) fits = product_canonical b h Second x y fits
goal_is_canonical b MulT h [] fits = absurd fits
goal_is_canonical b MulT h (x ∷ []) fits = absurd fits
goal_is_canonical b MulT h (x ∷ y ∷ z ∷ trees) fits = absurd fits
goal_is_canonical b Transpose h (x ∷ []) fits = transpose_canonical b h x fits
goal_is_canonical b Transpose h [] fits = absurd fits
goal_is_canonical b Transpose h (x ∷ y ∷ trees) fits = absurd fits
goal_is_canonical b Join h (x ∷ y ∷ z ∷ w ∷ []) fits = join_goal_canonical b h x y z w fits
goal_is_canonical b Join h [] fits = absurd fits
goal_is_canonical b Join h (x ∷ []) fits = absurd fits
goal_is_canonical b Join h (x ∷ y ∷ []) fits = absurd fits
goal_is_canonical b Join h (x ∷ y ∷ z ∷ []) fits = absurd fits
goal_is_canonical b Join h (x ∷ y ∷ z ∷ w ∷ t ∷ trees) fits = absurd fits
goal_is_canonical b Trace h (x ∷ []) fits = trace_is_number (block_of b h x) fits.1
goal_is_canonical b Trace h [] fits = absurd fits
goal_is_canonical b Trace h (x ∷ y ∷ trees) fits = absurd fits
goal_is_canonical b SAssign h (x ∷ []) fits = symmetric_assign_canonical b h x fits
goal_is_canonical b SAssign h [] fits = absurd fits
goal_is_canonical b SAssign h (x ∷ y ∷ trees) fits = absurd fits
goal_is_canonical b SAdd h (x ∷ y ∷ []) fits = symmetric_add_canonical b h x y fits
goal_is_canonical b SAdd h [] fits = absurd fits
goal_is_canonical b SAdd h (x ∷ []) fits = absurd fits
goal_is_canonical b SAdd h (x ∷ y ∷ z ∷ trees) fits = absurd fits
goal_is_canonical b Square h (x ∷ []) fits = square_canonical b h x fits
goal_is_canonical b Square h [] fits = absurd fits
goal_is_canonical b Square h (x ∷ y ∷ trees) fits = absurd fits
goal_is_canonical b RankMul h (x ∷ []) fits = rank_canonical b h x fits
goal_is_canonical b RankMul h [] fits = absurd fits
goal_is_canonical b RankMul h (x ∷ y ∷ trees) fits = absurd fits
goal_is_canonical b TRank h (x ∷ []) fits = transposed_rank_canonical b h x fits
goal_is_canonical b TRank h [] fits = absurd fits
goal_is_canonical b TRank h (x ∷ y ∷ trees) fits = absurd fits
goal_is_canonical b SMul h (x ∷ y ∷ []) fits = symmetric_first_canonical b h x y fits
goal_is_canonical b SMul h [] fits = absurd fits
goal_is_canonical b SMul h (x ∷ []) fits = absurd fits
goal_is_canonical b SMul h (x ∷ y ∷ z ∷ trees) fits = absurd fits
goal_is_canonical b MulS h (x ∷ y ∷ []) fits = symmetric_second_canonical b h x y fits
goal_is_canonical b MulS h [] fits = absurd fits
goal_is_canonical b MulS h (x ∷ []) fits = absurd fits
goal_is_canonical b MulS h (x ∷ y ∷ z ∷ trees) fits = absurd fits
goal_is_canonical b Full h (x ∷ []) fits = full_canonical b h x fits
goal_is_canonical b Full h [] fits = absurd fits
goal_is_canonical b Full h (x ∷ y ∷ trees) fits = absurd fits
goal_is_canonical b STrace h (x ∷ []) fits = trace_is_number (block_of b h x) fits.1
goal_is_canonical b STrace h [] fits = absurd fits
goal_is_canonical b STrace h (x ∷ y ∷ trees) fits = absurd fits
goal_is_canonical b SJoin h (x ∷ y ∷ z ∷ []) fits = symmetric_join_goal_canonical b h x y z fits
goal_is_canonical b SJoin h [] fits = absurd fits
goal_is_canonical b SJoin h (x ∷ []) fits = absurd fits
goal_is_canonical b SJoin h (x ∷ y ∷ []) fits = absurd fits
goal_is_canonical b SJoin h (x ∷ y ∷ z ∷ w ∷ trees) fits = absurd fits
goal_is_canonical b AddNum h (x ∷ y ∷ []) fits = addnum_is_number b h x y fits
goal_is_canonical b AddNum h [] fits = absurd fits
goal_is_canonical b AddNum h (x ∷ []) fits = absurd fits
goal_is_canonical b AddNum h (x ∷ y ∷ z ∷ trees) fits = absurd fits
