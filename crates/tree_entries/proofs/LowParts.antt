-- The pieces of canonical symmetric trees, and the cells of their rows.
use Rattle.std.proofs.Common.{◌≡◌, ℕ, zero, suc, ◌+◌, ◌-◌, ◌*◌, ◌^◌, ◌<◌, ◌≤◌, Bool, true, false, List, [], ◌++◌, Some, pos, refl, sym, ap, ◌∙◌, subst, arith, append-nil, ⊎_elim}
use Rattle.std.specs.Prelude.{All}
use Rattle.std.proofs.Math.Nat.{add-mul, mul_comm}
use Rattle.std.proofs.lemmas.List.Elements.{All-nil, All-append}
use Rattle.dense_def.specs.Matrix.{Matrix, entry, tabulate, joined, transposed, zeros, peak_of}
use Rattle.dense_def.proofs.Entries.{tabulate_ext, entry_made}
use Rattle.dense_def.proofs.Operations.{height-transposed}
use Rattle.task_types.specs.Tree.{Tree, Nothing, Root, child}
use Rattle.mm_text.specs.declared.market.Cell.{Cell}
use Rattle.mm_text.specs.Cells.{cells_of_row}
use Rattle.chunk_codec.specs.Spots.{side_of}
use Rattle.quad_matrix.specs.declared.chunk.MatChunk.{MatChunk}
use Rattle.quad_matrix.specs.declared.chunk.MatChunk.TheVariants as chunk
use Rattle.quad_matrix.specs.Blocks.{block_of, IsCanonicalSymmetric}
use Rattle.quad_matrix.proofs.ForOthers.{side_low, suc-sub_one, root_of_symmetric_leaf, root_of_symmetric_node, AreSymmetricChildren, symmetric_children, block_of_symmetric_children}
use Rattle.tree_entries.specs.declared.piece.Piece.{Piece}
use Rattle.tree_entries.specs.Strips.{part, symmetric_part, strip_cells, Fits}
use Rattle.tree_entries.proofs.CellRows.{row_cells, cells_zero, two_parts, AreSquares, upper_left_entry, lower_left_entry, lower_right_entry}
use Rattle.tree_entries.proofs.Parts.{part_of_symmetric_leaf, part_of_symmetric_node, IsOutside, not_only, outside_upper, outside_lower, none_outside, upper_outside, lower_outside, only_fits, pieces_fit, strip_append, row_within, one_piece, further, in_half, row_of_part, twice}

-- ---- A symmetric node and its children

pub part_of_diagonal : (b h : ℕ) (turned : Bool) (above left : ℕ) (tree : Tree MatChunk) → IsCanonicalSymmetric b (suc h) tree → (s : ℕ)
    → part turned above left tree s ≡ symmetric_part (2 ^ h) above left tree s
part_of_diagonal b h turned above left Nothing is s = refl
part_of_diagonal b h turned above left (Root c x y z w) is s =
    part_of_symmetric_node turned above left (suc h) (peak_of (block_of b (suc h) (Root c x y z w))) (Root c x y z w) (ap Some (sym (root_of_symmetric_node b h c x y z w is))) s
    ∙ ap (λ n. symmetric_part (2 ^ n) above left (Root c x y z w) s) (suc-sub_one h)

three_empty : (a b c : List Piece) → a ≡ [] → b ≡ [] → c ≡ [] → a ++ b ++ c ≡ []
three_empty a b c e f g = ap (λ l. l ++ b ++ c) e ∙ ap (λ l. [] ++ l ++ c) f ∙ ap (λ l. [] ++ [] ++ l) g

-- ---- Strips in which a symmetric block has no pieces

pub none_low : (b h : ℕ) (above left : ℕ) (tree : Tree MatChunk) → IsCanonicalSymmetric b h tree → (s : ℕ) → IsOutside above (2 ^ h) s → part false above left tree s ≡ []
none_low b zero above left Nothing is s out = refl
none_low b zero above left (Root c x y z w) is s out =
    part_of_symmetric_leaf false above left (block_of b 0 (Root c x y z w)) (Root c x y z w) (ap Some (sym (root_of_symmetric_leaf b c x y z w is).0)) s
    ∙ not_only above (record { content = chunk.SymLeaf (block_of b 0 (Root c x y z w)); left = left; turned = false }) s (λ e. out 0 (omega arith) (omega (arith, e)))
none_low b (suc h) above left tree is s out =
    let all = symmetric_children b h tree is in
    part_of_diagonal b h false above left tree is s
    ∙ three_empty (part false above left (child tree 0) s) (part true (above + 2 ^ h) left (child tree 1) s)
    (part false (above + 2 ^ h) (left + 2 ^ h) (child tree 2) s)
    (none_low b h above left (child tree 0) all.first s (outside_upper above h s out))
    (none_outside b h true (above + 2 ^ h) left (child tree 1) all.second s (outside_lower above h s out))
    (none_low b h (above + 2 ^ h) (left + 2 ^ h) (child tree 2) all.third s (outside_lower above h s out))

-- ---- The side of the pieces

pub low_fit : (b h : ℕ) (above left : ℕ) (tree : Tree MatChunk) → IsCanonicalSymmetric b h tree → left + 2 ^ h ≤ 2 ^ 16 → (s : ℕ)
    → All (Fits b) (part false above left tree s)
low_fit b zero above left Nothing is within s = All-nil (Fits b)
low_fit b zero above left (Root c x y z w) is within s =
    let m = block_of b 0 (Root c x y z w) in
    subst (All (Fits b)) (sym (part_of_symmetric_leaf false above left m (Root c x y z w) (ap Some (sym (root_of_symmetric_leaf b c x y z w is).0)) s))
    (only_fits b above (record { content = chunk.SymLeaf m; left = left; turned = false }) s
    (record { side = is.sized.tall ∙ side_low b; left = omega (arith, within) }))
low_fit b (suc h) above left tree is within s =
    let all = symmetric_children b h tree is in
    let p0 = part false above left (child tree 0) s in
    let p1 = part true (above + 2 ^ h) left (child tree 1) s in
    let p2 = part false (above + 2 ^ h) (left + 2 ^ h) (child tree 2) s in
    subst (All (Fits b)) (sym (part_of_diagonal b h false above left tree is s))
    (All-append (Fits b) (p0 ++ p1) p2
    (All-append (Fits b) p0 p1
    (low_fit b h above left (child tree 0) all.first (omega (arith, within, twice h)) s)
    (pieces_fit b h true (above + 2 ^ h) left (child tree 1) all.second (omega (arith, within, twice h)) s))
    (low_fit b h (above + 2 ^ h) (left + 2 ^ h) (child tree 2) all.third (omega (arith, within, twice h)) s))

-- ---- The cells of a row

-- the front of row i up to the diagonal, as cells of row `number`
abbrev pub low_cells : Matrix → ℕ → ℕ → ℕ → List Cell
low_cells m i number left = cells_of_row number (left + 1) (tabulate (i + 1) (entry m i))

low_of_zeros : (n i number left : ℕ) → i < n → low_cells (zeros n n) i number left ≡ []
low_of_zeros n i number left lt =
    cells_zero number (left + 1) (i + 1) (entry (zeros n n) i) (λ k in_row. entry_made n n (λ _ _. pos 0) i k lt (omega (arith, in_row, lt)))

upper_one : (b r number : ℕ) (p q t : List Piece) → q ≡ [] → t ≡ [] → strip_cells b r number (p ++ q ++ t) ≡ strip_cells b r number p
upper_one b r number p q t e f =
    ap (λ l. strip_cells b r number (p ++ l ++ t)) e ∙ ap (λ l. strip_cells b r number (p ++ [] ++ l)) f
    ∙ ap (strip_cells b r number) (append-nil (p ++ []) ∙ append-nil p)

lower_both : (b r number : ℕ) (p q t : List Piece) → p ≡ [] → strip_cells b r number (p ++ q ++ t) ≡ strip_cells b r number q ++ strip_cells b r number t
lower_both b r number p q t e = ap (λ l. strip_cells b r number (l ++ q ++ t)) e ∙ strip_append b r number q t

-- a row of the upper half of a join, up to the diagonal
upper_low : (n : ℕ) (a b c d : Matrix) → AreSquares n a b c d → (i number left : ℕ) → i < n → low_cells a i number left ≡ low_cells (joined a b c d) i number left
upper_low n a b c d squares i number left lt =
    ap (cells_of_row number (left + 1)) (tabulate_ext (i + 1) (entry a i) (entry (joined a b c d) i) (λ j in_row. sym (upper_left_entry n a b c d squares i j lt (omega (arith, in_row, lt)))))

-- one of the lower half
lower_low : (n : ℕ) (a b c d : Matrix) → AreSquares n a b c d → (i number left : ℕ) → i < n
    → row_cells n c i number left ++ low_cells d i number (left + n) ≡ low_cells (joined a b c d) (n + i) number left
lower_low n a b c d squares i number left lt =
    let e : n + i - n ≡ i = omega arith in
    let long : n + (i + 1) ≡ n + i + 1 = omega arith in
    sym (two_parts n (i + 1) number left (entry (joined a b c d) (n + i)) (entry c i) (entry d i)
    (λ j in_row. lower_left_entry n a b c d squares (n + i) j (omega arith) (omega arith) in_row ∙ ap (λ r. entry c r j) e)
    (λ j in_row. lower_right_entry n a b c d squares (n + i) j (omega arith) (omega arith) (omega (arith, in_row, lt)) ∙ ap (λ r. entry d r j) e))
    ∙ ap (λ k. cells_of_row number (left + 1) (tabulate k (entry (joined a b c d) (n + i)))) long

diagonal_squares : (b h : ℕ) (tree : Tree MatChunk) → AreSymmetricChildren b h tree
    → AreSquares (side_of b h) (block_of b h (child tree 0)) (block_of b h (child tree 1)) (transposed (block_of b h (child tree 1))) (block_of b h (child tree 2))
diagonal_squares b h tree all = record {
  a_tall = all.first.sized.tall;
  a_wide = all.first.sized.wide;
  b_wide = all.second.sized.wide;
  c_tall = height-transposed (block_of b h (child tree 1)) ∙ all.second.sized.wide;
}

-- The cells of a row of a symmetric block that begins on the diagonal, up to the diagonal: row r of the leaves that stand in its strip k.
pub low_row_of_part : (b h : ℕ) (above left : ℕ) (tree : Tree MatChunk) → IsCanonicalSymmetric b h tree → (k r number : ℕ) → k < 2 ^ h → r < b
    → strip_cells b r number (part false above left tree (above + k)) ≡ low_cells (block_of b h tree) (k * b + r) number (left * b)
low_row_of_part b zero above left Nothing is k r number low lt =
    sym (low_of_zeros (side_of b 0) (k * b + r) number (left * b) (row_within b (2 ^ 0) k r low lt))
low_row_of_part b zero above left (Root c x y z w) is k r number low lt =
    let m = block_of b 0 (Root c x y z w) in
    let piece : Piece = record { content = chunk.SymLeaf m; left = left; turned = false } in
    let first : k ≡ 0 = omega (arith, low) in
    let row : r ≡ k * b + r = omega (arith, ap (λ n. n * b) first) in
    ap (strip_cells b r number) (part_of_symmetric_leaf false above left m (Root c x y z w) (ap Some (sym (root_of_symmetric_leaf b c x y z w is).0)) (above + k))
    ∙ one_piece b r number above piece (above + k) (omega (arith, first))
    ∙ ap (λ i. low_cells m i number (left * b)) row
low_row_of_part b (suc h) above left tree is k r number low lt =
    let n = side_of b h in
    let all = symmetric_children b h tree is in
    let half = 2 ^ h in
    let a = block_of b h (child tree 0) in
    let m = block_of b h (child tree 1) in
    let d = block_of b h (child tree 2) in
    let squares = diagonal_squares b h tree all in
    let in_all : (i : ℕ) → low_cells (joined a m (transposed m) d) i number (left * b) ≡ low_cells (block_of b (suc h) tree) i number (left * b) =
    λ i. ap (λ q. low_cells q i number (left * b)) (sym (block_of_symmetric_children b h tree is)) in
    ap (strip_cells b r number) (part_of_diagonal b h false above left tree is (above + k))
    ∙ ⊎_elim
    (λ (upper : k < half).
    upper_one b r number (part false above left (child tree 0) (above + k)) (part true (above + half) left (child tree 1) (above + k))
    (part false (above + half) (left + half) (child tree 2) (above + k))
    (none_outside b h true (above + half) left (child tree 1) all.second (above + k) (upper_outside above half k upper))
    (none_low b h (above + half) (left + half) (child tree 2) all.third (above + k) (upper_outside above half k upper))
    ∙ low_row_of_part b h above left (child tree 0) all.first k r number upper lt
    ∙ upper_low n a m (transposed m) d squares (k * b + r) number (left * b) (row_within b half k r upper lt)
    ∙ in_all (k * b + r))
    (λ (lower : (j : ℕ) × (k ≡ half + j) × (j < half)).
    let j = lower.0 in
    let strip : above + k ≡ above + half + j = omega (arith, lower.1) in
    let row : n + (j * b + r) ≡ k * b + r = omega (arith, ap (λ i. i * b) lower.1, add-mul half j b, mul_comm half b) in
    ap (λ s. strip_cells b r number (symmetric_part half above left tree s)) strip
    ∙ lower_both b r number (part false above left (child tree 0) (above + half + j)) (part true (above + half) left (child tree 1) (above + half + j))
    (part false (above + half) (left + half) (child tree 2) (above + half + j)) (none_low b h above left (child tree 0) all.first (above + half + j) (lower_outside above half j lower.2))
    ∙ ap (λ cells. cells ++ strip_cells b r number (part false (above + half) (left + half) (child tree 2) (above + half + j)))
    (row_of_part b h true (above + half) left (child tree 1) all.second j r number lower.2 lt)
    ∙ ap (λ cells. row_cells n (transposed m) (j * b + r) number (left * b) ++ cells)
    (low_row_of_part b h (above + half) (left + half) (child tree 2) all.third j r number lower.2 lt
    ∙ ap (λ c. low_cells d (j * b + r) number c) (further b h left))
    ∙ lower_low n a m (transposed m) d squares (j * b + r) number (left * b) (row_within b half j r lower.2 lt)
    ∙ in_all (n + (j * b + r))
    ∙ ap (λ i. low_cells (block_of b (suc h) tree) i number (left * b)) row)
    (in_half h k low)
