-- The pieces of canonical trees, and the cells of their rows.
use Rattle.std.proofs.Common.{◌≡◌, ℕ, zero, suc, ◌+◌, ◌-◌, ◌*◌, ◌^◌, ◌<◌, ◌≤◌, Bool, true, false, cond, List, [], ◌∷◌, ◌++◌, length, take, get_or, None, Some, refl, sym, ap, ◌∙◌, subst, arith, pow-suc, append-nil, inl, inr, ◌⊎◌, ⊎_elim, eq-eqb, ne_eqb}
use Rattle.std.specs.Prelude.{All}
use Rattle.std.specs.List.{flat_map}
use Rattle.std.proofs.Math.Nat.{suc-mul, add-mul, mul_comm, mul-le-mul_right}
use Rattle.std.proofs.lemmas.Bool.{cases_eq, cases_lt, true≢false}
use Rattle.std.proofs.lemmas.List.{flat_map_more, take_more}
use Rattle.std.proofs.lemmas.List.Concat.{flat_map-append}
use Rattle.std.proofs.lemmas.List.Elements.{All-nil, All-cons, All-append}
use Rattle.dense_def.specs.Matrix.{Matrix, height, entry, joined, transposed, zeros, peak_of, QuadrantsFit}
use Rattle.dense_def.proofs.Entries.{tabulate_ext}
use Rattle.dense_def.proofs.Operations.{entry-transposed, height-transposed}
use Rattle.dense_def.proofs.Quadrants.{transposed-joined}
use Rattle.dense_def.proofs.Zeros.{transposed-zeros}
use Rattle.leaf_blocks.specs.Block.{IsBlock}
use Rattle.task_types.specs.Tree.{Tree, Nothing, Root, child}
use Rattle.name_machine.specs.Paths.{root_content}
use Rattle.mm_text.specs.declared.market.Cell.{Cell}
use Rattle.mm_text.specs.Cells.{cells_of_row}
use Rattle.chunk_codec.specs.Spots.{side_of}
use Rattle.quad_matrix.specs.declared.chunk.MatChunk.{MatChunk}
use Rattle.quad_matrix.specs.declared.chunk.MatChunk.TheVariants as chunk
use Rattle.quad_matrix.specs.Blocks.{block_of, IsCanonical}
use Rattle.quad_matrix.proofs.ForOthers.{side_low, side_twice, suc-sub_one, root_of_leaf, root_of_node, child_canonical, block_of_quadrants}
use Rattle.tree_entries.specs.declared.piece.Piece.{Piece}
use Rattle.tree_entries.specs.Strips.{only_in, part, upper_child, lower_child, quadrants_part, symmetric_part, number_in, piece_cells, strip_cells, Fits}
use Rattle.tree_entries.proofs.CellRows.{row_cells, row_of_zeros, AreSquares, upper_row, lower_row}

-- ---- A node and its children

-- the pieces of a tree whose root is a leaf
pub part_of_leaf : (turned : Bool) (above left : ℕ) (m : Matrix) (tree : Tree MatChunk) → Some (chunk.Leaf m) ≡ root_content tree → (s : ℕ)
    → part turned above left tree s ≡ only_in above (record { content = chunk.Leaf m; left = left; turned = turned }) s
part_of_leaf turned above left m Nothing e s = absurd cc
part_of_leaf turned above left m (Root c x y z w) e s =
    let same : c ≡ chunk.Leaf m = cc in ap (λ k. part turned above left (Root k x y z w) s) same

pub part_of_symmetric_leaf : (turned : Bool) (above left : ℕ) (m : Matrix) (tree : Tree MatChunk) → Some (chunk.SymLeaf m) ≡ root_content tree → (s : ℕ)
    → part turned above left tree s ≡ only_in above (record { content = chunk.SymLeaf m; left = left; turned = turned }) s
part_of_symmetric_leaf turned above left m Nothing e s = absurd cc
part_of_symmetric_leaf turned above left m (Root c x y z w) e s =
    let same : c ≡ chunk.SymLeaf m = cc in ap (λ k. part turned above left (Root k x y z w) s) same

-- of a tree whose root is a node
node_parts : (turned : Bool) (above left k peak : ℕ) (x y z w : Tree MatChunk) (s : ℕ)
    → part turned above left (Root (chunk.Node k peak) x y z w) s ≡ quadrants_part turned (2 ^ (k - 1)) above left (Root (chunk.Node k peak) x y z w) s
node_parts false above left k peak x y z w s = refl
node_parts true above left k peak x y z w s = refl

pub part_of_node : (turned : Bool) (above left k peak : ℕ) (tree : Tree MatChunk) → Some (chunk.Node k peak) ≡ root_content tree → (s : ℕ)
    → part turned above left tree s ≡ quadrants_part turned (2 ^ (k - 1)) above left tree s
part_of_node turned above left k peak Nothing e s = absurd cc
part_of_node turned above left k peak (Root c x y z w) e s =
    let same : chunk.Node k peak ≡ c = cc in
    subst (λ d. part turned above left (Root d x y z w) s ≡ quadrants_part turned (2 ^ (k - 1)) above left (Root d x y z w) s) same
    (node_parts turned above left k peak x y z w s)

pub part_of_symmetric_node : (turned : Bool) (above left k peak : ℕ) (tree : Tree MatChunk) → Some (chunk.SymNode k peak) ≡ root_content tree → (s : ℕ)
    → part turned above left tree s ≡ symmetric_part (2 ^ (k - 1)) above left tree s
part_of_symmetric_node turned above left k peak Nothing e s = absurd cc
part_of_symmetric_node turned above left k peak (Root c x y z w) e s =
    let same : chunk.SymNode k peak ≡ c = cc in
    subst (λ d. part turned above left (Root d x y z w) s ≡ symmetric_part (2 ^ (k - 1)) above left (Root d x y z w) s) same refl

-- whether a content is of a block
abbrev pub is_of_block : MatChunk → Bool
is_of_block (chunk.Leaf m) = true
is_of_block (chunk.Node k peak) = true
is_of_block (chunk.SymLeaf m) = true
is_of_block (chunk.SymNode k peak) = true
is_of_block (chunk.Entries entries) = false
is_of_block (chunk.Num n) = false

other_root : (turned : Bool) (above left : ℕ) (c : MatChunk) (x y z w : Tree MatChunk) → is_of_block c ≡ false → (s : ℕ) → part turned above left (Root c x y z w) s ≡ []
other_root turned above left (chunk.Leaf m) x y z w other s = absurd (true≢false other)
other_root turned above left (chunk.Node k peak) x y z w other s = absurd (true≢false other)
other_root turned above left (chunk.SymLeaf m) x y z w other s = absurd (true≢false other)
other_root turned above left (chunk.SymNode k peak) x y z w other s = absurd (true≢false other)
other_root turned above left (chunk.Entries entries) x y z w other s = refl
other_root turned above left (chunk.Num n) x y z w other s = refl

-- what is no block has no pieces
pub part_of_other : (turned : Bool) (above left : ℕ) (tree : Tree MatChunk) (c : MatChunk) → Some c ≡ root_content tree → is_of_block c ≡ false → (s : ℕ)
    → part turned above left tree s ≡ []
part_of_other turned above left Nothing c e other s = refl
part_of_other turned above left (Root d x y z w) c e other s =
    let same : c ≡ d = cc in other_root turned above left d x y z w (ap is_of_block (sym same) ∙ other) s

-- nor has nothing
pub part_of_nothing : (turned : Bool) (above left : ℕ) (tree : Tree MatChunk) → None ≡ root_content tree → (s : ℕ) → part turned above left tree s ≡ []
part_of_nothing turned above left Nothing e s = refl
part_of_nothing turned above left (Root c x y z w) e s = absurd cc

-- of a canonical tree
pub part_of_quadrants : (b h : ℕ) (turned : Bool) (above left : ℕ) (tree : Tree MatChunk) → IsCanonical b (suc h) tree → (s : ℕ)
    → part turned above left tree s ≡ quadrants_part turned (2 ^ h) above left tree s
part_of_quadrants b h false above left Nothing is s = refl
part_of_quadrants b h true above left Nothing is s = refl
part_of_quadrants b h turned above left (Root c x y z w) is s =
    part_of_node turned above left (suc h) (peak_of (block_of b (suc h) (Root c x y z w))) (Root c x y z w) (ap Some (sym (root_of_node b h c x y z w is))) s
    ∙ ap (λ n. quadrants_part turned (2 ^ n) above left (Root c x y z w) s) (suc-sub_one h)

-- ---- Strips in which a block has no pieces

-- the strip is none of these n
abbrev pub IsOutside : ℕ → ℕ → ℕ → Type 0
IsOutside above n s = (k : ℕ) → k < n → s ≡ above + k → ⊥

pub not_only : (above : ℕ) (piece : Piece) (s : ℕ) → (s ≡ above → ⊥) → only_in above piece s ≡ []
not_only above piece s other = ap (λ t. cond t (piece ∷ []) []) (ne_eqb s above other)

pub only_there : (above : ℕ) (piece : Piece) (s : ℕ) → s ≡ above → only_in above piece s ≡ piece ∷ []
only_there above piece s same = ap (λ t. cond t (piece ∷ []) []) (eq-eqb s above same)

pub twice : (h : ℕ) → 2 ^ suc h ≡ 2 ^ h + 2 ^ h
twice h = rw pow-suc (omega arith)

pub outside_upper : (above h s : ℕ) → IsOutside above (2 ^ suc h) s → IsOutside above (2 ^ h) s
outside_upper above h s out k lt e = out k (omega (arith, twice h)) e

pub outside_lower : (above h s : ℕ) → IsOutside above (2 ^ suc h) s → IsOutside (above + 2 ^ h) (2 ^ h) s
outside_lower above h s out k lt e = out (2 ^ h + k) (omega (arith, twice h)) (omega (arith, e))

four_empty : (a b c d : List Piece) → a ≡ [] → b ≡ [] → c ≡ [] → d ≡ [] → a ++ b ++ c ++ d ≡ []
four_empty a b c d e f g h = ap (λ l. l ++ b ++ c ++ d) e ∙ ap (λ l. [] ++ l ++ c ++ d) f ∙ ap (λ l. [] ++ [] ++ l ++ d) g ∙ ap (λ l. [] ++ [] ++ [] ++ l) h

pub none_outside : (b h : ℕ) (turned : Bool) (above left : ℕ) (tree : Tree MatChunk) → IsCanonical b h tree → (s : ℕ) → IsOutside above (2 ^ h) s
    → part turned above left tree s ≡ []
none_outside b zero turned above left Nothing is s out = refl
none_outside b zero turned above left (Root c x y z w) is s out =
    part_of_leaf turned above left (block_of b 0 (Root c x y z w)) (Root c x y z w) (ap Some (sym (root_of_leaf b c x y z w is).0)) s
    ∙ not_only above (record { content = chunk.Leaf (block_of b 0 (Root c x y z w)); left = left; turned = turned }) s (λ e. out 0 (omega arith) (omega (arith, e)))
none_outside b (suc h) turned above left tree is s out =
    let child_is = child_canonical b h tree is in
    part_of_quadrants b h turned above left tree is s
    ∙ four_empty (part turned above left (child tree 0) s) (part turned above (left + 2 ^ h) (child tree (upper_child turned)) s)
    (part turned (above + 2 ^ h) left (child tree (lower_child turned)) s) (part turned (above + 2 ^ h) (left + 2 ^ h) (child tree 3) s)
    (none_outside b h turned above left (child tree 0) (child_is 0) s (outside_upper above h s out))
    (none_outside b h turned above (left + 2 ^ h) (child tree (upper_child turned)) (child_is (upper_child turned)) s (outside_upper above h s out))
    (none_outside b h turned (above + 2 ^ h) left (child tree (lower_child turned)) (child_is (lower_child turned)) s (outside_lower above h s out))
    (none_outside b h turned (above + 2 ^ h) (left + 2 ^ h) (child tree 3) (child_is 3) s (outside_lower above h s out))

-- the strips of a half are outside of the other one
pub upper_outside : (above n k : ℕ) → k < n → IsOutside (above + n) n (above + k)
upper_outside above n k lt j less e = omega (arith, e)

pub lower_outside : (above n k : ℕ) → k < n → IsOutside above n (above + n + k)
lower_outside above n k lt j less e = omega (arith, e)

-- ---- The side of the pieces

pub only_fits : (b above : ℕ) (piece : Piece) (s : ℕ) → Fits b piece → All (Fits b) (only_in above piece s)
only_fits b above piece s fits =
    ⊎_elim
    (λ (e : s ≡ above). subst (All (Fits b)) (sym (only_there above piece s e)) (All-cons (Fits b) piece [] fits (All-nil (Fits b))))
    (λ (other : s ≡ above → ⊥). subst (All (Fits b)) (sym (not_only above piece s other)) (All-nil (Fits b)))
    (cases_eq s above)

-- the pieces of a canonical tree are leaves of that side
pub pieces_fit : (b h : ℕ) (turned : Bool) (above left : ℕ) (tree : Tree MatChunk) → IsCanonical b h tree → left + 2 ^ h ≤ 2 ^ 16 → (s : ℕ)
    → All (Fits b) (part turned above left tree s)
pieces_fit b zero turned above left Nothing is within s = All-nil (Fits b)
pieces_fit b zero turned above left (Root c x y z w) is within s =
    let m = block_of b 0 (Root c x y z w) in
    subst (All (Fits b)) (sym (part_of_leaf turned above left m (Root c x y z w) (ap Some (sym (root_of_leaf b c x y z w is).0)) s))
    (only_fits b above (record { content = chunk.Leaf m; left = left; turned = turned }) s
    (record { side = is.sized.tall ∙ side_low b; left = omega (arith, within) }))
pieces_fit b (suc h) turned above left tree is within s =
    let child_is = child_canonical b h tree is in
    let p0 = part turned above left (child tree 0) s in
    let p1 = part turned above (left + 2 ^ h) (child tree (upper_child turned)) s in
    let p2 = part turned (above + 2 ^ h) left (child tree (lower_child turned)) s in
    let p3 = part turned (above + 2 ^ h) (left + 2 ^ h) (child tree 3) s in
    subst (All (Fits b)) (sym (part_of_quadrants b h turned above left tree is s))
    (All-append (Fits b) (p0 ++ p1 ++ p2) p3
    (All-append (Fits b) (p0 ++ p1) p2
    (All-append (Fits b) p0 p1
    (pieces_fit b h turned above left (child tree 0) (child_is 0) (omega (arith, within, twice h)) s)
    (pieces_fit b h turned above (left + 2 ^ h) (child tree (upper_child turned)) (child_is (upper_child turned)) (omega (arith, within, twice h)) s))
    (pieces_fit b h turned (above + 2 ^ h) left (child tree (lower_child turned)) (child_is (lower_child turned)) (omega (arith, within, twice h)) s))
    (pieces_fit b h turned (above + 2 ^ h) (left + 2 ^ h) (child tree 3) (child_is 3) (omega (arith, within, twice h)) s))

-- ---- The cells of a row

-- a block, or its transpose
abbrev pub shown : Bool → Matrix → Matrix
shown false m = m
shown true m = transposed m

shown_zeros : (turned : Bool) (n : ℕ) → shown turned (zeros n n) ≡ zeros n n
shown_zeros false n = refl
shown_zeros true n = transposed-zeros n n

-- a place of a leaf
number_shown : (turned : Bool) (b : ℕ) (m : Matrix) → IsBlock b m → (i j : ℕ) → i < b → j < b → number_in turned (chunk.Leaf m) i j ≡ entry (shown turned m) i j
number_shown false b m is i j lt in_row = refl
number_shown true b m is i j lt in_row = sym (entry-transposed m i j (omega (arith, is.wide, lt)) (omega (arith, is.tall, in_row)))

-- the cells of two lists of pieces, one behind the other
pub strip_append : (b r number : ℕ) (xs ys : List Piece) → strip_cells b r number (xs ++ ys) ≡ strip_cells b r number xs ++ strip_cells b r number ys
strip_append b r number xs ys = flat_map-append (piece_cells b r number) xs ys

-- a row of a block that has k strips of b rows above it stands within n strips
pub row_within : (b n k r : ℕ) → k < n → r < b → k * b + r < b * n
row_within b n k r lt in_leaf =
    let next : suc k ≤ n = omega (arith, lt) in
    let most : suc k * b ≤ n * b = mul-le-mul_right b next in
    omega (arith, most, suc-mul k b, in_leaf, mul_comm b n)

-- ---- Rows of leaves

pub one_piece : (b r number above : ℕ) (piece : Piece) (s : ℕ) → s ≡ above → strip_cells b r number (only_in above piece s) ≡ piece_cells b r number piece
one_piece b r number above piece s same =
    ap (strip_cells b r number) (only_there above piece s same) ∙ append-nil (piece_cells b r number piece)

-- of nothing
row_of_nothing : (b h : ℕ) (turned : Bool) (k r number left : ℕ) → k < 2 ^ h → r < b
    → [] ≡ row_cells (side_of b h) (shown turned (zeros (side_of b h) (side_of b h))) (k * b + r) number (left * b)
row_of_nothing b h turned k r number left low lt =
    sym (row_of_zeros (side_of b h) (k * b + r) number (left * b) (row_within b (2 ^ h) k r low lt))
    ∙ ap (λ m. row_cells (side_of b h) m (k * b + r) number (left * b)) (sym (shown_zeros turned (side_of b h)))

-- of a leaf
row_of_leaf : (b : ℕ) (turned : Bool) (left : ℕ) (m : Matrix) → IsBlock b m → (r number : ℕ) → r < b
    → piece_cells b r number (record { content = chunk.Leaf m; left = left; turned = turned }) ≡ row_cells b (shown turned m) r number (left * b)
row_of_leaf b turned left m is r number lt =
    ap (cells_of_row number (left * b + 1)) (tabulate_ext b (number_in turned (chunk.Leaf m) r) (entry (shown turned m) r) (λ j in_row. number_shown turned b m is r j lt in_row))

-- ---- Rows of nodes

-- the quadrants of a block, or of its transpose
shown_joined : (turned : Bool) (n : ℕ) (t : ℕ → Matrix) → ((q : ℕ) → IsBlock n (t q)) → shown turned (joined (t 0) (t 1) (t 2) (t 3))
    ≡ joined (shown turned (t 0)) (shown turned (t (upper_child turned))) (shown turned (t (lower_child turned))) (shown turned (t 3))
shown_joined false n t are = refl
shown_joined true n t are = transposed-joined (t 0) (t 1) (t 2) (t 3) (squares_fit n (t 0) (t 1) (t 2) (t 3) (are 0) (are 1) (are 2) (are 3))
  where
    squares_fit : (n : ℕ) (a b c d : Matrix) → IsBlock n a → IsBlock n b → IsBlock n c → IsBlock n d → QuadrantsFit a b c d
    squares_fit n a b c d p q r s = record {
      upper = p.tall ∙ sym q.tall;
      lower = r.tall ∙ sym s.tall;
      left = p.wide ∙ sym r.wide;
      right = q.wide ∙ sym s.wide;
    }

shown_tall : (turned : Bool) (n : ℕ) (m : Matrix) → IsBlock n m → height (shown turned m) ≡ n
shown_tall false n m is = is.tall
shown_tall true n m is = height-transposed m ∙ is.wide

shown_wide : (turned : Bool) (n : ℕ) (m : Matrix) → IsBlock n m → (shown turned m).columns ≡ n
shown_wide false n m is = is.wide
shown_wide true n m is = is.tall

shown_squares : (turned : Bool) (n : ℕ) (t : ℕ → Matrix) → ((q : ℕ) → IsBlock n (t q))
    → AreSquares n (shown turned (t 0)) (shown turned (t (upper_child turned))) (shown turned (t (lower_child turned))) (shown turned (t 3))
shown_squares turned n t are = record {
  a_tall = shown_tall turned n (t 0) (are 0);
  a_wide = shown_wide turned n (t 0) (are 0);
  b_wide = shown_wide turned n (t (upper_child turned)) (are (upper_child turned));
  c_tall = shown_tall turned n (t (lower_child turned)) (are (lower_child turned));
}

-- a block half a block further to the right
pub further : (b h left : ℕ) → (left + 2 ^ h) * b ≡ left * b + side_of b h
further b h left = omega (arith, add-mul left (2 ^ h) b, mul_comm (2 ^ h) b)

-- the cells of four lists of pieces, of which the last two are empty
upper_two : (b r number : ℕ) (p q t u : List Piece) → t ≡ [] → u ≡ [] → strip_cells b r number (p ++ q ++ t ++ u) ≡ strip_cells b r number p ++ strip_cells b r number q
upper_two b r number p q t u e f =
    ap (λ l. strip_cells b r number (p ++ q ++ l ++ u)) e ∙ ap (λ l. strip_cells b r number (p ++ q ++ [] ++ l)) f
    ∙ ap (strip_cells b r number) (append-nil (p ++ q ++ []) ∙ append-nil (p ++ q))
    ∙ strip_append b r number p q

-- or the first two
lower_two : (b r number : ℕ) (p q t u : List Piece) → p ≡ [] → q ≡ [] → strip_cells b r number (p ++ q ++ t ++ u) ≡ strip_cells b r number t ++ strip_cells b r number u
lower_two b r number p q t u e f =
    ap (λ l. strip_cells b r number (l ++ q ++ t ++ u)) e ∙ ap (λ l. strip_cells b r number ([] ++ l ++ t ++ u)) f
    ∙ strip_append b r number t u

-- a strip of a block is one of its upper half or one of its lower half
pub in_half : (h k : ℕ) → k < 2 ^ suc h → (k < 2 ^ h) ⊎ ((j : ℕ) × (k ≡ 2 ^ h + j) × (j < 2 ^ h))
in_half h k lt =
    ⊎_elim
    (λ (low : k < 2 ^ h). inl low)
    (λ (high : 2 ^ h ≤ k). inr (k - 2 ^ h, omega (arith, high), omega (arith, high, lt, twice h)))
    (cases_lt k (2 ^ h))

-- The cells of a row of a block: row r of the leaves that stand in its strip k.
pub row_of_part : (b h : ℕ) (turned : Bool) (above left : ℕ) (tree : Tree MatChunk) → IsCanonical b h tree → (k r number : ℕ) → k < 2 ^ h → r < b
    → strip_cells b r number (part turned above left tree (above + k))
    ≡ row_cells (side_of b h) (shown turned (block_of b h tree)) (k * b + r) number (left * b)
row_of_part b zero turned above left Nothing is k r number low lt = row_of_nothing b zero turned k r number left low lt
row_of_part b zero turned above left (Root c x y z w) is k r number low lt =
    let m = block_of b 0 (Root c x y z w) in
    let piece : Piece = record { content = chunk.Leaf m; left = left; turned = turned } in
    let first : k ≡ 0 = omega (arith, low) in
    let sized : IsBlock b m = subst (λ n. IsBlock n m) (side_low b) is.sized in
    let row : r ≡ k * b + r = omega (arith, ap (λ n. n * b) first) in
    ap (strip_cells b r number) (part_of_leaf turned above left m (Root c x y z w) (ap Some (sym (root_of_leaf b c x y z w is).0)) (above + k))
    ∙ one_piece b r number above piece (above + k) (omega (arith, first))
    ∙ row_of_leaf b turned left m sized r number lt
    ∙ ap (λ n. row_cells n (shown turned m) r number (left * b)) (sym (side_low b))
    ∙ ap (λ i. row_cells (side_of b 0) (shown turned m) i number (left * b)) row
row_of_part b (suc h) turned above left tree is k r number low lt =
    let n = side_of b h in
    let t : ℕ → Matrix = λ q. block_of b h (child tree q) in
    let child_is = child_canonical b h tree is in
    let are : (q : ℕ) → IsBlock n (t q) = λ q. (child_is q).sized in
    let u = upper_child turned in
    let l = lower_child turned in
    let half = 2 ^ h in
    let whole : joined (shown turned (t 0)) (shown turned (t u)) (shown turned (t l)) (shown turned (t 3)) ≡ shown turned (block_of b (suc h) tree) =
    sym (shown_joined turned n t are) ∙ ap (shown turned) (sym (block_of_quadrants b h tree is)) in
    let all = joined (shown turned (t 0)) (shown turned (t u)) (shown turned (t l)) (shown turned (t 3)) in
    let squares = shown_squares turned n t are in
    let in_all : (i : ℕ) → row_cells (n + n) all i number (left * b) ≡ row_cells (side_of b (suc h)) (shown turned (block_of b (suc h) tree)) i number (left * b) =
    λ i. ap (λ m. row_cells (n + n) m i number (left * b)) whole
    ∙ ap (λ s. row_cells s (shown turned (block_of b (suc h) tree)) i number (left * b)) (sym (side_twice b h)) in
    ap (strip_cells b r number) (part_of_quadrants b h turned above left tree is (above + k))
    ∙ ⊎_elim
    (λ (upper : k < half).
    upper_two b r number (part turned above left (child tree 0) (above + k)) (part turned above (left + half) (child tree u) (above + k))
    (part turned (above + half) left (child tree l) (above + k)) (part turned (above + half) (left + half) (child tree 3) (above + k))
    (none_outside b h turned (above + half) left (child tree l) (child_is l) (above + k) (upper_outside above half k upper))
    (none_outside b h turned (above + half) (left + half) (child tree 3) (child_is 3) (above + k) (upper_outside above half k upper))
    ∙ ap (λ cells. cells ++ strip_cells b r number (part turned above (left + half) (child tree u) (above + k)))
    (row_of_part b h turned above left (child tree 0) (child_is 0) k r number upper lt)
    ∙ ap (λ cells. row_cells n (shown turned (t 0)) (k * b + r) number (left * b) ++ cells)
    (row_of_part b h turned above (left + half) (child tree u) (child_is u) k r number upper lt
    ∙ ap (λ c. row_cells n (shown turned (t u)) (k * b + r) number c) (further b h left))
    ∙ sym (upper_row n (shown turned (t 0)) (shown turned (t u)) (shown turned (t l)) (shown turned (t 3)) squares (k * b + r) number (left * b) (row_within b half k r upper lt))
    ∙ in_all (k * b + r))
    (λ (lower : (j : ℕ) × (k ≡ half + j) × (j < half)).
    let j = lower.0 in
    let strip : above + k ≡ above + half + j = omega (arith, lower.1) in
    let row : n + (j * b + r) ≡ k * b + r = omega (arith, ap (λ i. i * b) lower.1, add-mul half j b, mul_comm half b) in
    ap (λ s. strip_cells b r number (quadrants_part turned half above left tree s)) strip
    ∙ lower_two b r number (part turned above left (child tree 0) (above + half + j)) (part turned above (left + half) (child tree u) (above + half + j))
    (part turned (above + half) left (child tree l) (above + half + j)) (part turned (above + half) (left + half) (child tree 3) (above + half + j))
    (none_outside b h turned above left (child tree 0) (child_is 0) (above + half + j) (lower_outside above half j lower.2))
    (none_outside b h turned above (left + half) (child tree u) (child_is u) (above + half + j) (lower_outside above half j lower.2))
    ∙ ap (λ cells. cells ++ strip_cells b r number (part turned (above + half) (left + half) (child tree 3) (above + half + j)))
    (row_of_part b h turned (above + half) left (child tree l) (child_is l) j r number lower.2 lt)
    ∙ ap (λ cells. row_cells n (shown turned (t l)) (j * b + r) number (left * b) ++ cells)
    (row_of_part b h turned (above + half) (left + half) (child tree 3) (child_is 3) j r number lower.2 lt
    ∙ ap (λ c. row_cells n (shown turned (t 3)) (j * b + r) number c) (further b h left))
    ∙ sym (lower_row n (shown turned (t 0)) (shown turned (t u)) (shown turned (t l)) (shown turned (t 3)) squares (j * b + r) number (left * b) (row_within b half j r lower.2 lt))
    ∙ in_all (n + (j * b + r))
    ∙ ap (λ i. row_cells (side_of b (suc h)) (shown turned (block_of b (suc h) tree)) i number (left * b)) row)
    (in_half h k low)

-- a piece more
pub cells_grow : (b r number : ℕ) (pieces : List Piece) (i : ℕ) (piece : Piece) (base cells later : List Cell) → i < length pieces → piece ≡ get_or pieces i piece
    → cells ≡ base ++ strip_cells b r number (take i pieces) → later ≡ cells ++ piece_cells b r number piece → later ≡ base ++ strip_cells b r number (take (i + 1) pieces)
cells_grow b r number pieces i piece base cells later lt is so_far pushed =
    let f = piece_cells b r number in
    pushed ∙ ap (λ cs. cs ++ f piece) so_far ∙ flat_map_more f base (take i pieces) piece
    ∙ ap (λ ps. base ++ flat_map f ps) (ap (λ p. take i pieces ++ p ∷ []) is ∙ sym (take_more pieces i piece lt))
