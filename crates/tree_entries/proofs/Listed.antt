-- What the strips of a tree list: the cells of its block.
use Rattle.std.proofs.Common.{◌≡◌, ℕ, zero, suc, ◌+◌, ◌*◌, ◌^◌, ◌<◌, ◌≤◌, false, List, [], ◌++◌, length, Option, Err, refl, sym, ap, ◌∙◌, subst, arith, ⊎_elim}
use Rattle.std.specs.Prelude.{◌/◌, ◌%◌, All, Result}
use Rattle.std.specs.List.{flat_map}
use Rattle.std.proofs.Math.Nat.{div-lt_iff_lt-mul, mod-lt, mul_comm}
use Rattle.std.proofs.Math.Pow.{pow_mono}
use Rattle.std.proofs.lemmas.Nat.{div-add-mod', mul-le}
use Rattle.std.proofs.lemmas.List.Elements.{All-nil}
use Rattle.cht_io.proofs.Adds.{AddsFront_none}
use Rattle.leaf_blocks.specs.Block.{IsBlock}
use Rattle.task_types.specs.Tree.{Tree, Nothing, Root}
use Rattle.mm_text.specs.declared.market.Cell.{Cell}
use Rattle.mm_text.specs.declared.market.Form.{Form}
use Rattle.mm_text.specs.declared.market.Form.TheVariants.{General, Symmetric}
use Rattle.mm_text.specs.Cells.{cells_listed}
use Rattle.mm_text.specs.Written.{cell_line, opening, text_of_cells}
use Rattle.chunk_codec.specs.Spots.{side_of}
use Rattle.quad_matrix.specs.declared.chunk.MatChunk.{MatChunk}
use Rattle.quad_matrix.specs.Blocks.{block_of}
use Rattle.tree_entries.specs.declared.piece.Piece.{Piece}
use Rattle.tree_entries.specs.declared.strips.Strips.{Strips}
use Rattle.tree_entries.specs.BlockTrees.{IsBlockTree, IsCanonicalIn, AreEntriesOf, IsCountOf, IsWrittenAs, IsPrinted}
use Rattle.tree_entries.specs.declared.unprinted.Unprinted.{Unprinted}
use Rattle.tree_entries.specs.Strips.{strip_at, part, levels_of, AreLevels, IsGathered, strip_cells, row_listed, lists_below, all_listed, Fits, IsReadable, first_side, AreStripsOf}
use Rattle.tree_entries.proofs.CellLists.{lists_same, lists_none, lists_length}
use Rattle.tree_entries.proofs.CellRows.{row_cells}
use Rattle.tree_entries.proofs.Gathered.{AreBare, first_fits, bare_side}
use Rattle.tree_entries.proofs.Levels.{levels_in_form, levels_told, block_levels}
use Rattle.tree_entries.proofs.Parts.{pieces_fit, row_of_part}
use Rattle.tree_entries.proofs.LowParts.{low_cells, low_fit, low_row_of_part}
use Rattle.tree_entries.proofs.WholeCells.{row_in, listed_by_rows, row_in_length}

-- ---- Both forms

sized_in : (form : Form) (b h : ℕ) (tree : Tree MatChunk) → IsCanonicalIn form b h tree → IsBlock (side_of b h) (block_of b h tree)
sized_in General b h tree is = is.sized
sized_in Symmetric b h tree is = is.sized

fit_in : (form : Form) (b h : ℕ) (tree : Tree MatChunk) → IsCanonicalIn form b h tree → 0 + 2 ^ h ≤ 2 ^ 16 → (s : ℕ) → All (Fits b) (part false 0 0 tree s)
fit_in General b h tree is low s = pieces_fit b h false 0 0 tree is low s
fit_in Symmetric b h tree is low s = low_fit b h 0 0 tree is low s

none_left : (b : ℕ) → 0 * b ≡ 0
none_left b = omega arith

-- the cells of a row from the pieces of its strip
rows_in : (form : Form) (b h : ℕ) (tree : Tree MatChunk) → IsCanonicalIn form b h tree → (k r number : ℕ) → k < 2 ^ h → r < b
    → strip_cells b r number (part false 0 0 tree k) ≡ row_in form (side_of b h) (block_of b h tree) (k * b + r) number
rows_in General b h tree is k r number low lt =
    let e : k ≡ 0 + k = omega arith in
    ap (λ s. strip_cells b r number (part false 0 0 tree s)) e
    ∙ row_of_part b h false 0 0 tree is k r number low lt
    ∙ ap (row_cells (side_of b h) (block_of b h tree) (k * b + r) number) (none_left b)
rows_in Symmetric b h tree is k r number low lt =
    let e : k ≡ 0 + k = omega arith in
    ap (λ s. strip_cells b r number (part false 0 0 tree s)) e
    ∙ low_row_of_part b h 0 0 tree is k r number low lt
    ∙ ap (low_cells (block_of b h tree) (k * b + r) number) (none_left b)

-- ---- Rows by strips

-- a row of the matrix is one of a strip
row_of_strip : (b n : ℕ) (items : List (List Piece)) (row : ℕ → ℕ → List Cell)
    → ((k r number : ℕ) → k < n → r < b → strip_cells b r number (strip_at items k) ≡ row (k * b + r) number)
    → (i : ℕ) → i < n * b → row_listed b items i ≡ row i (i + 1)
row_of_strip zero n items row each i lt = absurd (omega (arith, lt, mul_comm n zero, none_left n))
row_of_strip (suc b) n items row each i lt =
    let some : 0 < suc b = omega arith in
    each (i / suc b) (i % suc b) (i + 1) ((div-lt_iff_lt-mul some).1 lt) (mod-lt i some)
    ∙ ap (λ k. row k (i + 1)) (div-add-mod' i (suc b))

bare_row : (b : ℕ) (items : List (List Piece)) → AreBare items → (i : ℕ) → row_listed b items i ≡ []
bare_row b items bare i = ap (strip_cells b (i % b) (i + 1)) (bare (i / b))

-- the strip of a row is there
pub strip_there : (i n b : ℕ) → i < n * b → i / b < n
strip_there i n zero lt = absurd (omega (arith, lt, mul_comm n zero, none_left n))
strip_there i n (suc b) lt = let some : 0 < suc b = omega arith in (div-lt_iff_lt-mul some).1 lt

-- ---- What strips list

module _ (form : Form) (b h : ℕ) (tree : Tree MatChunk) (strips : Strips) (is : AreStripsOf tree strips) (canonical : IsCanonicalIn form b h tree) where
  each_row : (k r number : ℕ) → k < 2 ^ h → r < b
      → strip_cells b r number (strip_at strips.strips.items k) ≡ row_in form (side_of b h) (block_of b h tree) (k * b + r) number
  each_row k r number low lt = ap (strip_cells b r number) (is.each k) ∙ rows_in form b h tree canonical k r number low lt

  all_rows : (i : ℕ) → i < 2 ^ h * b → row_listed b strips.strips.items i ≡ row_in form (side_of b h) (block_of b h tree) i (i + 1)
  all_rows i lt = row_of_strip b (2 ^ h) strips.strips.items (row_in form (side_of b h) (block_of b h tree)) each_row i lt

  by_rows : cells_listed form (block_of b h tree) ≡ lists_below (2 ^ h * b) (λ i. row_in form (side_of b h) (block_of b h tree) i (i + 1))
  by_rows =
      listed_by_rows form (side_of b h) (block_of b h tree) (sized_in form b h tree canonical)
      ∙ ap (λ n. lists_below n (λ i. row_in form (side_of b h) (block_of b h tree) i (i + 1))) (mul_comm b (2 ^ h))

  -- without pieces
  bare_listed : AreBare strips.strips.items → all_listed strips ≡ cells_listed form (block_of b h tree)
  bare_listed bare =
      lists_none (length strips.strips.items * strips.side) (row_listed strips.side strips.strips.items) (λ i lt. bare_row strips.side strips.strips.items bare i)
      ∙ sym (by_rows ∙ lists_none (2 ^ h * b) (λ i. row_in form (side_of b h) (block_of b h tree) i (i + 1)) (λ i lt. sym (all_rows i lt) ∙ bare_row b strips.strips.items bare i))

  -- with pieces
  pieces_listed : length strips.strips.items ≡ 2 ^ h → strips.side ≡ b → all_listed strips ≡ cells_listed form (block_of b h tree)
  pieces_listed many side =
      ap (λ n. lists_below (length strips.strips.items * n) (row_listed n strips.strips.items)) side
      ∙ ap (λ n. lists_below (n * b) (row_listed b strips.strips.items)) many
      ∙ lists_same (2 ^ h * b) (row_listed b strips.strips.items) (λ i. row_in form (side_of b h) (block_of b h tree) i (i + 1)) all_rows
      ∙ sym by_rows

-- the strips of a tree list the cells of its block
pub listed_of : (form : Form) (tree : Tree MatChunk) (strips : Strips) → AreLevels tree → AreStripsOf tree strips → AreEntriesOf form tree (all_listed strips)
listed_of form Nothing strips levels is b h canonical = bare_listed form b h Nothing strips is canonical is.each
listed_of form (Root c x y z w) strips levels is b h canonical =
    let tree : Tree MatChunk = Root c x y z w in
    let told : levels_of tree ≡ h = levels_told h tree c (levels_in_form form b h tree canonical) refl in
    let low : h ≤ 16 = omega (arith, told, levels.low) in
    let most = pow_mono low in
    ⊎_elim
    (λ (e : first_side strips.strips.items ≡ b).
    pieces_listed form b h tree strips is canonical (is.all c refl ∙ ap (λ k. 2 ^ k) told) (is.side ∙ e))
    (λ (bare : AreBare strips.strips.items). bare_listed form b h tree strips is canonical bare)
    (first_fits b strips.strips.items (λ s. subst (All (Fits b)) (sym (is.each s)) (fit_in form b h tree canonical (omega (arith, most)) s)))

-- and can be read
pub readable_of : (form : Form) (tree : Tree MatChunk) (strips : Strips) → IsBlockTree form tree → AreStripsOf tree strips → IsReadable strips
readable_of form tree strips block is =
    let b = block.leaf in
    let items = strips.strips.items in
    let most = pow_mono block.low in
    let fit : (s : ℕ) → All (Fits b) (strip_at items s) =
    λ s. subst (All (Fits b)) (sym (is.each s)) (fit_in form b block.height tree block.canonical (omega (arith, most)) s) in
    ⊎_elim
    (λ (e : first_side items ≡ b).
    let side : strips.side ≡ b = is.side ∙ e in
    record { small = omega (arith, side, block.leaf_high); few = is.few; fit = λ s. subst (λ n. All (Fits n) (strip_at items s)) (sym side) (fit s) })
    (λ (bare : AreBare items).
    record {
      small = omega (arith, is.side, bare_side items bare);
      few = is.few;
      fit = λ s. subst (All (Fits strips.side)) (sym (bare s)) (All-nil (Fits strips.side));
    })
    (first_fits b items fit)

-- they are fewer cells than 64 bits can count
pub few_listed : (form : Form) (tree : Tree MatChunk) (strips : Strips) → IsBlockTree form tree → AreStripsOf tree strips → length (all_listed strips) < 2 ^ 64
few_listed form tree strips block is =
    let b = block.leaf in
    let h = block.height in
    let m = block_of b h tree in
    let side = side_of b h in
    let most : side ≤ 64 * 2 ^ 16 = mul-le b (2 ^ h) 64 (2 ^ 16) block.leaf_high (pow_mono block.low) in
    let small : side ≤ 2 ^ 22 = omega (arith, most) in
    let square : side * side ≤ 2 ^ 22 * 2 ^ 22 = mul-le side side (2 ^ 22) (2 ^ 22) small small in
    let count = lists_length side side (λ r. row_in form side m r (r + 1)) (λ r lt. row_in_length form side m r (r + 1) lt) in
    let same : length (all_listed strips) ≡ length (lists_below side (λ r. row_in form side m r (r + 1))) =
    ap length (listed_of form tree strips (block_levels form tree block) is b h block.canonical
    ∙ listed_by_rows form side m (sized_in form b h tree block.canonical)) in
    omega (arith, same, count, square)

-- the strips into which the pieces of a whole tree were put
pub strips_made : (tree : Tree MatChunk) (strips : Strips) (height : ℕ) (empty : List (List Piece)) → height ≡ levels_of tree → levels_of tree ≤ 16
    → length empty ≡ 2 ^ height → AreBare empty → IsGathered empty strips.strips.items (part false 0 0 tree) → strips.side ≡ first_side strips.strips.items
    → AreStripsOf tree strips
strips_made tree strips height empty told low long bare are side =
    let many : length strips.strips.items ≡ 2 ^ levels_of tree = are.long ∙ long ∙ ap (λ k. 2 ^ k) told in
    let most = pow_mono low in
    record {
      side = side;
      few = omega (arith, many, most);
      all = λ c e. many;
      each = λ s. are.each s ∙ ap (λ xs. xs ++ part false 0 0 tree s) (bare s);
    }

-- the entries of a tree are those that its strips list
pub entries_listed : (form : Form) (tree : Tree MatChunk) (strips : Strips) (cells : List Cell) → IsBlockTree form tree → AreStripsOf tree strips
    → cells ≡ all_listed strips → AreEntriesOf form tree cells
entries_listed form tree strips cells block is same b h canonical = same ∙ listed_of form tree strips (block_levels form tree block) is b h canonical

-- and so is their count
pub count_listed : (form : Form) (tree : Tree MatChunk) (strips : Strips) (count : ℕ) → IsBlockTree form tree → AreStripsOf tree strips
    → count ≡ length (all_listed strips) → IsCountOf form tree count
count_listed form tree strips count block is same b h canonical =
    same ∙ ap length (listed_of form tree strips (block_levels form tree block) is b h canonical)

-- and their text
pub text_listed : (form : Form) (rows columns : ℕ) (tree : Tree MatChunk) (strips : Strips) (count : ℕ) (opened : List ℕ) (answer : Result (Unit {0}) Unprinted)
    (before after : Option (List ℕ)) → IsBlockTree form tree → AreStripsOf tree strips → count ≡ length (all_listed strips) → opened ≡ opening form rows columns count
    → IsWrittenAs answer (opened ++ flat_map cell_line (all_listed strips)) before after → IsPrinted form rows columns tree answer before after
text_listed form rows columns tree strips count opened answer before after block is counted told written b h canonical =
    let listed = listed_of form tree strips (block_levels form tree block) is b h canonical in
    let text : opened ++ flat_map cell_line (all_listed strips) ≡ text_of_cells form rows columns (cells_listed form (block_of b h tree)) =
    ap (λ o. o ++ flat_map cell_line (all_listed strips)) (told ∙ ap (opening form rows columns) counted)
    ∙ ap (text_of_cells form rows columns) listed in
    subst (λ t. IsWrittenAs answer t before after) text written

-- where nothing was written, a front of the text was
pub nothing_printed : (form : Form) (rows columns : ℕ) (tree : Tree MatChunk) (why : Unprinted) (answer : Result (Unit {0}) Unprinted) (told : Option (List ℕ))
    → answer ≡ Err why → IsPrinted form rows columns tree answer told told
nothing_printed form rows columns tree why answer told failed b h canonical =
    let text = text_of_cells form rows columns (cells_listed form (block_of b h tree)) in
    subst (λ a. IsWrittenAs a text told told) (sym failed) (AddsFront_none told text)
