-- What verbs ask of matrices in the forms that the language allows: it fits where the test of the peaks is met, and its goal is the tree of
-- the matrix that the verb gives.
use Rattle.std.proofs.Common.{◌≡◌, ℕ, ◌+◌, ◌*◌, ◌^◌, ◌≤◌, Bool, true, false, [], ◌∷◌, refl, sym, ap, ap₂, ◌∙◌, subst, subst₂}
use Rattle.std.specs.Prelude.{nat_le, ◌&&◌, ◌==◌}
use Rattle.std.proofs.lemmas.Bool.{leb-true, eqb-true, false≢true}
use Rattle.dense_def.specs.Matrix.{Matrix, height, IsMatrix, plus, times, trace_of, peak_of, completed, SumFits, ProductFits, TraceFits}
use Rattle.dense_def.proofs.Entries.{IsMatrix-made}
use Rattle.dense_def.proofs.Operations.{height-plus, height-times, height-tmul_of, height-mult_of, IsSymmetric-times}
use Rattle.dense_def.proofs.Peaks.{sum_fits, trace_fits}
use Rattle.dense_def.proofs.Completed.{height-completed, times-completed, product_fits-completed}
use Rattle.leaf_blocks.specs.Block.{IsBlock}
use Rattle.task_types.specs.Tree.{Tree}
use Rattle.chunk_codec.specs.Spots.{side_of}
use Rattle.quad_matrix.specs.declared.chunk.MatChunk.{MatChunk}
use Rattle.quad_matrix.specs.declared.kind.What.TheVariants as what
use Rattle.quad_matrix.specs.Blocks.{block_of, canonical, number_tree}
use Rattle.quad_matrix.specs.Goals.{kind_of, goal_at, goal_of, FitsAt}
use Rattle.quad_matrix.specs.Products.{Neither, First, Second}
use Rattle.quad_matrix.proofs.ForOthers.{block_of_canonical, block_of_symmetric, add_canonical, symmetric_add_canonical, block_of_symmetric_add, full_canonical, square_canonical, symmetric_first_canonical, symmetric_second_canonical, goal_any, ProductFitsAt, product_canonical, block_of_product, product_fits_by_peaks, product_goal_stands}
use Rattle.mm_text.specs.declared.market.Form.{Form}
use Rattle.mm_text.specs.declared.market.Form.TheVariants.{General, Symmetric}
use Rattle.cht_script.specs.declared.checked.Shape.{Shape}
use Rattle.cht_script.specs.declared.script.Verb.{Verb}
use Rattle.cht_script.specs.declared.script.Verb.TheVariants.{Copy, Add, Mul, TMul, MulT, Square, Full, Trace, Count, Print, Delete}
use Rattle.cht_script.specs.Statements.{shapes_fit, forms_fit, shape_bound}
use Rattle.cht_script.specs.Meaning.{limit, is_bounded, matrix_given, form_given}
use Rattle.cht_session.specs.Forms.{tree_in, IsTreeIn, IsSoundIn, shape_of, trace_asked, what_asked, inputs_asked, asks_matrix}
use Rattle.cht_session.proofs.Completed.{plus-completed, trace-completed, trace_fits-completed}
use Rattle.cht_session.proofs.FormTrees.{not_both, sized_in, tree_is, sound_in, completed_peak}

both : (a b : Bool) → a && b ≡ true → (a ≡ true) × (b ≡ true)
both true b e = (refl, e)
both false b e = absurd (false≢true e)

-- ---- The matrix that a verb gives

-- its shape is the one that the language tells
pub given_shape : (verb : Verb) (f g : Form) (m n : Matrix) → shape_of (form_given verb f) (matrix_given verb m n) ≡ shape_bound verb (shape_of f m) (shape_of g n)
given_shape Copy f g m n = refl
given_shape Add f g m n = ap (λ rows. record { rows = rows; columns = m.columns; form = f }) (height-plus m n)
given_shape Mul f g m n = ap (λ rows. record { rows = rows; columns = n.columns; form = General }) (height-times m n)
given_shape TMul f g m n = ap (λ rows. record { rows = rows; columns = n.columns; form = General }) (height-tmul_of m n)
given_shape MulT f g m n = ap (λ rows. record { rows = rows; columns = height n; form = General }) (height-mult_of m n)
given_shape Square f g m n = ap (λ rows. record { rows = rows; columns = m.columns; form = f }) (height-times m m)
given_shape Full f g m n = refl
given_shape Trace f g m n = refl
given_shape Count f g m n = refl
given_shape Print f g m n = refl
given_shape Delete f g m n = refl

module _ (b h : ℕ) where
  module _ (f g : Form) (m n : Matrix) (x : IsSoundIn f b h m) (y : IsSoundIn g b h n) where
    given_whole : (verb : Verb) → IsMatrix (matrix_given verb m n)
    given_whole Copy = x.whole
    given_whole Add = IsMatrix-made (height m) m.columns _
    given_whole Mul = IsMatrix-made (height m) n.columns _
    given_whole TMul = IsMatrix-made m.columns n.columns _
    given_whole MulT = IsMatrix-made (height m) (height n) _
    given_whole Square = IsMatrix-made (height m) m.columns _
    given_whole Full = x.whole
    given_whole Trace = x.whole
    given_whole Count = x.whole
    given_whole Print = x.whole
    given_whole Delete = x.whole

    shape_low : (verb : Verb) → ((shape_bound verb (shape_of f m) (shape_of g n)).rows ≤ side_of b h) × ((shape_bound verb (shape_of f m) (shape_of g n)).columns ≤ side_of b h)
    shape_low Copy = (x.rows, x.columns)
    shape_low Add = (x.rows, x.columns)
    shape_low Mul = (x.rows, y.columns)
    shape_low TMul = (x.columns, y.columns)
    shape_low MulT = (x.rows, y.rows)
    shape_low Square = (x.rows, x.columns)
    shape_low Full = (x.rows, x.columns)
    shape_low Trace = (x.rows, x.columns)
    shape_low Count = (x.rows, x.columns)
    shape_low Print = (x.rows, x.columns)
    shape_low Delete = (x.rows, x.columns)

    shape_formed : (verb : Verb) → form_given verb f ≡ Symmetric → (shape_bound verb (shape_of f m) (shape_of g n)).rows ≡ (shape_bound verb (shape_of f m) (shape_of g n)).columns
    shape_formed Copy same = x.formed same
    shape_formed Add same = x.formed same
    shape_formed Mul same = absurd (not_both same)
    shape_formed TMul same = absurd (not_both same)
    shape_formed MulT same = absurd (not_both same)
    shape_formed Square same = x.formed same
    shape_formed Full same = absurd (not_both same)
    shape_formed Trace same = x.formed same
    shape_formed Count same = x.formed same
    shape_formed Print same = x.formed same
    shape_formed Delete same = x.formed same

    given_tall : (verb : Verb) → height (matrix_given verb m n) ≡ (shape_bound verb (shape_of f m) (shape_of g n)).rows
    given_tall verb = ap (λ (shape : Shape). shape.rows) (given_shape verb f g m n)

    given_wide : (verb : Verb) → (matrix_given verb m n).columns ≡ (shape_bound verb (shape_of f m) (shape_of g n)).columns
    given_wide verb = ap (λ (shape : Shape). shape.columns) (given_shape verb f g m n)

    -- it is sound where it has a tree
    given_sound : (verb : Verb) (tree : Tree MatChunk) → IsTreeIn (form_given verb f) b h (matrix_given verb m n) tree → IsSoundIn (form_given verb f) b h (matrix_given verb m n)
    given_sound verb tree is =
        sound_in b h (form_given verb f) (matrix_given verb m n) tree (given_whole verb)
        (rw (given_tall verb) (shape_low verb).0) (rw (given_wide verb) (shape_low verb).1)
        (λ same. given_tall verb ∙ shape_formed verb same ∙ sym (given_wide verb)) is

    -- ---- Blocks

    abbrev s : Tree MatChunk
    s = tree_in f b h m

    abbrev t : Tree MatChunk
    t = tree_in g b h n

    -- the sum of the blocks
    sums_fit : is_bounded Add m n ≡ true → SumFits (block_of b h s) (block_of b h t)
    sums_fit bounded =
        let side = side_of b h in
        subst₂ SumFits (sym x.tree.block) (sym y.tree.block)
        (sum_fits (completed side m) (completed side n) (height-completed side m ∙ sym (height-completed side n)) refl
        (rw (completed_peak b h f m x, completed_peak b h g n y) (leb-true (peak_of m + peak_of n) (2 ^ 126) bounded)))

    plus_is : height m ≡ height n → m.columns ≡ n.columns → plus (block_of b h s) (block_of b h t) ≡ completed (side_of b h) (plus m n)
    plus_is r c = ap₂ plus x.tree.block y.tree.block ∙ plus-completed (side_of b h) m n x.whole y.whole r c

    -- their product
    products_fit : m.columns ≡ height n → m.columns * peak_of m * peak_of n ≤ 2 ^ 126 → ProductFits (block_of b h s) (block_of b h t)
    products_fit inner le =
        subst₂ ProductFits (sym x.tree.block) (sym y.tree.block)
        (product_fits-completed (side_of b h) m n x.whole y.whole inner x.columns le)

    times_is : m.columns ≡ height n → times (block_of b h s) (block_of b h t) ≡ completed (side_of b h) (times m n)
    times_is inner = ap₂ times x.tree.block y.tree.block ∙ times-completed (side_of b h) m n x.whole y.whole inner x.columns

    -- the canonical tree of the product stands for the completed product
    product_block : m.columns ≡ height n → block_of b h (canonical b h (times (block_of b h s) (block_of b h t))) ≡ completed (side_of b h) (times m n)
    product_block inner =
        let bx = block_of b h s in
        let by = block_of b h t in
        block_of_canonical b h (times bx by) (IsMatrix-made (height bx) by.columns _)
        (height-times bx by ∙ (sized_in b h f s x.tree.canonical).tall) (sized_in b h g t y.tree.canonical).wide
        ∙ times_is inner

  -- ---- What is asked

  -- it fits, and its goal is the tree of the matrix that is given
  abbrev Asked : Verb → Form → Form → Matrix → Matrix → Type 0
  Asked verb f g m n =
      FitsAt b (what_asked verb f g) h (inputs_asked verb (tree_in f b h m) (tree_in g b h n))
      × IsTreeIn (form_given verb f) b h (matrix_given verb m n) (goal_at b (what_asked verb f g) h (inputs_asked verb (tree_in f b h m) (tree_in g b h n)))

  asked_sum : (m n : Matrix) → IsSoundIn General b h m → IsSoundIn General b h n → height m ≡ height n → m.columns ≡ n.columns → is_bounded Add m n ≡ true → Asked Add General General m n
  asked_sum m n x y r c bounded =
      let s = tree_in General b h m in
      let t = tree_in General b h n in
      let bx = block_of b h s in
      let by = block_of b h t in
      let sized = x.tree.canonical.sized in
      let fits : FitsAt b what.Add h (s ∷ t ∷ []) = (x.tree.canonical, y.tree.canonical, sums_fit General General m n x y bounded) in (
        fits,
        record {
          canonical = add_canonical b h s t fits;
          block =
              block_of_canonical b h (plus bx by) (IsMatrix-made (height bx) bx.columns _) (height-plus bx by ∙ sized.tall) sized.wide
              ∙ plus_is General General m n x y r c;
        },
      )

  asked_symmetric_sum : (m n : Matrix) → IsSoundIn Symmetric b h m → IsSoundIn Symmetric b h n → height m ≡ height n → m.columns ≡ n.columns → is_bounded Add m n ≡ true → Asked Add Symmetric Symmetric m n
  asked_symmetric_sum m n x y r c bounded =
      let s = tree_in Symmetric b h m in
      let t = tree_in Symmetric b h n in
      let fits : FitsAt b what.SAdd h (s ∷ t ∷ []) = (x.tree.canonical, y.tree.canonical, sums_fit Symmetric Symmetric m n x y bounded) in (
        fits,
        record {
          canonical = symmetric_add_canonical b h s t fits;
          block = block_of_symmetric_add b h s t fits ∙ plus_is Symmetric Symmetric m n x y r c;
        },
      )

  asked_product : (m n : Matrix) → IsSoundIn General b h m → IsSoundIn General b h n → m.columns ≡ height n → is_bounded Mul m n ≡ true → Asked Mul General General m n
  asked_product m n x y inner bounded =
      let s = tree_in General b h m in
      let t = tree_in General b h n in
      let fits = product_fits_by_peaks b h Neither s t m n x.tree.canonical y.tree.canonical x.tree.block y.tree.block x.whole y.whole inner x.columns (leb-true (m.columns * peak_of m * peak_of n) (2 ^ 126) bounded) in
      let stands = product_goal_stands b h Neither s t m n fits x.tree.block y.tree.block x.whole y.whole inner x.columns in
      (fits, record { canonical = stands.0; block = stands.1 })

  asked_first_turned : (m n : Matrix) → IsSoundIn General b h m → IsSoundIn General b h n → height m ≡ height n → is_bounded TMul m n ≡ true → Asked TMul General General m n
  asked_first_turned m n x y inner bounded =
      let s = tree_in General b h m in
      let t = tree_in General b h n in
      let fits = product_fits_by_peaks b h First s t m n x.tree.canonical y.tree.canonical x.tree.block y.tree.block x.whole y.whole inner x.rows (leb-true (height m * peak_of m * peak_of n) (2 ^ 126) bounded) in
      let stands = product_goal_stands b h First s t m n fits x.tree.block y.tree.block x.whole y.whole inner x.rows in
      (fits, record { canonical = stands.0; block = stands.1 })

  asked_second_turned : (m n : Matrix) → IsSoundIn General b h m → IsSoundIn General b h n → m.columns ≡ n.columns → is_bounded MulT m n ≡ true → Asked MulT General General m n
  asked_second_turned m n x y inner bounded =
      let s = tree_in General b h m in
      let t = tree_in General b h n in
      let fits = product_fits_by_peaks b h Second s t m n x.tree.canonical y.tree.canonical x.tree.block y.tree.block x.whole y.whole inner x.columns (leb-true (m.columns * peak_of m * peak_of n) (2 ^ 126) bounded) in
      let stands = product_goal_stands b h Second s t m n fits x.tree.block y.tree.block x.whole y.whole inner x.columns in
      (fits, record { canonical = stands.0; block = stands.1 })

  asked_symmetric_first : (m n : Matrix) → IsSoundIn Symmetric b h m → IsSoundIn General b h n → m.columns ≡ height n → is_bounded Mul m n ≡ true → Asked Mul Symmetric General m n
  asked_symmetric_first m n x y inner bounded =
      let s = tree_in Symmetric b h m in
      let t = tree_in General b h n in
      let fits : FitsAt b what.SMul h (s ∷ t ∷ []) = (
        x.tree.canonical,
        y.tree.canonical,
        products_fit Symmetric General m n x y inner (leb-true (m.columns * peak_of m * peak_of n) (2 ^ 126) bounded),
      ) in
      (fits, record { canonical = symmetric_first_canonical b h s t fits; block = product_block Symmetric General m n x y inner })

  asked_symmetric_second : (m n : Matrix) → IsSoundIn General b h m → IsSoundIn Symmetric b h n → m.columns ≡ height n → is_bounded Mul m n ≡ true → Asked Mul General Symmetric m n
  asked_symmetric_second m n x y inner bounded =
      let s = tree_in General b h m in
      let t = tree_in Symmetric b h n in
      let fits : FitsAt b what.MulS h (s ∷ t ∷ []) = (
        x.tree.canonical,
        y.tree.canonical,
        products_fit General Symmetric m n x y inner (leb-true (m.columns * peak_of m * peak_of n) (2 ^ 126) bounded),
      ) in
      (fits, record { canonical = symmetric_second_canonical b h s t fits; block = product_block General Symmetric m n x y inner })

  -- the square of the block of a symmetric tree is a block
  square_sized : (s : Tree MatChunk) → FitsAt b what.Square h (s ∷ []) → IsBlock (side_of b h) (times (block_of b h s) (block_of b h s))
  square_sized s fits =
      let z = goal_at b what.Full h (s ∷ []) in
      let is = full_canonical b h s fits.0 in
      let sized = fits.0.sized in
      let same : block_of b h z ≡ block_of b h s = block_of_canonical b h (block_of b h s) sized.whole sized.tall sized.wide in
      let general : ProductFitsAt b h Neither z z = (is, is, subst₂ ProductFits (sym same) (sym same) fits.1) in
      subst (IsBlock (side_of b h)) (block_of_product b h Neither z z general ∙ ap₂ times same same) (product_canonical b h Neither z z general).sized

  asked_square : (m n : Matrix) (g : Form) → IsSoundIn Symmetric b h m → is_bounded Square m n ≡ true → Asked Square Symmetric g m n
  asked_square m n g x bounded =
      let s = tree_in Symmetric b h m in
      let bx = block_of b h s in
      let square = x.formed refl in
      let le : m.columns * peak_of m * peak_of m ≤ 2 ^ 126 = subst (λ k. k * peak_of m * peak_of m ≤ 2 ^ 126) square (leb-true (height m * peak_of m * peak_of m) (2 ^ 126) bounded) in
      let fits : FitsAt b what.Square h (s ∷ []) = (x.tree.canonical, products_fit Symmetric Symmetric m m x x (sym square) le) in (
        fits,
        record {
          canonical = square_canonical b h s fits;
          block =
              block_of_symmetric b h (times bx bx) (square_sized s fits) (IsSymmetric-times bx x.tree.canonical.symmetric)
              ∙ times_is Symmetric Symmetric m m x x (sym square);
        },
      )

  asked_full : (m n : Matrix) (g : Form) → IsSoundIn Symmetric b h m → Asked Full Symmetric g m n
  asked_full m n g x =
      let s = tree_in Symmetric b h m in
      let sized = x.tree.canonical.sized in (
        x.tree.canonical,
        record {
          canonical = full_canonical b h s x.tree.canonical;
          block = block_of_canonical b h (block_of b h s) sized.whole sized.tall sized.wide ∙ x.tree.block;
        },
      )

  -- by verb and forms
  asked : (verb : Verb) (f g : Form) (m n : Matrix) → IsSoundIn f b h m → IsSoundIn g b h n → asks_matrix verb ≡ true
      → shapes_fit verb (shape_of f m) (shape_of g n) ≡ true → forms_fit verb (shape_of f m) (shape_of g n) ≡ true → is_bounded verb m n ≡ true → Asked verb f g m n
  asked Copy f g m n x y asks shapes forms bounded = absurd (false≢true asks)
  asked Add General General m n x y asks shapes forms bounded =
      let same = both (height m == height n) (m.columns == n.columns) shapes in
      asked_sum m n x y (eqb-true (height m) (height n) same.0) (eqb-true m.columns n.columns same.1) bounded
  asked Add General Symmetric m n x y asks shapes forms bounded = absurd (false≢true forms)
  asked Add Symmetric General m n x y asks shapes forms bounded = absurd (false≢true forms)
  asked Add Symmetric Symmetric m n x y asks shapes forms bounded =
      let same = both (height m == height n) (m.columns == n.columns) shapes in
      asked_symmetric_sum m n x y (eqb-true (height m) (height n) same.0) (eqb-true m.columns n.columns same.1) bounded
  asked Mul General General m n x y asks shapes forms bounded = asked_product m n x y (eqb-true m.columns (height n) shapes) bounded
  asked Mul General Symmetric m n x y asks shapes forms bounded = asked_symmetric_second m n x y (eqb-true m.columns (height n) shapes) bounded
  asked Mul Symmetric General m n x y asks shapes forms bounded = asked_symmetric_first m n x y (eqb-true m.columns (height n) shapes) bounded
  asked Mul Symmetric Symmetric m n x y asks shapes forms bounded = absurd (false≢true forms)
  asked TMul General General m n x y asks shapes forms bounded = asked_first_turned m n x y (eqb-true (height m) (height n) shapes) bounded
  asked TMul General Symmetric m n x y asks shapes forms bounded = absurd (false≢true forms)
  asked TMul Symmetric g m n x y asks shapes forms bounded = absurd (false≢true forms)
  asked MulT General General m n x y asks shapes forms bounded = asked_second_turned m n x y (eqb-true m.columns n.columns shapes) bounded
  asked MulT General Symmetric m n x y asks shapes forms bounded = absurd (false≢true forms)
  asked MulT Symmetric g m n x y asks shapes forms bounded = absurd (false≢true forms)
  asked Square General g m n x y asks shapes forms bounded = absurd (false≢true forms)
  asked Square Symmetric g m n x y asks shapes forms bounded = asked_square m n g x bounded
  asked Full General g m n x y asks shapes forms bounded = absurd (false≢true forms)
  asked Full Symmetric g m n x y asks shapes forms bounded = asked_full m n g x
  asked Trace f g m n x y asks shapes forms bounded = absurd (false≢true asks)
  asked Count f g m n x y asks shapes forms bounded = absurd (false≢true asks)
  asked Print f g m n x y asks shapes forms bounded = absurd (false≢true asks)
  asked Delete f g m n x y asks shapes forms bounded = absurd (false≢true asks)

  module _ (verb : Verb) (f g : Form) (m n : Matrix) (x : IsSoundIn f b h m) (y : IsSoundIn g b h n) (asks : asks_matrix verb ≡ true)
      (shapes : shapes_fit verb (shape_of f m) (shape_of g n) ≡ true) (forms : forms_fit verb (shape_of f m) (shape_of g n) ≡ true) (bounded : is_bounded verb m n ≡ true) where
    -- where the test of the peaks is met, what is asked fits
    pub asked_fits : FitsAt b (what_asked verb f g) h (inputs_asked verb (tree_in f b h m) (tree_in g b h n))
    asked_fits = (asked verb f g m n x y asks shapes forms bounded).0

    -- the result has a tree in its form, which is the goal
    pub asked_sound : IsSoundIn (form_given verb f) b h (matrix_given verb m n)
        × (goal_of (kind_of (what_asked verb f g) h) (inputs_asked verb (tree_in f b h m) (tree_in g b h n)) ≡ tree_in (form_given verb f) b h (matrix_given verb m n))
    asked_sound =
        let trees = inputs_asked verb (tree_in f b h m) (tree_in g b h n) in
        let goal = goal_at b (what_asked verb f g) h trees in
        let one = asked verb f g m n x y asks shapes forms bounded in (
          given_sound f g m n x y verb goal one.1,
          goal_any b (what_asked verb f g) h trees one.0 ∙ tree_is b h (form_given verb f) (matrix_given verb m n) goal one.1,
        )

  -- ---- Traces

  trace_within : (form : Form) (m : Matrix) → IsSoundIn form b h m → height m ≡ m.columns → nat_le (height m * peak_of m) limit ≡ true → TraceFits (block_of b h (tree_in form b h m))
  trace_within form m x square bounded =
      subst (λ block. TraceFits block) (sym x.tree.block)
      (trace_fits-completed (side_of b h) m x.rows (trace_fits m square (leb-true (height m * peak_of m) (2 ^ 126) bounded)))

  -- where the test is met the trace fits
  pub trace_fitting : (form : Form) (m : Matrix) → IsSoundIn form b h m → height m ≡ m.columns → nat_le (height m * peak_of m) limit ≡ true
      → FitsAt b (trace_asked form) h (tree_in form b h m ∷ [])
  trace_fitting General m x square bounded = (x.tree.canonical, trace_within General m x square bounded)
  trace_fitting Symmetric m x square bounded = (x.tree.canonical, trace_within Symmetric m x square bounded)

  trace_at : (form : Form) (tree : Tree MatChunk) → goal_at b (trace_asked form) h (tree ∷ []) ≡ number_tree (trace_of (block_of b h tree))
  trace_at General tree = refl
  trace_at Symmetric tree = refl

  -- and its goal is the tree of the trace
  pub trace_goal : (form : Form) (m : Matrix) → IsSoundIn form b h m → FitsAt b (trace_asked form) h (tree_in form b h m ∷ [])
      → goal_of (kind_of (trace_asked form) h) (tree_in form b h m ∷ []) ≡ number_tree (trace_of m)
  trace_goal form m x fits =
      goal_any b (trace_asked form) h (tree_in form b h m ∷ []) fits ∙ trace_at form (tree_in form b h m)
      ∙ ap (λ block. number_tree (trace_of block)) x.tree.block
      ∙ ap number_tree (trace-completed (side_of b h) m x.rows)
