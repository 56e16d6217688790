-- The trees of matrices in a form.
use Rattle.std.proofs.Common.{◌≡◌, ℕ, ◌≤◌, Bool, true, false, not, ◌==◌, refl, sym, ap, ◌∙◌, subst, arith}
use Rattle.std.proofs.lemmas.Bool.{false≢true}
use Rattle.dense_def.specs.Matrix.{Matrix, height, IsMatrix, peak_of, completed, IsSymmetric}
use Rattle.dense_def.proofs.Operations.{IsSymmetric-entry}
use Rattle.dense_def.proofs.Completed.{height-completed, entry-completed}
use Rattle.leaf_blocks.specs.Block.{IsBlock}
use Rattle.task_types.specs.Tree.{Tree, Nothing, Root, is_there}
use Rattle.chunk_codec.specs.Spots.{side_of}
use Rattle.quad_matrix.specs.declared.chunk.MatChunk.{MatChunk}
use Rattle.quad_matrix.specs.Blocks.{block_of, canonical, canonical_symmetric}
use Rattle.quad_matrix.proofs.ForOthers.{is_there_canonical, is_there_symmetric, nothing_is_canonical, nothing_is_symmetric, peak_of_root, peak_of_symmetric_root, symmetric_by_entries, peak-zeros}
use Rattle.mm_text.specs.declared.market.Form.{Form}
use Rattle.mm_text.specs.declared.market.Form.TheVariants.{General, Symmetric}
use Rattle.tree_entries.specs.BlockTrees.{IsCanonicalIn}
use Rattle.cht_script.specs.Statements.{is_symmetric}
use Rattle.cht_session.specs.Numbers.{root_peak}
use Rattle.cht_session.specs.Forms.{tree_in, IsTreeIn, IsSoundIn}
use Rattle.cht_session.proofs.Completed.{peak-completed, completed-flat}

-- the general form is not the symmetric one
pub not_both : General ≡ Symmetric → ⊥
not_both same = false≢true (ap is_symmetric same)

not_not : (t : Bool) → not (not t) ≡ t
not_not true = refl
not_not false = refl

module _ (b h : ℕ) where
  -- a canonical tree stands for a block
  pub sized_in : (form : Form) (tree : Tree MatChunk) → IsCanonicalIn form b h tree → IsBlock (side_of b h) (block_of b h tree)
  sized_in General tree is = is.sized
  sized_in Symmetric tree is = is.sized

  -- the only tree of a matrix
  pub tree_is : (form : Form) (m : Matrix) (tree : Tree MatChunk) → IsTreeIn form b h m tree → tree ≡ tree_in form b h m
  tree_is General m tree is = is.canonical.same ∙ ap (canonical b h) is.block
  tree_is Symmetric m tree is = is.canonical.same ∙ ap (canonical_symmetric b h) is.block

  -- a matrix with a tree
  pub sound_in : (form : Form) (m : Matrix) (tree : Tree MatChunk) → IsMatrix m → height m ≤ side_of b h → m.columns ≤ side_of b h → (form ≡ Symmetric → height m ≡ m.columns)
      → IsTreeIn form b h m tree → IsSoundIn form b h m
  sound_in form m tree whole rows columns formed is = record {
    whole = whole;
    rows = rows;
    columns = columns;
    formed = formed;
    tree = subst (IsTreeIn form b h m) (tree_is form m tree is) is;
  }

  pub completed_peak : (form : Form) (m : Matrix) → IsSoundIn form b h m → peak_of (completed (side_of b h) m) ≡ peak_of m
  completed_peak form m is = peak-completed (side_of b h) m is.whole is.rows is.columns

  -- what the root of a canonical tree tells is the peak of its block
  canonical_peak : (form : Form) (tree : Tree MatChunk) → IsCanonicalIn form b h tree → root_peak tree ≡ peak_of (block_of b h tree)
  canonical_peak form Nothing is = sym (peak-zeros (side_of b h) (side_of b h))
  canonical_peak General (Root c x y z w) is = peak_of_root b h c x y z w is
  canonical_peak Symmetric (Root c x y z w) is = peak_of_symmetric_root b h c x y z w is

  -- and that of the tree of a matrix the peak of the matrix
  pub tree_peak : (form : Form) (m : Matrix) → IsSoundIn form b h m → root_peak (tree_in form b h m) ≡ peak_of m
  tree_peak form m is = canonical_peak form (tree_in form b h m) is.tree.canonical ∙ ap peak_of is.tree.block ∙ completed_peak form m is

  there_in : (form : Form) (m : Matrix) → is_there (tree_in form b h m) ≡ not (peak_of (completed (side_of b h) m) == 0)
  there_in General m = is_there_canonical b h (completed (side_of b h) m)
  there_in Symmetric m = is_there_symmetric b h (completed (side_of b h) m)

  -- it is nothing exactly where the matrix is zero
  pub tree_null : (form : Form) (m : Matrix) → IsSoundIn form b h m → not (is_there (tree_in form b h m)) ≡ (peak_of m == 0)
  tree_null form m is =
      ap not (there_in form m) ∙ not_not (peak_of (completed (side_of b h) m) == 0) ∙ ap (λ n. n == 0) (completed_peak form m is)

  nothing_in : (form : Form) → IsCanonicalIn form b h Nothing
  nothing_in General = nothing_is_canonical b h
  nothing_in Symmetric = nothing_is_symmetric b h

  -- the matrix without a number other than 0
  pub empty_sound : (form : Form) (m : Matrix) → IsMatrix m → height m ≤ side_of b h → m.columns ≤ side_of b h → (form ≡ Symmetric → height m ≡ m.columns) → peak_of m ≡ 0
      → IsSoundIn form b h m × (tree_in form b h m ≡ Nothing)
  empty_sound form m whole rows columns formed flat =
      let is : IsTreeIn form b h m Nothing = record { canonical = nothing_in form; block = completed-flat (side_of b h) m whole flat } in
      (sound_in form m Nothing whole rows columns formed is, sym (tree_is form m Nothing is))

  -- a matrix in the symmetric form is symmetric
  pub sound_symmetric : (m : Matrix) → IsSoundIn Symmetric b h m → IsSymmetric m
  sound_symmetric m is =
      let side = side_of b h in
      let even : IsSymmetric (completed side m) = subst IsSymmetric is.tree.block is.tree.canonical.symmetric in
      let tall = height-completed side m in
      let low = is.rows in
      symmetric_by_entries (height m) m is.whole refl (sym (is.formed refl))
      (λ i j p q.
      sym (entry-completed side m j i (omega arith) (omega arith))
      ∙ IsSymmetric-entry (completed side m) j i even (omega arith) (omega arith)
      ∙ entry-completed side m i j (omega arith) (omega arith))
