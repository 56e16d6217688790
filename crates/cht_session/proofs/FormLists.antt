-- The matrices of lists of entries, in a form.
use Rattle.std.proofs.Common.{◌≡◌, ℕ, ◌≤◌, true, false, cond, Some, [], ◌∷◌, refl, sym, ap, ap₂, ◌∙◌}
use Rattle.std.specs.Prelude.{◌==◌}
use Rattle.std.proofs.lemmas.Bool.{ne_eqb}
use Rattle.dense_def.specs.Matrix.{Matrix, height, IsMatrix, peak_of, completed}
use Rattle.chunk_codec.specs.Spots.{side_of}
use Rattle.quad_matrix.specs.declared.chunk.MatChunk.TheVariants as chunk
use Rattle.quad_matrix.specs.declared.chunk.Entries.{Entries}
use Rattle.quad_matrix.specs.declared.kind.What.TheVariants.{Assign, SAssign}
use Rattle.quad_matrix.specs.Spots.{block_of_spots, block_listed}
use Rattle.quad_matrix.specs.Blocks.{block_of, canonical, alone}
use Rattle.quad_matrix.specs.Goals.{kind_of, goal_at, goal_of, FitsAt}
use Rattle.quad_matrix.specs.Works.{work_of}
use Rattle.quad_matrix.proofs.ForOthers.{sound_some, block_of_list, list_symmetric, block_of_canonical, block_of_symmetric, spots_whole, spots_tall, goal_is_canonical, goal_any}
use Rattle.mm_text.specs.declared.market.Form.{Form}
use Rattle.mm_text.specs.declared.market.Form.TheVariants.{General, Symmetric}
use Rattle.cht_script.specs.Statements.{is_symmetric}
use Rattle.cht_session.specs.Forms.{tree_in, IsTreeIn, IsSoundIn, what_listed, list_work, work_listed, IsListIn}
use Rattle.cht_session.proofs.Completed.{peak-completed}
use Rattle.cht_session.proofs.FormTrees.{tree_is, sound_in}

module _ (b h : ℕ) where
  -- what is asked of a list fits, and its goal is the tree of the matrix
  abbrev Listed : Form → Matrix → Entries → Type 0
  Listed form m entries =
      FitsAt b (what_listed form) h (alone (chunk.Entries entries) ∷ [])
      × IsTreeIn form b h m (goal_at b (what_listed form) h (alone (chunk.Entries entries) ∷ []))

  listed : (form : Form) (m : Matrix) (entries : Entries) → IsListIn form b h m (Some entries) → Listed form m entries
  listed General m entries (sound, block) =
      let list = alone (chunk.Entries entries) in
      let fits : FitsAt b Assign h (list ∷ []) = (sound, refl, refl, refl, refl) in (
        fits,
        record {
          canonical = goal_is_canonical b Assign h (list ∷ []) fits;
          block =
              ap (λ mirrored. block_of b h (canonical b h (block_listed mirrored (side_of b h) entries.list))) sound.symmetric
              ∙ block_of_canonical b h (block_of_spots (side_of b h) entries.list) (spots_whole (side_of b h) entries.list) (spots_tall (side_of b h) entries.list) refl
              ∙ block;
        },
      )
  listed Symmetric m entries (sound, block) =
      let list = alone (chunk.Entries entries) in
      let fits : FitsAt b SAssign h (list ∷ []) = (sound, refl, refl, refl, refl) in (
        fits,
        record {
          canonical = goal_is_canonical b SAssign h (list ∷ []) fits;
          block =
              block_of_symmetric b h (block_of b h list) (block_of_list b h true list fits) (list_symmetric b h list fits)
              ∙ ap (λ mirrored. block_listed mirrored (side_of b h) entries.list) sound.symmetric
              ∙ block;
        },
      )

  -- where it fits
  pub listed_fits : (form : Form) (m : Matrix) (entries : Entries) → IsListIn form b h m (Some entries) → FitsAt b (what_listed form) h (alone (chunk.Entries entries) ∷ [])
  listed_fits form m entries is = (listed form m entries is).0

  -- the matrix of a list of entries
  pub listed_sound : (form : Form) (m : Matrix) (entries : Entries) → IsMatrix m → height m ≤ side_of b h → m.columns ≤ side_of b h → (form ≡ Symmetric → height m ≡ m.columns)
      → IsListIn form b h m (Some entries)
      → IsSoundIn form b h m × (goal_of (kind_of (what_listed form) entries.height) (alone (chunk.Entries entries) ∷ []) ≡ tree_in form b h m)
  listed_sound form m entries whole rows columns formed is =
      let list = alone (chunk.Entries entries) in
      let goal = goal_at b (what_listed form) h (list ∷ []) in
      let one = listed form m entries is in (
        sound_in b h form m goal whole rows columns formed one.1,
        ap (λ k. goal_of (kind_of (what_listed form) k) (list ∷ [])) is.0.height ∙ goal_any b (what_listed form) h (list ∷ []) one.0 ∙ tree_is b h form m goal one.1,
      )

  -- it is not zero
  pub listed_some : (form : Form) (m : Matrix) (entries : Entries) → IsMatrix m → height m ≤ side_of b h → m.columns ≤ side_of b h → IsListIn form b h m (Some entries)
      → (peak_of m == 0) ≡ false
  listed_some form m entries whole rows columns (sound, block) =
      ne_eqb (peak_of m) 0 (λ flat.
      sound_some b h (is_symmetric form) entries sound
      (ap (λ mirrored. peak_of (block_listed mirrored (side_of b h) entries.list)) sound.symmetric ∙ ap peak_of block ∙ peak-completed (side_of b h) m whole rows columns ∙ flat))

  work_at_list : (form : Form) (entries : Entries)
      → work_of (kind_of (what_listed form) entries.height) (alone (chunk.Entries entries) ∷ [])
      ≡ list_work form entries.leaf entries.height (block_listed entries.symmetric (side_of entries.leaf entries.height) entries.list)
  work_at_list General entries = refl
  work_at_list Symmetric entries = refl

  -- and its work is that of the list
  pub listed_work : (form : Form) (m : Matrix) (entries : Entries) → (peak_of m == 0) ≡ false → IsListIn form b h m (Some entries)
      → work_of (kind_of (what_listed form) entries.height) (alone (chunk.Entries entries) ∷ []) ≡ work_listed form b h m
  listed_work form m entries some (sound, block) =
      work_at_list form entries
      ∙ ap₂ (λ l k. list_work form l k (block_listed entries.symmetric (side_of l k) entries.list)) sound.leaf sound.height
      ∙ ap (λ mirrored. list_work form b h (block_listed mirrored (side_of b h) entries.list)) sound.symmetric
      ∙ ap (list_work form b h) block
      ∙ sym (ap (λ t. cond t 0 (list_work form b h (completed (side_of b h) m))) some)
