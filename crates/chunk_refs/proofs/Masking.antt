-- The children of a body that are not null are those whose trees are there.
use Rattle.std.proofs.Common.{◌≡◌, ℕ, zero, suc, Bool, false, List, [], ◌∷◌, take, drop, Some, refl, sym, ap, ◌∙◌}
use Rattle.std.specs.Prelude.{slice_get, map as each}
use Rattle.cht_ids.specs.declared.refs.Id.{Id}
use Rattle.cht_ids.specs.declared.refs.Ref.{Ref}
use Rattle.cht_ids.specs.declared.refs.Ref.TheVariants.{Null, Id as Held}
use Rattle.task_types.specs.Tree.{Tree, is_there, tree_at, rooted}
use Rattle.task_types.specs.Shown.{mask}
use Rattle.name_states.specs.States.{NameState, BodyRecord, body_at, record_of, body_record_of, children_in}
use Rattle.name_states.specs.Rules.{IsSound}
use Rattle.name_states.specs.Trees.{tree_named, grown, tree_within, body_tree, tree_of}
use Rattle.name_states.proofs.Within.{number-naming}
use Rattle.chunk_refs.specs.declared.parts.Chunk.{Chunk}
use Rattle.chunk_refs.specs.Inside.{shown_chunk, refs_of, all_four, AreNull}
use Rattle.chunk_refs.specs.Masks.{is_some_ref, mask_in, mask_of}
use Rattle.chunk_refs.proofs.Calls.{behind-body, look-tree}

-- whether the reference at a place is not null
abbrev some_at : List Ref → ℕ → Bool
some_at [] j = false
some_at (r ∷ refs) zero = is_some_ref r
some_at (r ∷ refs) (suc j) = some_at refs j

none_at : (refs : List Ref) → AreNull refs → (j : ℕ) → false ≡ some_at refs j
none_at [] null j = refl
none_at (r ∷ refs) null zero = sym (ap is_some_ref null.0)
none_at (r ∷ refs) null (suc j) = none_at refs null.1 j

-- of the first references and null ones behind them, those that are not null have trees
there_at : {C : Type 0} (f : Ref → Tree C) (count : ℕ) (refs : List Ref) → AreNull (drop count refs)
    → ((j : ℕ) (r : Ref) → slice_get (take count refs) j ≡ Some r → is_there (f r) ≡ is_some_ref r)
    → (j : ℕ) → is_there (tree_at (each f (take count refs)) j) ≡ some_at refs j
there_at f zero refs null same j = none_at refs null j
there_at f (suc count) [] null same j = refl
there_at f (suc count) (r ∷ refs) null same zero = same zero r refl
there_at f (suc count) (r ∷ refs) null same (suc j) = there_at f count refs null (λ k s at. same (suc k) s at) j

module _ {C : Type 0} (arity : C → ℕ) (names : NameState C) (sound : IsSound arity names) where
  child_there : (number : ℕ) (body : BodyRecord C) → body_at names number ≡ Some body → (j : ℕ) (r : Ref) → slice_get body.children j ≡ Some r → is_there (tree_of names r) ≡ is_some_ref r
  child_there number body there j Null at = refl
  child_there number body there j (Held id) at =
      let by = sound.children number body j id there at in
      ap (λ o. is_there (tree_named (body_tree names) o)) (number-naming names id by.0 by.1 by.2)
      ∙ ap (λ o. is_there (grown (tree_within by.0.body names) names o)) (sound.named id.number by.0 by.1).1

  pub mask_shown : (id : Id) (owner : ℕ) (chunk : Chunk C) → body_record_of names id ≡ Some (shown_chunk owner chunk) → AreNull (drop chunk.children.count (all_four chunk.children))
      → mask_in chunk.children ≡ mask_of (tree_of names (Held id))
  mask_shown id owner chunk is padded =
      let naming = behind-body names (record_of names id) (shown_chunk owner chunk) is in
      let there = there_at (tree_of names) chunk.children.count (all_four chunk.children) padded (child_there naming.0.body (shown_chunk owner chunk) naming.1) in
      let whole : tree_of names (Held id) ≡ rooted chunk.body (each (tree_of names) (refs_of chunk.children)) =
      look-tree arity names id (shown_chunk owner chunk) sound is ∙ ap (λ found. rooted chunk.body (each (tree_of names) (children_in found))) is in
      (λ i. mask (sym (there 0) i) (sym (there 1) i) (sym (there 2) i) (sym (there 3) i)) ∙ sym (ap mask_of whole)
