-- The tree that a registered body leads to.
use Rattle.std.proofs.Common.{◌≡◌, ℕ, suc, ◌+◌, ◌<◌, List, [], ◌∷◌, Some, is_some, refl, sym, ap, ◌∙◌, arith}
use Rattle.std.specs.Prelude.{map as each}
use Rattle.cht_ids.specs.declared.refs.Id.{Id}
use Rattle.cht_ids.specs.declared.refs.Ref.{Ref}
use Rattle.cht_ids.specs.declared.refs.Ref.TheVariants.{Null, Id as Held}
use Rattle.task_types.specs.Tree.{Nothing, rooted}
use Rattle.name_states.specs.declared.holder.Holder.{Holder}
use Rattle.name_states.specs.declared.holder.Holder.TheVariants.{Body}
use Rattle.name_states.specs.States.{NameState, IdRecord, id_at, record_of, owned_by, AreLive}
use Rattle.name_states.specs.Steps.{registered, numbered}
use Rattle.name_states.specs.Trees.{tree_named, led_to, grown, tree_within, body_tree, tree_of}
use Rattle.name_states.specs.Rules.{IsSound, AreWithin}
use Rattle.name_states.proofs.Copies.{AreCopies}
use Rattle.name_states.proofs.Sound.{new-body, new-naming, new-copies, more-registered}
use Rattle.name_states.proofs.Within.{AreMore, owned-same}
use Rattle.name_states.proofs.Trees.{same-within}

module _ {C : Type 0} where
  -- copies lead to what the children lead to
  same-copies : (arity : C → ℕ) (names after : NameState C) (holder : Holder) (depth : ℕ) → IsSound arity names → AreMore names after
      → ((q : ℕ) (naming : IdRecord) → id_at names q ≡ Some naming → naming.body < depth)
      → (refs own : List Ref) → AreCopies names after holder refs own → each (led_to (tree_within depth after) after) own ≡ each (tree_of names) refs
  same-copies arity names after holder depth sound more deep [] [] copies = refl
  same-copies arity names after holder depth sound more deep [] (r ∷ own) copies = absurd copies
  same-copies arity names after holder depth sound more deep (Null ∷ refs) [] copies = absurd copies
  same-copies arity names after holder depth sound more deep (Null ∷ refs) (Null ∷ own) copies = ap (λ rest. Nothing ∷ rest) (same-copies arity names after holder depth sound more deep refs own copies)
  same-copies arity names after holder depth sound more deep (Null ∷ refs) (Held id ∷ own) copies = absurd copies
  same-copies arity names after holder depth sound more deep (Held child ∷ refs) [] copies = absurd copies
  same-copies arity names after holder depth sound more deep (Held child ∷ refs) (Null ∷ own) copies = absurd copies
  same-copies arity names after holder depth sound more deep (Held child ∷ refs) (Held id ∷ own) copies =
      let c = copies.0 in
      let new : record_of after id ≡ Some (record c.0 { holder = holder }) = ap (owned_by id.owner) c.4 ∙ owned-same id.owner (record c.0 { holder = holder }) (c.2 ∙ sym c.3) in
      let old : record_of names child ≡ Some c.0 = ap (owned_by child.owner) c.1 ∙ owned-same child.owner c.0 c.2 in
      let head : tree_named (tree_within depth after) (record_of after id) ≡ tree_named (body_tree names) (record_of names child) =
      ap (tree_named (tree_within depth after)) new
      ∙ sym (same-within arity names after sound more (suc c.0.body) depth c.0.body (omega arith) (deep child.number c.0 c.1) (ap is_some (sound.named child.number c.0 c.1).1))
      ∙ sym (ap (tree_named (body_tree names)) old) in
      let rest = same-copies arity names after holder depth sound more deep refs own copies.1 in
      λ i. head i ∷ rest i

  -- the new identifier leads to the content over the trees of the children
  pub tree-registered : (arity : C → ℕ) (names : NameState C) (drawn : ℕ) (holder : Holder) (worker : ℕ) (content : C) (refs : List Ref) → IsSound arity names → AreWithin names drawn → AreLive names refs
      → tree_of (registered names drawn holder worker content refs) (Held (record { owner = worker; number = drawn + 2 })) ≡ rooted content (each (tree_of names) refs)
  tree-registered arity names drawn holder worker content refs sound within live =
      let after = registered names drawn holder worker content refs in
      ap (tree_named (body_tree after)) (ap (owned_by worker) (new-naming names drawn holder worker content refs within) ∙ owned-same worker (record { owner = worker; body = drawn + 1; holder = holder }) refl)
      ∙ ap (grown (tree_within (drawn + 1) after) after) (new-body names drawn holder worker content refs)
      ∙ ap (rooted content) (same-copies arity names after (Body (drawn + 1)) (drawn + 1) sound (more-registered names drawn holder worker content refs within)
      (λ q naming is. omega (arith, within.bodies naming.body (ap is_some (sound.named q naming is).1)))
      refs (numbered (drawn + 2) refs) (new-copies names drawn holder worker content refs within live))
