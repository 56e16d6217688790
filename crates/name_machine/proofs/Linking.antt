-- Names with copies that a task holds: what they keep, and what the copies lead to.
use Rattle.std.proofs.Common.{◌≡◌, ℕ, ◌+◌, inl, inr, Bool, true, false, List, [], ◌∷◌, map as each, nat_cmp, None, Some, is_some, IsSome, refl, sym, ap, subst, ◌∙◌, arith}
use Rattle.std.specs.FinMap as map
use Rattle.cht_ids.specs.declared.refs.Ref.{Ref}
use Rattle.cht_ids.specs.declared.refs.Ref.TheVariants.{Null, Id as Held}
use Rattle.task_types.specs.Tree.{Nothing}
use Rattle.task_types.proofs.FormedTest.{both_right}
use Rattle.name_states.specs.declared.holder.Holder.{Holder}
use Rattle.name_states.specs.declared.holder.Holder.TheVariants.{Caller, Task, Body}
use Rattle.name_states.specs.States.{NameState, IdRecord, id_at, record_of, owned_by, AreLive}
use Rattle.name_states.specs.Steps.{IsOutside, numbered, linked}
use Rattle.name_states.specs.Steps as names
use Rattle.name_states.specs.Rules.{IsSound, AreReached, AreWithin}
use Rattle.name_states.specs.Trees.{tree_named, body_tree, tree_of}
use Rattle.name_states.proofs.Basics.{inserted_other, inserted_from}
use Rattle.name_states.proofs.Within.{AreMore, owned-same, unnamed-next, within-more, within-linked_ref, live-number, all-live-kept, copied-keeps}
use Rattle.name_states.proofs.Copies.{AreCopies, linked-keeps, linked-copies, bodies-linked}
use Rattle.name_states.proofs.Sound.{sound-copied}
use Rattle.name_states.proofs.Reaching.{reached-more}
use Rattle.name_states.proofs.Trees.{body-tree-kept}
use Rattle.name_machine.specs.States.{Ask}
use Rattle.name_machine.specs.Control.{is_uncollected}
use Rattle.name_machine.specs.Standing.{is_output}
use Rattle.name_machine.proofs.Values.{any_from, any_to}

module _ {C : Type 0} where
  pub sound_linked : (arity : C → ℕ) (names : NameState C) (drawn : ℕ) (holder : Holder) (refs : List Ref) → IsSound arity names → AreWithin names drawn → IsOutside holder → AreLive names refs
      → IsSound arity (linked names drawn holder refs)
  sound_linked arity state drawn holder [] sound within outside live = sound
  sound_linked arity state drawn holder (Null ∷ refs) sound within outside live =
      sound_linked arity state (drawn + 0) holder refs sound (within-more state drawn (drawn + 0) within (omega arith)) outside live.1
  sound_linked arity state drawn holder (Held id ∷ refs) sound within outside live =
      let from = live-number state id live.0 in
      let free : id_at state (drawn + 1) ≡ None = unnamed-next state drawn (drawn + 1) within (omega arith) in
      let next : NameState C = names.copied state id.number (drawn + 1) holder in
      sound_linked arity next (drawn + 1) holder refs (sound-copied arity state id.number (drawn + 1) holder from.0 sound outside from.1 free)
      (within-linked_ref state drawn holder (Held id) within) outside
      (all-live-kept state next refs (copied-keeps state id.number (drawn + 1) holder free) live.1)

  pub more_linked : (names : NameState C) (drawn : ℕ) (holder : Holder) (refs : List Ref) → AreWithin names drawn → AreMore names (linked names drawn holder refs)
  more_linked state drawn holder refs within = record {
    ids = linked-keeps state drawn holder refs within;
    bodies = λ q body is. ap (λ bodies. map.get bodies q) (bodies-linked state drawn holder refs) ∙ is;
  }

  pub reached_linked : (names : NameState C) (drawn : ℕ) (holder : Holder) (refs : List Ref) → AreWithin names drawn → AreReached names → AreReached (linked names drawn holder refs)
  reached_linked state drawn holder refs within reached q some =
      reached-more state (linked state drawn holder refs) q (linked-keeps state drawn holder refs within)
      (reached q (subst (λ bodies. IsSome (map.get bodies q)) (bodies-linked state drawn holder refs) some))

  -- copies lead to what was copied
  copies_read : (arity : C → ℕ) (names after : NameState C) (holder : Holder) → IsSound arity names → AreMore names after → (refs own : List Ref) → AreCopies names after holder refs own
      → each (tree_of after) own ≡ each (tree_of names) refs
  copies_read arity state after holder sound more [] [] copies = refl
  copies_read arity state after holder sound more [] (r ∷ own) copies = absurd copies
  copies_read arity state after holder sound more (Null ∷ refs) [] copies = absurd copies
  copies_read arity state after holder sound more (Null ∷ refs) (Null ∷ own) copies = ap (λ rest. Nothing ∷ rest) (copies_read arity state after holder sound more refs own copies)
  copies_read arity state after holder sound more (Null ∷ refs) (Held id ∷ own) copies = absurd copies
  copies_read arity state after holder sound more (Held child ∷ refs) [] copies = absurd copies
  copies_read arity state after holder sound more (Held child ∷ refs) (Null ∷ own) copies = absurd copies
  copies_read arity state after holder sound more (Held child ∷ refs) (Held id ∷ own) copies =
      let c = copies.0 in
      let entry : IdRecord = record c.0 { holder = holder } in
      let new : record_of after id ≡ Some entry = ap (owned_by id.owner) c.4 ∙ owned-same id.owner entry (c.2 ∙ sym c.3) in
      let old : record_of state child ≡ Some c.0 = ap (owned_by child.owner) c.1 ∙ owned-same child.owner c.0 c.2 in
      let head : tree_of after (Held id) ≡ tree_of state (Held child) =
      ap (tree_named (body_tree after)) new
      ∙ body-tree-kept arity state after sound more c.0.body (ap is_some (sound.named child.number c.0 c.1).1)
      ∙ sym (ap (tree_named (body_tree state)) old) in
      let rest = copies_read arity state after holder sound more refs own copies.1 in
      λ i. head i ∷ rest i

  pub linked_read : (arity : C → ℕ) (names : NameState C) (drawn : ℕ) (holder : Holder) (refs : List Ref) → IsSound arity names → AreWithin names drawn → AreLive names refs
      → each (tree_of (linked names drawn holder refs)) (numbered drawn refs) ≡ each (tree_of names) refs
  linked_read arity state drawn holder refs sound within live =
      copies_read arity state (linked state drawn holder refs) holder sound (more_linked state drawn holder refs within) refs (numbered drawn refs)
      (linked-copies state state drawn holder refs within (λ q e is. is) live)

-- two tests are the same where each passes when the other does
pub same_bools : (a b : Bool) → (a ≡ true → b ≡ true) → (b ≡ true → a ≡ true) → a ≡ b
same_bools true b to back = sym (to refl)
same_bools false true to back = back refl
same_bools false false to back = refl

-- an ask that was not delivered makes no output
pub is_output_more : {G : Type 0} (asks : map.FinMap nat_cmp (Ask G Ref)) (k : ℕ) (a : Ask G Ref) (n : ℕ) (holder : Holder) → a.delivered ≡ None → ((b : Ask G Ref) → map.get asks k ≡ Some b → ⊥)
    → is_output (map.insert asks k a) n holder ≡ is_output asks n holder
is_output_more asks k a n (Caller caller) none free =
    same_bools _ _
    (λ is.
    let one = any_to (is_uncollected caller n) (map.insert asks k a) is in
    elim (inserted_from asks k one.0 a one.1 one.2) [
      | inl here ↦
          absurd (let some : is_some one.1.delivered ≡ true = both_right _ (is_some one.1.delivered) one.3 in
          let clash : false ≡ true = sym (ap is_some (ap (λ b. b.delivered) here.1 ∙ none)) ∙ some in
          cc)
      | inr old ↦ any_from (is_uncollected caller n) asks one.0 one.1 old.1 one.3
    ])
    (λ is.
    let one = any_to (is_uncollected caller n) asks is in
    any_from (is_uncollected caller n) (map.insert asks k a) one.0 one.1 (inserted_other asks k one.0 a (λ same. free one.1 (ap (map.get asks) (sym same) ∙ one.2)) ∙ one.2) one.3)
is_output_more asks k a n (Task task) none free = refl
is_output_more asks k a n (Body body) none free = refl
