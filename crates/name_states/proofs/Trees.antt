-- Trees of names that grow, and of names that lose what nobody names.
use Rattle.std.proofs.Common.{◌≡◌, ℕ, zero, suc, ◌<◌, List, [], ◌∷◌, Some, is_some, IsSome, refl, sym, ap, ◌∙◌, arith}
use Rattle.std.specs.Prelude.{slice_get, map as each}
use Rattle.cht_ids.specs.declared.refs.Id.{Id}
use Rattle.cht_ids.specs.declared.refs.Ref.{Ref}
use Rattle.cht_ids.specs.declared.refs.Ref.TheVariants.{Null, Id as Held}
use Rattle.task_types.specs.Tree.{Tree, Nothing, rooted}
use Rattle.name_states.specs.States.{NameState, IdRecord, BodyRecord, body_at, record_of, owned_by, IsLiveRef}
use Rattle.name_states.specs.Trees.{tree_named, led_to, grown, tree_within, body_tree, tree_of}
use Rattle.name_states.specs.Rules.{IsSound}
use Rattle.name_states.proofs.Basics.{same_some, some_value}
use Rattle.name_states.proofs.Within.{AreMore, naming_of-kept, live-number, owned-same}

module _ {C : Type 0} where
  -- the body that a live identifier names is there
  pub body-named : (arity : C → ℕ) (names : NameState C) (id : Id) (naming : IdRecord) → IsSound arity names → record_of names id ≡ Some naming → IsSome (body_at names naming.body)
  body-named arity names id naming sound is =
      let live = live-number names id (ap is_some is) in
      let same : live.0 ≡ naming = same_some live.0 naming (sym (owned-same id.owner live.0 live.2) ∙ sym (ap (owned_by id.owner) live.1) ∙ is) in
      ap is_some (ap (λ (n : IdRecord). body_at names n.body) (sym same) ∙ (sound.named id.number live.0 live.1).1)

  -- a child is live
  child-live : (arity : C → ℕ) (names : NameState C) (number : ℕ) (body : BodyRecord C) → IsSound arity names → body_at names number ≡ Some body
      → (j : ℕ) (id : Id) → slice_get body.children j ≡ Some (Held id) → (naming : IdRecord) × (record_of names id ≡ Some naming) × (naming.body < number)
  child-live arity names number body sound there j id at =
      let by = sound.children number body j id there at in
      (by.0, ap (owned_by id.owner) by.1 ∙ owned-same id.owner by.0 by.2, by.4)

  -- the trees of children agree where the trees of the bodies that they name do
  pub same-children : (arity : C → ℕ) (names more : NameState C) (number : ℕ) (body : BodyRecord C) (one two : ℕ → Tree C) → IsSound arity names → AreMore names more → body_at names number ≡ Some body
      → ((other : ℕ) → other < number → IsSome (body_at names other) → one other ≡ two other)
      → (refs : List Ref) → ((j : ℕ) (id : Id) → slice_get refs j ≡ Some (Held id) → (k : ℕ) × (slice_get body.children k ≡ Some (Held id)))
      → each (led_to one names) refs ≡ each (led_to two more) refs
  same-children arity names more number body one two sound is_more there same [] among = refl
  same-children arity names more number body one two sound is_more there same (Null ∷ refs) among =
      ap (λ rest. Nothing ∷ rest) (same-children arity names more number body one two sound is_more there same refs (λ j id at. among (suc j) id at))
  same-children arity names more number body one two sound is_more there same (Held id ∷ refs) among =
      let k = among 0 id refl in
      let child = child-live arity names number body sound there k.0 id k.1 in
      let was : record_of names id ≡ Some child.0 = child.1 in
      let kept : record_of more id ≡ record_of names id = naming_of-kept names more id is_more.ids (ap is_some was) in
      let head : tree_named one (record_of names id) ≡ tree_named two (record_of more id) =
      ap (tree_named one) was
      ∙ same child.0.body child.2 (body-named arity names id child.0 sound was)
      ∙ sym (ap (tree_named two) (kept ∙ was)) in
      let rest = same-children arity names more number body one two sound is_more there same refs (λ j other at. among (suc j) other at) in
      λ i. head i ∷ rest i

  -- the tree of a body that is there is the same to any depth above its number, also among more names
  pub same-within : (arity : C → ℕ) (names more : NameState C) → IsSound arity names → AreMore names more
      → (depth deeper number : ℕ) → number < depth → number < deeper → IsSome (body_at names number) → tree_within depth names number ≡ tree_within deeper more number
  same-within arity names more sound is_more zero deeper number a b there = absurd (omega (arith, a))
  same-within arity names more sound is_more (suc depth) zero number a b there = absurd (omega (arith, b))
  same-within arity names more sound is_more (suc depth) (suc deeper) number a b there =
      let body = some_value (body_at names number) there in
      ap (grown (tree_within depth names) names) body.1
      ∙ ap (rooted body.0.content) (same-children arity names more number body.0 (tree_within depth names) (tree_within deeper more) sound is_more body.1
      (λ other low other_there. same-within arity names more sound is_more depth deeper other (omega (arith, low, a)) (omega (arith, low, b)) other_there)
      body.0.children (λ j id at. (j, at)))
      ∙ sym (ap (grown (tree_within deeper more) more) (is_more.bodies number body.0 body.1))

  -- the tree of a body that is there
  pub body-tree-kept : (arity : C → ℕ) (names more : NameState C) → IsSound arity names → AreMore names more → (number : ℕ) → IsSome (body_at names number) → body_tree more number ≡ body_tree names number
  body-tree-kept arity names more sound is_more number there = sym (same-within arity names more sound is_more (suc number) (suc number) number (omega arith) (omega arith) there)

  -- what a live reference leads to stays
  pub tree-kept : (arity : C → ℕ) (names more : NameState C) → IsSound arity names → AreMore names more → (r : Ref) → IsLiveRef names r → tree_of more r ≡ tree_of names r
  tree-kept arity names more sound is_more Null live = refl
  tree-kept arity names more sound is_more (Held id) live =
      let found = some_value (record_of names id) live in
      ap (tree_named (body_tree more)) (naming_of-kept names more id is_more.ids live ∙ found.1)
      ∙ body-tree-kept arity names more sound is_more found.0.body (body-named arity names id found.0 sound found.1)
      ∙ sym (ap (tree_named (body_tree names)) found.1)
