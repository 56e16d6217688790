-- What a replay knows of a task's inputs is what is known of their trees.
use Rattle.std.proofs.Common.{◌≡◌, ℕ, zero, suc, ◌<◌, true, List, [], ◌∷◌, map as each, slice_get, Option, None, Some, refl, sym, ap, ◌∙◌, arith}
use Rattle.std.specs.Option.{option_map}
use Rattle.cht_ids.specs.declared.refs.Id.{Id}
use Rattle.cht_ids.specs.declared.refs.Ref.{Ref}
use Rattle.cht_ids.specs.declared.refs.Ref.TheVariants.{Null as NullRef, Id as Held}
use Rattle.task_types.specs.Tree.{Tree, is_there, tree_at}
use Rattle.task_types.specs.Presence.{Present, presence_of}
use Rattle.name_states.specs.States.{NameState, IdRecord, BodyRecord, body_at, record_of, children_in, children_of, body_named, IsLiveRef}
use Rattle.name_states.specs.Rules.{IsSound}
use Rattle.name_states.specs.Trees.{tree_named, led_to, grown, tree_within, body_tree, tree_of}
use Rattle.name_states.specs.WithoutContents.{without_content, without_contents}
use Rattle.name_states.proofs.Basics.{some_value}
use Rattle.name_states.proofs.Values.{get_each_value}
use Rattle.name_states.proofs.Within.{naming-number, number-naming}
use Rattle.name_machine.specs.Control.{ref_at}
use Rattle.name_machine.specs.Replay.{is_held, presence_of_ref}

there_at : {C : Type 0} (f : Ref → Tree C) (refs : List Ref) → ((j : ℕ) (r : Ref) → slice_get refs j ≡ Some r → is_there (f r) ≡ is_held r)
    → (j : ℕ) → is_there (tree_at (each f refs) j) ≡ is_held (ref_at refs j)
there_at f [] same j = refl
there_at f (r ∷ refs) same zero = same 0 r refl
there_at f (r ∷ refs) same (suc j) = there_at f refs (λ k s at. same (suc k) s at) j

module _ {C : Type 0} (arity : C → ℕ) (names : NameState C) (sound : IsSound arity names) where
  -- a body that is there has a tree as far as any depth
  grown_there : (trees : ℕ → Tree C) (o : Option (BodyRecord C)) (body : BodyRecord C) → o ≡ Some body → is_there (grown trees names o) ≡ true
  grown_there trees o body is = ap (λ b. is_there (grown trees names b)) is

  within_there : (depth q : ℕ) (body : BodyRecord C) → q < depth → body_at names q ≡ Some body → is_there (tree_within depth names q) ≡ true
  within_there zero q body low is = absurd (omega arith)
  within_there (suc depth) q body low is = grown_there (tree_within depth names) (body_at names q) body is

  -- a child of a body leads to a tree exactly where it is not null
  child_there : (q : ℕ) (body : BodyRecord C) → body_at names q ≡ Some body → (j : ℕ) (r : Ref) → slice_get body.children j ≡ Some r
      → is_there (led_to (tree_within q names) names r) ≡ is_held r
  child_there q body is j NullRef at = refl
  child_there q body is j (Held id) at =
      let child = sound.children q body j id is at in
      let named = sound.named id.number child.0 child.1 in
      ap (λ o. is_there (tree_named (tree_within q names) o)) (number-naming names id child.0 child.1 child.2)
      ∙ within_there q child.0.body named.0 child.4 named.1

  grown_presence : (q : ℕ) (o : Option (BodyRecord C)) (body : BodyRecord C) → o ≡ Some body → body_at names q ≡ Some body
      → presence_of (grown (tree_within q names) names o)
      ≡ Present (is_held (ref_at body.children 0)) (is_held (ref_at body.children 1)) (is_held (ref_at body.children 2)) (is_held (ref_at body.children 3))
  grown_presence q o body is at =
      let there : (j : ℕ) → is_there (tree_at (each (led_to (tree_within q names) names) body.children) j) ≡ is_held (ref_at body.children j) =
      there_at (led_to (tree_within q names) names) body.children (child_there q body at) in
      ap (λ b. presence_of (grown (tree_within q names) names b)) is
      ∙ (λ i. Present (there 0 i) (there 1 i) (there 2 i) (there 3 i))

  children_same : (o : Option (BodyRecord C)) → children_in (option_map (without_content arity) o) ≡ children_in o
  children_same None = refl
  children_same (Some body) = refl

  children_are : (id : Id) (entry : IdRecord) (body : BodyRecord C) → record_of names id ≡ Some entry → body_at names entry.body ≡ Some body
      → children_of (without_contents arity names) id ≡ body.children
  children_are id entry body named at =
      ap (λ o. children_in (body_named (without_contents arity names) o)) named
      ∙ ap children_in (get_each_value (without_content arity) names.bodies entry.body)
      ∙ children_same (body_at names entry.body)
      ∙ ap children_in at

  pub presence_shown : (r : Ref) → IsLiveRef names r → presence_of (tree_of names r) ≡ presence_of_ref (without_contents arity names) r
  presence_shown NullRef live = refl
  presence_shown (Held id) live =
      let entry = some_value (record_of names id) live in
      let at = naming-number names id entry.0 entry.1 in
      let body = sound.named id.number entry.0 at.0 in
      ap (λ o. presence_of (tree_named (body_tree names) o)) entry.1
      ∙ grown_presence entry.0.body (body_at names entry.0.body) body.0 body.1 body.1
      ∙ sym (ap (λ refs. Present (is_held (ref_at refs 0)) (is_held (ref_at refs 1)) (is_held (ref_at refs 2)) (is_held (ref_at refs 3))) (children_are id entry.0 body.0 entry.1 body.1))
