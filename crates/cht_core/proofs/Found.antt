-- What is found along a path of children.
use Rattle.std.proofs.Common.{◌≡◌, ℕ, zero, suc, ◌<◌, ◌≤◌, List, [], ◌∷◌, map as each, length, slice_get, None, Some, is_some, refl, sym, ap, subst, ◌∙◌, arith}
use Rattle.cht_ids.specs.declared.refs.Id.{Id}
use Rattle.cht_ids.specs.declared.refs.Ref.{Ref}
use Rattle.cht_ids.specs.declared.refs.Ref.TheVariants.{Null as NullRef, Id as Held}
use Rattle.task_types.specs.Tree.{Tree, Nothing, tree_at, child, rooted}
use Rattle.task_types.specs.Meanings.{Meanings}
use Rattle.name_states.specs.States.{NameState, IdRecord, BodyRecord, body_at, record_of, body_named, children_in, children_of, IsLive, IsLiveRef}
use Rattle.name_states.specs.Rules.{IsSound}
use Rattle.name_states.specs.Trees as trees
use Rattle.name_states.specs.Trees.{body_tree, tree_of}
use Rattle.name_states.proofs.Basics.{some_value, none_not_some, same_some}
use Rattle.name_states.proofs.Within.{naming-number, number-naming}
use Rattle.name_machine.specs.States.{tree_named, tree_of_holding, Holds}
use Rattle.name_machine.specs.Control.{Control}
use Rattle.name_machine.specs.Standing.{machine_of, IsOrderly}
use Rattle.name_machine.proofs.Grow as grow
use Rattle.name_machine.specs.Paths.{root_content, tree_below, content_at}
use Rattle.cht_core.proofs.Mine.{holds_mine}

-- nothing is below nothing
below_nothing : {C : Type 0} (path : List ℕ) → tree_below {C = C} Nothing path ≡ Nothing
below_nothing [] = refl
below_nothing (j ∷ path) = below_nothing path

pub nothing_there : {C : Type 0} (path : List ℕ) → content_at {C = C} Nothing path ≡ None
nothing_there path = ap root_content (below_nothing path)

-- a tree of a list at a place, and past its end
at_map : {C : Type 0} (f : Ref → Tree C) (refs : List Ref) (j : ℕ) (r : Ref) → slice_get refs j ≡ Some r → tree_at (each f refs) j ≡ f r
at_map f [] j r at = absurd (none_not_some refl at)
at_map f (s ∷ refs) zero r at = ap f (same_some s r at)
at_map f (s ∷ refs) (suc j) r at = at_map f refs j r at

past_map : {C : Type 0} (f : Ref → Tree C) (refs : List Ref) (j : ℕ) → length refs ≤ j → tree_at (each f refs) j ≡ Nothing
past_map f [] j past = refl
past_map f (s ∷ refs) zero past = absurd (omega arith)
past_map f (s ∷ refs) (suc j) past = past_map f refs j (omega arith)

-- the child of a content over trees
child_low : {C : Type 0} (content : C) (ts : List (Tree C)) (j : ℕ) → j < 4 → child (rooted content ts) j ≡ tree_at ts j
child_low content ts zero low = refl
child_low content ts (suc zero) low = refl
child_low content ts (suc (suc zero)) low = refl
child_low content ts (suc (suc (suc zero))) low = refl
child_low content ts (suc (suc (suc (suc j)))) low = absurd (omega arith)

child_past : {C : Type 0} (content : C) (f : Ref → Tree C) (refs : List Ref) (j : ℕ) → length refs ≤ j → child (rooted content (each f refs)) j ≡ Nothing
child_past content f refs zero past = past_map f refs 0 past
child_past content f refs (suc zero) past = past_map f refs 1 past
child_past content f refs (suc (suc zero)) past = past_map f refs 2 past
child_past content f refs (suc (suc (suc zero))) past = past_map f refs 3 past
child_past content f refs (suc (suc (suc (suc j)))) past = refl

module _ {C : Type 0} (arity : C → ℕ) (names : NameState C) (sound : IsSound arity names) where
  -- the body that a live identifier names
  named_body : (id : Id) → IsLive names id → (entry : IdRecord) × (body : BodyRecord C) × (record_of names id ≡ Some entry) × (body_at names entry.body ≡ Some body)
  named_body id live =
      let entry = some_value (record_of names id) live in
      let at = naming-number names id entry.0 entry.1 in
      let body = sound.named id.number entry.0 at.0 in
      (entry.0, body.0, entry.1, body.1)

  children_are : (id : Id) (entry : IdRecord) (body : BodyRecord C) → record_of names id ≡ Some entry → body_at names entry.body ≡ Some body → children_of names id ≡ body.children
  children_are id entry body named at = ap (λ o. children_in (body_named names o)) named ∙ ap children_in at

  live_child : (q : ℕ) (body : BodyRecord C) (j : ℕ) (r : Ref) → body_at names q ≡ Some body → slice_get body.children j ≡ Some r → IsLiveRef names r
  live_child q body j NullRef at child = tt
  live_child q body j (Held id) at child =
      let it = sound.children q body j id at child in
      ap is_some (number-naming names id it.0 it.1 it.2)

  pub child_is_live : (id : Id) (j : ℕ) (r : Ref) → IsLive names id → slice_get (children_of names id) j ≡ Some r → IsLiveRef names r
  child_is_live id j r live at =
      let it = named_body id live in
      live_child it.0.body it.1 j r it.3 (ap (λ refs. slice_get refs j) (sym (children_are id it.0 it.1 it.2 it.3)) ∙ at)

  pub child_found : (id : Id) (content : C) (j : ℕ) (r : Ref) → tree_of names (Held id) ≡ rooted content (each (tree_of names) (children_of names id)) → j < 4
      → slice_get (children_of names id) j ≡ Some r → tree_of names r ≡ child (tree_of names (Held id)) j
  child_found id content j r tree low at =
      sym (at_map (tree_of names) (children_of names id) j r at) ∙ sym (child_low content (each (tree_of names) (children_of names id)) j low) ∙ ap (λ t. child t j) (sym tree)

  pub child_missing : (id : Id) (content : C) (j : ℕ) → IsLive names id → tree_of names (Held id) ≡ rooted content (each (tree_of names) (children_of names id))
      → content_at (tree_of names (Held id)) [] ≡ Some content → arity content ≤ j → Nothing ≡ child (tree_of names (Held id)) j
  child_missing id content j live tree is past =
      let it = named_body id live in
      let many : length (children_of names id) ≡ arity content =
      ap length (children_are id it.0 it.1 it.2 it.3) ∙ sound.all_children it.0.body it.1 it.3 ∙ ap arity (same_content it.0 it.1 it.2 it.3) in
      sym (child_past content (tree_of names) (children_of names id) j (subst (λ n. n ≤ j) (sym many) past)) ∙ ap (λ t. child t j) (sym tree)
    where
      same_content : (entry : IdRecord) (body : BodyRecord C) → record_of names id ≡ Some entry → body_at names entry.body ≡ Some body → body.content ≡ content
      same_content entry body named at =
          same_some body.content content
          (ap root_content (sym (ap (trees.tree_named (body_tree names)) named ∙ ap (trees.grown (trees.tree_within entry.body names) names) at)) ∙ is)

module _ {C K : Type 0} (lib : Meanings C K) (arity : C → ℕ) (control : Control C (Unit {0}) K) (orderly : IsOrderly arity control) where
  -- an identifier that a caller holds is live, and its tree is the one that it leads to
  pub held_live : (caller : ℕ) (id : Id) → Holds (machine_of lib control) caller id → IsLive control.names id
  held_live caller id holds = ap is_some (grow.mine_of lib arity control orderly caller id (holds_mine lib arity control caller id holds)).named

  pub held_tree : (caller : ℕ) (id : Id) → Holds (machine_of lib control) caller id → tree_named (machine_of lib control) (Held id) ≡ tree_of control.names (Held id)
  held_tree caller id holds =
      let it = grow.mine_of lib arity control orderly caller id (holds_mine lib arity control caller id holds) in
      ap tree_of_holding it.held ∙ sym (ap (trees.tree_named (body_tree control.names)) it.named)
