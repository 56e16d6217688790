-- What the places of an outcome name, and the trees that these references lead to.
use Rattle.std.proofs.Common.{◌≡◌, ℕ, zero, suc, ◌<◌, true, false, List, [], ◌∷◌, ◌++◌, map as each, slice_get, Some, is_some, refl, sym, ap, subst, ◌∙◌, arith}
use Rattle.cht_ids.specs.declared.refs.Id.{Id}
use Rattle.cht_ids.specs.declared.refs.Ref.{Ref}
use Rattle.cht_ids.specs.declared.refs.Ref.TheVariants.{Null as NullRef, Id as Held}
use Rattle.task_types.specs.declared.outcome.Place.{Place}
use Rattle.task_types.specs.declared.outcome.Place.TheVariants.{Null, Input as AtInput, Child, Chunk, Task}
use Rattle.task_types.specs.Tree.{Tree, tree_at, child, rooted}
use Rattle.task_types.specs.Presence.{Presence, Absent, Present, has_child, presence_at}
use Rattle.task_types.specs.Formed.{may_stand}
use Rattle.task_types.specs.Reading.{reading}
use Rattle.name_states.specs.States.{NameState, BodyRecord, body_at, record_of, IsLiveRef, AreLive, body_named, children_in, children_of}
use Rattle.name_states.specs.Rules.{IsSound}
use Rattle.name_states.specs.Trees.{tree_named, grown, tree_within, body_tree, tree_of}
use Rattle.name_states.proofs.Basics.{some_value}
use Rattle.name_states.proofs.Within.{AreMore, number-naming, naming-number}
use Rattle.name_states.proofs.Trees.{same-children, same-within}
use Rattle.name_machine.specs.Control.{ref_at, child_named, ref_named}

-- a place that is a child names one of four
abbrev pub IsNear : Place → Type 0
IsNear Null = Unit {0}
IsNear (AtInput i) = Unit {0}
IsNear (Child i j) = j < 4
IsNear (Chunk i) = Unit {0}
IsNear (Task i) = Unit {0}

child_low : (known : Presence) (j : ℕ) → has_child known j ≡ true → j < 4
child_low Absent j is = absurd (let clash : false ≡ true = is in cc)
child_low (Present a b c d) zero is = omega arith
child_low (Present a b c d) (suc zero) is = omega arith
child_low (Present a b c d) (suc (suc zero)) is = omega arith
child_low (Present a b c d) (suc (suc (suc zero))) is = omega arith
child_low (Present a b c d) (suc (suc (suc (suc j)))) is = absurd (let clash : false ≡ true = is in cc)

-- a place that may stand is near
pub near_if : (known : List Presence) (chunks tasks : ℕ) (place : Place) → may_stand known chunks tasks place ≡ true → IsNear place
near_if known chunks tasks Null is = tt
near_if known chunks tasks (AtInput i) is = tt
near_if known chunks tasks (Child i j) is = child_low (presence_at known i) j is
near_if known chunks tasks (Chunk i) is = tt
near_if known chunks tasks (Task i) is = tt

child_of_rooted : {C : Type 0} (content : C) (trees : List (Tree C)) (j : ℕ) → j < 4 → child (rooted content trees) j ≡ tree_at trees j
child_of_rooted content trees zero low = refl
child_of_rooted content trees (suc zero) low = refl
child_of_rooted content trees (suc (suc zero)) low = refl
child_of_rooted content trees (suc (suc (suc zero))) low = refl
child_of_rooted content trees (suc (suc (suc (suc j)))) low = absurd (omega arith)

module _ {C : Type 0} where
  pub live_at : (names : NameState C) (refs : List Ref) (i : ℕ) → AreLive names refs → IsLiveRef names (ref_at refs i)
  live_at names [] i live = tt
  live_at names (r ∷ refs) zero live = live.0
  live_at names (r ∷ refs) (suc i) live = live_at names refs i live.1

  pub tree_at_ref : (names : NameState C) (refs : List Ref) (i : ℕ) → tree_of names (ref_at refs i) ≡ tree_at (each (tree_of names) refs) i
  tree_at_ref names [] i = refl
  tree_at_ref names (r ∷ refs) zero = refl
  tree_at_ref names (r ∷ refs) (suc i) = tree_at_ref names refs i

  pub live_more : (names : NameState C) (refs : List Ref) (r : Ref) → AreLive names refs → IsLiveRef names r → AreLive names (refs ++ r ∷ [])
  live_more names [] r live one = (one, tt)
  live_more names (first ∷ refs) r live one = (live.0, live_more names refs r live.1 one)

  children_live : (arity : C → ℕ) (names : NameState C) (number : ℕ) (body : BodyRecord C) → IsSound arity names → body_at names number ≡ Some body → (refs : List Ref)
      → ((j : ℕ) (id : Id) → slice_get refs j ≡ Some (Held id) → (k : ℕ) × (slice_get body.children k ≡ Some (Held id))) → AreLive names refs
  children_live arity names number body sound there [] among = tt
  children_live arity names number body sound there (NullRef ∷ refs) among = (tt, children_live arity names number body sound there refs (λ j id at. among (suc j) id at))
  children_live arity names number body sound there (Held id ∷ refs) among =
      let k = among 0 id refl in
      let by = sound.children number body k.0 id there k.1 in
      (ap is_some (number-naming names id by.0 by.1 by.2), children_live arity names number body sound there refs (λ j other at. among (suc j) other at))

  -- the child of a live reference is live, and leads to the child of its tree
  child_read : (arity : C → ℕ) (names : NameState C) → IsSound arity names → (r : Ref) (j : ℕ) → IsLiveRef names r → j < 4
      → IsLiveRef names (child_named names r j) × (tree_of names (child_named names r j) ≡ child (tree_of names r) j)
  child_read arity names sound NullRef j live near = (tt, refl)
  child_read arity names sound (Held id) j live near =
      let found = some_value (record_of names id) live in
      let at = naming-number names id found.0 found.1 in
      let leads = sound.named id.number found.0 at.0 in
      let body : BodyRecord C = leads.0 in
      let same : AreMore names names = record { ids = λ q n n_is. n_is; bodies = λ q b b_is. b_is } in
      let children_are : children_of names id ≡ body.children = ap (λ o. children_in (body_named names o)) found.1 ∙ ap children_in leads.1 in
      let all_live : AreLive names body.children = children_live arity names found.0.body body sound leads.1 body.children (λ k other is. (k, is)) in
      let tree_is : tree_of names (Held id) ≡ rooted body.content (each (tree_of names) body.children) =
      ap (tree_named (body_tree names)) found.1
      ∙ ap (grown (tree_within found.0.body names) names) leads.1
      ∙ ap (rooted body.content) (same-children arity names names found.0.body body (tree_within found.0.body names) (body_tree names) sound same leads.1
      (λ other low there. same-within arity names names sound same found.0.body (suc other) other low (omega arith) there)
      body.children (λ k other is. (k, is))) in (
        subst (λ refs. IsLiveRef names (ref_at refs j)) (sym children_are) (live_at names body.children j all_live),
        ap (λ refs. tree_of names (ref_at refs j)) children_are
            ∙ tree_at_ref names body.children j
            ∙ sym (ap (λ tree. child tree j) tree_is ∙ child_of_rooted body.content (each (tree_of names) body.children) j near),
      )

  -- what a place names is live, and leads to the tree that the place reads as
  pub place_read : (arity : C → ℕ) (names : NameState C) (inputs chunks : List Ref) → IsSound arity names → AreLive names inputs → AreLive names chunks → (place : Place) → IsNear place
      → IsLiveRef names (ref_named names inputs chunks place)
      × (tree_of names (ref_named names inputs chunks place) ≡ reading (each (tree_of names) inputs) (each (tree_of names) chunks) [] place)
  place_read arity names inputs chunks sound live there Null near = (tt, refl)
  place_read arity names inputs chunks sound live there (AtInput i) near = (live_at names inputs i live, tree_at_ref names inputs i)
  place_read arity names inputs chunks sound live there (Child i j) near =
      let one = child_read arity names sound (ref_at inputs i) j (live_at names inputs i live) near in
      (one.0, one.1 ∙ ap (λ tree. child tree j) (tree_at_ref names inputs i))
  place_read arity names inputs chunks sound live there (Chunk i) near = (live_at names chunks i there, tree_at_ref names chunks i)
  place_read arity names inputs chunks sound live there (Task i) near = (tt, refl)
