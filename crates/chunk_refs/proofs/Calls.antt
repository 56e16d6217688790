-- What each public call makes of the names, from what its steps make of them.
use Rattle.std.proofs.Common.{IsSome, ◌≡◌, ℕ, zero, suc, ◌<◌, ◌≤◌, Bool, true, false, cond, List, [], ◌∷◌, length, take, Option, Some, None, is_some, nat_eq, refl, sym, ap, ◌∙◌, arith, ◌+◌, ◌↔◌}
use Rattle.std.specs.Prelude.{slice_get, map as each}
use Rattle.std.specs.Option.{option_map, ForSome}
use Rattle.std.specs.Map.{lookup}
use Rattle.std.specs.Ordering.{nat_cmp}
use Rattle.std.specs.FinMap as map
use Rattle.cht_ids.specs.declared.refs.Id.{Id}
use Rattle.cht_ids.specs.declared.refs.Ref.{Ref}
use Rattle.cht_ids.specs.declared.refs.Ref.TheVariants.{Null, Id as Held}
use Rattle.task_types.specs.Tree.{Tree, tree_at, rooted, child}
use Rattle.name_states.specs.declared.holder.Holder.{Holder}
use Rattle.chunk_refs.specs.declared.children.Children.{Children}
use Rattle.chunk_refs.specs.declared.parts.StoredId.{StoredId}
use Rattle.chunk_refs.specs.declared.parts.Chunk.{Chunk}
use Rattle.chunk_refs.specs.declared.parts.Parts.{Parts}
use Rattle.name_states.specs.States.{NameState, IdRecord, BodyRecord, id_at, body_at, record_of, owned_by, IsLive, holder_of, body_named, body_record_of, content_of, no_names, live_ids, live_bodies, body_of, children_of, children_in}
use Rattle.name_states.specs.Trees.{tree_named, led_to, grown, tree_within, body_tree, tree_of}
use Rattle.name_states.specs.Steps.{copied, registered, without_id, IsOutside, numbered}
use Rattle.name_states.specs.Reached.{is_reached, is_kept, swept, IsReached}
use Rattle.name_states.specs.Rules.{IsSound, AreWithin, AreReached}
use Rattle.chunk_refs.specs.Others.{AreAllAsBefore, AreRestAsBefore, AreOthersLive}
use Rattle.chunk_refs.specs.Inside.{names_of, shown_id, shown_chunk, refs_of, all_four, chunk_at, HasChain}
use Rattle.name_states.proofs.Basics.{same_some, none_not_some, some_value, test_apart, removed_from, removed_here, removed_other}
use Rattle.chunk_refs.proofs.Bodies.{shown-bodies_of}
use Rattle.name_states.proofs.Copies.{copied-here, bodies-with_copy}
use Rattle.chunk_refs.proofs.Grown.{others-kept}
use Rattle.chunk_refs.proofs.Ids.{get-ids_of}
use Rattle.chunk_refs.proofs.Linked.{named-chunk}
use Rattle.name_states.proofs.Reaching.{outside-passes, reached-from-test, reached-by, reached-to-test}
use Rattle.name_states.proofs.Sound.{sound-copied, sound-without, more-registered, nothing-left, new-body, new-naming}
use Rattle.name_states.proofs.Swept.{cond-some, body_at-swept, naming_at-swept}
use Rattle.name_states.proofs.Within.{AreMore, live-number, naming-number, number-naming, copied-keeps}
use Rattle.name_states.proofs.Trees.{same-within, same-children, body-tree-kept}

for-some : {X : Type 0} (P : X → Type 0) (found : Option X) (x : X) → found ≡ Some x → ForSome found P → P x
for-some P found x is holds = holds x is

nothing-kept : {X : Type 0} (b : Bool) (x : Option X) → x ≡ None → cond b x None ≡ None
nothing-kept true x none = none
nothing-kept false x none = refl

few-taken : (n : ℕ) (refs : List Ref) → length (take n refs) ≤ length refs
few-taken zero refs = omega arith
few-taken (suc n) [] = omega arith
few-taken (suc n) (r ∷ refs) = omega (arith, few-taken n refs)

-- at most four children
pub few-refs : (children : Children) → length (refs_of children) ≤ 4
few-refs children = few-taken children.count (all_four children)

module _ {C : Type 0} where
  -- the holder of a stored name
  pub holder-none : (parts : Parts C) (id : Id) → lookup (nat_eq id.number) parts.ids.entries ≡ None → None ≡ holder_of (names_of parts) id
  holder-none parts id none =
      sym (ap (λ found. option_map (λ (n : IdRecord). n.holder) (owned_by id.owner found)) (get-ids_of parts.ids.entries id.number ∙ ap (option_map shown_id) none))

  pub holder-some : (parts : Parts C) (id : Id) (name : StoredId) → lookup (nat_eq id.number) parts.ids.entries ≡ Some name → name.owner ≡ id.owner → Some name.holder ≡ holder_of (names_of parts) id
  holder-some parts id name is owner =
      sym (ap (option_map (λ (n : IdRecord). n.holder)) (number-naming (names_of parts) id (shown_id name) (get-ids_of parts.ids.entries id.number ∙ ap (option_map shown_id) is) owner))

  pub holder-other : (parts : Parts C) (id : Id) (name : StoredId) → lookup (nat_eq id.number) parts.ids.entries ≡ Some name → (name.owner ≡ id.owner → ⊥) → None ≡ holder_of (names_of parts) id
  holder-other parts id name is owner =
      sym (ap (λ found. option_map (λ (n : IdRecord). n.holder) (owned_by id.owner found)) (get-ids_of parts.ids.entries id.number ∙ ap (option_map shown_id) is)
      ∙ ap (λ b. option_map (λ (n : IdRecord). n.holder) (cond b (Some (shown_id name)) None)) (test_apart name.owner id.owner owner))

  -- the body that a live identifier names
  pub chunk-named : (parts : Parts C) (id : Id) (name : StoredId) (chunk : Chunk C) → HasChain parts None → record_of (names_of parts) id ≡ Some (shown_id name)
      → lookup (nat_eq id.number) parts.ids.entries ≡ Some name → chunk_at parts.stores.items name.owner name.key ≡ Some chunk
      → body_record_of (names_of parts) id ≡ Some (shown_chunk id.owner chunk)
  chunk-named parts id name chunk has named is at =
      let owner = (naming-number (names_of parts) id (shown_id name) named).1 in
      ap (body_named (names_of parts)) named
      ∙ ap (body_at (names_of parts)) (sym (named-chunk parts None has.0 id.number name chunk has.1 is at))
      ∙ (shown-bodies_of parts.stores.items has.1.apart).there name.owner name.key chunk at
      ∙ ap (λ o. Some (shown_chunk o chunk)) owner

  -- an identifier of a caller or a task may go
  pub sound-gone : (arity : C → ℕ) (names : NameState C) (id : Id) → IsSound arity names → IsLive names id → ForSome (holder_of names id) IsOutside → IsSound arity (without_id names id.number)
  sound-gone arity names id sound live outside =
      let naming = some_value (record_of names id) live in
      let number = naming-number names id naming.0 naming.1 in
      sound-without arity names id.number naming.0 sound number.0 (for-some IsOutside (holder_of names id) naming.0.holder (ap (option_map (λ (n : IdRecord). n.holder)) naming.1) outside)

  pub behind-body : (names : NameState C) (found : Option IdRecord) (body : BodyRecord C) → body_named names found ≡ Some body → (naming : IdRecord) × (body_at names naming.body ≡ Some body) × (found ≡ Some naming)
  behind-body names None body is = absurd (none_not_some refl is)
  behind-body names (Some naming) body is = (naming, is, refl)

  -- the child of a body that a live identifier names
  pub child-within : (arity : C → ℕ) (names : NameState C) (id : Id) (body : BodyRecord C) (j : ℕ) → IsSound arity names → body_record_of names id ≡ Some body → ForSome (content_of names id) (λ content. j < arity content)
      → j < length body.children
  child-within arity names id body j sound is within =
      let naming = behind-body names (record_of names id) body is in
      let fits = for-some (λ content. j < arity content) (content_of names id) body.content (ap (option_map (λ (b : BodyRecord C). b.content)) is) within in
      omega (arith, fits, sound.all_children naming.0.body body naming.1)

  tree-at : (trees : Ref → Tree C) (refs : List Ref) (j : ℕ) (r : Ref) → slice_get refs j ≡ Some r → tree_at (each trees refs) j ≡ trees r
  tree-at trees [] j r is = absurd (none_not_some refl is)
  tree-at trees (first ∷ refs) zero r is = ap trees (same_some first r is)
  tree-at trees (first ∷ refs) (suc j) r is = tree-at trees refs j r is

  child-rooted : (content : C) (trees : List (Tree C)) (j : ℕ) → j < 4 → child (rooted content trees) j ≡ tree_at trees j
  child-rooted content trees zero few = refl
  child-rooted content trees (suc zero) few = refl
  child-rooted content trees (suc (suc zero)) few = refl
  child-rooted content trees (suc (suc (suc zero))) few = refl
  child-rooted content trees (suc (suc (suc (suc j)))) few = absurd (omega (arith, few))

  led-deep : (arity : C → ℕ) (names : NameState C) (number : ℕ) (body : BodyRecord C) (j : ℕ) (r : Ref) → IsSound arity names → body_at names number ≡ Some body → slice_get body.children j ≡ Some r
      → led_to (tree_within number names) names r ≡ tree_of names r
  led-deep arity names number body j Null sound there at = refl
  led-deep arity names number body j (Held id) sound there at =
      let by = sound.children number body j id there at in
      let named = number-naming names id by.0 by.1 by.2 in
      ap (tree_named (tree_within number names)) named
      ∙ same-within arity names names sound (record { ids = λ q n is. is; bodies = λ q b is. is }) number (suc by.0.body) by.0.body by.4 (omega arith) (ap is_some (sound.named id.number by.0 by.1).1)
      ∙ sym (ap (tree_named (body_tree names)) named)

  pub child-tree : (arity : C → ℕ) (names : NameState C) (id : Id) (body : BodyRecord C) (j : ℕ) (r : Ref) → IsSound arity names → body_record_of names id ≡ Some body → slice_get body.children j ≡ Some r → j < 4
      → tree_of names r ≡ child (tree_of names (Held id)) j
  child-tree arity names id body j r sound is at few =
      let naming = behind-body names (record_of names id) body is in
      let whole : tree_of names (Held id) ≡ rooted body.content (each (led_to (tree_within naming.0.body names) names) body.children) =
      ap (tree_named (body_tree names)) naming.2 ∙ ap (grown (tree_within naming.0.body names) names) naming.1 in
      sym (ap (λ tree. child tree j) whole ∙ child-rooted body.content _ j few ∙ tree-at (led_to (tree_within naming.0.body names) names) body.children j r at ∙ led-deep arity names naming.0.body body j r sound naming.1 at)

  -- a copy
  pub more-copied : (names : NameState C) (from number : ℕ) (holder : Holder) → id_at names number ≡ None → AreMore names (copied names from number holder)
  more-copied names from number holder free = record {
    ids = copied-keeps names from number holder free;
    bodies = λ q body is. ap (λ b. map.get b q) (bodies-with_copy names number holder (id_at names from)) ∙ is;
  }

  pub copy-named : (names : NameState C) (id : Id) (number : ℕ) (holder : Holder) → IsLive names id
      → (source : IdRecord) × (record_of names id ≡ Some source) × (record_of (copied names id.number number holder) (record { owner = id.owner; number = number }) ≡ Some (record source { holder = holder }))
  copy-named names id number holder live =
      let source = some_value (record_of names id) live in
      let known = naming-number names id source.0 source.1 in
      (source.0, source.1, number-naming (copied names id.number number holder) (record { owner = id.owner; number = number }) (record source.0 { holder = holder }) (copied-here names id.number number holder source.0 known.0) known.1)

  pub copy-tree : (arity : C → ℕ) (names : NameState C) (id : Id) (number : ℕ) (holder : Holder) → IsSound arity names → IsLive names id → id_at names number ≡ None
      → tree_of (copied names id.number number holder) (Held (record { owner = id.owner; number = number })) ≡ tree_of names (Held id)
  copy-tree arity names id number holder sound live free =
      let named = copy-named names id number holder live in
      let known = naming-number names id named.0 named.1 in
      ap (tree_named (body_tree (copied names id.number number holder))) named.2
      ∙ body-tree-kept arity names (copied names id.number number holder) sound (more-copied names id.number number holder free) named.0.body (ap is_some (sound.named id.number named.0 known.0).1)
      ∙ sym (ap (tree_named (body_tree names)) named.1)

  pub copy-held : (names : NameState C) (id : Id) (number : ℕ) (holder : Holder) → IsLive names id
      → holder_of (copied names id.number number holder) (record { owner = id.owner; number = number }) ≡ Some holder
  copy-held names id number holder live = ap (option_map (λ (n : IdRecord). n.holder)) (copy-named names id number holder live).2

  pub copy-sound : (arity : C → ℕ) (names : NameState C) (id : Id) (number : ℕ) (holder : Holder) → IsSound arity names → IsOutside holder → IsLive names id → id_at names number ≡ None
      → IsSound arity (copied names id.number number holder)
  copy-sound arity names id number holder sound outside live free =
      let known = live-number names id live in
      sound-copied arity names id.number number holder known.0 sound outside known.1 free

  -- what a sweep leaves was there
  more-swept : (names : NameState C) → AreMore (swept names) names
  more-swept names = record {
    ids = λ q naming is. (cond-some (is_kept names (id_at names q)) (id_at names q) naming (sym (naming_at-swept names q) ∙ is)).1;
    bodies = λ q body is. (cond-some (is_reached names q) (body_at names q) body (sym (body_at-swept names q) ∙ is)).1;
  }

  pub more-deleted : (names : NameState C) (number : ℕ) → AreMore (swept (without_id names number)) names
  more-deleted names number =
      let more = more-swept (without_id names number) in
      record {
        ids = λ q naming is. (removed_from names.ids number q naming (more.ids q naming is)).1;
        bodies = more.bodies;
      }

  pub delete-gone : (names : NameState C) (number : ℕ) → id_at (swept (without_id names number)) number ≡ None
  delete-gone names number =
      naming_at-swept (without_id names number) number
      ∙ nothing-kept (is_kept (without_id names number) (id_at (without_id names number) number)) (id_at (without_id names number) number) (removed_here names.ids number number refl)

  pub delete-others : (names : NameState C) (id : Id) → AreOthersLive names (swept (without_id names id.number)) id
  delete-others names gone id naming is outside apart =
      let known = naming-number names id naming is in
      let there : id_at (without_id names gone.number) id.number ≡ Some naming = removed_other names.ids gone.number id.number apart ∙ known.0 in
      number-naming (swept (without_id names gone.number)) id naming
      (naming_at-swept (without_id names gone.number) id.number
      ∙ ap (λ b. cond b (id_at (without_id names gone.number) id.number) None) (ap (is_kept (without_id names gone.number)) there ∙ outside-passes (is_reached (without_id names gone.number)) naming.holder outside)
      ∙ there)
      known.1

  pub delete-rest : (arity : C → ℕ) (names : NameState C) (number : ℕ) → IsSound arity (swept (without_id names number)) → AreRestAsBefore names (swept (without_id names number))
  delete-rest arity names number sound id live =
      let kept = others-kept arity (swept (without_id names number)) names sound (more-deleted names number) id live in
      record {
        holder = sym kept.holder;
        body = sym kept.body;
        content = sym kept.content;
        children = sym kept.children;
        tree = sym kept.tree;
      }

  pub copy-others : (arity : C → ℕ) (names : NameState C) (from number : ℕ) (holder : Holder) → IsSound arity names → id_at names number ≡ None → AreAllAsBefore names (copied names from number holder)
  copy-others arity names from number holder sound free = others-kept arity names (copied names from number holder) sound (more-copied names from number holder free)

  pub register-others : (arity : C → ℕ) (names : NameState C) (drawn : ℕ) (holder : Holder) (worker : ℕ) (content : C) (refs : List Ref) → IsSound arity names → AreWithin names drawn
      → AreAllAsBefore names (registered names drawn holder worker content refs)
  register-others arity names drawn holder worker content refs sound within =
      others-kept arity names (registered names drawn holder worker content refs) sound (more-registered names drawn holder worker content refs within)

  fewer-within : (names more : NameState C) (bound : ℕ) → AreMore names more → AreWithin more bound → AreWithin names bound
  fewer-within names more bound is_more within = record {
    ids = λ q some. let naming = some_value (id_at names q) some in within.ids q (ap is_some (is_more.ids q naming.0 naming.1));
    bodies = λ q some. let body = some_value (body_at names q) some in within.bodies q (ap is_some (is_more.bodies q body.0 body.1));
  }

  pub delete-within : (names : NameState C) (number bound : ℕ) → AreWithin names bound → AreWithin (swept (without_id names number)) bound
  delete-within names number bound within = fewer-within (swept (without_id names number)) names bound (more-deleted names number) within

  -- no names have no number
  pub none-within : (names : NameState C) → names ≡ no_names → AreWithin names 0
  none-within names none = record {
    ids = λ q some. let naming = some_value (id_at names q) some in absurd (none_not_some (ap (λ (n : NameState C). id_at n q) none ∙ map.get-empty nat_cmp q) naming.1);
    bodies = λ q some. let body = some_value (body_at names q) some in absurd (none_not_some (ap (λ (n : NameState C). body_at n q) none ∙ map.get-empty nat_cmp q) body.1);
  }

  -- what a live identifier leads to is its content over what its children lead to
  pub look-tree : (arity : C → ℕ) (names : NameState C) (id : Id) (body : BodyRecord C) → IsSound arity names → body_record_of names id ≡ Some body
      → tree_of names (Held id) ≡ rooted body.content (each (tree_of names) (children_of names id))
  look-tree arity names id body sound is =
      let naming = behind-body names (record_of names id) body is in
      ap (tree_named (body_tree names)) naming.2
      ∙ ap (grown (tree_within naming.0.body names) names) naming.1
      ∙ ap (rooted body.content) (same-children arity names names naming.0.body body (tree_within naming.0.body names) (body_tree names) sound (record { ids = λ q n n_is. n_is; bodies = λ q b b_is. b_is }) naming.1
      (λ other low there. same-within arity names names sound (record { ids = λ q n n_is. n_is; bodies = λ q b b_is. b_is }) naming.0.body (suc other) other low (omega arith) there)
      body.children (λ j child at. (j, at)))
      ∙ ap (λ found. rooted body.content (each (tree_of names) (children_in found))) (sym is)

  -- what a new identifier names
  pub register-named : (names : NameState C) (drawn : ℕ) (holder : Holder) (worker : ℕ) (content : C) (refs : List Ref) → AreWithin names drawn
      → record_of (registered names drawn holder worker content refs) (record { owner = worker; number = drawn + 2 }) ≡ Some (record { owner = worker; body = drawn + 1; holder = holder })
  register-named names drawn holder worker content refs within =
      number-naming (registered names drawn holder worker content refs) (record { owner = worker; number = drawn + 2 }) (record { owner = worker; body = drawn + 1; holder = holder }) (new-naming names drawn holder worker content refs within) refl

  pub register-held : (names : NameState C) (drawn : ℕ) (holder : Holder) (worker : ℕ) (content : C) (refs : List Ref) → AreWithin names drawn
      → holder_of (registered names drawn holder worker content refs) (record { owner = worker; number = drawn + 2 }) ≡ Some holder
  register-held names drawn holder worker content refs within = ap (option_map (λ (n : IdRecord). n.holder)) (register-named names drawn holder worker content refs within)

  pub register-body : (names : NameState C) (drawn : ℕ) (holder : Holder) (worker : ℕ) (content : C) (refs : List Ref) → AreWithin names drawn
      → body_of (registered names drawn holder worker content refs) (record { owner = worker; number = drawn + 2 }) ≡ Some (drawn + 1)
  register-body names drawn holder worker content refs within = ap (option_map (λ (n : IdRecord). n.body)) (register-named names drawn holder worker content refs within)

  pub register-children : (names : NameState C) (drawn : ℕ) (holder : Holder) (worker : ℕ) (content : C) (refs : List Ref) → AreWithin names drawn
      → children_of (registered names drawn holder worker content refs) (record { owner = worker; number = drawn + 2 }) ≡ numbered (drawn + 2) refs
  register-children names drawn holder worker content refs within =
      ap (λ found. children_in (body_named (registered names drawn holder worker content refs) found)) (register-named names drawn holder worker content refs within)
      ∙ ap children_in (new-body names drawn holder worker content refs)

  pub copy-body : (names : NameState C) (id : Id) (number : ℕ) (holder : Holder) → IsLive names id
      → body_of (copied names id.number number holder) (record { owner = id.owner; number = number }) ≡ body_of names id
  copy-body names id number holder live =
      let named = copy-named names id number holder live in
      ap (option_map (λ (n : IdRecord). n.body)) named.2 ∙ sym (ap (option_map (λ (n : IdRecord). n.body)) named.1)

  -- there is nothing where no identifier is live
  pub none-left : (arity : C → ℕ) (names : NameState C) → IsSound arity names → AreReached names → live_ids names ≡ 0 → names ≡ no_names
  none-left arity names sound reached none =
      nothing-left arity names sound reached (λ q naming is outside.
      none_not_some (ap (λ m. map.get m q) (map.empty_of_len names.ids none) ∙ map.get-empty nat_cmp q) is)

  pub none-counted : (names : NameState C) → names ≡ no_names → (live_ids names ≡ 0) × (live_bodies names ≡ 0)
  none-counted names none = (ap (λ (n : NameState C). live_ids n) none ∙ map.len-empty nat_cmp IdRecord, ap (λ (n : NameState C). live_bodies n) none ∙ map.len-empty nat_cmp (BodyRecord C))

  -- the bodies that a sweep leaves are those that are reached
  pub swept-bodies : (arity : C → ℕ) (names : NameState C) (number : ℕ) → IsSound arity names → IsSome (body_at (swept names) number) ↔ IsReached names number
  swept-bodies arity names number sound = (
    (λ some.
        let body = some_value (body_at (swept names) number) some in
        reached-from-test names number (cond-some (is_reached names number) (body_at names number) body.0 (sym (body_at-swept names number) ∙ body.1)).0),
    (λ reached.
        let by = reached-by names number reached in
        let body = sound.named by.0 by.1 by.2 in
        ap is_some (body_at-swept names number ∙ ap (λ b. cond b (body_at names number) None) (reached-to-test arity names number sound reached) ∙ ap (body_at names) (sym by.3) ∙ body.1)),
  )

  pub delete-bodies : (arity : C → ℕ) (names : NameState C) (id : Id) (number : ℕ) → IsSound arity names → IsLive names id → ForSome (holder_of names id) IsOutside
      → IsSome (body_at (swept (without_id names id.number)) number) ↔ IsReached (without_id names id.number) number
  delete-bodies arity names id number sound live outside = swept-bodies arity (without_id names id.number) number (sound-gone arity names id sound live outside)
