-- What a caller holds for the names that are bound, as one is bound or ended.
use Rattle.std.proofs.Common.{◌≡◌, ℕ, zero, suc, Bool, true, false, not, cond, ◌⊎◌, inl, inr, List, [], ◌∷◌, ◌++◌, Option, Some, None, nat_eq, refl, sym, ap, ap₂, ◌∙◌, subst}
use Rattle.std.specs.Prelude.{slice_get, slice_set, IsSome}
use Rattle.name_machine.specs.Parts.{Named}
use Rattle.cht_engine.specs.Seen.{of_owner}
use Rattle.std.specs.FinMap as map
use Rattle.std.specs.Str.{bytes_eq}
use Rattle.std.proofs.lemmas.Bool.{cases_Bool}
use Rattle.name_states.proofs.Basics.{same_some, get_removed, removed_here}
use Rattle.cht_ids.specs.declared.refs.Id.{Id}
use Rattle.cht_ids.specs.declared.refs.Ref.{Ref}
use Rattle.cht_ids.specs.declared.refs.Ref.TheVariants.{Null, Id as HeldId}
use Rattle.cht_script.specs.Newest.{newest}
use Rattle.cht_script.proofs.Newest.{newest-push}
use Rattle.task_types.specs.Tree.{Tree}
use Rattle.quad_matrix.specs.declared.chunk.MatChunk.{MatChunk}
use Rattle.cht_session.specs.Program.{Bound, is_bound_as, left_without, references, identifiers}
use Rattle.cht_session.specs.Forms.{tree_in}
use Rattle.cht_session.specs.Held.{Names, IsNameOf, without, AreKept, AreAll}
use Rattle.cht_session.specs.Given.{IsGiven}
use Rattle.cht_session.proofs.Identifiers.{named_given, given_without, given_here, named_before, named_apart, named_after, without_both, named_is_held}
use Rattle.cht_session.proofs.Bindings.{bytes_same, bytes_back, newest_behind, newest_first, none_first, left_all, newest_left}
use Rattle.cht_session.proofs.Order.{strike_ref, struck_here, struck_later}

module _ (b h : ℕ) where
  -- the tree of a name
  abbrev tree_of_bound : Bound → Tree MatChunk
  tree_of_bound one = tree_in one.known.form b h one.known.matrix

  -- ---- One more name

  -- it is none of those before
  not_again : (x one : Bound) (env : List Bound) → newest (is_bound_as one.known.name) (x ∷ env) ≡ None → newest (is_bound_as x.known.name) env ≡ None
      → newest (is_bound_as x.known.name) (env ++ one ∷ []) ≡ None
  not_again x one env fresh none =
      newest-push (is_bound_as x.known.name) env one
      ∙ ap₂ (λ t o. cond t (Some one) o) (bytes_back x.known.name one.known.name (none_first (is_bound_as one.known.name) x env fresh).0) none

  pub kept_more : (names later : Names) (env : List Bound) (one : Bound) → AreKept b h names env → IsGiven names (tree_of_bound one) one.at later
      → newest (is_bound_as one.known.name) env ≡ None → AreKept b h later (env ++ one ∷ [])
  kept_more names later [] one kept given fresh =
      let here = given_here names later (tree_of_bound one) one.at given in (here.0, refl, here.1 ∙ kept)
  kept_more names later (x ∷ env) one kept given fresh = (
    named_given names later (tree_of_bound one) (tree_of_bound x) one.at x.at kept.0 given,
    not_again x one env fresh kept.1,
    kept_more (without names x.at) (without later x.at) env one kept.2
        (given_without names later (tree_of_bound one) (tree_of_bound x) one.at x.at kept.0 given)
        (none_first (is_bound_as one.known.name) x env fresh).1,
  )

  -- ---- What is found

  pub kept_found : (names : Names) (env : List Bound) (name : List ℕ) (x : Bound) → AreKept b h names env → newest (is_bound_as name) env ≡ Some x
      → IsNameOf names (tree_of_bound x) x.at
  kept_found names [] name x kept e = absurd (let clash : None ≡ Some x = e in cc)
  kept_found names (y ∷ env) name x kept e =
      elim (cases_Bool (is_bound_as name y)) [
        | inl here ↦
            let none : newest (is_bound_as name) env ≡ None = ap (λ n. newest (is_bound_as n) env) (sym (bytes_same y.known.name name here)) ∙ kept.1 in
            let same : y ≡ x = same_some y x (sym (newest_first (is_bound_as name) y env here none) ∙ e) in
            subst (λ (x : Bound). IsNameOf names (tree_of_bound x) x.at) same kept.0
        | inr other ↦
            named_before names (tree_of_bound x) x.at y.at
            (kept_found (without names y.at) env name x kept.2 (sym (newest_behind (is_bound_as name) y env other) ∙ e))
      ]

  -- ---- One name less

  none_left : (x : Bound) (env : List Bound) (name : List ℕ) → newest (is_bound_as x.known.name) env ≡ None → newest (is_bound_as x.known.name) (left_without name env) ≡ None
  none_left x env name none =
      newest_left env name x.known.name ∙ ap (λ o. cond (bytes_eq name x.known.name) None o) none ∙ same (bytes_eq name x.known.name)
    where
      same : (t : Bool) → cond t (let none : Option Bound = None in none) None ≡ None
      same true = refl
      same false = refl

  kept_first : (y : Bound) (env : List Bound) (name : List ℕ) → is_bound_as name y ≡ false → left_without name (y ∷ env) ≡ y ∷ left_without name env
  kept_first y env name other = ap (λ t. cond (not t) (y ∷ left_without name env) (left_without name env)) other

  left_first : (y : Bound) (env : List Bound) (name : List ℕ) → is_bound_as name y ≡ true → newest (is_bound_as name) env ≡ None → left_without name (y ∷ env) ≡ env
  left_first y env name here none = ap (λ t. cond (not t) (y ∷ left_without name env) (left_without name env)) here ∙ left_all name env none

  -- the first of names is the one that is found, or it is found behind it
  found_case : (names : Names) (y : Bound) (env : List Bound) (name : List ℕ) (x : Bound) → AreKept b h names (y ∷ env) → newest (is_bound_as name) (y ∷ env) ≡ Some x
      → ((is_bound_as name y ≡ true) × (newest (is_bound_as name) env ≡ None) × (y ≡ x)) ⊎ ((is_bound_as name y ≡ false) × (newest (is_bound_as name) env ≡ Some x))
  found_case names y env name x kept e =
      elim (cases_Bool (is_bound_as name y)) [
        | inl here ↦
            let none : newest (is_bound_as name) env ≡ None = ap (λ n. newest (is_bound_as n) env) (sym (bytes_same y.known.name name here)) ∙ kept.1 in
            inl (here, none, same_some y x (sym (newest_first (is_bound_as name) y env here none) ∙ e))
        | inr other ↦ inr (other, sym (newest_behind (is_bound_as name) y env other) ∙ e)
      ]

  pub kept_less : (names : Names) (env : List Bound) (name : List ℕ) (x : Bound) → AreKept b h names env → newest (is_bound_as name) env ≡ Some x
      → AreKept b h (without names x.at) (left_without name env)
  kept_less names [] name x kept e = absurd (let clash : None ≡ Some x = e in cc)
  kept_less names (y ∷ env) name x kept e =
      elim (found_case names y env name x kept e) [
        | inl first ↦
            subst (AreKept b h (without names x.at)) (sym (left_first y env name first.0 first.1))
            (subst (λ (x : Bound). AreKept b h (without names x.at) env) first.2 kept.2)
        | inr behind ↦
            let found = kept_found (without names y.at) env name x kept.2 behind.1 in
            subst (AreKept b h (without names x.at)) (sym (kept_first y env name behind.0)) (
              named_after names (tree_of_bound x) (tree_of_bound y) x.at y.at kept.0 found,
              none_left y env name kept.1,
              subst (λ n. AreKept b h n (left_without name env)) (without_both names y.at x.at) (kept_less (without names y.at) env name x kept.2 behind.1),
            )
      ]

  -- the identifiers of the names but one
  struck_behind : (names : Names) (other tree : Tree MatChunk) (r s : Ref) (ids : List Id) → IsNameOf (without names s) tree r
      → strike_ref r (identifiers (s ∷ []) ++ ids) ≡ identifiers (s ∷ []) ++ strike_ref r ids
  struck_behind names other tree Null s ids is = refl
  struck_behind names other tree (HeldId id) Null ids is = refl
  struck_behind names other tree (HeldId id) (HeldId k) ids is = struck_later k id ids (λ same. named_apart names tree id k is (sym same))

  one_first : (s : Ref) (refs : List Ref) → identifiers (s ∷ refs) ≡ identifiers (s ∷ []) ++ identifiers refs
  one_first Null refs = refl
  one_first (HeldId k) refs = refl

  struck_first : (r : Ref) (refs : List Ref) → strike_ref r (identifiers (r ∷ refs)) ≡ identifiers refs
  struck_first Null refs = refl
  struck_first (HeldId k) refs = struck_here k k (identifiers refs) refl

  pub struck_env : (names : Names) (env : List Bound) (name : List ℕ) (x : Bound) → AreKept b h names env → newest (is_bound_as name) env ≡ Some x
      → identifiers (references (left_without name env)) ≡ strike_ref x.at (identifiers (references env))
  struck_env names [] name x kept e = absurd (let clash : None ≡ Some x = e in cc)
  struck_env names (y ∷ env) name x kept e =
      elim (found_case names y env name x kept e) [
        | inl first ↦
            ap (λ env. identifiers (references env)) (left_first y env name first.0 first.1)
            ∙ sym (struck_first y.at (references env))
            ∙ ap (λ (x : Bound). strike_ref x.at (identifiers (references (y ∷ env)))) first.2
        | inr behind ↦
            ap (λ env. identifiers (references env)) (kept_first y env name behind.0)
            ∙ one_first y.at (references (left_without name env))
            ∙ ap (λ (ids : List Id). identifiers (y.at ∷ []) ++ ids) (struck_env (without names y.at) env name x kept.2 behind.1)
            ∙ sym (struck_behind names (tree_of_bound y) (tree_of_bound x) x.at y.at (identifiers (references env)) (kept_found (without names y.at) env name x kept.2 behind.1))
            ∙ ap (strike_ref x.at) (sym (one_first y.at (references env)))
      ]

  -- ---- All of them

  all_case : (names : Names) (x : Bound) (env : List Bound) (r : Ref) → IsNameOf names (tree_of_bound x) r → AreAll (without names r) (identifiers (references env))
      → AreAll names (identifiers (r ∷ references env))
  all_case names x env Null here all = all
  all_case names x env (HeldId id) here all = (named_is_held names (tree_of_bound x) id here, all)

  pub kept_all : (names : Names) (env : List Bound) → AreKept b h names env → AreAll names (identifiers (references env))
  kept_all names [] kept = kept
  kept_all names (x ∷ env) kept = all_case names x env x.at kept.0 (kept_all (without names x.at) env kept.2)

-- ---- The order

-- an identifier in the order is held
some_held : (names : Names) (order : List Ref) (i : ℕ) (k : Id) → AreAll names (identifiers order) → slice_get order i ≡ Some (HeldId k)
    → map.get names k.number ≡ None → ⊥
some_held names [] i k all at none = absurd (let clash : None ≡ Some (HeldId k) = at in cc)
some_held names (Null ∷ order) zero k all at none = absurd (let clash : Some Null ≡ Some (HeldId k) = at in cc)
some_held names (Null ∷ order) (suc i) k all at none = some_held names order i k all at none
some_held names (HeldId id ∷ order) zero k all at none =
    let same : id ≡ k = cc in
    not_owned id.owner (map.get names id.number) (ap (λ (id : Id). map.get names id.number) same ∙ none) all.0
  where
    not_owned : (owner : ℕ) (o : Option (Named MatChunk)) → o ≡ None → IsSome (of_owner owner o) → ⊥
    not_owned owner None e some = absurd (let clash : false ≡ true = some in cc)
    not_owned owner (Some x) e some = absurd (let clash : Some x ≡ None = e in cc)
some_held names (HeldId id ∷ order) (suc i) k all at none =
    some_held (map.remove names id.number) order i k all.1 at (get_removed names id.number k.number ∙ still (nat_eq k.number id.number) (map.get names k.number) none)
  where
    still : (t : Bool) (o : Option (Named MatChunk)) → o ≡ None → cond t None o ≡ None
    still true o e = refl
    still false o e = e

-- the identifiers of the order, where one place is null from now on
pub struck_order : (names : Names) (order : List Ref) (i : ℕ) (r : Ref) → AreAll names (identifiers order) → slice_get order i ≡ Some r
    → identifiers (slice_set order i Null) ≡ strike_ref r (identifiers order)
struck_order names [] i r all at = absurd (let clash : None ≡ Some r = at in cc)
struck_order names (Null ∷ order) zero r all at = subst (λ r. identifiers order ≡ strike_ref r (identifiers order)) (same_some Null r at) refl
struck_order names (HeldId id ∷ order) zero r all at =
    subst (λ r. identifiers order ≡ strike_ref r (id ∷ identifiers order)) (same_some (HeldId id) r at) (sym (struck_here id id (identifiers order) refl))
struck_order names (Null ∷ order) (suc i) r all at = struck_order names order i r all at
struck_order names (HeldId id ∷ order) (suc i) r all at =
    ap (λ (ids : List Id). id ∷ ids) (struck_order (map.remove names id.number) order i r all.1 at) ∙ behind r at
  where
    behind : (r : Ref) → slice_get order i ≡ Some r → id ∷ strike_ref r (identifiers order) ≡ strike_ref r (id ∷ identifiers order)
    behind Null at = refl
    behind (HeldId k) at =
        sym (struck_later id k (identifiers order) (λ same.
        some_held (map.remove names id.number) order i k all.1 at (removed_here names id.number k.number (sym same))))
