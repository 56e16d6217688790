-- The identifiers of a caller as references come and go.
use Rattle.std.proofs.Common.{◌≡◌, ℕ, Bool, true, false, cond, Option, Some, None, nat_eq, refl, sym, ap, ◌∙◌, subst}
use Rattle.std.specs.Prelude.{IsSome}
use Rattle.std.specs.FinMap as map
use Rattle.std.specs.Ordering.{nat_cmp}
use Rattle.cht_ids.specs.declared.refs.Ref.{Ref}
use Rattle.cht_ids.specs.declared.refs.Id.{Id}
use Rattle.cht_ids.specs.declared.refs.Ref.TheVariants.{Null, Id as Held}
use Rattle.task_types.specs.Tree.{Tree}
use Rattle.name_machine.specs.Parts.{Named}
use Rattle.name_states.proofs.Basics.{test_same, same_from_test, none_not_some, get_inserted, get_removed, inserted_here, inserted_other, removed_other, removed_from}
use Rattle.task_states.proofs.Maps.{same_maps}
use Rattle.cht_engine.specs.Seen.{of_owner}
use Rattle.quad_matrix.specs.declared.chunk.MatChunk.{MatChunk}
use Rattle.cht_session.specs.Held.{Names, IsNameOf, without}
use Rattle.cht_session.specs.Given.{IsGiven}

-- ---- Maps

module _ {X : Type 0} where
  both_none : (s t : Bool) (o : Option X) → cond s None (cond t None o) ≡ cond t None (cond s None o)
  both_none true true o = refl
  both_none true false o = refl
  both_none false true o = refl
  both_none false false o = refl

  pub removed_both : (m : map.FinMap nat_cmp X) (a b : ℕ) → map.remove (map.remove m a) b ≡ map.remove (map.remove m b) a
  removed_both m a b =
      same_maps (map.remove (map.remove m a) b) (map.remove (map.remove m b) a) (λ q.
      get_removed (map.remove m a) b q ∙ ap (λ o. cond (nat_eq q b) None o) (get_removed m a q)
      ∙ both_none (nat_eq q b) (nat_eq q a) (map.get m q)
      ∙ sym (get_removed (map.remove m b) a q ∙ ap (λ o. cond (nat_eq q a) None o) (get_removed m b q)))

  some_none : (s t : Bool) (v : X) (o : Option X) → (s ≡ true → t ≡ true → ⊥) → cond s None (cond t (Some v) o) ≡ cond t (Some v) (cond s None o)
  some_none true true v o apart = absurd (apart refl refl)
  some_none true false v o apart = refl
  some_none false true v o apart = refl
  some_none false false v o apart = refl

  pub inserted_removed : (m : map.FinMap nat_cmp X) (a b : ℕ) (v : X) → (a ≡ b → ⊥) → map.remove (map.insert m a v) b ≡ map.insert (map.remove m b) a v
  inserted_removed m a b v apart =
      same_maps (map.remove (map.insert m a v) b) (map.insert (map.remove m b) a v) (λ q.
      get_removed (map.insert m a v) b q ∙ ap (λ o. cond (nat_eq q b) None o) (get_inserted m a v q)
      ∙ some_none (nat_eq q b) (nat_eq q a) v (map.get m q) (λ s t. apart (sym (same_from_test q a t) ∙ same_from_test q b s))
      ∙ sym (get_inserted (map.remove m b) a v q ∙ ap (λ o. cond (nat_eq q a) (Some v) o) (get_removed m b q)))

  none_here : (q a : ℕ) (v : X) (m : map.FinMap nat_cmp X) → map.get m a ≡ None
      → cond (nat_eq q a) None (cond (nat_eq q a) (Some v) (map.get m q)) ≡ map.get m q
  none_here q a v m new =
      elim (nat_eq q a) as (λ t. nat_eq q a ≡ t → cond t None (cond t (Some v) (map.get m q)) ≡ map.get m q) [
        | true ↦ λ is. sym (ap (map.get m) (same_from_test q a is) ∙ new)
        | false ↦ λ is. refl
      ] refl

  pub removed_again : (m : map.FinMap nat_cmp X) (a : ℕ) (v : X) → map.get m a ≡ None → map.remove (map.insert m a v) a ≡ m
  removed_again m a v new =
      same_maps (map.remove (map.insert m a v) a) m (λ q.
      get_removed (map.insert m a v) a q ∙ ap (λ o. cond (nat_eq q a) None o) (get_inserted m a v q) ∙ none_here q a v m new)

  -- one entry that came and went around another
  pub around : (m : map.FinMap nat_cmp X) (a b : ℕ) (v w : X) → map.get m a ≡ None → map.get (map.insert m a v) b ≡ None
      → (map.get m b ≡ None) × (map.remove (map.insert (map.insert m a v) b w) a ≡ map.insert m b w)
  around m a b v w new other =
      let apart : b ≡ a → ⊥ = λ same. none_not_some other (inserted_here m a b v v same refl) in (
        sym (inserted_other m a b v apart) ∙ other,
        inserted_removed (map.insert m a v) b a w apart ∙ ap (λ n. map.insert n b w) (removed_again m a v new),
      )

-- ---- References

-- what a reference names stays as others come
pub named_given : (names later : Names) (tree other : Tree MatChunk) (r s : Ref) → IsNameOf names other s → IsGiven names tree r later → IsNameOf later other s
named_given names later tree other Null s is given = subst (λ n. IsNameOf n other s) (sym given.1) is
named_given names later tree other (Held id) Null is given = is
named_given names later tree other (Held id) (Held k) is given =
    ap (λ n. map.get n k.number) given.1
    ∙ inserted_other names id.number k.number _ (λ same. none_not_some (ap (map.get names) same ∙ given.0) is)
    ∙ is

-- and others still come where one of them is gone
pub given_without : (names later : Names) (tree other : Tree MatChunk) (r s : Ref) → IsNameOf names other s → IsGiven names tree r later
    → IsGiven (without names s) tree r (without later s)
given_without names later tree other Null s is given = (given.0, ap (λ n. without n s) given.1)
given_without names later tree other (Held id) Null is given = given
given_without names later tree other (Held id) (Held k) is given =
    let apart : id.number ≡ k.number → ⊥ = λ same. none_not_some given.0 (ap (map.get names) same ∙ is) in (
      removed_other names k.number id.number apart ∙ given.0,
      ap (λ n. map.remove n k.number) given.1 ∙ inserted_removed names id.number k.number _ apart,
    )

-- the new one names its tree, and where it is gone all is as before
pub given_here : (names later : Names) (tree : Tree MatChunk) (r : Ref) → IsGiven names tree r later → IsNameOf later tree r × (without later r ≡ names)
given_here names later tree Null given = (given.0, given.1)
given_here names later tree (Held id) given = (
  ap (λ n. map.get n id.number) given.1 ∙ inserted_here names id.number id.number _ _ refl refl,
  ap (λ n. map.remove n id.number) given.1 ∙ removed_again names id.number _ given.0,
)

-- what is named where one reference is gone was named before, and by another number
pub named_before : (names : Names) (tree : Tree MatChunk) (r s : Ref) → IsNameOf (without names s) tree r → IsNameOf names tree r
named_before names tree Null s is = is
named_before names tree (Held id) Null is = is
named_before names tree (Held id) (Held k) is = (removed_from names k.number id.number _ is).1

pub named_apart : (names : Names) (tree : Tree MatChunk) (id k : Id) → IsNameOf (without names (Held k)) tree (Held id) → id.number ≡ k.number → ⊥
named_apart names tree id k is = (removed_from names k.number id.number _ is).0

-- what is named stays where another reference goes
pub named_after : (names : Names) (tree other : Tree MatChunk) (r s : Ref) → IsNameOf names other s → IsNameOf (without names s) tree r → IsNameOf (without names r) other s
named_after names tree other Null s is at = is
named_after names tree other (Held id) Null is at = is
named_after names tree other (Held id) (Held k) is at =
    removed_other names id.number k.number (λ same. named_apart names tree id k at (sym same)) ∙ is

pub without_both : (names : Names) (r s : Ref) → without (without names r) s ≡ without (without names s) r
without_both names Null s = refl
without_both names (Held id) Null = refl
without_both names (Held id) (Held k) = removed_both names id.number k.number

same_owner : (owner : ℕ) (tree : Tree MatChunk) → IsSome (of_owner owner (Some (record { owner = owner; tree = tree })))
same_owner owner tree =
    let one : Named MatChunk = record { owner = owner; tree = tree } in
    let found : Option (Named MatChunk) = Some one in
    let none : Option (Named MatChunk) = None in
    subst (λ b. IsSome (cond b found none)) (sym (test_same owner)) refl

-- the caller holds what names a tree
pub named_is_held : (names : Names) (tree : Tree MatChunk) (id : Id) → IsNameOf names tree (Held id) → IsSome (of_owner id.owner (map.get names id.number))
named_is_held names tree id is = subst (λ o. IsSome (of_owner id.owner o)) (sym is) (same_owner id.owner tree)
