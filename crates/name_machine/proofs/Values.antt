-- Tests of the values of a map.
use Rattle.std.proofs.Common.{◌≡◌, ℕ, Bool, true, false, cond, ◌&&◌, ◌||◌, T, nat_eq, nat_cmp, List, [], ◌∷◌, map as each, Some, None, inl, inr, refl, sym, ap, ◌∙◌}
use Rattle.std.specs.List.{list_any}
use Rattle.std.specs.Ordering.{is_lt, is_eq}
use Rattle.std.specs.Cmp.{unsigned_tied}
use Rattle.std.specs.FinMap as map
use Rattle.std.specs.FinMap.{find, is_sorted}
use Rattle.std.specs.FinMap.Entries.{below_all}
use Rattle.std.specs.declared.cmp.Ordering.{Ordering}
use Rattle.std.specs.declared.cmp.Ordering.TheVariants.{Less, Equal, Greater}
use Rattle.name_states.proofs.Basics.{none_not_some, same_some, same_or_not, test_same, test_apart, one_of}

pub left_holds : (a b : Bool) → T (a && b) → T a
left_holds true b p = tt
left_holds false b p = p

pub right_holds : (a b : Bool) → T (a && b) → T b
right_holds true b p = p
right_holds false b p = absurd p

less_apart : (o : Ordering) → T (is_lt o) → is_eq o ≡ false
less_apart Less p = refl
less_apart Equal p = absurd p
less_apart Greater p = absurd p

or_left : (a b : Bool) → a ≡ true → (a || b) ≡ true
or_left true b is = refl
or_left false b is = absurd (let clash : false ≡ true = is in cc)

or_right : (a b : Bool) → b ≡ true → (a || b) ≡ true
or_right true b is = refl
or_right false b is = is

module _ {X : Type 0} where
  -- the first entry, or one of the others
  pub find_first : (q key : ℕ) (x : X) (es : List (ℕ × X)) → find nat_cmp q ((key, x) ∷ es) ≡ cond (nat_eq q key) (Some x) (find nat_cmp q es)
  find_first q key x es = ap (λ b. cond b (Some x) (find nat_cmp q es)) (unsigned_tied q key)

  pub below_missed : (key : ℕ) (es : List (ℕ × X)) → T (below_all nat_cmp key es) → find nat_cmp key es ≡ None
  below_missed key [] below = refl
  below_missed key (e ∷ es) below =
      ap (λ b. cond b (Some e.1) (find nat_cmp key es)) (less_apart (nat_cmp key e.0) (left_holds _ _ below)) ∙ below_missed key es (right_holds _ _ below)

  any_found : (p : X → Bool) (es : List (ℕ × X)) (k : ℕ) (x : X) → find nat_cmp k es ≡ Some x → p x ≡ true → list_any p (each (λ e. e.1) es) ≡ true
  any_found p [] k x is passes = absurd (none_not_some refl is)
  any_found p (e ∷ es) k x is passes =
      elim (nat_eq k e.0) as (λ b. nat_eq k e.0 ≡ b → list_any p (each (λ e. e.1) (e ∷ es)) ≡ true) [
        | true ↦ λ here. or_left (p e.1) _ (ap p (same_some e.1 x (sym (find_first k e.0 e.1 es ∙ ap (λ b. cond b (Some e.1) (find nat_cmp k es)) here) ∙ is)) ∙ passes)
        | false ↦ λ there. or_right (p e.1) _ (any_found p es k x (sym (find_first k e.0 e.1 es ∙ ap (λ b. cond b (Some e.1) (find nat_cmp k es)) there) ∙ is) passes)
      ] refl

  any_held : (p : X → Bool) (es : List (ℕ × X)) → T (is_sorted nat_cmp es) → list_any p (each (λ e. e.1) es) ≡ true
      → (k : ℕ) × (x : X) × (find nat_cmp k es ≡ Some x) × (p x ≡ true)
  any_held p [] sorted is = absurd (let clash : false ≡ true = is in cc)
  any_held p (e ∷ es) sorted is =
      elim (one_of (p e.1) (list_any p (each (λ e. e.1) es)) is) [
        | inl here ↦ (e.0, e.1, find_first e.0 e.0 e.1 es ∙ ap (λ b. cond b (Some e.1) (find nat_cmp e.0 es)) (test_same e.0), here)
        | inr there ↦
            let more = any_held p es (right_holds _ _ sorted) there in
            elim (same_or_not more.0 e.0) [
              | inl same ↦ absurd (none_not_some (ap (λ k. find nat_cmp k es) same ∙ below_missed e.0 es (left_holds _ _ sorted)) more.2)
              | inr apart ↦ (more.0, more.1, find_first more.0 e.0 e.1 es ∙ ap (λ b. cond b (Some e.1) (find nat_cmp more.0 es)) (test_apart more.0 e.0 apart) ∙ more.2, more.3)
            ]
      ]

  -- some value passes a test where one that is held does, and the other way round
  pub any_from : (p : X → Bool) (m : map.FinMap nat_cmp X) (k : ℕ) (x : X) → map.get m k ≡ Some x → p x ≡ true → list_any p (map.values m) ≡ true
  any_from p m k x is passes = any_found p (map.entries m) k x (sym (map.get-entries m k) ∙ is) passes

  pub any_to : (p : X → Bool) (m : map.FinMap nat_cmp X) → list_any p (map.values m) ≡ true → (k : ℕ) × (x : X) × (map.get m k ≡ Some x) × (p x ≡ true)
  any_to p m is = let held = any_held p (map.entries m) (map.entries_sorted m) is in (held.0, held.1, map.get-entries m held.0 ∙ held.2, held.3)
