-- Small facts on options, tests and places.
use Rattle.std.proofs.Common.{◌≡◌, ℕ, Bool, true, false, cond, ◌||◌, ◌⊎◌, inl, inr, Option, Some, None, is_some, nat_eq, refl, sym, ap, ◌∙◌, arith}
use Rattle.std.proofs.lemmas.Bool.Decides.{nat_tests}
use Rattle.std.specs.Ordering.{nat_cmp}
use Rattle.std.specs.Cmp.{nat_cmp_total, unsigned_tied}
use Rattle.std.specs.FinMap as map

-- which side of a choice holds a value
pub cond_some : {X : Type 0} (b : Bool) (x y : Option X) (v : X) → cond b x y ≡ Some v → ((b ≡ true) × (x ≡ Some v)) ⊎ ((b ≡ false) × (y ≡ Some v))
cond_some true x y v is = inl (refl, is)
cond_some false x y v is = inr (refl, is)

pub cond_is_some : {X : Type 0} (b : Bool) (x : X) (y : Option X) → is_some y ≡ true → is_some (cond b (Some x) y) ≡ true
cond_is_some true x y is = refl
cond_is_some false x y is = is

pub cond_still_some : {X : Type 0} (b : Bool) (x : X) (y z : Option X) → (is_some y ≡ true → is_some z ≡ true) → is_some (cond b (Some x) y) ≡ true → is_some (cond b (Some x) z) ≡ true
cond_still_some true x y z still is = refl
cond_still_some false x y z still is = still is

pub one_of : (a b : Bool) → (a || b) ≡ true → (a ≡ true) ⊎ (b ≡ true)
one_of true b is = inl refl
one_of false b is = inr is

-- two options are the same where each value of one is the value of the other
pub same_options : {X : Type 0} (a b : Option X) → ((x : X) → a ≡ Some x → b ≡ Some x) → ((x : X) → b ≡ Some x → a ≡ Some x) → a ≡ b
same_options None None to back = refl
same_options None (Some y) to back = back y refl
same_options (Some x) b to back = sym (to x refl)

pub some_value : {X : Type 0} (o : Option X) → is_some o ≡ true → (x : X) × (o ≡ Some x)
some_value None is = absurd (cc)
some_value (Some x) is = (x, refl)

pub same_some : {X : Type 0} (x y : X) → Some x ≡ Some y → x ≡ y
same_some x y is = cc

pub same_from_test : (a b : ℕ) → nat_eq a b ≡ true → a ≡ b
same_from_test a b is = grind (arith, nat_tests)

pub test_same : (a : ℕ) → nat_eq a a ≡ true
test_same a = grind (arith, nat_tests)

pub same_or_not : (a b : ℕ) → (a ≡ b) ⊎ (a ≡ b → ⊥)
same_or_not a b = elim (nat_eq a b) as (λ t. nat_eq a b ≡ t → (a ≡ b) ⊎ (a ≡ b → ⊥)) [
  | true ↦ λ is. inl (same_from_test a b is)
  | false ↦ λ is. inr (λ same. let clash : nat_eq a b ≡ true = ap (nat_eq a) (sym same) ∙ test_same a in cc)
] refl

-- a place is this one or another
pub same_place_or_not : (owner key other_owner other_key : ℕ) → ((other_owner ≡ owner) × (other_key ≡ key)) ⊎ (other_owner ≡ owner → other_key ≡ key → ⊥)
same_place_or_not owner key other_owner other_key =
    elim (same_or_not other_owner owner) [
      | inl one ↦ elim (same_or_not other_key key) [ inl two ↦ inl (one, two) | inr apart ↦ inr (λ p q. apart q) ]
      | inr apart ↦ inr (λ p q. apart p)
    ]

-- an option is nothing or some value
pub none_or_some : {X : Type 0} (o : Option X) → (o ≡ None) ⊎ ((x : X) × (o ≡ Some x))
none_or_some None = inl refl
none_or_some (Some x) = inr (x, refl)

pub none_not_some : {X : Type 0} {o : Option X} {x : X} → o ≡ None → o ≡ Some x → ⊥
none_not_some {X} {o} {x} a b = let clash : None ≡ Some x = sym a ∙ b in cc

pub test_apart : (a b : ℕ) → (a ≡ b → ⊥) → nat_eq a b ≡ false
test_apart a b apart = grind (arith, nat_tests)

-- a map with one more entry, and with one entry less
module _ {X : Type 0} where
  pub get_inserted : (m : map.FinMap nat_cmp X) (key : ℕ) (value : X) (q : ℕ) → map.get (map.insert m key value) q ≡ cond (nat_eq q key) (Some value) (map.get m q)
  get_inserted m key value q = map.get-insert nat_cmp_total m key value q ∙ ap (λ b. cond b (Some value) (map.get m q)) (unsigned_tied q key)

  pub get_removed : (m : map.FinMap nat_cmp X) (key q : ℕ) → map.get (map.remove m key) q ≡ cond (nat_eq q key) None (map.get m q)
  get_removed m key q = map.get-remove nat_cmp_total m key q ∙ ap (λ b. cond b None (map.get m q)) (unsigned_tied q key)

  pub inserted_here : (m : map.FinMap nat_cmp X) (key q : ℕ) (value other : X) → q ≡ key → other ≡ value → map.get (map.insert m key value) q ≡ Some other
  inserted_here m key q value other at same =
      get_inserted m key value q ∙ ap (λ b. cond b (Some value) (map.get m q)) (ap (λ k. nat_eq k key) at ∙ test_same key) ∙ ap Some (sym same)

  pub inserted_other : (m : map.FinMap nat_cmp X) (key q : ℕ) (value : X) → (q ≡ key → ⊥) → map.get (map.insert m key value) q ≡ map.get m q
  inserted_other m key q value apart = get_inserted m key value q ∙ ap (λ b. cond b (Some value) (map.get m q)) (test_apart q key apart)

  pub inserted_from : (m : map.FinMap nat_cmp X) (key q : ℕ) (value other : X) → map.get (map.insert m key value) q ≡ Some other
      → ((q ≡ key) × (other ≡ value)) ⊎ ((q ≡ key → ⊥) × (map.get m q ≡ Some other))
  inserted_from m key q value other is =
      elim (same_or_not q key) [
        | inl same ↦ inl (same, same_some other value (sym is ∙ inserted_here m key q value value same refl))
        | inr apart ↦ inr (apart, sym (inserted_other m key q value apart) ∙ is)
      ]

  pub removed_here : (m : map.FinMap nat_cmp X) (key q : ℕ) → q ≡ key → map.get (map.remove m key) q ≡ None
  removed_here m key q at = get_removed m key q ∙ ap (λ b. cond b None (map.get m q)) (ap (λ k. nat_eq k key) at ∙ test_same key)

  pub removed_other : (m : map.FinMap nat_cmp X) (key q : ℕ) → (q ≡ key → ⊥) → map.get (map.remove m key) q ≡ map.get m q
  removed_other m key q apart = get_removed m key q ∙ ap (λ b. cond b None (map.get m q)) (test_apart q key apart)

  pub removed_from : (m : map.FinMap nat_cmp X) (key q : ℕ) (other : X) → map.get (map.remove m key) q ≡ Some other → (q ≡ key → ⊥) × (map.get m q ≡ Some other)
  removed_from m key q other is =
      elim (same_or_not q key) [
        | inl same ↦ absurd (none_not_some (removed_here m key q same) is)
        | inr apart ↦ (apart, sym (removed_other m key q apart) ∙ is)
      ]

  pub get_retained : (m : map.FinMap nat_cmp X) (p : ℕ → Bool) (q : ℕ) → map.get (map.retain_keys m p) q ≡ cond (p q) (map.get m q) None
  get_retained m p q = map.get-retain_keys m p q (λ x tied. ap p (sym (map.nat_cmp-IsAntisymmetric q x tied)))
