-- What a finite map holds under a key, once its values were changed or left out. For every crate that cites `specs/Maps.antt`.
use Rattle.std.proofs.Common.{◌≡◌, ℕ, ◌+◌, Bool, true, false, cond, ◌&&◌, T, List, [], ◌∷◌, Option, Some, None, is_some, nat_eq, refl, sym, ap, ◌∙◌, ◌⊎◌, inl, inr, arith, length, suc, ◌≤◌}
use Rattle.std.specs.Option.{option_map, option_and_then}
use Rattle.std.specs.Ordering.{nat_cmp, is_lt, is_eq}
use Rattle.std.specs.Cmp.{nat_cmp_total, unsigned_tied}
use Rattle.std.specs.declared.cmp.Ordering.{Ordering}
use Rattle.std.specs.declared.cmp.Ordering.TheVariants.{Less, Equal, Greater}
use Rattle.std.specs.FinMap as map
use Rattle.std.specs.FinMap.{find, is_sorted}
use Rattle.std.specs.FinMap.Entries.{below_all}
use Rattle.std.proofs.lemmas.Bool.Decides.{nat_tests}
use Rattle.task_states.specs.Maps.{onto, chosen_of, chosen, each_changed, kept}

-- a number is another or not
pub same_or_not : (a b : ℕ) → (a ≡ b) ⊎ (a ≡ b → ⊥)
same_or_not a b =
    elim (nat_eq a b) as (λ t. nat_eq a b ≡ t → (a ≡ b) ⊎ (a ≡ b → ⊥)) [ true ↦ λ is. inl (grind (arith, nat_tests)) | false ↦ λ is. inr (λ same. grind (arith, nat_tests)) ] refl

pub test_same : (a : ℕ) → nat_eq a a ≡ true
test_same a = grind (arith, nat_tests)

pub test_apart : (a b : ℕ) → (a ≡ b → ⊥) → nat_eq a b ≡ false
test_apart a b apart = grind (arith, nat_tests)

pub first_part : (a b : Bool) → T (a && b) → T a
first_part true b p = tt
first_part false b p = p

pub second_part : (a b : Bool) → T (a && b) → T b
second_part true b p = p
second_part false b p = absurd p

less_not_equal : (o : Ordering) → T (is_lt o) → is_eq o ≡ false
less_not_equal Less p = refl
less_not_equal Equal p = absurd p
less_not_equal Greater p = absurd p

-- a key below all others is none of them
pub missed : {X : Type 0} (key : ℕ) (entries : List (ℕ × X)) → T (below_all nat_cmp key entries) → find nat_cmp key entries ≡ None
missed key [] below = refl
missed key (e ∷ entries) below =
    ap (λ b. cond b (Some e.1) (find nat_cmp key entries)) (less_not_equal (nat_cmp key e.0) (first_part _ _ below)) ∙ missed key entries (second_part _ _ below)

module _ {X Y : Type 0} (choice : ℕ → X → Option Y) where
  found_onto : (q key : ℕ) (value : Option Y) (entries : List (ℕ × Y)) → find nat_cmp q (onto key value entries) ≡ cond (nat_eq q key) (cond (is_some value) value (find nat_cmp q entries)) (find nat_cmp q entries)
  found_onto q key None entries = elim (nat_eq q key) as (λ b. find nat_cmp q entries ≡ cond b (find nat_cmp q entries) (find nat_cmp q entries)) [ true ↦ refl | false ↦ refl ]
  found_onto q key (Some value) entries = ap (λ b. cond b (Some value) (find nat_cmp q entries)) (unsigned_tied q key)

  first_choice : (value : Option Y) (rest : Option Y) → rest ≡ None → cond (is_some value) value rest ≡ value
  first_choice None rest is = is
  first_choice (Some value) rest is = refl

  found : (q : ℕ) (entries : List (ℕ × X)) → T (is_sorted nat_cmp entries) → find nat_cmp q (chosen_of choice entries) ≡ option_and_then (choice q) (find nat_cmp q entries)
  found q [] sorted = refl
  found q (e ∷ entries) sorted =
      let rest = found q entries (second_part _ _ sorted) in
      found_onto q e.0 (choice e.0 e.1) (chosen_of choice entries)
      ∙ elim (same_or_not q e.0) [
        | inl same ↦
            let here : nat_eq q e.0 ≡ true = ap (nat_eq q) (sym same) ∙ test_same q in
            let none : find nat_cmp q entries ≡ None = ap (λ k. find nat_cmp k entries) same ∙ missed e.0 entries (first_part _ _ sorted) in
            ap (λ b. cond b (cond (is_some (choice e.0 e.1)) (choice e.0 e.1) (find nat_cmp q (chosen_of choice entries))) (find nat_cmp q (chosen_of choice entries))) here
            ∙ first_choice (choice e.0 e.1) _ (rest ∙ ap (option_and_then (choice q)) none)
            ∙ ap (λ k. choice k e.1) (sym same)
            ∙ sym (ap (λ b. option_and_then (choice q) (cond b (Some e.1) (find nat_cmp q entries))) (unsigned_tied q e.0 ∙ here))
        | inr apart ↦
            let there : nat_eq q e.0 ≡ false = test_apart q e.0 apart in
            ap (λ b. cond b (cond (is_some (choice e.0 e.1)) (choice e.0 e.1) (find nat_cmp q (chosen_of choice entries))) (find nat_cmp q (chosen_of choice entries))) there
            ∙ rest
            ∙ sym (ap (λ b. option_and_then (choice q) (cond b (Some e.1) (find nat_cmp q entries))) (unsigned_tied q e.0 ∙ there))
      ]

  -- what a choice makes of the value under a key
  pub get-chosen : (m : map.FinMap nat_cmp X) (q : ℕ) → map.get (chosen choice m) q ≡ option_and_then (choice q) (map.get m q)
  unfolding chosen
  get-chosen m q = map.get-from_entries nat_cmp_total (chosen_of choice (map.entries m)) q ∙ found q (map.entries m) (map.entries_sorted m) ∙ ap (option_and_then (choice q)) (sym (map.get-entries m q))

module _ {X : Type 0} where
  then_some : {Y : Type 0} (f : X → Y) (o : Option X) → option_and_then (λ x. Some (f x)) o ≡ option_map f o
  then_some f None = refl
  then_some f (Some x) = refl

  -- each value is changed
  pub get-each_changed : (change : X → X) (m : map.FinMap nat_cmp X) (q : ℕ) → map.get (each_changed change m) q ≡ option_map change (map.get m q)
  get-each_changed change m q = get-chosen (λ key value. Some (change value)) m q ∙ then_some change (map.get m q)

  -- a value stays where it passes the test
  pub get-kept : (test : X → Bool) (m : map.FinMap nat_cmp X) (q : ℕ) → map.get (kept test m) q ≡ option_and_then (λ value. cond (test value) (Some value) None) (map.get m q)
  get-kept test m q = get-chosen (λ key value. cond (test value) (Some value) None) m q

  -- two maps that hold the same are the same
  pub same_maps : (m n : map.FinMap nat_cmp X) → ((q : ℕ) → map.get m q ≡ map.get n q) → m ≡ n
  same_maps m n same = map.same_map nat_cmp_total map.nat_cmp-IsAntisymmetric m n same

  pub get_inserted : (m : map.FinMap nat_cmp X) (key : ℕ) (value : X) (q : ℕ) → map.get (map.insert m key value) q ≡ cond (nat_eq q key) (Some value) (map.get m q)
  get_inserted m key value q = map.get-insert nat_cmp_total m key value q ∙ ap (λ b. cond b (Some value) (map.get m q)) (unsigned_tied q key)

  pub get_removed : (m : map.FinMap nat_cmp X) (key q : ℕ) → map.get (map.remove m key) q ≡ cond (nat_eq q key) None (map.get m q)
  get_removed m key q = map.get-remove nat_cmp_total m key q ∙ ap (λ b. cond b None (map.get m q)) (unsigned_tied q key)

-- how many values are kept
module _ {X Y : Type 0} (choice : ℕ → X → Option Y) where
  length_onto : (key : ℕ) (value : Option Y) (entries : List (ℕ × Y)) → length (onto key value entries) ≤ length entries + 1
  length_onto key None entries = omega arith
  length_onto key (Some value) entries = omega arith

  length_chosen : (entries : List (ℕ × X)) → length (chosen_of choice entries) ≤ length entries
  length_chosen [] = omega arith
  length_chosen (e ∷ entries) = let a = length_onto e.0 (choice e.0 e.1) (chosen_of choice entries) in let b = length_chosen entries in omega arith

len_entries : {Y : Type 0} (entries : List (ℕ × Y)) → map.len (map.from_entries {R = nat_cmp} entries) ≤ length entries
len_entries {Y} [] = let e = map.len-empty nat_cmp Y in omega arith
len_entries (e ∷ entries) =
    let one = map.len-insert nat_cmp_total (map.from_entries {R = nat_cmp} entries) e.0 e.1 in
    let rest = len_entries entries in
    elim (map.contains_key (map.from_entries {R = nat_cmp} entries) e.0) as (λ b. map.len (map.insert (map.from_entries {R = nat_cmp} entries) e.0 e.1) ≡ cond b (map.len (map.from_entries {R = nat_cmp} entries)) (map.len (map.from_entries {R = nat_cmp} entries) + 1)
    → map.len (map.insert (map.from_entries {R = nat_cmp} entries) e.0 e.1) ≤ suc (length entries)) [ true ↦ λ is. omega arith | false ↦ λ is. omega arith ] one

-- no more values than there were
pub len-kept : {X : Type 0} (test : X → Bool) (m : map.FinMap nat_cmp X) → map.len (kept test m) ≤ map.len m
unfolding chosen
len-kept test m =
    let a = len_entries (chosen_of (λ key value. cond (test value) (Some value) None) (map.entries m)) in
    let b = length_chosen (λ key value. cond (test value) (Some value) None) (map.entries m) in
    let c = map.len-entries m in
    omega arith
