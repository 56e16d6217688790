-- A map with each value replaced: what it holds, and its keys.
use Rattle.std.proofs.Common.{◌≡◌, ℕ, Bool, true, false, cond, ◌&&◌, List, [], ◌∷◌, Option, Some, None, refl, sym, ap, subst, ◌∙◌}
use Rattle.std.specs.Prelude.{map as each}
use Rattle.std.specs.Option.{option_map}
use Rattle.std.specs.Ordering.{nat_cmp, eq_by_cmp, is_lt}
use Rattle.std.specs.FinMap as map
use Rattle.std.specs.FinMap.Entries.{below_all}
use Rattle.std.specs.Cmp.{nat_cmp_total}
use Rattle.std.specs.Prelude.{T, nat_eq}
use Rattle.name_states.specs.WithoutContents.{each_value}
use Rattle.name_states.proofs.Basics.{get_inserted, get_retained}

module _ {X Y : Type 0} (f : X → Y) where
  -- entries with each value replaced
  abbrev pub replaced : List (ℕ × X) → List (ℕ × Y)
  replaced es = each (λ e. (e.0, f e.1)) es

  below_replaced : (k : ℕ) (es : List (ℕ × X)) → below_all nat_cmp k (replaced es) ≡ below_all nat_cmp k es
  below_replaced k [] = refl
  below_replaced k (e ∷ es) = ap (λ b. is_lt (nat_cmp k e.0) && b) (below_replaced k es)

  sorted_replaced : (es : List (ℕ × X)) → map.is_sorted nat_cmp (replaced es) ≡ map.is_sorted nat_cmp es
  sorted_replaced [] = refl
  sorted_replaced (e ∷ es) = λ i. below_replaced e.0 es i && sorted_replaced es i

  keys_replaced : (es : List (ℕ × X)) → each (λ e. e.0) (replaced es) ≡ each (λ e. e.0) es
  keys_replaced [] = refl
  keys_replaced (e ∷ es) = ap (λ ks. e.0 ∷ ks) (keys_replaced es)

  pub entries_replaced : (m : map.FinMap nat_cmp X) → map.entries (each_value f m) ≡ replaced (map.entries m)
  entries_replaced m =
      map.entries-from_sorted nat_cmp (replaced (map.entries m)) (subst T (sym (sorted_replaced (map.entries m))) (map.entries_sorted m))

  found_or : (b : Bool) (x : X) (o : Option X) → cond b (Some (f x)) (option_map f o) ≡ option_map f (cond b (Some x) o)
  found_or true x o = refl
  found_or false x o = refl

  find_replaced : (q : ℕ) (es : List (ℕ × X)) → map.find nat_cmp q (replaced es) ≡ option_map f (map.find nat_cmp q es)
  find_replaced q [] = refl
  find_replaced q (e ∷ es) =
      ap (cond (eq_by_cmp nat_cmp q e.0) (Some (f e.1))) (find_replaced q es) ∙ found_or (eq_by_cmp nat_cmp q e.0) e.1 (map.find nat_cmp q es)

  -- the keys stay
  pub keys_each_value : (m : map.FinMap nat_cmp X) → map.keys (each_value f m) ≡ map.keys m
  keys_each_value m = ap (each (λ e. e.0)) (entries_replaced m) ∙ keys_replaced (map.entries m)

  -- what stands at a key
  pub get_each_value : (m : map.FinMap nat_cmp X) (q : ℕ) → map.get (each_value f m) q ≡ option_map f (map.get m q)
  get_each_value m q =
      map.get-entries (each_value f m) q ∙ ap (map.find nat_cmp q) (entries_replaced m) ∙ find_replaced q (map.entries m) ∙ ap (option_map f) (sym (map.get-entries m q))

  -- one more entry
  pub each_value_inserted : (m : map.FinMap nat_cmp X) (key : ℕ) (value : X) → each_value f (map.insert m key value) ≡ map.insert (each_value f m) key (f value)
  each_value_inserted m key value =
      map.same_map nat_cmp_total map.nat_cmp-IsAntisymmetric (each_value f (map.insert m key value)) (map.insert (each_value f m) key (f value))
      (λ q.
      get_each_value (map.insert m key value) q
      ∙ ap (option_map f) (get_inserted m key value q)
      ∙ sym (found_or (nat_eq q key) value (map.get m q))
      ∙ ap (cond (nat_eq q key) (Some (f value))) (sym (get_each_value m q))
      ∙ sym (get_inserted (each_value f m) key (f value) q))

  kept_or : (b : Bool) (o : Option X) → option_map f (cond b o None) ≡ cond b (option_map f o) None
  kept_or true o = refl
  kept_or false o = refl

  -- the entries whose keys pass one of two tests that say the same
  pub each_value_retained : (m : map.FinMap nat_cmp X) (p q : ℕ → Bool) → ((n : ℕ) → p n ≡ q n) → each_value f (map.retain_keys m p) ≡ map.retain_keys (each_value f m) q
  each_value_retained m p q same =
      map.same_map nat_cmp_total map.nat_cmp-IsAntisymmetric (each_value f (map.retain_keys m p)) (map.retain_keys (each_value f m) q)
      (λ n.
      get_each_value (map.retain_keys m p) n
      ∙ ap (option_map f) (get_retained m p n)
      ∙ kept_or (p n) (map.get m n)
      ∙ ap (λ b. cond b (option_map f (map.get m n)) None) (same n)
      ∙ ap (λ o. cond (q n) o None) (sym (get_each_value m n))
      ∙ sym (get_retained (each_value f m) q n))
