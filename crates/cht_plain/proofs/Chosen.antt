-- Chosen values of a map, where a value is put under a key, and where one goes.
use Rattle.std.proofs.Common.{◌≡◌, ℕ, nat_cmp, Option, Some, inl, inr, refl, sym, ap, ◌∙◌}
use Rattle.std.specs.Option.{option_and_then}
use Rattle.std.specs.FinMap as map
use Rattle.task_states.specs.Maps.{chosen}
use Rattle.task_states.proofs.Maps.{get-chosen, same_maps}
use Rattle.name_states.proofs.Basics.{same_or_not, inserted_here, inserted_other, removed_here, removed_other}

module _ {X Y : Type 0} (choice : ℕ → X → Option Y) where
  pub chosen-insert : (m : map.FinMap nat_cmp X) (k : ℕ) (v : X) (y : Y) → choice k v ≡ Some y
      → chosen choice (map.insert m k v) ≡ map.insert (chosen choice m) k y
  chosen-insert m k v y is =
      same_maps _ _ (λ q. elim (same_or_not q k) [
        | inl same ↦
            get-chosen choice (map.insert m k v) q
            ∙ ap (option_and_then (choice q)) (inserted_here m k q v v same refl)
            ∙ ap (λ j. choice j v) same
            ∙ is
            ∙ sym (inserted_here (chosen choice m) k q y y same refl)
        | inr apart ↦
            get-chosen choice (map.insert m k v) q
            ∙ ap (option_and_then (choice q)) (inserted_other m k q v apart)
            ∙ sym (get-chosen choice m q)
            ∙ sym (inserted_other (chosen choice m) k q y apart)
      ])

  pub chosen-remove : (m : map.FinMap nat_cmp X) (k : ℕ) → chosen choice (map.remove m k) ≡ map.remove (chosen choice m) k
  chosen-remove m k =
      same_maps _ _ (λ q. elim (same_or_not q k) [
        | inl same ↦
            get-chosen choice (map.remove m k) q
            ∙ ap (option_and_then (choice q)) (removed_here m k q same)
            ∙ sym (removed_here (chosen choice m) k q same)
        | inr apart ↦
            get-chosen choice (map.remove m k) q
            ∙ ap (option_and_then (choice q)) (removed_other m k q apart)
            ∙ sym (get-chosen choice m q)
            ∙ sym (removed_other (chosen choice m) k q apart)
      ])

  pub chosen-empty : chosen choice map.empty ≡ map.empty
  chosen-empty =
      same_maps _ _ (λ q. get-chosen choice map.empty q ∙ ap (option_and_then (choice q)) (map.get-empty nat_cmp q) ∙ sym (map.get-empty nat_cmp q))

-- a map of one value, without it
pub one_less : {X : Type 0} (k : ℕ) (x : X) → map.remove {R = nat_cmp} (map.insert map.empty k x) k ≡ map.empty
one_less k x =
    same_maps _ _ (λ q. elim (same_or_not q k) [
      | inl same ↦ removed_here (map.insert map.empty k x) k q same ∙ sym (map.get-empty nat_cmp q)
      | inr apart ↦ removed_other (map.insert map.empty k x) k q apart ∙ inserted_other map.empty k q x apart
    ])
