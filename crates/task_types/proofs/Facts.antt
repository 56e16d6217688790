-- Facts on each item of a list, with its number.
use Rattle.std.proofs.Common.{◌≡◌, ℕ, ◌+◌, ◌<◌, ◌≤◌, Some, List, length, slice_get, get_or, below_more, subst, ◌∙◌, arith}
use Rattle.std.proofs.lemmas.Option.{slice_get_within, get_or_from_slice_get}

-- what holds of each item below i, and of the item at i, holds of each below i + 1
pub facts_more : {X : Type 0} (P : ℕ → X → Type 0) (xs : List X) (i : ℕ) (x : X)
    → ((k : ℕ) (y : X) → k < i → slice_get xs k ≡ Some y → P k y) → x ≡ get_or xs i x → P i x → (k : ℕ) (y : X)
    → k < i + 1 → slice_get xs k ≡ Some y → P k y
facts_more {X} P xs i x before e here k y h at =
    below_more (λ k. (y : X) → slice_get xs k ≡ Some y → P k y) i (λ k h y at. before k y h at) (λ y at. subst (P i) (e ∙ get_or_from_slice_get xs i y x at) here) k h y at

-- what holds of each item below the length holds of each
pub facts_all : {X : Type 0} (P : ℕ → X → Type 0) (xs : List X) (i : ℕ) → length xs ≤ i
    → ((k : ℕ) (y : X) → k < i → slice_get xs k ≡ Some y → P k y) → (k : ℕ) (y : X) → slice_get xs k ≡ Some y → P k y
facts_all P xs i h before k y at = let within = slice_get_within xs k y at in before k y (omega arith) at
