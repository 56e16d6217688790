-- Words that are too few or too many for options.
use Rattle.std.proofs.Common.{◌≡◌, ℕ, List, [], ◌∷◌, length, None, refl}
use Rattle.cht_words.specs.Words.{options_of}

-- options are two words or four, or none at all
pub other_lengths : (words : List (List ℕ)) → (length words ≡ 0 → ⊥) → (length words ≡ 2 → ⊥) → (length words ≡ 4 → ⊥) → options_of words ≡ None
other_lengths [] none two four = absurd (none refl)
other_lengths (a ∷ []) none two four = refl
other_lengths (a ∷ b ∷ []) none two four = absurd (two refl)
other_lengths (a ∷ b ∷ c ∷ []) none two four = refl
other_lengths (a ∷ b ∷ c ∷ d ∷ []) none two four = absurd (four refl)
other_lengths (a ∷ b ∷ c ∷ d ∷ e ∷ words) none two four = refl
