-- A word that has the bytes of another one.
use Rattle.std.proofs.Common.{◌≡◌, ℕ, suc, List, [], ◌∷◌, length, get_or, refl, ap, ◌∙◌, arith}

-- from place i on a word has these bytes
abbrev pub Spells : List ℕ → ℕ → List ℕ → Type 0
Spells word i [] = Unit {0}
Spells word i (byte ∷ bytes) = (get_or word i 0 ≡ byte) × Spells word (suc i) bytes

spells-tail : (x : ℕ) (word : List ℕ) (i : ℕ) (bytes : List ℕ) → Spells (x ∷ word) (suc i) bytes → Spells word i bytes
spells-tail x word i [] h = tt
spells-tail x word i (byte ∷ bytes) h = (h.0, spells-tail x word (suc i) bytes h.1)

-- a word that is as long and has the same bytes is the same word
pub spelled : (word bytes : List ℕ) → length word ≡ length bytes → Spells word 0 bytes → word ≡ bytes
spelled [] [] len h = refl
spelled [] (byte ∷ bytes) len h = absurd (omega arith)
spelled (x ∷ word) [] len h = absurd (omega arith)
spelled (x ∷ word) (byte ∷ bytes) len h =
    ap (λ y. y ∷ word) h.0 ∙ ap (λ ys. byte ∷ ys) (spelled word bytes (omega arith) (spells-tail x word 0 bytes h.1))
