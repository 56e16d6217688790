-- The chain of bodies without an identifier.
use Rattle.std.proofs.Common.{◌≡◌, ℕ, ◌==◌, Bool, true, false, ◌||◌, inl, inr, List, [], ◌∷◌, Option, Some, refl, sym, ap, ◌∙◌}
use Rattle.std.specs.List.{list_any}
use Rattle.chunk_store.specs.Contents.{Contents as Stored}
use Rattle.chunk_refs.specs.declared.parts.Spot.{Spot}
use Rattle.chunk_refs.specs.declared.parts.Chunk.{Chunk}
use Rattle.chunk_refs.specs.Inside.{chunk_at, IsChain}
use Rattle.name_states.proofs.Basics.{one_of, same_from_test, test_same}

later_is_on : (a b : Bool) → b ≡ true → (a || b) ≡ true
later_is_on true b is = refl
later_is_on false b is = is

module _ {C : Type 0} where
  first_is : (chunk : Chunk C) (number : ℕ) (chain : List ℕ) → chunk.number ≡ number → list_any (λ other. other == chunk.number) (number ∷ chain) ≡ true
  first_is chunk number chain same = ap (λ b. b || list_any (λ other. other == chunk.number) chain) (ap (λ n. n == chunk.number) (sym same) ∙ test_same chunk.number)

  later_is : (chunk : Chunk C) (number : ℕ) (chain : List ℕ) → list_any (λ other. other == chunk.number) chain ≡ true → list_any (λ other. other == chunk.number) (number ∷ chain) ≡ true
  later_is chunk number chain on = later_is_on (number == chunk.number) (list_any (λ other. other == chunk.number) chain) on

  -- a chain stays where the bodies without an identifier, as far as they are on it, stay
  pub chain-kept : (before after : List (Stored (Chunk C))) (chain : List ℕ) (first : Option Spot)
      → ((owner key : ℕ) (chunk : Chunk C) → chunk_at before owner key ≡ Some chunk → chunk.names ≡ 0 → list_any (λ other. other == chunk.number) chain ≡ true → chunk_at after owner key ≡ Some chunk)
      → IsChain before first chain → IsChain after first chain
  chain-kept before after [] first stays is = is
  chain-kept before after (number ∷ chain) first stays is = (
    is.0,
    is.1,
    is.2,
    stays is.0.owner is.0.key is.1 is.3 is.5 (first_is is.1 number chain is.4),
    is.4,
    is.5,
    is.6,
    chain-kept before after chain is.1.next (λ owner key chunk at dead on. stays owner key chunk at dead (later_is chunk number chain on)) is.7,
  )

  -- a number on a chain is that of a body without an identifier
  pub chain-dead : (stores : List (Stored (Chunk C))) (chain : List ℕ) (first : Option Spot) (number : ℕ) → IsChain stores first chain → list_any (λ other. other == number) chain ≡ true
      → (owner : ℕ) × (key : ℕ) × (chunk : Chunk C) × (chunk_at stores owner key ≡ Some chunk) × (chunk.number ≡ number) × (chunk.names ≡ 0)
  chain-dead stores [] first number is on = absurd (cc)
  chain-dead stores (other ∷ chain) first number is on =
      elim (one_of (other == number) (list_any (λ x. x == number) chain) on) [
        | inl here ↦ (is.0.owner, is.0.key, is.1, is.3, is.4 ∙ same_from_test other number here, is.5)
        | inr later ↦ chain-dead stores chain is.1.next number is.7 later
      ]
