-- What stands past the last child of a body changes nothing.
use Rattle.std.proofs.Common.{◌≡◌, ℕ, zero, suc, ◌+◌, List, [], ◌∷◌, take, drop, refl, sym, ap, subst, arith}
use Rattle.cht_ids.specs.declared.refs.Ref.{Ref}
use Rattle.cht_ids.specs.declared.refs.Ref.TheVariants.{Null, Id as Held}
use Rattle.name_states.specs.declared.holder.Holder.{Holder}
use Rattle.name_states.specs.States.{NameState, IsLiveRef, AreLive}
use Rattle.name_states.specs.Steps.{linked, linked_ref, drawn_by, present, numbered, numbered_ref}
use Rattle.chunk_refs.specs.Inside.{AreNull}

-- what stands past the last child says nothing
pub present-padded : (count : ℕ) (refs : List Ref) → AreNull (drop count refs) → present refs ≡ present (take count refs)
present-padded zero [] null = refl
present-padded zero (r ∷ refs) null = omega (arith, ap drawn_by null.0, present-padded zero refs null.1)
present-padded (suc count) [] null = refl
present-padded (suc count) (r ∷ refs) null = ap (λ n. drawn_by r + n) (present-padded count refs null)

pub live-padded : {C : Type 0} (names : NameState C) (count : ℕ) (refs : List Ref) → AreNull (drop count refs) → AreLive names (take count refs) → AreLive names refs
live-padded names zero [] null live = tt
live-padded names zero (r ∷ refs) null live = (subst (IsLiveRef names) (sym null.0) tt, live-padded names zero refs null.1 tt)
live-padded names (suc count) [] null live = tt
live-padded names (suc count) (r ∷ refs) null live = (live.0, live-padded names count refs null live.1)

pub linked-padded : {C : Type 0} (names : NameState C) (drawn : ℕ) (holder : Holder) (count : ℕ) (refs : List Ref) → AreNull (drop count refs) → linked names drawn holder refs ≡ linked names drawn holder (take count refs)
linked-padded names drawn holder zero [] null = refl
linked-padded names drawn holder zero (Null ∷ refs) null = linked-padded names (drawn + 0) holder zero refs null.1
linked-padded names drawn holder zero (Held id ∷ refs) null = absurd (let clash : Held id ≡ Null = null.0 in cc)
linked-padded names drawn holder (suc count) [] null = refl
linked-padded names drawn holder (suc count) (r ∷ refs) null = linked-padded (linked_ref names drawn holder r) (drawn + drawn_by r) holder count refs null

pub numbered-padded : (drawn count : ℕ) (refs : List Ref) → AreNull (drop count refs) → AreNull (drop count (numbered drawn refs))
numbered-padded drawn zero [] null = tt
numbered-padded drawn zero (Null ∷ refs) null = (refl, numbered-padded (drawn + 0) zero refs null.1)
numbered-padded drawn zero (Held id ∷ refs) null = absurd (let clash : Held id ≡ Null = null.0 in cc)
numbered-padded drawn (suc count) [] null = tt
numbered-padded drawn (suc count) (r ∷ refs) null = numbered-padded (drawn + drawn_by r) count refs null

pub numbered-take : (drawn count : ℕ) (refs : List Ref) → take count (numbered drawn refs) ≡ numbered drawn (take count refs)
numbered-take drawn zero refs = refl
numbered-take drawn (suc count) [] = refl
numbered-take drawn (suc count) (r ∷ refs) = ap (λ rest. numbered_ref drawn r ∷ rest) (numbered-take (drawn + drawn_by r) count refs)
