-- What inputs tell without their contents.
use Rattle.std.proofs.Common.{◌≡◌, ℕ, zero, suc, Some, None, List, [], ◌∷◌, map, slice_get, refl}
use Rattle.task_types.specs.declared.inputs.View.{View}
use Rattle.task_types.specs.Presence.{Absent, presence_at}
use Rattle.task_types.specs.Shown.{presence_in}

-- the presence of the input at a place is that of its view
pub presence_at-some : {C : Type 0} (views : List (View C)) (i : ℕ) (view : View C) → slice_get views i ≡ Some view
    → presence_at (map presence_in views) i ≡ presence_in view
presence_at-some [] i view e = cc
presence_at-some (first ∷ views) zero view e = cc
presence_at-some (first ∷ views) (suc i) view e = presence_at-some views i view e

-- past the last view an input is absent
pub presence_at-none : {C : Type 0} (views : List (View C)) (i : ℕ) → slice_get views i ≡ None
    → presence_at (map presence_in views) i ≡ Absent
presence_at-none [] i e = refl
presence_at-none (first ∷ views) zero e = cc
presence_at-none (first ∷ views) (suc i) e = presence_at-none views i e

pub ruleset presence_at_lemmas = (presence_at-some, presence_at-none)
