-- The first line of a finish, part by part.
use Rattle.std.proofs.Common.{◌≡◌, ℕ, ◌<◌, ◌≤◌, ◌^◌, List, [], ◌∷◌, length, Option, Some, refl, sym, ap, ◌∙◌, subst, arith}
use Rattle.std.specs.Prelude.{map}
use Rattle.std.specs.List.{AllByRecursion}
use Rattle.task_types.specs.declared.outcome.Places.{Places}
use Rattle.task_types.specs.Places.{places_of, filled}
use Rattle.task_types.specs.declared.outcome.Place.{Place}
use Rattle.journal_text.specs.declared.head.Verb.TheVariants.{Finish as FinishVerb}
use Rattle.journal_text.specs.declared.head.Head.{Head}
use Rattle.journal_text.specs.declared.head.Head.TheVariants.{Finish}
use Rattle.journal_text.specs.Text.{number, place_text}
use Rattle.journal_text.specs.Bounds.{IsActor, IsNumber, IsPlace, ArePlaces}
use Rattle.journal_text.specs.Heads.{verb_of, tail_words, IsHead}

-- the numbers of lines that follow, and the result
abbrev Rest : Type 0
Rest = ℕ × ℕ × Place

-- with a worker and a task in front
abbrev Whole : Type 0
Whole = ℕ × ℕ × ℕ × ℕ × Place

-- the parts are the same one by one
pub same_finish : (worker other task job chunks parts tasks steps : ℕ) (place result : Place) → worker ≡ other → task ≡ job
    → ◌≡◌ {A = Option Rest} (Some (chunks, tasks, place)) (Some (parts, steps, result))
    → ◌≡◌ {A = Option Whole} (Some (worker, task, chunks, tasks, place)) (Some (other, job, parts, steps, result))
same_finish worker other task job chunks parts tasks steps place result e f g =
    let rest : ◌≡◌ {A = Rest} (chunks, tasks, place) (parts, steps, result) = cc in
    let one : chunks ≡ parts = ap (λ (it : Rest). it.0) rest in
    let two : tasks ≡ steps = ap (λ (it : Rest). it.1) rest in
    let three : place ≡ result = ap (λ (it : Rest). it.2) rest in
    cc

module _ {K : Type 0} (name_of : K → List ℕ) (height_of : K → ℕ) where
  -- a line with the verb of a finish is one
  pub at_finish : (worker task chunks tasks : ℕ) (place : Place) (words : List (List ℕ))
      → ((other job parts steps : ℕ) (result : Place) → IsActor other → IsNumber job → parts < 2 ^ 64 → steps < 2 ^ 64 → IsPlace result
      → words ≡ number other ∷ number job ∷ number parts ∷ number steps ∷ place_text result ∷ []
      → ◌≡◌ {A = Option Whole} (Some (worker, task, chunks, tasks, place)) (Some (other, job, parts, steps, result)))
      → (head : Head K) → verb_of head ≡ FinishVerb → IsHead height_of head → tail_words name_of height_of head ≡ words
      → ◌≡◌ {A = Option (Head K)} (Some (Finish worker task chunks tasks place)) (Some head)
  at_finish worker task chunks tasks place words every (Finish other job parts steps result) verb within e =
      let same = every other job parts steps result within.0 within.1 within.2 within.3 within.4 (sym e) in
      let whole : ◌≡◌ {A = Whole} (worker, task, chunks, tasks, place) (other, job, parts, steps, result) = cc in
      let one : worker ≡ other = ap (λ (it : Whole). it.0) whole in
      let two : task ≡ job = ap (λ (it : Whole). it.1) whole in
      let three : chunks ≡ parts = ap (λ (it : Whole). it.2) whole in
      let four : tasks ≡ steps = ap (λ (it : Whole). it.3) whole in
      let five : place ≡ result = ap (λ (it : Whole). it.4) whole in
      cc
  at_finish worker task chunks tasks place words every other verb within e = absurd (cc verb)

-- at most four places, filled up
filled_within : (list : List Place) → length list ≤ 4 → places_of (filled list) ≡ list
filled_within [] few = refl
filled_within (a ∷ []) few = refl
filled_within (a ∷ b ∷ []) few = refl
filled_within (a ∷ b ∷ c ∷ []) few = refl
filled_within (a ∷ b ∷ c ∷ d ∷ []) few = refl
filled_within (a ∷ b ∷ c ∷ d ∷ e ∷ rest) few = absurd (omega arith)

-- what a list of places was filled to
pub read_filled : (list given : List Place) (words : List (List ℕ)) (places : Places) → places ≡ filled given → given ≡ list → map place_text list ≡ words → length list ≤ 4
    → AllByRecursion IsPlace list → (map place_text (places_of places) ≡ words) × ArePlaces places
read_filled list given words places e f shown few within =
    let same : places_of places ≡ list = ap places_of (e ∙ ap filled f) ∙ filled_within list few in
    (ap (map place_text) same ∙ shown, let P : List Place → Type 0 = λ ps. AllByRecursion IsPlace ps in subst P (sym same) within)
