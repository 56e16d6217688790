-- What a row tells is so of its task.
use Rattle.std.proofs.Common.{◌≡◌, ◌<◌, ◌≤◌, ℕ, zero, suc, Bool, not, ◌&&◌, ◌||◌, take, length, List, [], ◌∷◌, Some, None, is_some, refl, sym, ap, ap₂, ◌∙◌, arith, rules}
use Rattle.std.specs.Prelude.{map as each, if◌then◌else◌, slice_get}
use Rattle.std.specs.List.{list_any}
use Rattle.task_states.specs.declared.states.Slot.{Slot}
use Rattle.task_states.specs.declared.states.TaskStatus.TheVariants.{Waiting, Ready, Running}
use Rattle.task_states.specs.States.{is_awaiting, status_of}
use Rattle.task_states.proofs.Options.{not_none, same_some}
use Rattle.task_links.specs.declared.kept.KeptPlace.{KeptPlace}
use Rattle.task_links.specs.Inside.{shown_place}
use Rattle.task_links.specs.Kept.{opened_place}
use Rattle.task_graph.specs.declared.rows.TaskRow.{TaskRow}
use Rattle.task_graph.specs.Contents.{input_of}
use Rattle.task_graph.specs.Rows.{unfinished_in}

any_given : (slots : List Slot) → list_any (λ slot. is_awaiting (input_of slot)) slots ≡ list_any is_awaiting (each input_of slots)
any_given [] = refl
any_given (slot ∷ slots) = ap (λ b. is_awaiting (input_of slot) || b) (any_given slots)

-- what is asked of the first inputs as they are kept
pub any_first : (count : ℕ) (places : List KeptPlace) → list_any (λ place. is_awaiting (shown_place (opened_place place))) (take count places) ≡ list_any is_awaiting (each shown_place (take count (each opened_place places)))
any_first zero places = refl
any_first (suc count) [] = refl
any_first (suc count) (place ∷ places) = ap (λ b. is_awaiting (shown_place (opened_place place)) || b) (any_first count places)

-- how far the task is, by two tests
pub row_status : {K : Type 0} (row : TaskRow K) (given : List KeptPlace) (waits runs : Bool) → given ≡ take row.count row.places → waits ≡ list_any (λ place. is_awaiting (shown_place (opened_place place))) given → runs ≡ is_some row.runner
    → (if waits then Waiting else (if runs then Running else Ready)) ≡ status_of (unfinished_in row)
row_status row given waits runs given_is waits_is runs_is =
    ap₂ (λ w r. if w then Waiting else (if r then Running else Ready))
    (waits_is ∙ ap (list_any (λ place. is_awaiting (shown_place (opened_place place)))) given_is ∙ any_first row.count row.places) runs_is

-- an input at a place, by the one that is kept there
pub input_first : (places : List KeptPlace) (count place : ℕ) (slot : Slot) (kept : KeptPlace) → slice_get places place ≡ Some kept → place < count → input_of slot ≡ shown_place (opened_place kept)
    → Some (input_of slot) ≡ slice_get (each shown_place (take count (each opened_place places))) place
input_first [] count place slot kept at low is = absurd (not_none None kept refl at)
input_first (first ∷ places) zero place slot kept at low is = absurd (search rules)
input_first (first ∷ places) (suc count) zero slot kept at low is = ap Some (is ∙ ap (λ p. shown_place (opened_place p)) (sym (same_some first kept at)))
input_first (first ∷ places) (suc count) (suc place) slot kept at low is = input_first places count place slot kept at (omega (arith, low)) is

-- past the last input there is none
pub input_past : (places : List KeptPlace) (count place : ℕ) → (place < count → ⊥) → None ≡ slice_get (each shown_place (take count (each opened_place places))) place
input_past places zero place past = refl
input_past [] (suc count) place past = refl
input_past (first ∷ places) (suc count) zero past = absurd (past (omega arith))
input_past (first ∷ places) (suc count) (suc place) past = input_past places count place (λ low. past (omega (arith, low)))

pub input_none : (places : List KeptPlace) (count place : ℕ) → length places ≤ place → None ≡ slice_get (each shown_place (take count (each opened_place places))) place
input_none [] zero place past = refl
input_none [] (suc count) place past = refl
input_none (first ∷ places) zero place past = refl
input_none (first ∷ places) (suc count) zero past = absurd (omega (arith, past))
input_none (first ∷ places) (suc count) (suc place) past = input_none places count place (omega (arith, past))

-- whether a task can be run that comes with inputs, by two tests
pub may_run_is : (stopped is_stopped waits : Bool) (slots : List Slot) → is_stopped ≡ stopped → waits ≡ list_any (λ slot. is_awaiting (input_of slot)) slots → (not stopped && not waits) ≡ (not is_stopped && not (list_any is_awaiting (each input_of slots)))
may_run_is stopped is_stopped waits slots one two = ap₂ (λ a b. not a && not b) (sym one) (two ∙ any_given slots)
