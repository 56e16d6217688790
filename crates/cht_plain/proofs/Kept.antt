-- What stays of a core with one caller and one worker.
use Rattle.std.proofs.Common.{◌≡◌, ℕ, ◌+◌, true, false, cond, [], ◌∷◌, ◌++◌, filter, count_by, sym, ap, ◌∙◌}
use Rattle.std.proofs.lemmas.List.Elements.{filter-append}
use Rattle.std.proofs.lemmas.List.Sums.{sum_by_push}
use Rattle.task_types.specs.Meanings.{Meanings}
use Rattle.cht_history.specs.declared.event.Event.{Event}
use Rattle.name_machine.specs.Parts.{untold, told_after, is_callers_own, finishes_by, finishes_of, CallerPart}
use Rattle.name_machine.proofs.Telling.{finishes_then}
use Rattle.core_state.specs.Contents.{Contents}
use Rattle.cht_core.specs.Events.{Happens}
use Rattle.cht_engine.specs.Closing.{is_finish}
use Rattle.cht_plain.specs.Alone.{IsAlone}

module _ {C K : Type 0} (lib : Meanings C K) (arity : C → ℕ) (before after : Contents C K) (event : Event K) (happens : Happens lib arity before after event) where
  -- as many tasks of the caller as an event finishes, so many it finishes
  abbrev pub IsCounted : Type 0
  IsCounted = cond (is_finish event) 1 0 ≡ finishes_by (told_after untold before.events) 0 event

  counted_then : count_by is_finish before.events ≡ finishes_of 0 before.events → IsCounted → count_by is_finish after.events ≡ finishes_of 0 after.events
  counted_then counted same =
      ap (count_by is_finish) happens.written
      ∙ sum_by_push (λ (e : Event K). cond (is_finish e) 1 0) before.events event
      ∙ (λ i. counted i + same i)
      ∙ sym (finishes_then untold 0 before.events event)
      ∙ ap (finishes_of 0) (sym happens.written)

  pub alone_then : IsAlone lib before → ((caller : ℕ) → (caller ≡ 0 → ⊥) → is_callers_own caller event ≡ false) → IsCounted → IsAlone lib after
  alone_then alone other same = record {
    callers = happens.callers ∙ alone.callers;
    workers = happens.workers ∙ alone.workers;
    others = λ caller apart.
        let stays = happens.other_callers caller (other caller apart) in
        let none = alone.others caller apart in
        (ap (λ (part : CallerPart C K). part.names) stays ∙ none.0, ap (λ (part : CallerPart C K). part.asks) stays ∙ none.1);
    counted = counted_then alone.counted same;
  }

  -- one of the caller's own events is at the end of its list
  pub own_written : is_callers_own 0 event ≡ true → filter (is_callers_own 0) after.events ≡ filter (is_callers_own 0) before.events ++ event ∷ []
  own_written own =
      ap (filter (is_callers_own 0)) happens.written
      ∙ filter-append (is_callers_own 0) before.events (event ∷ [])
      ∙ ap (λ b. filter (is_callers_own 0) before.events ++ cond b (event ∷ []) []) own
