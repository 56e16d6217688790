-- What a start of the worker leaves.
use Rattle.std.proofs.Common.{◌≡◌, ℕ, ◌+◌, false, Some, inl, inr, refl, sym, ap, ◌∙◌, arith}
use Rattle.std.specs.Option.{option_map}
use Rattle.task_types.specs.Tree.{Tree}
use Rattle.task_types.specs.Meanings.{Meanings}
use Rattle.task_states.specs.States.{Unfinished, task_at, is_stopped}
use Rattle.cht_history.specs.declared.event.Event.{Event}
use Rattle.cht_history.specs.declared.event.Event.TheVariants.{Start}
use Rattle.name_machine.specs.States.{Machine, Runs}
use Rattle.name_machine.specs.Parts.{untold, told_after, is_callers_own, finishes_by, finishes_of}
use Rattle.name_machine.proofs.Tasks.{changed_here, changed_from}
use Rattle.name_machine.proofs.Telling.{finishes_then}
use Rattle.core_state.specs.Contents.{Contents}
use Rattle.cht_core.specs.declared.answers.Execution.{Execution}
use Rattle.cht_core.specs.Events.{state, Happens}
use Rattle.cht_core.specs.Entered.{IsOn}
use Rattle.cht_engine.specs.Seen.{Seen, seen_by}
use Rattle.cht_plain.specs.Alone.{seen_of, left, IsWaiting}
use Rattle.cht_plain.specs.Begun.{HasBegun}
use Rattle.cht_plain.proofs.Kept.{alone_then}

module _ {C K : Type 0} (lib : Meanings C K) (arity : C → ℕ) (before after : Contents C K) (event : Event K) (happens : Happens lib arity before after event) where
  -- the caller sees no difference after an event that is not its own
  pub seen_same : is_callers_own 0 event ≡ false → seen_of lib after ≡ seen_of lib before
  seen_same other = ap (seen_by 0) (happens.other_callers 0 other)

  -- what is left, with the tasks that the event finishes, is what was left
  pub left_then : is_callers_own 0 event ≡ false → finishes_by (told_after untold before.events) 0 event + left lib after ≡ left lib before
  left_then other =
      let account : finishes_of 0 after.events + left lib after ≡ finishes_of 0 before.events + left lib before = ap (λ (s : Seen C K). s.account) (seen_same other) in
      let more : finishes_of 0 after.events ≡ finishes_of 0 before.events + finishes_by (told_after untold before.events) 0 event =
      ap (finishes_of 0) happens.written ∙ finishes_then untold 0 before.events event in
      omega arith

module _ {L C K : Type 0} (lib : Meanings C K) (arity : C → ℕ) (before after : Contents C K) where
  -- the worker runs what it began, and nobody runs another
  pub begun_so : (task : ℕ) (started : Execution L C K) → IsWaiting lib before → IsOn lib arity before after 0 task started → HasBegun lib before after started
  begun_so task started waiting begun =
      let step = begun.happens.step in
      let now : Machine C K = state lib before in
      let change : Unfinished (Tree C) K → Unfinished (Tree C) K = λ unfinished. record unfinished { runner = Some 0 } in
      let same : task ≡ started.task = sym begun.task_is in
      let there : task_at (state lib after).graph task ≡ Some (change begun.unfinished) =
      ap (λ (m : Machine C K). task_at m.graph task) step.after_is ∙ changed_here now.graph task change ∙ ap (option_map change) begun.there in
      let only : (worker other : ℕ) → Runs (state lib after) worker other → other ≡ task =
      λ worker other runs.
      let from = changed_from now.graph task other change runs.0 (ap (λ (m : Machine C K). task_at m.graph other) (sym step.after_is) ∙ runs.1) in
      elim from.2 [
        | inl here ↦ here.0
        | inr old ↦ absurd (waiting.idle worker other (from.0, from.1, ap (λ v. v.runner) (sym old.1) ∙ runs.2))
      ] in
      record {
        executes = record {
          unfinished = change begun.unfinished;
          busy = record {
            alone = alone_then lib arity before after (Start 0 task) begun.happens waiting.alone (λ caller apart. refl) refl;
            going = ap (λ (m : Machine C K). is_stopped m.graph 0) step.after_is ∙ waiting.going;
            there = ap (task_at (state lib after).graph) begun.task_is ∙ there;
            runs = refl;
            kind_is = begun.kind;
            defined = begun.defined;
            only = λ worker other runs. only worker other runs ∙ same;
          };
          shown = begun.shown;
        };
        seen = seen_same lib arity before after (Start 0 task) begun.happens refl;
        as_much = (let less = left_then lib arity before after (Start 0 task) begun.happens refl in omega arith);
      }
