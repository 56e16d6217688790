-- Each step keeps what is kept, and so does each run.
use Rattle.std.proofs.Common.{◌≡◌, ℕ, ◌+◌, List, [], ◌∷◌, map as each, Option, None, Some, refl, sym, ap, subst, ◌∙◌, arith}
use Rattle.std.specs.FinMap as map
use Rattle.task_types.specs.declared.outcome.Place.{Place}
use Rattle.task_types.specs.declared.outcome.Place.TheVariants.{Null, Input as AtInput, Child, Chunk, Task}
use Rattle.task_types.specs.declared.outcome.NewChunk.{NewChunk}
use Rattle.task_types.specs.declared.outcome.Outcome.{Outcome}
use Rattle.task_types.specs.Tree.{Tree, Nothing, Root}
use Rattle.task_types.specs.Meanings.{Meanings}
use Rattle.task_types.specs.Reading.{reading, new_trees}
use Rattle.task_types.specs.Sound.{IsSound}
use Rattle.task_states.specs.States.{Unfinished, task_at, asked_of}
use Rattle.task_states.specs.Steps.{removed}
use Rattle.name_states.specs.Steps.{present}
use Rattle.name_states.proofs.Basics.{none_not_some, same_from_test}
use Rattle.cht_history.specs.declared.event.Event.{Event}
use Rattle.cht_history.specs.declared.event.Event.TheVariants.{Register, Copy, Delete, Ask as AskEvent, Collect, Abandon, Stop, Start, GiveBack, Finish}
use Rattle.name_machine.specs.States.{Machine, is_of, opening, tree_named}
use Rattle.name_machine.specs.NewTasks.{drawn_by_chunks, task_numbers}
use Rattle.name_machine.specs.Steps.{handed, input_trees, with_new, resolved, finished}
use Rattle.name_machine.specs.Machine.{owner_of, IsStep, LeadsTo}
use Rattle.name_machine.specs.Laws.{FactsHold}
use Rattle.name_machine.proofs.Values.{any_to}
use Rattle.name_machine.proofs.Invariant.{Keeps, drawn_more, facts}
use Rattle.name_machine.proofs.Asking.{kept_by_ask}
use Rattle.name_machine.proofs.Small.{kept_at_opening, ready_awaits_nothing, kept_by_runner, kept_by_stop, kept_by_collect, kept_by_abandon}
use Rattle.name_machine.proofs.Added.{old_stays}
use Rattle.name_machine.proofs.Stands.{stood}
use Rattle.name_machine.proofs.Answered.{asks_then}
use Rattle.name_machine.proofs.Finishing.{stand_of, kept_by_finish}

module _ {C K : Type 0} (lib : Meanings C K) where
  -- what is kept of a state
  abbrev pub Kept : Machine C K → Type 0
  Kept machine = Keeps lib machine.drawn machine.graph machine.asks

  -- what a finish leaves, by what stands in the task's place
  abbrev pub ended : Machine C K → ℕ → List ℕ → (Place → Tree C) → Place → Machine C K
  ended machine task numbers read place =
      let resolved_so : Machine C K = resolved machine task numbers read place in
      record resolved_so { graph = removed resolved_so.graph task }

  pub ended_keeps : (machine : Machine C K) (task : ℕ) (numbers : List ℕ) (read : Place → Tree C) (place : Place)
      → Keeps lib machine.drawn (stood machine.graph task (stand_of numbers read place)) (asks_then (stand_of numbers read place) (asked_of machine.graph task) machine.asks)
      → Kept (ended machine task numbers read place)
  ended_keeps machine task numbers read Null keeps = keeps
  ended_keeps machine task numbers read (AtInput i) keeps = keeps
  ended_keeps machine task numbers read (Child i j) keeps = keeps
  ended_keeps machine task numbers read (Chunk i) keeps = keeps
  ended_keeps machine task numbers read (Task i) keeps = keeps

  handed_keeps : (machine : Machine C K) (number caller owner : ℕ) (tree : Tree C) → Kept machine → Kept (handed machine number caller owner tree)
  handed_keeps machine number caller owner Nothing keeps = keeps
  handed_keeps machine number caller owner (Root content a b c d) keeps = keeps

  finish_keeps : (arity : C → ℕ) (machine : Machine C K) (worker task : ℕ) (unfinished : Unfinished (Tree C) K) (outcome : Outcome C K) → Kept machine
      → task_at machine.graph task ≡ Some unfinished → unfinished.runner ≡ Some worker → IsSound arity lib unfinished.kind (input_trees unfinished) outcome
      → Kept (finished machine task unfinished outcome)
  finish_keeps arity machine worker task unfinished outcome keeps there runs sound =
      let trees : List (Tree C) = input_trees unfinished in
      let read : Place → Tree C = reading trees (new_trees trees outcome) [] in
      let base : ℕ = machine.drawn + drawn_by_chunks (each (λ (chunk : NewChunk C). chunk.children) outcome.chunks) in
      let grown : Machine C K = with_new machine unfinished.caller read outcome in
      let asked_is : asked_of grown.graph task ≡ unfinished.asked =
      ap (λ (o : Option (Unfinished (Tree C) K)). elim o as (λ x. Option ℕ) [ None ↦ None | Some t ↦ t.asked ])
      (old_stays (λ place number. read place) (task_numbers base outcome.tasks) unfinished.caller base outcome.tasks machine.graph task
      (let h = keeps.numbers task unfinished there in omega arith) ∙ there) in
      ended_keeps grown task (task_numbers base outcome.tasks) read outcome.result
      (subst (λ asked. Keeps lib grown.drawn (stood grown.graph task (stand_of (task_numbers base outcome.tasks) read outcome.result)) (asks_then (stand_of (task_numbers base outcome.tasks) read outcome.result) asked machine.asks))
      (sym asked_is) (kept_by_finish lib arity machine.drawn machine.graph machine.asks keeps task unfinished there worker runs outcome sound))

  -- each step keeps what is kept
  pub step_keeps : (arity : C → ℕ) (before after : Machine C K) (event : Event K) → Kept before → IsStep lib arity before event after → Kept after
  step_keeps arity before after (Register caller id children) keeps step =
      subst Kept (sym step.after_is) (drawn_more lib before.drawn (before.drawn + 2 + present children) before.graph before.asks (omega arith) keeps)
  step_keeps arity before after (Copy caller from to) keeps step =
      subst Kept (sym step.after_is) (drawn_more lib before.drawn (before.drawn + 1) before.graph before.asks (omega arith) keeps)
  step_keeps arity before after (Delete caller id) keeps step = subst Kept (sym step.after_is) keeps
  step_keeps arity before after (AskEvent caller task kind inputs) keeps step =
      subst Kept (sym step.after_is)
      (kept_by_ask lib before.drawn before.graph before.asks keeps caller kind (each (tree_named before) inputs) (before.drawn + 2 + present inputs) step.defined (omega arith))
  step_keeps arity before after (Collect caller task got) keeps step =
      subst Kept (sym step.after_is)
      (handed_keeps (record before { asks = map.remove before.asks task }) step.ask.number step.ask.caller (owner_of got) step.output
      (kept_by_collect lib before.drawn before.graph before.asks keeps task caller step.ask step.output step.there step.delivered step.own step.goes_on))
  step_keeps arity before after (Abandon caller) keeps step =
      subst Kept (sym step.after_is) (kept_by_abandon lib before.drawn before.graph before.asks keeps caller)
  step_keeps arity before after (Stop caller) keeps step =
      let ask = any_to (is_of caller) before.asks step.has_one in
      subst Kept (sym step.after_is)
      (kept_by_stop lib before.drawn before.graph before.asks keeps caller ask.0 ask.1 ask.2 (same_from_test ask.1.caller caller ask.3))
  step_keeps arity before after (Start worker task) keeps step =
      subst Kept (sym step.after_is)
      (kept_by_runner lib before.drawn before.graph before.asks keeps task (Some worker)
      (λ p a n w t is at input. ready_awaits_nothing before.graph task p a n t step.ready at input)
      (λ q w t is at runs. step.idle q (t, at, runs ∙ sym is)))
  step_keeps arity before after (GiveBack worker task) keeps step =
      subst Kept (sym step.after_is)
      (kept_by_runner lib before.drawn before.graph before.asks keeps task None
      (λ p a n w t is at input. none_not_some refl is)
      (λ q w t is at runs. none_not_some refl is))
  step_keeps arity before after (Finish worker task chunks tasks result) keeps step =
      subst Kept (sym step.after_is) (finish_keeps arity before worker task step.unfinished step.outcome keeps step.there step.runs step.sound)

  -- each run keeps what is kept
  pub run_keeps : (arity : C → ℕ) (before after : Machine C K) (events : List (Event K)) → Kept before → LeadsTo lib arity before events after → Kept after
  run_keeps arity before after [] keeps run = subst Kept (sym run) keeps
  run_keeps arity before after (event ∷ events) keeps run =
      run_keeps arity run.0 after events (step_keeps arity before run.0 event keeps run.1) run.2

  pub facts_hold : (arity : C → ℕ) → FactsHold lib arity
  facts_hold arity events after run = facts lib after (run_keeps arity opening after events (kept_at_opening lib) run)
