-- In a list of events that can be replayed no task is finished twice.
use Rattle.std.proofs.Common.{◌≡◌, ℕ, ◌+◌, ◌<◌, ◌≤◌, ◌⊎◌, inl, inr, Bool, true, false, cond, List, [], ◌∷◌, Option, Some, None, refl, sym, ap, subst, ◌∙◌, arith}
use Rattle.std.specs.List.{count_by}
use Rattle.std.specs.Option.{option_and_then}
use Rattle.std.proofs.lemmas.List.Sums.{sum_by-cons}
use Rattle.cht_ids.specs.declared.refs.Ref.{Ref}
use Rattle.task_types.specs.declared.outcome.Place.{Place}
use Rattle.task_types.specs.declared.outcome.Place.TheVariants.{Null, Input as AtInput, Child, Chunk, Task}
use Rattle.task_types.specs.declared.outcome.Places.{Places}
use Rattle.task_types.specs.declared.outcome.NewTask.{NewTask}
use Rattle.task_types.specs.Places.{places_of}
use Rattle.name_states.specs.Steps.{present, numbered}
use Rattle.name_states.proofs.Basics.{same_from_test, none_not_some, inserted_from, removed_here, removed_from, none_or_some}
use Rattle.task_states.specs.States.{Known, Unfinished, task_at}
use Rattle.task_states.specs.Steps.{added}
use Rattle.task_states.proofs.Maps.{get-kept}
use Rattle.cht_history.specs.declared.event.Event.{Event}
use Rattle.cht_history.specs.declared.event.Event.TheVariants.{Register, Copy, Delete, Ask as AskEvent, Collect, Abandon, Stop, Start, GiveBack, Finish}
use Rattle.name_machine.specs.NewTasks.{task_numbers}
use Rattle.name_machine.specs.Control.{Control, Grown, no_control, tidied, chunks_more, chunk_more, with_chunks, with_new_tasks, ref_named, with_number, ref_known, resolved_to, finish_event, after_finish}
use Rattle.name_machine.specs.Replay.{Plans, Replayed, is_finish, is_allowed, effect, happens, replay_from}
use Rattle.name_machine.specs.Laws.{is_finish_of, FinishedOnce}
use Rattle.name_machine.proofs.Tasks.{passed_from, changed_from, tasks_from, delivered_was, forwarded_was}
use Rattle.std.specs.Ordering.{nat_cmp}
use Rattle.std.specs.FinMap as map
use Rattle.std.proofs.Common.{map as each, length}

-- new chunks draw numbers
pub chunks_draw : {B : Type 0} (worker task : ℕ) (inputs : List Ref) (contents : List B) (chunks : List Places) (grown : Grown B)
    → grown.drawn ≤ (chunks_more worker task inputs contents chunks grown).drawn
chunks_draw worker task inputs contents [] grown = omega arith
chunks_draw worker task inputs [] (places ∷ chunks) grown = omega arith
chunks_draw {B} worker task inputs (content ∷ contents) (places ∷ chunks) grown =
    let next : Grown B = chunk_more worker task inputs content (places_of places) grown in
    let rest = chunks_draw worker task inputs contents chunks next in
    let more : grown.drawn ≤ next.drawn = omega arith in
    omega arith

module _ {B G K : Type 0} where
  -- numbers only rise, and a task that is there was there or has a number that was drawn in between
  record Grows (before after : Control B G K) : Type 0 where
    pub drawn : before.drawn ≤ after.drawn
    pub tasks : (q : ℕ) (t : Unfinished Ref K) → task_at after.graph q ≡ Some t
        → ((u : Unfinished Ref K) × (task_at before.graph q ≡ Some u)) ⊎ ((before.drawn < q) × (q ≤ after.drawn))

  resolved_grows : (control : Control B G K) (task : ℕ) (numbers : List ℕ) (read : Place → Ref) (place : Place) → Grows control (resolved_to control task numbers read place)
  resolved_grows control task numbers read Null = record { drawn = omega arith; tasks = λ q t is. inl (delivered_was control.graph task q _ t is) }
  resolved_grows control task numbers read (AtInput i) = record { drawn = omega arith; tasks = λ q t is. inl (delivered_was control.graph task q _ t is) }
  resolved_grows control task numbers read (Child i j) = record { drawn = omega arith; tasks = λ q t is. inl (delivered_was control.graph task q _ t is) }
  resolved_grows control task numbers read (Chunk i) = record { drawn = omega arith; tasks = λ q t is. inl (delivered_was control.graph task q _ t is) }
  resolved_grows control task numbers read (Task i) = record { drawn = omega arith; tasks = λ q t is. inl (forwarded_was control.graph task _ q t is) }

  finish_grows : (control : Control B G K) (worker task : ℕ) (unfinished : Unfinished Ref K) (contents : List B) (chunks : List Places) (tasks : List (NewTask K)) (result : Place)
      → Grows control (finish_event control worker task unfinished contents chunks tasks result)
  finish_grows control worker task unfinished contents chunks tasks result =
      let inputs : List Ref = each ref_known unfinished.inputs in
      let grown : Grown B = with_chunks control worker task inputs contents chunks in
      let more : Control B G K = with_new_tasks control unfinished.caller inputs tasks grown in
      let read : Place → Ref = ref_named grown.names inputs grown.chunks in
      let ended : Control B G K = resolved_to more task (task_numbers grown.drawn tasks) read result in
      let first : control.drawn ≤ grown.drawn = chunks_draw worker task inputs contents chunks (record { names = control.names; drawn = control.drawn; chunks = [] }) in
      let grows = resolved_grows more task (task_numbers grown.drawn tasks) read result in
      let last : more.drawn ≤ ended.drawn = grows.drawn in
      record {
        drawn = omega arith;
        tasks = λ q t is. elim (grows.tasks q t (removed_from ended.graph.tasks task q t is).1) [
          | inl was ↦ elim (tasks_from (λ place number. with_number (read place) number) (task_numbers grown.drawn tasks) unfinished.caller grown.drawn tasks control.graph q was.0 was.1) [
            | inl old ↦ inl (was.0, old)
            | inr fresh ↦ inr (let low = fresh.0 in omega arith, let high = fresh.1 in omega arith)
          ]
          | inr fresh ↦ inr (let low = fresh.0 in omega arith, fresh.1)
        ];
      }

  -- a finished task is gone
  finish_ends : (control : Control B G K) (worker task : ℕ) (unfinished : Unfinished Ref K) (contents : List B) (chunks : List Places) (tasks : List (NewTask K)) (result : Place)
      → task_at (finish_event control worker task unfinished contents chunks tasks result).graph task ≡ None
  finish_ends control worker task unfinished contents chunks tasks result =
      let inputs : List Ref = each ref_known unfinished.inputs in
      let grown : Grown B = with_chunks control worker task inputs contents chunks in
      let more : Control B G K = with_new_tasks control unfinished.caller inputs tasks grown in
      let ended : Control B G K = resolved_to more task (task_numbers grown.drawn tasks) (ref_named grown.names inputs grown.chunks) result in
      removed_here ended.graph.tasks task task refl

module _ {K : Type 0} where
  after_grows : (control : Replayed K) (worker task : ℕ) (contents : List ℕ) (chunks : List Places) (tasks : List (NewTask K)) (result : Place) (o : Option (Unfinished Ref K))
      → Grows control (after_finish control worker task contents chunks tasks result o)
  after_grows control worker task contents chunks tasks result None = record { drawn = omega arith; tasks = λ q t is. inl (t, is) }
  after_grows control worker task contents chunks tasks result (Some unfinished) = finish_grows control worker task unfinished contents chunks tasks result

  after_ends : (control : Replayed K) (worker task : ℕ) (contents : List ℕ) (chunks : List Places) (tasks : List (NewTask K)) (result : Place) (o : Option (Unfinished Ref K)) → task_at control.graph task ≡ o
      → task_at (after_finish control worker task contents chunks tasks result o).graph task ≡ None
  after_ends control worker task contents chunks tasks result None is = is
  after_ends control worker task contents chunks tasks result (Some unfinished) is = finish_ends control worker task unfinished contents chunks tasks result

  effect_grows : (control : Replayed K) (event : Event K) → Grows control (effect control event)
  effect_grows control (Register caller id children) = record { drawn = omega arith; tasks = λ q t is. inl (t, is) }
  effect_grows control (Copy caller from to) = record { drawn = omega arith; tasks = λ q t is. inl (t, is) }
  effect_grows control (Delete caller id) = record { drawn = omega arith; tasks = λ q t is. inl (t, is) }
  effect_grows control (AskEvent caller task kind inputs) =
      let new : Unfinished Ref K = record { caller = caller; kind = kind; inputs = each Known (numbered (control.drawn + 1) inputs); runner = None; asked = None } in
      record {
        drawn = omega arith;
        tasks = λ q t is.
            let was = changed_from (added control.graph (control.drawn + 1) caller kind new.inputs) (control.drawn + 1) q (λ unfinished. record unfinished { asked = Some (control.drawn + 2 + present inputs) }) t is in
            elim (inserted_from control.graph.tasks (control.drawn + 1) q new was.0 was.1) [
              | inl here ↦ inr (let at = here.0 in omega arith, let at = here.0 in omega arith)
              | inr other ↦ inl (was.0, other.1)
            ];
      }
  effect_grows control (Collect caller task got) = record { drawn = omega arith; tasks = λ q t is. inl (t, is) }
  effect_grows control (Abandon caller) = record {
    drawn = omega arith;
    tasks = λ q t is. inl (t, (passed_from _ (task_at control.graph q) t (sym (get-kept _ control.graph.tasks q) ∙ is)).0);
  }
  effect_grows control (Stop caller) = record { drawn = omega arith; tasks = λ q t is. inl (t, is) }
  effect_grows control (Start worker task) = record {
    drawn = omega arith;
    tasks = λ q t is. let was = changed_from control.graph task q (λ unfinished. record unfinished { runner = Some worker }) t is in inl (was.0, was.1);
  }
  effect_grows control (GiveBack worker task) = record {
    drawn = omega arith;
    tasks = λ q t is. let was = changed_from control.graph task q (λ unfinished. record unfinished { runner = None }) t is in inl (was.0, was.1);
  }
  effect_grows control (Finish worker task chunks tasks result) =
      after_grows control worker task (each (λ chunk. length (places_of chunk)) chunks) chunks tasks result (task_at control.graph task)

  -- numbers of unfinished tasks were drawn
  abbrev AreDrawn : Replayed K → Type 0
  AreDrawn control = (q : ℕ) (t : Unfinished Ref K) → task_at control.graph q ≡ Some t → q ≤ control.drawn

  -- a number was drawn, and is no task's any more
  abbrev IsOver : Replayed K → ℕ → Type 0
  IsOver control task = (task ≤ control.drawn) × (task_at control.graph task ≡ None)

  -- what one event of a replay leaves
  happened : (plans : Plans K) (control : Replayed K) (event : Event K) (rest : Replayed K → Option (Replayed K)) (last : Replayed K)
      → option_and_then rest (happens plans control event) ≡ Some last
      → (is_allowed plans control event ≡ true) × (next : Replayed K) × (next.graph ≡ (effect control event).graph) × (next.drawn ≡ (effect control event).drawn) × (rest next ≡ Some last)
  happened plans control event rest last is =
      elim (is_allowed plans control event) as (λ b. is_allowed plans control event ≡ b → option_and_then rest (cond b (Some (tidied (effect control event))) None) ≡ Some last
      → (is_allowed plans control event ≡ true) × (next : Replayed K) × (next.graph ≡ (effect control event).graph) × (next.drawn ≡ (effect control event).drawn) × (rest next ≡ Some last)) [
        | true ↦ λ allowed found. (allowed, tidied (effect control event), refl, refl, found)
        | false ↦ λ allowed found. absurd (none_not_some refl found)
      ] refl is

  -- a finish of a task that is over is refused
  over_refused : (plans : Plans K) (control : Replayed K) (task : ℕ) (event : Event K) → IsOver control task → is_finish_of task event ≡ true
      → is_allowed plans control event ≡ true → ⊥
  over_refused plans control task (Register caller id children) over is allowed = cc
  over_refused plans control task (Copy caller from to) over is allowed = cc
  over_refused plans control task (Delete caller id) over is allowed = cc
  over_refused plans control task (AskEvent caller number kind inputs) over is allowed = cc
  over_refused plans control task (Collect caller number got) over is allowed = cc
  over_refused plans control task (Abandon caller) over is allowed = cc
  over_refused plans control task (Stop caller) over is allowed = cc
  over_refused plans control task (Start worker number) over is allowed = cc
  over_refused plans control task (GiveBack worker number) over is allowed = cc
  over_refused plans control task (Finish worker number chunks tasks result) over is allowed =
      let none : task_at control.graph number ≡ None = ap (task_at control.graph) (same_from_test number task is) ∙ over.1 in
      let clash : false ≡ true = sym (ap (is_finish plans control worker chunks tasks result) none) ∙ allowed in
      cc

  -- after its finish a task is over
  finish_over : (plans : Plans K) (control : Replayed K) (task : ℕ) (event : Event K) → AreDrawn control → is_finish_of task event ≡ true
      → is_allowed plans control event ≡ true → task_at (effect control event).graph task ≡ None × (task ≤ control.drawn)
  finish_over plans control task (Register caller id children) drawn is allowed = absurd (cc)
  finish_over plans control task (Copy caller from to) drawn is allowed = absurd (cc)
  finish_over plans control task (Delete caller id) drawn is allowed = absurd (cc)
  finish_over plans control task (AskEvent caller number kind inputs) drawn is allowed = absurd (cc)
  finish_over plans control task (Collect caller number got) drawn is allowed = absurd (cc)
  finish_over plans control task (Abandon caller) drawn is allowed = absurd (cc)
  finish_over plans control task (Stop caller) drawn is allowed = absurd (cc)
  finish_over plans control task (Start worker number) drawn is allowed = absurd (cc)
  finish_over plans control task (GiveBack worker number) drawn is allowed = absurd (cc)
  finish_over plans control task (Finish worker number chunks tasks result) drawn is allowed =
      let same : number ≡ task = same_from_test number task is in (
        ap (task_at (effect control (Finish worker number chunks tasks result)).graph) (sym same) ∙ after_ends control worker number (each (λ chunk. length (places_of chunk)) chunks) chunks tasks result (task_at control.graph number) refl,
        elim (none_or_some (task_at control.graph number)) [
          | inl none ↦ absurd (let clash : false ≡ true = sym (ap (is_finish plans control worker chunks tasks result) none) ∙ allowed in cc)
          | inr some ↦ subst (λ n. n ≤ control.drawn) same (drawn number some.0 some.1)
        ],
      )

  module _ (control next : Replayed K) (event : Event K) (graph : next.graph ≡ (effect control event).graph) (drawn : next.drawn ≡ (effect control event).drawn) where
    grows_next : Grows control next
    grows_next =
        let grows = effect_grows control event in
        let more = grows.drawn in
        record {
          drawn = omega arith;
          tasks = λ q t is. elim (grows.tasks q t (ap (λ g. task_at g q) (sym graph) ∙ is)) [
            | inl was ↦ inl was
            | inr fresh ↦ inr (fresh.0, let high = fresh.1 in omega arith)
          ];
        }

    drawn_next : AreDrawn control → AreDrawn next
    drawn_next were q t is =
        let more = grows_next.drawn in
        elim (grows_next.tasks q t is) [ inl was ↦ (let low = were q was.0 was.1 in omega arith) | inr fresh ↦ fresh.1 ]

    over_next : (task : ℕ) → IsOver control task → IsOver next task
    over_next task over =
        let more = grows_next.drawn in
        let low = over.0 in (
          omega arith,
          elim (none_or_some (task_at next.graph task)) [
            | inl none ↦ none
            | inr some ↦ absurd (elim (grows_next.tasks task some.0 some.1) [ inl was ↦ none_not_some over.1 was.1 | inr fresh ↦ (let above = fresh.0 in omega arith) ])
          ],
        )

  count_more : (p : Event K → Bool) (event : Event K) (events : List (Event K)) (b : Bool) → p event ≡ b → count_by p (event ∷ events) ≡ cond b 1 0 + count_by p events
  count_more p event events b is = sum_by-cons (λ e. cond (p e) 1 0) event events ∙ ap (λ t. cond t 1 0 + count_by p events) is

  never_again : (plans : Plans K) (control last : Replayed K) (task : ℕ) (events : List (Event K)) → IsOver control task → replay_from plans control events ≡ Some last
      → count_by (is_finish_of task) events ≡ 0
  never_again plans control last task [] over is = refl
  never_again plans control last task (event ∷ events) over is =
      let step = happened plans control event (λ next. replay_from plans next events) last is in
      let rest = never_again plans step.1 last task events (over_next control step.1 event step.2 step.3 task over) step.4 in
      elim (is_finish_of task event) as (λ b. is_finish_of task event ≡ b → count_by (is_finish_of task) (event ∷ events) ≡ 0) [
        | true ↦ λ e. absurd (over_refused plans control task event over e step.0)
        | false ↦ λ e. count_more (is_finish_of task) event events false e ∙ omega arith
      ] refl

  at_most_once : (plans : Plans K) (control last : Replayed K) (task : ℕ) (events : List (Event K)) → AreDrawn control → replay_from plans control events ≡ Some last
      → count_by (is_finish_of task) events ≤ 1
  at_most_once plans control last task [] drawn is = omega arith
  at_most_once plans control last task (event ∷ events) drawn is =
      let step = happened plans control event (λ next. replay_from plans next events) last is in
      let next : Replayed K = step.1 in
      elim (is_finish_of task event) as (λ b. is_finish_of task event ≡ b → count_by (is_finish_of task) (event ∷ events) ≤ 1) [
        | true ↦ λ e.
            let over = finish_over plans control task event drawn e step.0 in
            let more = (grows_next control next event step.2 step.3).drawn in
            let low = over.1 in
            let gone : IsOver next task = (omega arith, ap (λ g. task_at g task) step.2 ∙ over.0) in
            let rest = never_again plans next last task events gone step.4 in
            let all = count_more (is_finish_of task) event events true e in
            omega arith
        | false ↦ λ e.
            let rest = at_most_once plans next last task events (drawn_next control next event step.2 step.3 drawn) step.4 in
            let all = count_more (is_finish_of task) event events false e in
            omega arith
      ] refl

  pub finished_once : (plans : Plans K) → FinishedOnce plans
  finished_once plans events control task is = at_most_once plans no_control control task events (λ q t at. absurd (none_not_some (map.get-empty nat_cmp q) at)) is
