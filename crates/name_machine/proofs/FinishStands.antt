-- A finish of a control state is the machine's finish, and leaves a state in order.
use Rattle.std.proofs.Common.{◌≡◌, ℕ, ◌+◌, ◌≤◌, true, false, List, [], ◌∷◌, map as each, length, Option, None, Some, is_some, refl, sym, ap, subst, ◌∙◌}
use Rattle.std.specs.Option.{option_map}
use Rattle.std.specs.FinMap as map
use Rattle.cht_ids.specs.declared.refs.Ref.{Ref}
use Rattle.cht_ids.specs.declared.refs.Ref.TheVariants.{Null as NullRef}
use Rattle.task_types.specs.declared.outcome.Place.{Place}
use Rattle.task_types.specs.declared.outcome.Place.TheVariants.{Null, Input as AtInput, Child, Chunk, Task}
use Rattle.task_types.specs.declared.outcome.Places.{Places}
use Rattle.task_types.specs.declared.outcome.NewTask.{NewTask}
use Rattle.task_types.specs.declared.outcome.NewChunk.{NewChunk}
use Rattle.task_types.specs.declared.outcome.Outcome.{Outcome}
use Rattle.task_types.specs.Tree.{Tree, Nothing}
use Rattle.task_types.specs.Presence.{Presence, presence_of}
use Rattle.task_types.specs.Formed.{may_stand}
use Rattle.task_types.specs.Meanings.{Meanings}
use Rattle.task_types.specs.Reading.{reading, new_trees}
use Rattle.task_types.specs.Sound.{IsSound as IsSoundOutcome}
use Rattle.task_types.proofs.FormedTest.{both_left}
use Rattle.name_states.specs.States.{NameState}
use Rattle.name_states.specs.Trees.{tree_of}
use Rattle.name_states.proofs.Basics.{none_not_some, same_some}
use Rattle.name_states.proofs.Within.{AreMore}
use Rattle.name_states.proofs.Trees.{tree-kept, body-tree-kept}
use Rattle.task_states.specs.Maps.{chosen}
use Rattle.task_states.specs.States.{Input, Known, Awaits, Unfinished, task_at}
use Rattle.task_states.specs.Steps.{forwarded}
use Rattle.cht_history.specs.declared.event.Event.TheVariants.{Finish}
use Rattle.name_machine.specs.States.{Machine, Ask}
use Rattle.name_machine.specs.NewTasks.{drawn_by_chunks, drawn_by_tasks, task_numbers, number_at, with_tasks}
use Rattle.name_machine.specs.Steps.{tree_known, input_trees, with_new, finished}
use Rattle.name_machine.specs.Machine.{Finishes}
use Rattle.name_machine.specs.Facts.{HoldsTogether}
use Rattle.name_machine.specs.Control.{Control, Grown, ref_known, ref_named, tidied, resolved_to, without_task, finish_event, after_finish, effect_with}
use Rattle.name_machine.specs.Replay.{Plans, is_planned, is_finish, is_allowed}
use Rattle.name_machine.specs.Forgetting.{forgotten}
use Rattle.name_machine.specs.Standing.{input_shown, task_shown, graph_shown, held_shown, ask_shown, machine_of, IsOrderly}
use Rattle.name_machine.specs.Laws.{IsAsWanted}
use Rattle.name_machine.proofs.Works.{chosen_from, chosen_to}
use Rattle.name_machine.proofs.Invariant.{IsAskFor, facts as facts_of}
use Rattle.name_machine.proofs.Runs.{ended, step_keeps}
use Rattle.name_machine.proofs.WorkerParts.{runs_it}
use Rattle.name_machine.proofs.Stand.{shown_at}
use Rattle.name_machine.proofs.Orderly.{input_is_live, output_is_live}
use Rattle.name_machine.proofs.FinishChunks.{ChunkStage}
use Rattle.name_machine.proofs.FinishTasks.{value_tree, IsGood}
use Rattle.name_machine.proofs.FinishAdded.{graph_alike, TaskStage}
use Rattle.name_machine.proofs.FinishStages as stages
use Rattle.name_machine.proofs.FinishFacts.{keeps_of, ShowsAs, HeldOn, holdings_alike}
use Rattle.name_machine.proofs.FinishShown.{settled_stands, settled_orderly, forwarded_stands, forwarded_orderly}

-- ---- Inputs of a task that is run

module _ {C : Type 0} (names : NameState C) where
  known_read : (inputs : List (Input Ref)) → each (tree_of names) (each ref_known inputs) ≡ each tree_known (each (input_shown names) inputs)
  known_read [] = refl
  known_read (Known r ∷ inputs) = ap (λ rest. tree_of names r ∷ rest) (known_read inputs)
  known_read (Awaits task number ∷ inputs) = ap (λ rest. Nothing ∷ rest) (known_read inputs)

none_mapped : {X Y : Type 0} (f : X → Y) (o : Option X) → option_map f o ≡ None → o ≡ None
none_mapped f None is = refl
none_mapped f (Some x) is = absurd (none_not_some is refl)

module _ {C K : Type 0} (lib : Meanings C K) (arity : C → ℕ) (control : Control C (Unit {0}) K) (orderly : IsOrderly arity control) (facts : HoldsTogether lib (machine_of lib control))
    (gone : ℕ) (ran : Unfinished Ref K) (there : task_at control.graph gone ≡ Some ran) (worker : ℕ) (runs : ran.runner ≡ Some worker)
    (outcome : Outcome C K) (sound : IsSoundOutcome arity lib ran.kind (input_trees (task_shown control.names ran)) outcome) where
  abbrev before : Machine C K
  before = machine_of lib control

  abbrev unfinished : Unfinished (Tree C) K
  unfinished = task_shown control.names ran

  abbrev trees : List (Tree C)
  trees = input_trees unfinished

  abbrev known : List Presence
  known = each presence_of trees

  abbrev contents : List C
  contents = each (λ (chunk : NewChunk C). chunk.body) outcome.chunks

  abbrev chunks : List Places
  chunks = each (λ (chunk : NewChunk C). chunk.children) outcome.chunks

  abbrev made : List (Tree C)
  made = new_trees trees outcome

  machine_there : task_at before.graph gone ≡ Some unfinished
  machine_there = shown_at control.names control.graph gone ∙ ap (option_map (task_shown control.names)) there

  numbered : (q : ℕ) (t : Unfinished Ref K) → task_at control.graph q ≡ Some t → q ≤ control.drawn
  numbered q t is = facts.numbered.tasks q (task_shown control.names t) (shown_at control.names control.graph q ∙ ap (option_map (task_shown control.names)) is)

  trees_are : each (tree_of control.names) (each ref_known ran.inputs) ≡ trees
  trees_are = known_read control.names ran.inputs

  -- ---- The stages

  abbrev inputs : List Ref
  inputs = stages.inputs arity control orderly numbered gone ran there worker outcome known sound.formed trees trees_are

  abbrev grown : Grown C
  grown = stages.grown arity control orderly numbered gone ran there worker outcome known sound.formed trees trees_are

  abbrev numbers : List ℕ
  numbers = stages.numbers arity control orderly numbered gone ran there worker outcome known sound.formed trees trees_are

  abbrev with_its_chunks : Control C (Unit {0}) K
  with_its_chunks = stages.with_its_chunks arity control orderly numbered gone ran there worker outcome known sound.formed trees trees_are

  abbrev with_its_tasks : Control C (Unit {0}) K
  with_its_tasks = stages.with_its_tasks arity control orderly numbered gone ran there worker outcome known sound.formed trees trees_are

  chunk_stage : ChunkStage arity gone control worker inputs trees grown made
  chunk_stage = stages.chunk_stage arity control orderly numbered gone ran there worker outcome known sound.formed trees trees_are

  drawn_grown : grown.drawn ≡ control.drawn + drawn_by_chunks chunks
  drawn_grown = stages.drawn_grown arity control orderly numbered gone ran there worker outcome known sound.formed trees trees_are

  task_stage : TaskStage arity gone grown.names inputs grown.chunks trees made numbers ran.caller with_its_chunks with_its_tasks outcome.tasks
  task_stage = stages.task_stage arity control orderly numbered gone ran there worker outcome known sound.formed trees trees_are

  more : AreMore control.names with_its_tasks.names
  more = stages.more arity control orderly numbered gone ran there worker outcome known sound.formed trees trees_are

  still_there : task_at with_its_tasks.graph gone ≡ Some ran
  still_there = stages.still_there arity control orderly numbered gone ran there worker outcome known sound.formed trees trees_are

  -- ---- The machine's side

  abbrev read_place : Place → Tree C
  read_place = reading trees made []

  abbrev machine_grown : Machine C K
  machine_grown = with_new before ran.caller read_place outcome

  abbrev machine_numbers : List ℕ
  machine_numbers = task_numbers (control.drawn + drawn_by_chunks chunks) outcome.tasks

  numbers_same : numbers ≡ machine_numbers
  numbers_same = ap (λ d. task_numbers d outcome.tasks) drawn_grown

  drawn_same : with_its_tasks.drawn ≡ machine_grown.drawn
  drawn_same = ap (λ d. d + drawn_by_tasks outcome.tasks) drawn_grown

  graph_same : graph_shown with_its_tasks.names with_its_tasks.graph ≡ machine_grown.graph
  graph_same =
      task_stage.shown
      ∙ ap (with_tasks (value_tree arity grown.names inputs grown.chunks trees made numbers) numbers ran.caller grown.drawn outcome.tasks)
      (graph_alike control.names grown.names control.graph (λ q p t r is at.
      tree-kept arity control.names grown.names orderly.sound chunk_stage.keeps r (input_is_live arity control orderly q p t r is at)))
      ∙ ap (λ d. with_tasks (λ place number. read_place place) (task_numbers d outcome.tasks) ran.caller d outcome.tasks before.graph) drawn_grown

  held_on : HeldOn control.asks control.names control.asks with_its_tasks.names
  held_on q entry by is held free =
      (more.ids q entry is, free, body-tree-kept arity control.names with_its_tasks.names orderly.sound more entry.body (ap is_some (orderly.sound.named q entry is).1))

  held_back : HeldOn control.asks with_its_tasks.names control.asks control.names
  held_back q entry by is held free =
      let was = chunk_stage.from q entry by (task_stage.from q entry by is held) held in
      (was, free, sym (body-tree-kept arity control.names with_its_tasks.names orderly.sound more entry.body (ap is_some (orderly.sound.named q entry was).1)))

  holdings_same : chosen (held_shown with_its_tasks.asks with_its_tasks.names) with_its_tasks.names.ids ≡ machine_grown.holdings
  holdings_same = holdings_alike control.asks control.asks with_its_tasks.names control.names held_back held_on

  abbrev shown_ask : Ask (Unit {0}) Ref → Ask (Tree C) (Tree C)
  shown_ask a = ask_shown lib control.drawn control.names before.graph a

  ask_at : (k : ℕ) (a : Ask (Unit {0}) Ref) → map.get control.asks k ≡ Some a → map.get before.asks k ≡ Some (shown_ask a)
  ask_at k a is = chosen_to (λ (task : ℕ) (ask : Ask (Unit {0}) Ref). Some (shown_ask ask)) control.asks k a (shown_ask a) is refl

  ask_from : (k : ℕ) (b : Ask (Tree C) (Tree C)) → map.get before.asks k ≡ Some b → (a : Ask (Unit {0}) Ref) × (map.get control.asks k ≡ Some a) × (shown_ask a ≡ b)
  ask_from k b is =
      let found = chosen_from (λ (task : ℕ) (ask : Ask (Unit {0}) Ref). Some (shown_ask ask)) control.asks k b is in
      (found.0, found.1, same_some (shown_ask found.0) b found.2)

  output_trees : (k : ℕ) (a : Ask (Unit {0}) Ref) → map.get control.asks k ≡ Some a → (o : Option Ref) → a.delivered ≡ o → option_map (tree_of control.names) o ≡ option_map (tree_of with_its_tasks.names) o
  output_trees k a is None done = refl
  output_trees k a is (Some r) done = ap Some (sym (tree-kept arity control.names with_its_tasks.names orderly.sound more r (output_is_live arity control orderly k a r is done)))

  asks_to : (k : ℕ) (a : Ask (Unit {0}) Ref) → map.get with_its_tasks.asks k ≡ Some a → (b : Ask (Tree C) (Tree C)) × (map.get machine_grown.asks k ≡ Some b) × ShowsAs with_its_tasks.names a b
  asks_to k a is = (shown_ask a, ask_at k a is, record { caller = refl; number = refl; delivered = output_trees k a is a.delivered refl })

  asks_back : (k : ℕ) (b : Ask (Tree C) (Tree C)) → map.get machine_grown.asks k ≡ Some b → (a : Ask (Unit {0}) Ref) × (map.get with_its_tasks.asks k ≡ Some a)
  asks_back k b is = let found = ask_from k b is in (found.0, found.1)

  own_ask : (n : ℕ) → ran.asked ≡ Some n → IsAskFor with_its_tasks.asks ran.caller n
  own_ask n asked =
      let own = facts.asked.asks gone n unfinished machine_there asked in
      let found = ask_from own.0 own.1 own.2 in (
        own.0,
        found.0,
        found.1,
        ap (λ (b : Ask (Tree C) (Tree C)). b.caller) found.2 ∙ own.3,
        ap (λ (b : Ask (Tree C) (Tree C)). b.number) found.2 ∙ own.4,
        none_mapped (tree_of control.names) found.0.delivered (ap (λ (b : Ask (Tree C) (Tree C)). b.delivered) found.2 ∙ own.5),
      )

  differ : (k l : ℕ) (a b : Ask (Unit {0}) Ref) → map.get with_its_tasks.asks k ≡ Some a → map.get with_its_tasks.asks l ≡ Some b → a.number ≡ b.number → k ≡ l
  differ k l a b is at same = facts.numbered.differ k l (shown_ask a) (shown_ask b) (ask_at k a is) (ask_at l b at) same

  -- ---- The facts afterwards

  abbrev after : Machine C K
  after = finished before gone unfinished outcome

  step : Finishes lib arity before after worker gone chunks outcome.tasks outcome.result
  step = record {
    unfinished = unfinished;
    there = machine_there;
    runs = runs;
    outcome = outcome;
    chunks_are = refl;
    tasks_are = refl;
    result_is = refl;
    sound = sound;
    after_is = refl;
  }

  facts_after : HoldsTogether lib after
  facts_after = facts_of lib after (step_keeps lib arity before after (Finish worker gone chunks outcome.tasks outcome.result) (keeps_of lib before facts) step)

  -- ---- By what the result names

  abbrev control_then : Place → Control C (Unit {0}) K
  control_then place = tidied (without_task (resolved_to with_its_tasks gone numbers (ref_named grown.names inputs grown.chunks) place) gone)

  abbrev machine_then : Place → Machine C K
  machine_then place = ended lib machine_grown gone machine_numbers read_place place

  abbrev Both : Place → Type 0
  Both place = (machine_of lib (control_then place) ≡ machine_then place) × IsOrderly arity (control_then place)

  kept_good : (place : Place) → may_stand known (length outcome.chunks) (length outcome.tasks) place ≡ true → IsGood arity grown.names inputs grown.chunks trees made numbers with_its_tasks.names place
  kept_good place may = stages.kept_good arity control orderly numbered gone ran there worker outcome known sound.formed trees trees_are place may

  finish_at : (place : Place) → may_stand known (length outcome.chunks) (length outcome.tasks) place ≡ true → HoldsTogether lib (machine_then place) → Both place
  finish_at Null may holds = (
    settled_stands lib arity gone with_its_tasks task_stage.middle ran still_there own_ask differ machine_grown drawn_same graph_same holdings_same asks_to asks_back NullRef tt Nothing refl holds,
    settled_orderly lib arity gone with_its_tasks task_stage.middle ran still_there own_ask differ machine_grown drawn_same graph_same holdings_same asks_to asks_back NullRef tt Nothing refl,
  )
  finish_at (AtInput i) may holds =
      let r : Ref = ref_named grown.names inputs grown.chunks (AtInput i) in
      let good = kept_good (AtInput i) may in (
        settled_stands lib arity gone with_its_tasks task_stage.middle ran still_there own_ask differ machine_grown drawn_same graph_same holdings_same asks_to asks_back r good.0 (read_place (AtInput i)) good.1 holds,
        settled_orderly lib arity gone with_its_tasks task_stage.middle ran still_there own_ask differ machine_grown drawn_same graph_same holdings_same asks_to asks_back r good.0 (read_place (AtInput i)) good.1,
      )
  finish_at (Child i j) may holds =
      let r : Ref = ref_named grown.names inputs grown.chunks (Child i j) in
      let good = kept_good (Child i j) may in (
        settled_stands lib arity gone with_its_tasks task_stage.middle ran still_there own_ask differ machine_grown drawn_same graph_same holdings_same asks_to asks_back r good.0 (read_place (Child i j)) good.1 holds,
        settled_orderly lib arity gone with_its_tasks task_stage.middle ran still_there own_ask differ machine_grown drawn_same graph_same holdings_same asks_to asks_back r good.0 (read_place (Child i j)) good.1,
      )
  finish_at (Chunk i) may holds =
      let r : Ref = ref_named grown.names inputs grown.chunks (Chunk i) in
      let good = kept_good (Chunk i) may in (
        settled_stands lib arity gone with_its_tasks task_stage.middle ran still_there own_ask differ machine_grown drawn_same graph_same holdings_same asks_to asks_back r good.0 (read_place (Chunk i)) good.1 holds,
        settled_orderly lib arity gone with_its_tasks task_stage.middle ran still_there own_ask differ machine_grown drawn_same graph_same holdings_same asks_to asks_back r good.0 (read_place (Chunk i)) good.1,
      )
  finish_at (Task i) may holds =
      let to_is : number_at numbers i ≡ number_at machine_numbers i = ap (λ all. number_at all i) numbers_same in
      let stands = forwarded_stands lib arity gone with_its_tasks task_stage.middle ran still_there own_ask differ machine_grown drawn_same graph_same holdings_same asks_to asks_back (number_at machine_numbers i) holds in
      let order = forwarded_orderly lib arity gone with_its_tasks task_stage.middle ran still_there own_ask differ machine_grown drawn_same graph_same holdings_same asks_to asks_back (number_at numbers i) in
      (ap (λ to. machine_of lib (tidied (without_task (record with_its_tasks { graph = forwarded with_its_tasks.graph gone to }) gone))) to_is ∙ stands, order)

  pub finish_both : (machine_of lib (tidied (finish_event control worker gone ran contents chunks outcome.tasks outcome.result)) ≡ after)
      × IsOrderly arity (tidied (finish_event control worker gone ran contents chunks outcome.tasks outcome.result))
  finish_both = finish_at outcome.result sound.formed.result_stands facts_after

module _ {C K : Type 0} (lib : Meanings C K) (arity : C → ℕ) (plans : Plans K) where
  -- what a finish that is allowed tells
  record IsRun (control : Control C (Unit {0}) K) (number worker : ℕ) : Type 0 where
    pub ran : Unfinished Ref K
    pub there : task_at control.graph number ≡ Some ran
    pub runs : ran.runner ≡ Some worker

  run_of : (control : Control C (Unit {0}) K) (worker number : ℕ) (chunks : List Places) (tasks : List (NewTask K)) (result : Place) → is_allowed plans (forgotten arity control) (Finish worker number chunks tasks result) ≡ true
      → IsRun control number worker
  run_of control worker number chunks tasks result allowed = go (task_at control.graph number) refl allowed
    where
      go : (o : Option (Unfinished Ref K)) → task_at control.graph number ≡ o → is_finish plans (forgotten arity control) worker chunks tasks result o ≡ true → IsRun control number worker
      go None at is = absurd (let clash : false ≡ true = is in cc)
      go (Some ran) at is = record { ran = ran; there = at; runs = runs_it worker ran.runner (both_left _ (is_planned plans (forgotten arity control).names ran chunks tasks result) is) }

  module _ (control : Control C (Unit {0}) K) (contents : List C) (worker number : ℕ) (chunks : List Places) (tasks : List (NewTask K)) (result : Place) (orderly : IsOrderly arity control)
      (facts : HoldsTogether lib (machine_of lib control)) (wanted : IsAsWanted lib arity (machine_of lib control) contents (Finish worker number chunks tasks result))
      (allowed : is_allowed plans (forgotten arity control) (Finish worker number chunks tasks result) ≡ true) where
    run : IsRun control number worker
    run = run_of control worker number chunks tasks result allowed

    task_is : wanted.0 ≡ task_shown control.names run.ran
    task_is = same_some wanted.0 (task_shown control.names run.ran) (sym wanted.2 ∙ shown_at control.names control.graph number ∙ ap (option_map (task_shown control.names)) run.there)

    sound : IsSoundOutcome arity lib run.ran.kind (input_trees (task_shown control.names run.ran)) wanted.1
    sound = subst (λ (u : Unfinished (Tree C) K). IsSoundOutcome arity lib u.kind (input_trees u) wanted.1) task_is wanted.7

    abbrev its : Control C (Unit {0}) K
    its =
        tidied (finish_event control worker number run.ran (each (λ (chunk : NewChunk C). chunk.body) wanted.1.chunks) (each (λ (chunk : NewChunk C). chunk.children) wanted.1.chunks) wanted.1.tasks wanted.1.result)

    both : (machine_of lib its ≡ finished (machine_of lib control) number (task_shown control.names run.ran) wanted.1) × IsOrderly arity its
    both = finish_both lib arity control orderly facts number run.ran run.there worker run.runs wanted.1 sound

    event_is : its ≡ tidied (effect_with control contents (Finish worker number chunks tasks result))
    event_is =
        (λ i. tidied (finish_event control worker number run.ran (wanted.3 i) (wanted.4 i) (wanted.5 i) (wanted.6 i)))
        ∙ ap (λ o. tidied (after_finish control worker number contents chunks tasks result o)) (sym run.there)

    -- a finish is the machine's
    pub finish_stands : Finishes lib arity (machine_of lib control) (machine_of lib (tidied (effect_with control contents (Finish worker number chunks tasks result)))) worker number chunks tasks result
    finish_stands = record {
      unfinished = wanted.0;
      there = wanted.2;
      runs = ap (λ (u : Unfinished (Tree C) K). u.runner) task_is ∙ run.runs;
      outcome = wanted.1;
      chunks_are = wanted.4;
      tasks_are = wanted.5;
      result_is = wanted.6;
      sound = wanted.7;
      after_is = ap (machine_of lib) (sym event_is) ∙ both.0 ∙ ap (λ u. finished (machine_of lib control) number u wanted.1) (sym task_is);
    }

    -- and leaves a state in order
    pub finish_keeps_order : IsOrderly arity (tidied (effect_with control contents (Finish worker number chunks tasks result)))
    finish_keeps_order = subst (IsOrderly arity) event_is both.1
