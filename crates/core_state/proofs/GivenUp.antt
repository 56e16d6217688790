-- What is owed where a caller gives up, what hangs together then, and what the control state is.
use Rattle.std.proofs.Common.{◌≡◌, ℕ, ◌+◌, ◌<◌, ◌≤◌, Bool, true, false, cond, not, ◌&&◌, ◌||◌, nat_eq, List, [], ◌∷◌, ◌++◌, Option, None, Some, length, refl, sym, ap, subst, ◌∙◌, arith}
use Rattle.std.specs.Option.{option_and_then}
use Rattle.std.specs.Ordering.{nat_cmp}
use Rattle.std.specs.Cmp.{nat_cmp_total, unsigned_tied}
use Rattle.std.specs.FinMap as map
use Rattle.std.specs.FinSet as numbers
use Rattle.cht_ids.specs.declared.refs.Ref.{Ref}
use Rattle.chunk_refs.specs.Room.{Contents as Names}
use Rattle.name_states.specs.declared.holder.Holder.{Holder}
use Rattle.name_states.specs.declared.holder.Holder.TheVariants.{Caller as ByCaller, Task as ByTask, Body as ByBody}
use Rattle.name_states.specs.States.{NameState}
use Rattle.name_states.specs.Reached.{swept}
use Rattle.name_states.proofs.Basics.{none_not_some, same_from_test, test_same, test_apart}
use Rattle.name_states.proofs.Reaching.{sound-down}
use Rattle.task_states.specs.declared.states.TaskStatus.{TaskStatus}
use Rattle.task_states.specs.declared.states.TaskStatus.TheVariants.{Unknown, Running}
use Rattle.task_states.specs.Maps.{kept}
use Rattle.task_states.specs.States.{Unfinished, Graph, task_at, is_running, status_of, is_run_for, running, is_stopped}
use Rattle.task_states.specs.Steps.{abandoned}
use Rattle.task_states.proofs.Maps.{get-kept}
use Rattle.cht_history.specs.History.{History}
use Rattle.cht_history.specs.declared.event.Event.{Event}
use Rattle.cht_history.specs.declared.event.Event.TheVariants.{Abandon}
use Rattle.name_machine.specs.States.{Ask, is_of, has_ask}
use Rattle.name_machine.specs.Control.{Control, goes_from, goes_with, without_ids}
use Rattle.name_machine.specs.Standing.{IsRefOf, IsOrderly}
use Rattle.name_machine.proofs.Grow.{both_true, false_or}
use Rattle.name_machine.proofs.Leaving.{task_was, task_stays, left, ask_was, ask_stays}
use Rattle.name_machine.proofs.Values.{any_to}
use Rattle.core_steps.specs.Conditions.{HangsTogether}
use Rattle.core_state.specs.AskTable.{AskTable}
use Rattle.core_state.specs.Contents.{after_event}
use Rattle.core_state.specs.Ended.{is_task_for, is_held_for, is_output_by, is_output_for, HoldsFrom, HoldsOutputs}
use Rattle.core_state.specs.Needed.{due_for_id, due_for_ask, due_for_caller, total_by, total_below}
use Rattle.core_state.specs.Inside.{contents_of, AreRun, IsKept}
use Rattle.core_state.proofs.Collected.{same_has}
use Rattle.core_state.proofs.Ended.{both_go, was_at, still_none, still_ref}
use Rattle.core_state.proofs.Needs.{more_events}
use Rattle.core_state.proofs.Stopped.{due_at}
use Rattle.core_state.proofs.Totals.{total_less, below_but_one}
use Rattle.core_state.proofs.Working.{running_is}

or_nothing : (b : Bool) → b ≡ (b || false)
or_nothing true = refl
or_nothing false = refl

-- ---- Callers with asks, and stopped ones

module _ (asks : map.FinMap nat_cmp (Ask (Unit {0}) Ref)) (caller : ℕ) where
  -- no ask of the caller is left
  pub none_has : has_ask (left asks caller) caller ≡ false
  none_has =
      false_or (has_ask (left asks caller) caller) (λ has.
      let one = any_to (is_of caller) (left asks caller) has in
      let was = ask_was asks caller one.0 one.1 one.2 in
      was.1 (same_from_test one.1.caller caller one.3))

  others_have : (q : ℕ) → (q ≡ caller → ⊥) → has_ask (left asks caller) q ≡ has_ask asks q
  others_have q apart =
      same_has (left asks caller) asks q
      (λ key ask is own. (ask_was asks caller key ask is).0)
      (λ key ask is own. ask_stays asks caller key ask is (λ same. apart (sym own ∙ same)))

module _ {K : Type 0} (graph : Graph Ref K) (caller : ℕ) where
  stopped_as_before : (q : ℕ) → (q ≡ caller → ⊥) → is_stopped (abandoned graph caller) q ≡ is_stopped graph q
  stopped_as_before q apart =
      numbers.contains-remove nat_cmp_total graph.stopped caller q
      ∙ ap (λ b. not b && is_stopped graph q) (unsigned_tied q caller ∙ test_apart q caller apart)

  -- what is due for callers is less by what was due for this one
  pub callers_less : (asks : map.FinMap nat_cmp (Ask (Unit {0}) Ref)) (callers : ℕ) (stopped : Bool) → caller < callers → has_ask asks caller ≡ true → is_stopped graph caller ≡ stopped
      → total_below callers (due_for_caller (left asks caller) (is_stopped (abandoned graph caller))) + cond stopped 1 2 ≡ total_below callers (due_for_caller asks (is_stopped graph))
  callers_less asks callers stopped within has is =
      let before = due_at asks (is_stopped graph) caller stopped has is in
      let after : due_for_caller (left asks caller) (is_stopped (abandoned graph caller)) caller ≡ 0 =
      ap (λ x. cond x (cond (is_stopped (abandoned graph caller) caller) 1 2) 0) (none_has asks caller) in
      let all = below_but_one callers (due_for_caller (left asks caller) (is_stopped (abandoned graph caller))) (due_for_caller asks (is_stopped graph)) caller within
      (λ q apart. ap (λ b. cond b (cond (is_stopped (abandoned graph caller) q) 1 2) 0) (others_have asks caller q apart)
      ∙ ap (λ b. cond (has_ask asks q) (cond b 1 2) 0) (stopped_as_before q apart)) in
      omega arith

  -- where none is Running a task that a worker runs is another caller's
  pub run_by_other : running graph caller ≡ 0 → (task : ℕ) (u : Unfinished Ref K) → task_at graph task ≡ Some u → status_of u ≡ Running → u.caller ≡ caller → ⊥
  run_by_other idle task u is runs own =
      let passes : is_run_for caller u ≡ true = both_true (nat_eq u.caller caller) (is_running (status_of u)) (ap (λ n. nat_eq n caller) own ∙ test_same caller) (ap is_running runs) in
      let there : map.get (kept (is_run_for caller) graph.tasks) task ≡ Some u =
      get-kept (is_run_for caller) graph.tasks task ∙ ap (option_and_then (λ (v : Unfinished Ref K). cond (is_run_for caller v) (Some v) None)) is ∙ ap (λ b. cond b (Some u) None) passes in
      none_not_some (ap (λ (m : map.FinMap nat_cmp (Unfinished Ref K)). map.get m task) (map.empty_of_len (kept (is_run_for caller) graph.tasks) idle) ∙ map.get-empty nat_cmp task) there

-- ---- Names

module _ {C K : Type 0} (arity : C → ℕ) (control : Control C (Unit {0}) K) (orderly : IsOrderly arity control) (caller : ℕ) where
  -- each task holds its inputs
  pub tasks_hold : (task : ℕ) → HoldsFrom control.names control.graph task 0
  tasks_hold task = record {
    inputs = λ at r low is. orderly.held.inputs task at r is;
    apart = λ at other one two first second same. orderly.held.apart task at other one two first second same;
    nothing_else = λ number entry is held. let input = orderly.held.nothing_else number task entry is held in (input.0, omega arith, input.1);
  }

  -- the caller holds its outputs, also once its tasks hold nothing
  pub outputs_hold : (names : NameState C) → HangsTogether control → names ≡ swept (without_ids control.names (is_held_for control.graph caller)) → HoldsOutputs names control.asks caller
  outputs_hold names together is =
      subst (λ n. HoldsOutputs n control.asks caller) (sym is)
      (record {
        outputs = λ task ask r there own delivered.
            let out = orderly.held.outputs task ask r there delivered in (
              still_ref control.names (is_held_for control.graph caller) (ByCaller caller) r (sound-down arity control.names orderly.sound) tt
                  (subst (λ n. IsRefOf control.names (ByCaller n) r) own out.0)
                  (λ id entry r_is found held. ap (is_task_for control.graph caller) held),
              out.1,
            );
        free = λ task ask there own none. still_none control.names (is_held_for control.graph caller) ask.number (orderly.aside.outputs task ask there none);
        differ = λ key other one two first second mine theirs same. together.outputs_differ key other one two first second same;
      })

  either_goes : (q : ℕ) (holder : Holder) → goes_from control caller q holder ≡ (is_task_for control.graph caller holder || is_output_by control.asks caller q holder)
  either_goes q (ByCaller other) = refl
  either_goes q (ByTask task) = or_nothing (is_task_for control.graph caller (ByTask task))
  either_goes q (ByBody body) = refl

  -- both together are what goes
  pub names_left : (between after : NameState C) → between ≡ swept (without_ids control.names (is_held_for control.graph caller))
      → after ≡ swept (without_ids between (is_output_for control.asks caller)) → after ≡ swept (without_ids control.names (goes_with control caller))
  names_left between after between_is after_is =
      after_is
      ∙ ap (λ (n : NameState C). swept (without_ids n (is_output_for control.asks caller))) between_is
      ∙ both_go control.names (is_held_for control.graph caller) (is_output_for control.asks caller) (goes_with control caller) (sound-down arity control.names orderly.sound)
      (λ q entry is. either_goes q entry.holder)

-- ---- What hangs together then

module _ {C K : Type 0} (drawn : ℕ) (names : Names C) (table : AskTable) (graph : Graph Ref K) (history : History K) (callers : ℕ) (running_now : List (Option ℕ)) (owed : ℕ)
    (is_kept : IsKept drawn names table graph history callers running_now owed) (caller : ℕ) where
  -- what is owed for names and asks is part of what is owed
  pub owed_for_rest : (between : NameState C) → between ≡ swept (without_ids names.names (is_held_for graph caller)) → total_by due_for_id between.ids + total_by due_for_ask table.asks ≤ owed
  owed_for_rest between is =
      let ids : total_by due_for_id between.ids ≡ total_by due_for_id (swept (without_ids names.names (is_held_for graph caller))).ids = ap (λ (n : NameState C). total_by due_for_id n.ids) is in
      let less = total_less due_for_id (swept (without_ids names.names (is_held_for graph caller))).ids names.names.ids (λ q entry at. (was_at names.names (is_held_for graph caller) q entry at).0) in
      let was = is_kept.enough in
      omega arith

  module _ (within : caller < callers) (has : has_ask table.asks caller ≡ true) (stopped : Bool) (stopped_is : is_stopped graph caller ≡ stopped)
      (between after : NameState C) (asks : map.FinMap nat_cmp (Ask (Unit {0}) Ref)) (room : ℕ)
      (between_is : between ≡ swept (without_ids names.names (is_held_for graph caller)))
      (asks_are : asks ≡ kept (λ ask. not (is_of caller ask)) table.asks)
      (room_is : total_by due_for_id after.ids + total_by due_for_ask asks + owed ≤ total_by due_for_id between.ids + total_by due_for_ask table.asks + room) where
    less_between : total_by due_for_id between.ids ≤ total_by due_for_id names.names.ids
    less_between =
        let ids : total_by due_for_id between.ids ≡ total_by due_for_id (swept (without_ids names.names (is_held_for graph caller))).ids = ap (λ (n : NameState C). total_by due_for_id n.ids) between_is in
        let less = total_less due_for_id (swept (without_ids names.names (is_held_for graph caller))).ids names.names.ids (λ q entry at. (was_at names.names (is_held_for graph caller) q entry at).0) in
        omega arith

    -- the abandon is owed, and the stop, where the caller is not stopped
    pub owed_for_abandon : cond stopped 1 2 ≤ room
    owed_for_abandon =
        let less = less_between in
        let due = callers_less graph caller table.asks callers stopped within has stopped_is in
        let was = is_kept.enough in
        omega arith

    one_at_least : (b : Bool) → 1 ≤ cond b 1 2
    one_at_least true = omega arith
    one_at_least false = omega arith

    pub one_owed : 1 ≤ owed
    one_owed =
        let one = one_at_least stopped in
        let due = callers_less graph caller table.asks callers stopped within has stopped_is in
        let was = is_kept.enough in
        omega arith

    run_left : running graph caller ≡ 0 → HangsTogether {C = C} (record { drawn = drawn; names = names.names; asks = table.asks; graph = graph }) → AreRun (abandoned graph caller) running_now
    run_left idle together = record {
      runner = λ task worker u is runs. is_kept.run.runner task worker u (task_was graph caller task u is).0 runs;
      task = λ worker task is.
          let old = is_kept.run.task worker task is in (
            old.0,
            task_stays graph caller task old.0 old.1 (λ own.
                run_by_other graph caller idle task old.0 old.1
                (sym (ap (λ (o : Option (Unfinished Ref K)). elim o as (λ x. TaskStatus) [ None ↦ Unknown | Some u ↦ status_of u ]) old.1)
                ∙ running_is graph task worker old.0 old.1 old.2 (λ awaited awaits. together.runs worker task awaited old.0 old.1 old.2 awaits)) own),
            old.2,
          );
    }

    pub abandoned_kept : (names2 : Names C) (table2 : AskTable) (graph2 : Graph Ref K) (history2 : History K) (owed2 : ℕ)
        → running graph caller ≡ 0 → HangsTogether {C = C} (record { drawn = drawn; names = names.names; asks = table.asks; graph = graph })
        → names2.names ≡ after → length names2.room.bodies ≡ length names.room.bodies → table2.asks ≡ asks → length table2.rooms ≡ length table.rooms
        → graph2 ≡ abandoned graph caller → room ≤ owed → owed2 + cond stopped 1 2 ≡ room
        → history2.spare + 1 ≡ history.spare → history2.events ≡ history.events ++ Abandon caller ∷ []
        → IsKept drawn names2 table2 graph2 history2 callers running_now owed2
    abandoned_kept names2 table2 graph2 history2 owed2 idle together names_is stores table_is rooms graph_is low owed_is spare events =
        let less = less_between in
        let one = one_at_least stopped in
        let due = callers_less graph caller table.asks callers stopped within has stopped_is in
        let was = is_kept.enough in
        let had = is_kept.room in
        let ids : total_by due_for_id names2.names.ids ≡ total_by due_for_id after.ids = ap (λ (n : NameState C). total_by due_for_id n.ids) names_is in
        let asked : total_by due_for_ask table2.asks ≡ total_by due_for_ask asks = ap (total_by due_for_ask) table_is in
        let shares : total_below callers (due_for_caller table2.asks (is_stopped (abandoned graph caller))) ≡ total_below callers (due_for_caller (left table.asks caller) (is_stopped (abandoned graph caller))) =
        ap (λ (m : map.FinMap nat_cmp (Ask (Unit {0}) Ref)). total_below callers (due_for_caller m (is_stopped (abandoned graph caller)))) (table_is ∙ asks_are) in
        subst (λ (gr : Graph Ref K). IsKept drawn names2 table2 gr history2 callers running_now owed2) (sym graph_is)
        (record {
          few_callers = is_kept.few_callers;
          few_workers = is_kept.few_workers;
          some_worker = is_kept.some_worker;
          stores = stores ∙ is_kept.stores;
          lists = rooms ∙ is_kept.lists;
          tasks = λ task u is. is_kept.tasks task u (task_was graph caller task u is).0;
          asks = λ key ask is. is_kept.asks key ask (ask_was table.asks caller key ask (sym (ap (λ (m : map.FinMap nat_cmp (Ask (Unit {0}) Ref)). map.get m key) (table_is ∙ asks_are)) ∙ is)).0;
          run = run_left idle together;
          few = more_events drawn names table graph history callers running_now owed is_kept history2 (Abandon caller) 0 drawn events (omega arith) (omega arith);
          room = omega arith;
          enough = omega arith;
        })

-- ---- What the control state is then

module _ {C K : Type 0} (drawn : ℕ) (names names2 : Names C) (table table2 : AskTable) (graph graph2 : Graph Ref K) (history history2 : History K) (callers : ℕ) (running_now : List (Option ℕ)) where
  changed_is : (kept_names : NameState C) (asks : map.FinMap nat_cmp (Ask (Unit {0}) Ref)) (then : Graph Ref K) (event : Event K)
      → names2.names ≡ kept_names → table2.asks ≡ asks → graph2 ≡ then → history2.events ≡ history.events ++ event ∷ []
      → contents_of drawn names2 table2 graph2 history2 callers running_now
      ≡ record {
        control = record { drawn = drawn; names = kept_names; asks = asks; graph = then };
        events = history.events ++ event ∷ [];
        callers = callers;
        workers = length running_now;
      }
  changed_is kept_names asks then event names_is asks_is graph_is events = cc

  pub abandoned_is : (caller : ℕ)
      → names2.names ≡ swept (without_ids names.names (goes_with (record { drawn = drawn; names = names.names; asks = table.asks; graph = graph }) caller))
      → table2.asks ≡ kept (λ ask. not (is_of caller ask)) table.asks → graph2 ≡ abandoned graph caller → history2.events ≡ history.events ++ Abandon caller ∷ []
      → contents_of drawn names2 table2 graph2 history2 callers running_now
      ≡ after_event (contents_of drawn names table graph history callers running_now) [] (Abandon caller)
  abandoned_is caller names_is asks_is graph_is events = changed_is _ _ _ (Abandon caller) names_is asks_is graph_is events
