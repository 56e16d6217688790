-- What workers run, as the tasks say and as the table says.
use Rattle.std.proofs.Common.{◌≡◌, ℕ, zero, suc, ◌+◌, ◌<◌, ◌≤◌, Bool, true, false, not, cond, nat_eq, List, [], ◌∷◌, ◌++◌, length, get_or, slice_set, count_by, Option, None, Some, is_some, refl, sym, ap, subst, ◌∙◌, inl, inr, arith}
use Rattle.std.specs.Prelude.{slice_get, IfNone, IfSome}
use Rattle.std.specs.Option.{option_map}
use Rattle.std.specs.List.{list_any}
use Rattle.std.specs.FinMap as map
use Rattle.std.proofs.lemmas.Option.{slice_get_read}
use Rattle.std.proofs.Math.ListN.{length-set}
use Rattle.std.proofs.lemmas.List.Sums.{sum_by-cons}
use Rattle.cht_ids.specs.declared.refs.Ref.{Ref}
use Rattle.chunk_refs.specs.Room.{Contents as Names}
use Rattle.chunk_refs.proofs.Stores.{get-set_here, get-set_other}
use Rattle.name_states.proofs.Basics.{none_not_some, same_some, same_or_not, same_from_test, test_same}
use Rattle.task_states.specs.declared.states.TaskStatus.TheVariants.{Unknown, Ready, Running, Waiting}
use Rattle.task_states.specs.States.{Input, Known, Awaits, Unfinished, Graph, task_at, status, status_of, is_awaiting}
use Rattle.task_states.specs.Steps.{started, given_back, with_task}
use Rattle.cht_history.specs.History.{History}
use Rattle.cht_history.specs.declared.event.Event.{Event}
use Rattle.name_states.specs.Reached.{swept}
use Rattle.name_states.specs.Rules.{IsSound, AreReached}
use Rattle.name_states.proofs.SweptOnce.{nothing_goes}
use Rattle.std.specs.Ordering.{nat_cmp}
use Rattle.name_machine.specs.States.{Ask}
use Rattle.name_machine.specs.Control.{Control}
use Rattle.name_machine.specs.Forgetting.{forgotten}
use Rattle.name_machine.specs.Replay.{is_runner, is_run_by, runs_nothing}
use Rattle.name_machine.specs.Facts.{AwaitsTask}
use Rattle.name_machine.proofs.Values.{any_from, any_to}
use Rattle.name_machine.proofs.Tasks.{changed_here, changed_other, changed_from}
use Rattle.core_state.specs.AskTable.{AskTable}
use Rattle.core_state.specs.Inside.{contents_of, AreRun, IsKept}
use Rattle.core_state.proofs.Needs.{more_events}

runner_is : (worker : ℕ) (runner : Option ℕ) → is_runner worker runner ≡ true → runner ≡ Some worker
runner_is worker None is = absurd (let clash : false ≡ true = is in cc)
runner_is worker (Some other) is = ap Some (same_from_test other worker is)

pub runner_test : (worker : ℕ) (runner : Option ℕ) → runner ≡ Some worker → is_runner worker runner ≡ true
runner_test worker None is = absurd (none_not_some refl is)
runner_test worker (Some other) is = ap (λ n. nat_eq n worker) (same_some other worker is) ∙ test_same worker

module _ {K : Type 0} where
  pub run_is : (worker : ℕ) (found : Option (Unfinished Ref K)) → is_run_by worker found ≡ true
      → (unfinished : Unfinished Ref K) × (found ≡ Some unfinished) × (unfinished.runner ≡ Some worker)
  run_is worker None is = absurd (let clash : false ≡ true = is in cc)
  run_is worker (Some unfinished) is = (unfinished, refl, runner_is worker unfinished.runner is)

  pub run_test : (worker : ℕ) (found : Option (Unfinished Ref K)) (unfinished : Unfinished Ref K) → found ≡ Some unfinished → unfinished.runner ≡ Some worker
      → is_run_by worker found ≡ true
  run_test worker found unfinished is runs = ap (is_run_by worker) is ∙ runner_test worker unfinished.runner runs

module _ {C K : Type 0} (arity : C → ℕ) (control : Control C (Unit {0}) K) (running : List (Option ℕ)) (run : AreRun control.graph running) where
  -- where the table has no task for a worker it runs none
  pub idle_from : (worker : ℕ) → slice_get running worker ≡ Some None → runs_nothing (forgotten arity control) worker ≡ true
  idle_from worker is =
      elim (list_any (λ (task : Unfinished Ref K). is_runner worker task.runner) (map.values control.graph.tasks)) as
      (λ b. list_any (λ (task : Unfinished Ref K). is_runner worker task.runner) (map.values control.graph.tasks) ≡ b → not b ≡ true) [
        | true ↦ λ any.
            let found = any_to (λ (task : Unfinished Ref K). is_runner worker task.runner) control.graph.tasks any in
            let there = run.runner found.0 worker found.1 found.2 (runner_is worker found.1.runner found.3) in
            absurd (none_not_some refl (same_some None (Some found.0) (sym is ∙ there)))
        | false ↦ λ none. refl
      ] refl

  pub runs_none : (worker : ℕ) (found : Option ℕ) → slice_get running worker ≡ Some found → IfNone found (runs_nothing (forgotten arity control) worker ≡ true)
  runs_none worker None is = idle_from worker is
  runs_none worker (Some task) is = tt

  pub runs_some : (worker : ℕ) (found : Option ℕ) → slice_get running worker ≡ Some found → IfSome found (λ task. is_run_by worker (task_at control.graph task) ≡ true)
  runs_some worker None is = tt
  runs_some worker (Some task) is =
      let there = run.task worker task is in
      run_test worker (task_at control.graph task) there.0 there.1 there.2

  -- and the other way round
  pub idle_to : (worker : ℕ) (found : Option ℕ) → slice_get running worker ≡ Some found → runs_nothing (forgotten arity control) worker ≡ true → found ≡ None
  idle_to worker None is idle = refl
  idle_to worker (Some task) is idle =
      let there = run.task worker task is in
      let any : list_any (λ (task : Unfinished Ref K). is_runner worker task.runner) (map.values control.graph.tasks) ≡ true =
      any_from (λ (task : Unfinished Ref K). is_runner worker task.runner) control.graph.tasks task there.0 there.1 (runner_test worker there.0.runner there.2) in
      absurd (let clash : false ≡ true = sym (ap not any) ∙ idle in cc)

-- ---- The table written at one place

pub ran_is : (running : List (Option ℕ)) (worker task : ℕ) (now : Option ℕ) → worker < length running → now ≡ get_or running worker now → now ≡ Some task
    → slice_get running worker ≡ Some (Some task)
ran_is running worker task now within read is = slice_get_read running (length running) worker now refl within read ∙ ap Some is

abbrev pub one_for : Option ℕ → ℕ
one_for o = cond (is_some o) 1 0

pub count_set : (xs : List (Option ℕ)) (i : ℕ) (old new : Option ℕ) → slice_get xs i ≡ Some old
    → count_by is_some (slice_set xs i new) + one_for old ≡ count_by is_some xs + one_for new
count_set [] i old new is = absurd (none_not_some refl is)
count_set (x ∷ xs) zero old new is =
    let a = sum_by-cons one_for new xs in
    let b = sum_by-cons one_for x xs in
    let same : one_for x ≡ one_for old = ap one_for (same_some x old is) in
    omega arith
count_set (x ∷ xs) (suc i) old new is =
    let a = sum_by-cons one_for x (slice_set xs i new) in
    let b = sum_by-cons one_for x xs in
    let rest = count_set xs i old new is in
    omega arith

-- ---- How far a task is

some_awaits : (inputs : List (Input Ref)) → list_any is_awaiting inputs ≡ true → (place awaited number : ℕ) × (slice_get inputs place ≡ Some (Awaits awaited number))
some_awaits [] is = absurd (let clash : false ≡ true = is in cc)
some_awaits (Known r ∷ inputs) is = let rest = some_awaits inputs is in (suc rest.0, rest.1, rest.2, rest.3)
some_awaits (Awaits awaited number ∷ inputs) is = (0, awaited, number, refl)

module _ {K : Type 0} where
  no_output : (u : Unfinished Ref K) (waits : Bool) → list_any is_awaiting u.inputs ≡ waits → status_of u ≡ Ready → u.runner ≡ None
  no_output u true waits is = absurd (let clash : Waiting ≡ Ready = sym (ap (λ b. cond b Waiting (cond (is_some u.runner) Running Ready)) waits) ∙ is in cc)
  no_output u false waits is =
      let free : cond (is_some u.runner) Running Ready ≡ Ready = sym (ap (λ b. cond b Waiting (cond (is_some u.runner) Running Ready)) waits) ∙ is in
      elim (u.runner) as (λ o. cond (is_some o) Running Ready ≡ Ready → o ≡ None) [
        | None ↦ λ e. refl
        | Some w ↦ λ e. absurd (let clash : Running ≡ Ready = e in cc)
      ] free

  -- what is ready is there, and nobody runs it
  pub ready_is : (graph : Graph Ref K) (task : ℕ) (found : Option (Unfinished Ref K)) → task_at graph task ≡ found → status graph task ≡ Ready
      → (u : Unfinished Ref K) × (task_at graph task ≡ Some u) × (u.runner ≡ None)
  ready_is graph task None found is =
      absurd (let clash : Unknown ≡ Ready = sym (ap (λ o. elim o [ None ↦ Unknown | Some u ↦ status_of u ]) found) ∙ is in cc)
  ready_is graph task (Some u) found is =
      (u, found, no_output u (list_any is_awaiting u.inputs) refl (sym (ap (λ o. elim o [ None ↦ Unknown | Some u ↦ status_of u ]) found) ∙ is))

  -- what is run and awaits nothing is Running
  pub running_is : (graph : Graph Ref K) (task worker : ℕ) (u : Unfinished Ref K) → task_at graph task ≡ Some u → u.runner ≡ Some worker
      → ((awaited : ℕ) → AwaitsTask graph task awaited → ⊥) → status graph task ≡ Running
  running_is graph task worker u is runs none =
      ap (λ o. elim o [ None ↦ Unknown | Some u ↦ status_of u ]) is
      ∙ elim (list_any is_awaiting u.inputs) as (λ b. list_any is_awaiting u.inputs ≡ b → cond b Waiting (cond (is_some u.runner) Running Ready) ≡ Running) [
        | true ↦ λ waits.
            let one = some_awaits u.inputs waits in
            absurd (none one.1 (one.0, one.2, ap (λ o. elim o [ None ↦ None | Some u ↦ slice_get u.inputs one.0 ]) is ∙ one.3))
        | false ↦ λ waits. ap (λ o. cond (is_some o) Running Ready) runs
      ] refl

module _ {K : Type 0} (graph : Graph Ref K) (running : List (Option ℕ)) (run : AreRun graph running) where
  run_here : (task : ℕ) (unfinished : Unfinished Ref K) (f : Unfinished Ref K → Unfinished Ref K) → task_at graph task ≡ Some unfinished
      → task_at (with_task graph task f) task ≡ Some (f unfinished)
  run_here task unfinished f is = changed_here graph task f ∙ ap (option_map f) is

  -- a worker that ran nothing runs a task that nobody ran
  pub run_started : (worker task : ℕ) (unfinished : Unfinished Ref K) → slice_get running worker ≡ Some None → task_at graph task ≡ Some unfinished
      → unfinished.runner ≡ None → AreRun (started graph task worker) (slice_set running worker (Some task))
  run_started worker task unfinished idle there free = record {
    runner = λ q w u is runs.
        let was = changed_from graph task q (λ unfinished. record unfinished { runner = Some worker }) u is in
        elim was.2 [
          | inl here ↦
              let same : worker ≡ w = same_some worker w (sym (ap (λ (v : Unfinished Ref K). v.runner) here.1) ∙ runs) in
              ap (slice_get (slice_set running worker (Some task))) (sym same) ∙ get-set_here running worker (Some task) None idle ∙ ap (λ n. Some (Some n)) (sym here.0)
          | inr other ↦
              let old = run.runner q w was.0 was.1 (ap (λ (v : Unfinished Ref K). v.runner) (sym other.1) ∙ runs) in
              elim (same_or_not w worker) [
                | inl same ↦ absurd (none_not_some refl (same_some None (Some q) (sym idle ∙ ap (slice_get running) (sym same) ∙ old)))
                | inr apart ↦ get-set_other running worker w (Some task) apart ∙ old
              ]
        ];
    task = λ w q is.
        elim (same_or_not w worker) [
          | inl same ↦
              let at : task ≡ q = same_some task q (same_some (Some task) (Some q) (sym (get-set_here running worker (Some task) None idle) ∙ ap (slice_get (slice_set running worker (Some task))) (sym same) ∙ is)) in
              (record unfinished { runner = Some worker }, ap (task_at (started graph task worker)) (sym at) ∙ run_here task unfinished (λ unfinished. record unfinished { runner = Some worker }) there, ap Some (sym same))
          | inr apart ↦
              let old = run.task w q (sym (get-set_other running worker w (Some task) apart) ∙ is) in
              elim (same_or_not q task) [
                | inl same ↦ absurd (none_not_some free (ap (λ (v : Unfinished Ref K). v.runner) (same_some unfinished old.0 (sym there ∙ ap (task_at graph) (sym same) ∙ old.1)) ∙ old.2))
                | inr other ↦ (old.0, changed_other graph task q (λ unfinished. record unfinished { runner = Some worker }) other ∙ old.1, old.2)
              ]
        ];
  }

  -- a worker runs its task no more
  pub run_ended : (worker task : ℕ) → slice_get running worker ≡ Some (Some task) → AreRun (given_back graph task) (slice_set running worker None)
  run_ended worker task ran =
      let there = run.task worker task ran in
      record {
        runner = λ q w u is runs.
            let was = changed_from graph task q (λ unfinished. record unfinished { runner = None }) u is in
            elim was.2 [
              | inl here ↦ absurd (none_not_some (ap (λ (v : Unfinished Ref K). v.runner) here.1) runs)
              | inr other ↦
                  let old = run.runner q w was.0 was.1 (ap (λ (v : Unfinished Ref K). v.runner) (sym other.1) ∙ runs) in
                  elim (same_or_not w worker) [
                    | inl same ↦ absurd (other.0 (sym (same_some task q (same_some (Some task) (Some q) (sym ran ∙ ap (slice_get running) (sym same) ∙ old)))))
                    | inr apart ↦ get-set_other running worker w None apart ∙ old
                  ]
            ];
        task = λ w q is.
            elim (same_or_not w worker) [
              | inl same ↦ absurd (none_not_some refl (same_some None (Some q) (sym (get-set_here running worker None (Some task) ran) ∙ ap (slice_get (slice_set running worker None)) (sym same) ∙ is)))
              | inr apart ↦
                  let old = run.task w q (sym (get-set_other running worker w None apart) ∙ is) in
                  elim (same_or_not q task) [
                    | inl same ↦
                        let both : there.0 ≡ old.0 = same_some there.0 old.0 (sym there.1 ∙ ap (task_at graph) (sym same) ∙ old.1) in
                        absurd (apart (same_some w worker (sym old.2 ∙ ap (λ (v : Unfinished Ref K). v.runner) (sym both) ∙ there.2)))
                    | inr other ↦ (old.0, changed_other graph task q (λ unfinished. record unfinished { runner = None }) other ∙ old.1, old.2)
                  ]
            ];
      }

-- ---- What hangs together then

module _ {C K : Type 0} (drawn : ℕ) (names : Names C) (table : AskTable) (graph : Graph Ref K) (history : History K) (callers : ℕ) (running : List (Option ℕ)) (owed : ℕ)
    (kept : IsKept drawn names table graph history callers running owed) where
  pub started_kept : (graph2 : Graph Ref K) (running2 : List (Option ℕ)) (history2 : History K) (spare worker task : ℕ) (event : Event K)
      → graph2 ≡ started graph task worker → running2 ≡ slice_set running worker (Some task)
      → status graph task ≡ Ready → slice_get running worker ≡ Some None
      → owed + 2 ≤ spare → history2.spare + 1 ≡ spare → history2.events ≡ history.events ++ event ∷ []
      → IsKept drawn names table graph2 history2 callers running2 (owed + 1)
  started_kept graph2 running2 history2 spare worker task event graph_is running_is ready idle room left events =
      let there = ready_is graph task (task_at graph task) refl ready in
      let long : length (slice_set running worker (Some task)) ≡ length running = length-set running worker (Some task) in
      let count = count_set running worker None (Some task) idle in
      subst (λ (gr : Graph Ref K). IsKept drawn names table gr history2 callers running2 (owed + 1)) (sym graph_is)
      (subst (λ (runs : List (Option ℕ)). IsKept drawn names table (started graph task worker) history2 callers runs (owed + 1)) (sym running_is)
      (record {
        few_callers = kept.few_callers;
        few_workers = let few = kept.few_workers in omega arith;
        some_worker = let some = kept.some_worker in omega arith;
        stores = kept.stores ∙ sym long;
        lists = kept.lists;
        tasks = λ q u is.
            let was = changed_from graph task q (λ unfinished. record unfinished { runner = Some worker }) u is in
            let low = kept.tasks q was.0 was.1 in
            elim was.2 [
              | inl here ↦ subst (λ n. n < callers) (sym (ap (λ (v : Unfinished Ref K). v.caller) here.1)) low
              | inr other ↦ subst (λ n. n < callers) (sym (ap (λ (v : Unfinished Ref K). v.caller) other.1)) low
            ];
        asks = kept.asks;
        run = run_started graph running kept.run worker task there.0 idle there.1 there.2;
        few = more_events drawn names table graph history callers running owed kept history2 event 0 drawn events (omega arith) (omega arith);
        room = omega arith;
        enough = let was = kept.enough in omega arith;
      }))

  -- where a worker runs a task the end of the execution is owed
  pub owed_for_run : (worker task : ℕ) → slice_get running worker ≡ Some (Some task) → 1 ≤ owed
  owed_for_run worker task runs =
      let count = count_set running worker (Some task) None runs in
      let was = kept.enough in
      omega arith

  pub ended_kept : (graph2 : Graph Ref K) (running2 : List (Option ℕ)) (history2 : History K) (owed2 worker task : ℕ) (event : Event K)
      → graph2 ≡ given_back graph task → running2 ≡ slice_set running worker None
      → slice_get running worker ≡ Some (Some task)
      → owed2 + 1 ≡ owed → history2.spare + 1 ≡ history.spare → history2.events ≡ history.events ++ event ∷ []
      → IsKept drawn names table graph2 history2 callers running2 owed2
  ended_kept graph2 running2 history2 owed2 worker task event graph_is running_is runs less left events =
      let long : length (slice_set running worker None) ≡ length running = length-set running worker None in
      let count = count_set running worker (Some task) None runs in
      let room = kept.room in
      subst (λ (gr : Graph Ref K). IsKept drawn names table gr history2 callers running2 owed2) (sym graph_is)
      (subst (λ (rs : List (Option ℕ)). IsKept drawn names table (given_back graph task) history2 callers rs owed2) (sym running_is)
      (record {
        few_callers = kept.few_callers;
        few_workers = let few = kept.few_workers in omega arith;
        some_worker = let some = kept.some_worker in omega arith;
        stores = kept.stores ∙ sym long;
        lists = kept.lists;
        tasks = λ q u is.
            let was = changed_from graph task q (λ unfinished. record unfinished { runner = None }) u is in
            let low = kept.tasks q was.0 was.1 in
            elim was.2 [
              | inl here ↦ subst (λ n. n < callers) (sym (ap (λ (v : Unfinished Ref K). v.caller) here.1)) low
              | inr other ↦ subst (λ n. n < callers) (sym (ap (λ (v : Unfinished Ref K). v.caller) other.1)) low
            ];
        asks = kept.asks;
        run = run_ended graph running kept.run worker task runs;
        few = more_events drawn names table graph history callers running owed kept history2 event 0 drawn events (omega arith) (omega arith);
        room = omega arith;
        enough = let was = kept.enough in omega arith;
      }))

-- ---- What the control state is then

module _ {C K : Type 0} (drawn : ℕ) (names : Names C) (table table2 : AskTable) (graph graph2 : Graph Ref K) (history history2 : History K) (callers : ℕ) (running running2 : List (Option ℕ)) where
  -- no name changes
  pub still_is : (arity : C → ℕ) (asks : map.FinMap nat_cmp (Ask (Unit {0}) Ref)) (then : Graph Ref K) (event : Event K) → IsSound arity names.names → AreReached names.names
      → table2.asks ≡ asks → graph2 ≡ then → length running2 ≡ length running → history2.events ≡ history.events ++ event ∷ []
      → contents_of drawn names table2 graph2 history2 callers running2
      ≡ record {
        control = record { drawn = drawn; names = swept names.names; asks = asks; graph = then };
        events = history.events ++ event ∷ [];
        callers = callers;
        workers = length running;
      }
  still_is arity asks then event sound reached asks_is graph_is long events =
      let kept : names.names ≡ swept names.names = sym (nothing_goes arity names.names sound reached) in
      cc
