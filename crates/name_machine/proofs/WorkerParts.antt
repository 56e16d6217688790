-- The parts of workers whose own an event is not.
use Rattle.std.proofs.Common.{◌≡◌, ℕ, suc, ◌+◌, ◌<◌, inl, inr, true, false, cond, ◌&&◌, nat_eq, nat_cmp, T, List, [], ◌∷◌, map as each, slice_get, Option, None, Some, is_some, refl, sym, ap, ◌∙◌, arith}
use Rattle.task_states.specs.Steps.{with_task}
use Rattle.std.specs.List.{list_any}
use Rattle.std.specs.FinMap as map
use Rattle.std.specs.FinMap.{find, is_sorted}
use Rattle.cht_ids.specs.declared.refs.Ref.{Ref}
use Rattle.task_types.specs.declared.outcome.Place.{Place}
use Rattle.task_types.specs.declared.outcome.Places.{Places}
use Rattle.task_types.specs.declared.outcome.NewTask.{NewTask}
use Rattle.task_types.specs.Tree.{Tree, Nothing, Root}
use Rattle.task_types.specs.Meanings.{Meanings}
use Rattle.task_states.specs.declared.states.TaskStatus.TheVariants.{Waiting, Ready, Running}
use Rattle.task_states.specs.Maps.{kept}
use Rattle.task_states.specs.States.{Input, Known, Awaits, Unfinished, Graph, is_awaiting, is_running, task_at, status_of, is_run_for, running}
use Rattle.task_states.proofs.Maps.{get-kept}
use Rattle.name_states.proofs.Basics.{none_not_some, none_or_some, same_some, same_or_not, same_from_test, test_same, test_apart}
use Rattle.cht_history.specs.declared.event.Event.{Event}
use Rattle.cht_history.specs.declared.event.Event.TheVariants.{Register, Copy, Delete, Ask as AskEvent, Collect, Abandon, Stop, Start, GiveBack, Finish}
use Rattle.name_machine.specs.States.{Machine, opening, tree_named}
use Rattle.name_states.specs.Steps.{present}
use Rattle.name_machine.specs.Steps.{tree_known, input_trees, handed}
use Rattle.name_machine.specs.Machine.{owner_of, IsStep}
use Rattle.name_machine.specs.Replay.{is_runner}
use Rattle.name_machine.specs.Parts.{Running as Run, run_among, is_workers_own}
use Rattle.name_machine.specs.Laws.{LeavesWorkers}
use Rattle.name_machine.proofs.Values.{find_first, below_missed, left_holds, right_holds}
use Rattle.name_machine.proofs.Tasks.{changed_other, changed_from, passed_to}
use Rattle.name_machine.proofs.Asking.{task_from, still}
use Rattle.name_machine.proofs.Small.{kept_at_opening, left_task, task_left, status_at}
use Rattle.name_machine.proofs.Stands.{Stand, replaced, known_stays}
use Rattle.name_machine.proofs.Finishing.{from_final, old_final, low_base, number_high}
use Rattle.name_machine.proofs.Finished.{finished_graph}
use Rattle.name_machine.proofs.Runs.{Kept, step_keeps, run_keeps}
use Rattle.name_machine.proofs.CallerParts.{others_left, differ}

-- a worker's test of a runner
pub runs_it : (worker : ℕ) (o : Option ℕ) → is_runner worker o ≡ true → o ≡ Some worker
runs_it worker None is = absurd (let clash : false ≡ true = is in cc)
runs_it worker (Some other) is = ap Some (same_from_test other worker is)

it_runs : (worker : ℕ) (o : Option ℕ) → o ≡ Some worker → is_runner worker o ≡ true
it_runs worker o is = ap (is_runner worker) is ∙ test_same worker

module _ {C K : Type 0} where
  -- what a worker sees of a task that it runs
  abbrev seen : ℕ → Unfinished (Tree C) K → Run C K
  seen q t = record { task = q; kind = t.kind; inputs = input_trees t }

  abbrev RunsAt : ℕ → Graph (Tree C) K → ℕ → Unfinished (Tree C) K → Type 0
  RunsAt worker graph q t = (task_at graph q ≡ Some t) × (t.runner ≡ Some worker)

  -- what is found among entries
  among_held : (worker : ℕ) (es : List (ℕ × Unfinished (Tree C) K)) → T (is_sorted nat_cmp es) → (r : Run C K) → run_among worker es ≡ Some r
      → (q : ℕ) × (t : Unfinished (Tree C) K) × (find nat_cmp q es ≡ Some t) × (t.runner ≡ Some worker) × (r ≡ seen q t)
  among_held worker [] sorted r is = absurd (none_not_some refl is)
  among_held worker (e ∷ es) sorted r is =
      elim (is_runner worker e.1.runner) as (λ b. is_runner worker e.1.runner ≡ b → cond b (Some (seen e.0 e.1)) (run_among worker es) ≡ Some r
      → (q : ℕ) × (t : Unfinished (Tree C) K) × (find nat_cmp q (e ∷ es) ≡ Some t) × (t.runner ≡ Some worker) × (r ≡ seen q t)) [
        | true ↦ λ own found.
            (e.0, e.1, find_first e.0 e.0 e.1 es ∙ ap (λ b. cond b (Some e.1) (find nat_cmp e.0 es)) (test_same e.0), runs_it worker e.1.runner own, sym (same_some (seen e.0 e.1) r found))
        | false ↦ λ own found.
            let more = among_held worker es (right_holds _ _ sorted) r found in
            elim (same_or_not more.0 e.0) [
              | inl same ↦ absurd (none_not_some (ap (λ k. find nat_cmp k es) same ∙ below_missed e.0 es (left_holds _ _ sorted)) more.2)
              | inr apart ↦
                  (more.0, more.1, find_first more.0 e.0 e.1 es ∙ ap (λ b. cond b (Some e.1) (find nat_cmp more.0 es)) (test_apart more.0 e.0 apart) ∙ more.2, more.3, more.4)
            ]
      ] refl is

  -- what is held is found
  among_some : (worker : ℕ) (es : List (ℕ × Unfinished (Tree C) K)) (q : ℕ) (t : Unfinished (Tree C) K) → find nat_cmp q es ≡ Some t → t.runner ≡ Some worker
      → (r : Run C K) × (run_among worker es ≡ Some r)
  among_some worker [] q t is own = absurd (none_not_some refl is)
  among_some worker (e ∷ es) q t is own =
      elim (is_runner worker e.1.runner) as (λ b. is_runner worker e.1.runner ≡ b → (r : Run C K) × (cond b (Some (seen e.0 e.1)) (run_among worker es) ≡ Some r)) [
        | true ↦ λ here. (seen e.0 e.1, refl)
        | false ↦ λ here. elim (same_or_not q e.0) [
          | inl same ↦
              absurd (let one : e.1 ≡ t = same_some e.1 t (sym (find_first q e.0 e.1 es ∙ ap (λ b. cond b (Some e.1) (find nat_cmp q es)) (ap (λ k. nat_eq k e.0) same ∙ test_same e.0)) ∙ is) in
              let clash : false ≡ true = sym here ∙ it_runs worker e.1.runner (ap (λ v. v.runner) one ∙ own) in
              cc)
          | inr apart ↦
              among_some worker es q t (sym (find_first q e.0 e.1 es ∙ ap (λ b. cond b (Some e.1) (find nat_cmp q es)) (test_apart q e.0 apart)) ∙ is) own
        ]
      ] refl

  -- what a worker is found to run, it runs; and what it runs is found
  found_runs : (worker : ℕ) (graph : Graph (Tree C) K) (r : Run C K) → run_among worker (map.entries graph.tasks) ≡ Some r
      → (q : ℕ) × (t : Unfinished (Tree C) K) × RunsAt worker graph q t × (r ≡ seen q t)
  found_runs worker graph r is =
      let held = among_held worker (map.entries graph.tasks) (map.entries_sorted graph.tasks) r is in
      (held.0, held.1, (map.get-entries graph.tasks held.0 ∙ held.2, held.3), held.4)

  runs_found : (worker : ℕ) (graph : Graph (Tree C) K) (q : ℕ) (t : Unfinished (Tree C) K) → RunsAt worker graph q t → (r : Run C K) × (run_among worker (map.entries graph.tasks) ≡ Some r)
  runs_found worker graph q t runs = among_some worker (map.entries graph.tasks) q t (sym (map.get-entries graph.tasks q) ∙ runs.0) runs.1

  seen_alike : (q r : ℕ) (t u : Unfinished (Tree C) K) → r ≡ q → u.kind ≡ t.kind → input_trees u ≡ input_trees t → seen r u ≡ seen q t
  seen_alike q r t u same kind inputs = λ i. record { task = same i; kind = kind i; inputs = inputs i }

  -- a worker sees the same in two states where it runs the same, and one task at most
  pub same_runs : (worker : ℕ) (graph after : Graph (Tree C) K)
      → ((q r : ℕ) (t u : Unfinished (Tree C) K) → RunsAt worker after q t → RunsAt worker after r u → q ≡ r)
      → ((q : ℕ) (t : Unfinished (Tree C) K) → RunsAt worker graph q t → (u : Unfinished (Tree C) K) × RunsAt worker after q u × (u.kind ≡ t.kind) × (input_trees u ≡ input_trees t))
      → ((q : ℕ) (u : Unfinished (Tree C) K) → RunsAt worker after q u → (t : Unfinished (Tree C) K) × RunsAt worker graph q t)
      → run_among worker (map.entries after.tasks) ≡ run_among worker (map.entries graph.tasks)
  same_runs worker graph after one to back =
      elim (none_or_some (run_among worker (map.entries graph.tasks))) [
        | inl none ↦ elim (none_or_some (run_among worker (map.entries after.tasks))) [
          | inl nothing ↦ nothing ∙ sym none
          | inr some ↦
              absurd (let held = found_runs worker after some.0 some.1 in
              let was = back held.0 held.1 held.2 in
              none_not_some none (runs_found worker graph held.0 was.0 was.1).1)
        ]
        | inr some ↦
            let held = found_runs worker graph some.0 some.1 in
            let u = to held.0 held.1 held.2 in
            let found = runs_found worker after held.0 u.0 u.1 in
            let then = found_runs worker after found.0 found.1 in
            let at : ◌≡◌ {A = ℕ} then.0 held.0 = one then.0 held.0 then.1 u.0 then.2 u.1 in
            let same : ◌≡◌ {A = Unfinished (Tree C) K} then.1 u.0 = same_some then.1 u.0 (sym then.2.0 ∙ ap (task_at after) at ∙ u.1.0) in
            let kind : ◌≡◌ {A = K} then.1.kind held.1.kind = ap (λ v. v.kind) same ∙ u.2 in
            let inputs : ◌≡◌ {A = List (Tree C)} (input_trees then.1) (input_trees held.1) = ap input_trees same ∙ u.3 in
            let shown : ◌≡◌ {A = Run C K} found.0 some.0 = then.3 ∙ seen_alike held.0 then.0 held.1 then.1 at kind inputs ∙ sym held.3 in
            found.1 ∙ ap Some shown ∙ sym some.1
      ]

-- ---- Which tasks are run

-- inputs that await nothing show the same trees once a task is finished
trees_stay : {C : Type 0} (task : ℕ) (s : Stand (Tree C)) (inputs : List (Input (Tree C))) → ((p a n : ℕ) → slice_get inputs p ≡ Some (Awaits a n) → ⊥)
    → each tree_known (each (replaced task s) inputs) ≡ each tree_known inputs
trees_stay task s [] none = refl
trees_stay task s (Known x ∷ inputs) none =
    let first = ap tree_known (known_stays task s x) in let rest = trees_stay task s inputs (λ p a n is. none (suc p) a n is) in (λ i. first i ∷ rest i)
trees_stay task s (Awaits a n ∷ inputs) none = absurd (none 0 a n refl)

no_awaiting : {X : Type 0} (inputs : List (Input X)) → ((p a n : ℕ) → slice_get inputs p ≡ Some (Awaits a n) → ⊥) → list_any is_awaiting inputs ≡ false
no_awaiting [] none = refl
no_awaiting (Known x ∷ inputs) none = no_awaiting inputs (λ p a n is. none (suc p) a n is)
no_awaiting (Awaits a n ∷ inputs) none = absurd (none 0 a n refl)

-- a task that is run and awaits nothing is Running
is_run : {X K : Type 0} (t : Unfinished X K) (worker : ℕ) → t.runner ≡ Some worker → list_any is_awaiting t.inputs ≡ false → status_of t ≡ Running
is_run t worker runs none = ap (λ b. cond b Waiting (cond (is_some t.runner) Running Ready)) none ∙ ap (λ (o : Option ℕ). cond (is_some o) Running Ready) runs

-- a ready task is not run
not_run : {X K : Type 0} (t : Unfinished X K) (worker : ℕ) → t.runner ≡ Some worker → status_of t ≡ Ready → ⊥
not_run t worker runs ready =
    elim (list_any is_awaiting t.inputs) as (λ b. cond b Waiting (cond (is_some t.runner) Running Ready) ≡ Ready → ⊥) [
      | true ↦ λ e. cc
      | false ↦ λ e. let clash : Running ≡ Ready = sym (ap (λ (o : Option ℕ). cond (is_some o) Running Ready) runs) ∙ e in cc
    ] ready

-- where no task of a caller is run, a task that is run is another's
run_is_others : {X K : Type 0} (graph : Graph X K) (caller q : ℕ) (t : Unfinished X K) → running graph caller ≡ 0 → task_at graph q ≡ Some t → status_of t ≡ Running → t.caller ≡ caller → ⊥
run_is_others {X} {K} graph caller q t none is run own =
    let test : is_run_for caller t ≡ true = (λ i. nat_eq (own i) caller && is_running (run i)) ∙ ap (λ b. b && true) (test_same caller) in
    let held : map.get (kept (is_run_for caller) graph.tasks) q ≡ Some t = get-kept (is_run_for caller) graph.tasks q ∙ passed_to (is_run_for caller) (task_at graph q) t is test in
    none_not_some (ap (λ m. map.get m q) (map.empty_of_len (kept (is_run_for caller) graph.tasks) none) ∙ map.get-empty nat_cmp q) held

module _ {C K : Type 0} (lib : Meanings C K) (arity : C → ℕ) (before after : Machine C K) (w : ℕ) (keeps : Kept lib before) (kept_after : Kept lib after) where
  -- where each task is looked up as before
  runs_same : ((q : ℕ) → task_at after.graph q ≡ task_at before.graph q) → run_among w (map.entries after.graph.tasks) ≡ run_among w (map.entries before.graph.tasks)
  runs_same same =
      same_runs w before.graph after.graph
      (λ q r t u one two. kept_after.runs_one q r w t u one.0 two.0 one.1 two.1)
      (λ q t runs. (t, (same q ∙ runs.0, runs.1), refl, refl))
      (λ q u runs. (u, (sym (same q) ∙ runs.0, runs.1)))

  -- where another worker begins a task that was ready, or gives one back
  runs_other : (task by : ℕ) (runner : Option ℕ) → (by ≡ w → ⊥) → ((n : ℕ) → runner ≡ Some n → n ≡ by)
      → ((t : Unfinished (Tree C) K) → task_at before.graph task ≡ Some t → t.runner ≡ Some w → ⊥)
      → after.graph ≡ with_task before.graph task (λ unfinished. record unfinished { runner = runner })
      → run_among w (map.entries after.graph.tasks) ≡ run_among w (map.entries before.graph.tasks)
  runs_other task by runner apart whose free is =
      let change : Unfinished (Tree C) K → Unfinished (Tree C) K = λ unfinished. record unfinished { runner = runner } in
      same_runs w before.graph after.graph
      (λ q r t u one two. kept_after.runs_one q r w t u one.0 two.0 one.1 two.1)
      (λ q t runs.
      let other : q ≡ task → ⊥ = λ same. free t (ap (task_at before.graph) (sym same) ∙ runs.0) runs.1 in
      (t, (ap (λ g. task_at g q) is ∙ changed_other before.graph task q change other ∙ runs.0, runs.1), refl, refl))
      (λ q u runs.
      let from = changed_from before.graph task q change u (ap (λ g. task_at g q) (sym is) ∙ runs.0) in
      elim from.2 [
        | inl here ↦ absurd (apart (sym (whose w (sym (ap (λ v. v.runner) here.1) ∙ runs.1))))
        | inr other ↦ (from.0, (from.1, ap (λ v. v.runner) (sym other.1) ∙ runs.1))
      ])

module _ {C K : Type 0} (lib : Meanings C K) where
  handed_same : (machine : Machine C K) (number caller owner : ℕ) (tree : Tree C) (q : ℕ) → task_at (handed machine number caller owner tree).graph q ≡ task_at machine.graph q
  handed_same machine number caller owner Nothing q = refl
  handed_same machine number caller owner (Root content a b c d) q = refl

  asked_runs : (arity : C → ℕ) (before after : Machine C K) (w caller task : ℕ) (kind : K) (inputs : List Ref) (keeps : Kept lib before) → Kept lib after
      → IsStep lib arity before (AskEvent caller task kind inputs) after → run_among w (map.entries after.graph.tasks) ≡ run_among w (map.entries before.graph.tasks)
  asked_runs arity before after w caller task kind inputs keeps kept_after step =
      let trees = each (tree_named before) inputs in
      let number : ℕ = before.drawn + 2 + present inputs in
      let above : before.drawn + 1 < number = omega arith in
      let at = λ (q : ℕ). ap (λ (m : Machine C K). task_at m.graph q) step.after_is in
      same_runs w before.graph after.graph
      (λ q r t u one two. kept_after.runs_one q r w t u one.0 two.0 one.1 two.1)
      (λ q t runs. (t, (at q ∙ still lib before.drawn before.graph before.asks keeps caller kind trees number step.defined above q t runs.0, runs.1), refl, refl))
      (λ q u runs. elim (task_from lib before.drawn before.graph before.asks keeps caller kind trees number step.defined above q u (sym (at q) ∙ runs.0)) [
        | inl here ↦ absurd (none_not_some (ap (λ v. v.runner) here.1) runs.1)
        | inr old ↦ (u, (old.1, runs.1))
      ])

  abandon_runs : (arity : C → ℕ) (before after : Machine C K) (w caller : ℕ) (keeps : Kept lib before) → Kept lib after
      → IsStep lib arity before (Abandon caller) after → run_among w (map.entries after.graph.tasks) ≡ run_among w (map.entries before.graph.tasks)
  abandon_runs arity before after w caller keeps kept_after step =
      let at = λ (q : ℕ). ap (λ (m : Machine C K). task_at m.graph q) step.after_is in
      same_runs w before.graph after.graph
      (λ q r t u one two. kept_after.runs_one q r w t u one.0 two.0 one.1 two.1)
      (λ q t runs.
      let none = no_awaiting t.inputs (λ p a n input. keeps.runs_known q p a n w t runs.0 runs.1 input) in
      (t, (at q ∙ task_left lib before.drawn before.graph before.asks keeps caller q t runs.0 (run_is_others before.graph caller q t step.none_run runs.0 (is_run t w runs.1 none)), runs.1), refl, refl))
      (λ q u runs. (u, ((left_task lib before.drawn before.graph before.asks keeps caller q u (sym (at q) ∙ runs.0)).0, runs.1)))

  finish_runs : (arity : C → ℕ) (before after : Machine C K) (w worker task : ℕ) (chunks : List Places) (tasks : List (NewTask K)) (result : Place) (keeps : Kept lib before) → Kept lib after
      → (worker ≡ w → ⊥) → IsStep lib arity before (Finish worker task chunks tasks result) after → run_among w (map.entries after.graph.tasks) ≡ run_among w (map.entries before.graph.tasks)
  finish_runs arity before after w worker task chunks tasks result keeps kept_after apart step =
      let ran = step.unfinished in
      let graph_is = finished_graph lib arity before keeps task ran step.there worker step.runs step.outcome step.sound in
      let at = λ (q : ℕ). ap (λ (m : Machine C K). task_at m.graph q) step.after_is ∙ ap (λ g. task_at g q) graph_is in
      same_runs w before.graph after.graph
      (λ q r t u one two. kept_after.runs_one q r w t u one.0 two.0 one.1 two.1)
      (λ q t runs.
      let other : q ≡ task → ⊥ = λ same.
      let one : t ≡ ran = same_some t ran (sym runs.0 ∙ ap (task_at before.graph) same ∙ step.there) in
      apart (same_some worker w (sym step.runs ∙ ap (λ v. v.runner) (sym one) ∙ runs.1)) in
      let u = old_final lib arity before.drawn before.graph before.asks keeps task ran step.there worker step.runs step.outcome step.sound q t runs.0 other in
      elim (from_final lib arity before.drawn before.graph before.asks keeps task ran step.there worker step.runs step.outcome step.sound q u.0 u.1) [
        | inl old ↦
            let same : old.before ≡ t = same_some old.before t (sym old.was ∙ runs.0) in (
              u.0,
              (at q ∙ u.1, old.run_by ∙ ap (λ v. v.runner) same ∙ runs.1),
              old.kind ∙ ap (λ v. v.kind) same,
              ap (each tree_known) u.4 ∙ trees_stay task _ t.inputs (λ p a n input. keeps.runs_known q p a n w t runs.0 runs.1 input),
            )
        | inr new ↦
            absurd (let low = low_base lib arity before.drawn before.graph before.asks keeps task ran step.there worker step.runs step.outcome step.sound q t runs.0 in
            let high = (number_high lib arity before.drawn before.graph before.asks keeps task ran step.there worker step.runs step.outcome step.sound new.index new.task new.at).0 in
            let e = new.number in
            omega arith)
      ])
      (λ q u runs. elim (from_final lib arity before.drawn before.graph before.asks keeps task ran step.there worker step.runs step.outcome step.sound q u (sym (at q) ∙ runs.0)) [
        | inl old ↦ (old.before, (old.was, sym old.run_by ∙ runs.1))
        | inr new ↦ absurd (none_not_some new.run_by runs.1)
      ])

  runs_stay : (arity : C → ℕ) (before after : Machine C K) (event : Event K) (w : ℕ) → Kept lib before → Kept lib after → IsStep lib arity before event after → is_workers_own w event ≡ false
      → run_among w (map.entries after.graph.tasks) ≡ run_among w (map.entries before.graph.tasks)
  runs_stay arity before after (Register by id children) w keeps kept_after step other = runs_same lib arity before after w keeps kept_after (λ q. ap (λ (m : Machine C K). task_at m.graph q) step.after_is)
  runs_stay arity before after (Copy by from to) w keeps kept_after step other = runs_same lib arity before after w keeps kept_after (λ q. ap (λ (m : Machine C K). task_at m.graph q) step.after_is)
  runs_stay arity before after (Delete by id) w keeps kept_after step other = runs_same lib arity before after w keeps kept_after (λ q. ap (λ (m : Machine C K). task_at m.graph q) step.after_is)
  runs_stay arity before after (AskEvent by task kind inputs) w keeps kept_after step other = asked_runs arity before after w by task kind inputs keeps kept_after step
  runs_stay arity before after (Collect by task got) w keeps kept_after step other =
      runs_same lib arity before after w keeps kept_after
      (λ q. ap (λ (m : Machine C K). task_at m.graph q) step.after_is ∙ handed_same (record before { asks = map.remove before.asks task }) step.ask.number step.ask.caller (owner_of got) step.output q)
  runs_stay arity before after (Abandon by) w keeps kept_after step other = abandon_runs arity before after w by keeps kept_after step
  runs_stay arity before after (Stop by) w keeps kept_after step other = runs_same lib arity before after w keeps kept_after (λ q. ap (λ (m : Machine C K). task_at m.graph q) step.after_is)
  runs_stay arity before after (Start worker task) w keeps kept_after step other =
      runs_other lib arity before after w keeps kept_after task worker (Some worker) (differ worker w other) (λ n is. sym (same_some worker n is))
      (λ t is runs. not_run t w runs (sym (status_at before.graph task t is) ∙ step.ready)) (ap (λ (m : Machine C K). m.graph) step.after_is)
  runs_stay arity before after (GiveBack worker task) w keeps kept_after step other =
      runs_other lib arity before after w keeps kept_after task worker None (differ worker w other) (λ n is. absurd (none_not_some refl is))
      (λ t is runs. differ worker w other (same_some worker w (sym step.runs.2 ∙ ap (λ v. v.runner) (same_some step.runs.0 t (sym step.runs.1 ∙ is)) ∙ runs)))
      (ap (λ (m : Machine C K). m.graph) step.after_is)
  runs_stay arity before after (Finish worker task chunks tasks result) w keeps kept_after step other = finish_runs arity before after w worker task chunks tasks result keeps kept_after (differ worker w other) step

  pub leaves_workers : (arity : C → ℕ) → LeavesWorkers lib arity
  leaves_workers arity events before after event w run step other =
      let keeps = run_keeps lib arity opening before events (kept_at_opening lib) run in
      let runs = runs_stay arity before after event w keeps (step_keeps lib arity before after event keeps step) step other in
      let own = others_left (is_workers_own w) events event other in
      λ i. record { runs = runs i; events = own i }
