-- What each event makes of the accounts.
use Rattle.std.proofs.Common.{◌≡◌, ℕ, ◌+◌, ◌-◌, ◌<◌, inl, inr, true, false, cond, nat_eq, nat_cmp, List, [], ◌∷◌, ◌++◌, map as each, Option, None, Some, refl, sym, ap, subst, ◌∙◌, arith}
use Rattle.std.specs.Option.{option_map}
use Rattle.std.specs.FinMap as map
use Rattle.std.proofs.lemmas.Option.{slice_get_within}
use Rattle.task_types.specs.declared.outcome.NewChunk.{NewChunk}
use Rattle.task_types.specs.declared.outcome.Outcome.{Outcome}
use Rattle.task_types.specs.Tree.{Tree, Nothing, Root}
use Rattle.task_types.specs.Meanings.{Meanings}
use Rattle.task_types.specs.Sound.{IsSound, AddsUp}
use Rattle.task_states.specs.States.{Unfinished, Graph, task_at}
use Rattle.task_states.specs.Steps.{with_task}
use Rattle.name_states.specs.Steps.{present}
use Rattle.name_states.proofs.Basics.{none_not_some, none_or_some, same_or_not, same_options, test_same, test_apart, inserted_here, inserted_other, inserted_from}
use Rattle.task_states.proofs.Maps.{same_maps}
use Rattle.cht_history.specs.declared.event.Event.{Event}
use Rattle.cht_history.specs.declared.event.Event.TheVariants.{Register, Copy, Delete, Ask as AskEvent, Collect, Abandon, Stop, Start, GiveBack, Finish}
use Rattle.cht_ids.specs.declared.refs.Ref.{Ref}
use Rattle.name_machine.specs.States.{Machine, opening, tree_named}
use Rattle.name_machine.specs.NewTasks.{drawn_by_chunks, drawn_by_tasks}
use Rattle.name_machine.specs.Steps.{asked, handed, gave_up, finished, input_trees}
use Rattle.name_machine.specs.Goals.{goal_within}
use Rattle.name_machine.specs.Machine.{owner_of, IsStep, LeadsTo}
use Rattle.name_machine.specs.Parts.{Told, untold, told_tasks, told_finish, told_more, told_after, is_whose, finishes_by, finishes_of, works_of, work_left, account_of}
use Rattle.name_machine.specs.Laws.{account_then, AccountsChange}
use Rattle.name_machine.proofs.Tasks.{changed_here, changed_other, changed_from}
use Rattle.name_machine.proofs.Invariant.{Keeps}
use Rattle.name_machine.proofs.Asking.{kept_by_ask, known_read, task_from, task_new, still}
use Rattle.name_machine.proofs.Asking as asking
use Rattle.name_machine.proofs.Small.{kept_at_opening, left_task, task_left}
use Rattle.name_machine.proofs.Finishing.{from_final, low_base}
use Rattle.name_machine.proofs.Finished.{finished_graph, finished_drawn}
use Rattle.name_machine.proofs.FinishedWorks.{finish_takes_one, finish_leaves_other, last, end}
use Rattle.name_machine.proofs.Runs.{Kept, step_keeps, run_keeps}
use Rattle.name_machine.proofs.Telling.{finishes_then, told_old, told_new, Tells}
use Rattle.name_machine.proofs.Totals.{total, total_inserted, total_none}
use Rattle.name_machine.proofs.Works.{works_by, work_by, work_from, work_to, works_kept, Stays, reads_agree, left_stays}

-- ---- Tasks that stay

module _ {C K : Type 0} (lib : Meanings C K) where
  -- where another worker or nobody runs a task
  pub runner_stays : (graph : Graph (Tree C) K) (task : ℕ) (runner : Option ℕ) (q : ℕ) (t : Unfinished (Tree C) K) → task_at graph q ≡ Some t
      → Stays lib (with_task graph task (λ unfinished. record unfinished { runner = runner })) q t
  runner_stays graph task runner q t is =
      let change : Unfinished (Tree C) K → Unfinished (Tree C) K = λ unfinished. record unfinished { runner = runner } in
      elim (same_or_not q task) [
        | inl same ↦
            (change t, ap (task_at (with_task graph task change)) same ∙ changed_here graph task change ∙ ap (option_map change) (ap (task_at graph) (sym same) ∙ is), refl, refl, refl)
        | inr apart ↦ (t, changed_other graph task q change apart ∙ is, refl, refl, refl)
      ]

  pub runner_was : (graph : Graph (Tree C) K) (task : ℕ) (runner : Option ℕ) (q : ℕ) (u : Unfinished (Tree C) K) → task_at (with_task graph task (λ unfinished. record unfinished { runner = runner })) q ≡ Some u
      → (t : Unfinished (Tree C) K) × (task_at graph q ≡ Some t) × (t.caller ≡ u.caller)
  runner_was graph task runner q u is =
      let change : Unfinished (Tree C) K → Unfinished (Tree C) K = λ unfinished. record unfinished { runner = runner } in
      let from = changed_from graph task q change u is in
      elim from.2 [
        | inl here ↦ (from.0, from.1, ap (λ v. v.caller) (sym here.1))
        | inr other ↦ (from.0, from.1, ap (λ v. v.caller) (sym other.1))
      ]

  -- what is left to do stays where the tasks stay
  left_same : (before after : Machine C K) (c : ℕ) → Kept lib before → Kept lib after → ((q : ℕ) → task_at after.graph q ≡ task_at before.graph q)
      → work_left lib after c ≡ work_left lib before c
  left_same before after c keeps kept same =
      left_stays lib before after c keeps kept (λ q t is own. (t, same q ∙ is, refl, refl, refl)) (λ q u is own. (u, sym (same q) ∙ is, own))

  handed_same : (machine : Machine C K) (number caller owner : ℕ) (tree : Tree C) (q : ℕ) → task_at (handed machine number caller owner tree).graph q ≡ task_at machine.graph q
  handed_same machine number caller owner Nothing q = refl
  handed_same machine number caller owner (Root content a b c d) q = refl

  -- ---- An ask

  module _ (before : Machine C K) (keeps : Kept lib before) (caller : ℕ) (kind : K) (trees : List (Tree C)) (number : ℕ) (defined : lib.defined kind trees) (above : before.drawn + 1 < number) where
    abbrev then : Graph (Tree C) K
    then = asking.after lib before.drawn before.graph before.asks keeps caller kind trees number defined above

    abbrev kept : Keeps lib number then (asking.later lib before.drawn before.graph before.asks keeps caller kind trees number defined above)
    kept = kept_by_ask lib before.drawn before.graph before.asks keeps caller kind trees number defined above

    abbrev asked_stays : (q : ℕ) (t : Unfinished (Tree C) K) → task_at before.graph q ≡ Some t → Stays lib then q t
    asked_stays q t is = (t, still lib before.drawn before.graph before.asks keeps caller kind trees number defined above q t is, refl, refl, refl)

    -- the works of its caller are one more
    asked_works : works_by lib kept.goals then caller ≡ map.insert (works_by lib keeps.goals before.graph caller) (before.drawn + 1) (lib.work kind trees)
    asked_works =
        let m = works_by lib keeps.goals before.graph caller in
        let w : ℕ = lib.work kind trees in
        let its : work_by lib kept.goals (asking.new lib before.drawn before.graph before.asks keeps caller kind trees number defined above) ≡ w = ap (lib.work kind) (known_read kept.goals trees) in
        let reads = reads_agree lib before.drawn number before.graph then before.asks (asking.later lib before.drawn before.graph before.asks keeps caller kind trees number defined above) keeps kept caller (λ q t is own. asked_stays q t is) in
        same_maps _ _ (λ q. same_options _ _
        (λ n is.
        let found = work_from lib kept.goals then caller q n is in
        elim (task_from lib before.drawn before.graph before.asks keeps caller kind trees number defined above q found.0 found.1) [
          | inl here ↦ inserted_here m (before.drawn + 1) q w n here.0 (found.3 ∙ ap (work_by lib kept.goals) here.1 ∙ its)
          | inr old ↦
              inserted_other m (before.drawn + 1) q w old.0
              ∙ work_to lib keeps.goals before.graph caller q found.0 old.1 found.2
              ∙ ap Some (sym (found.3 ∙ ap (lib.work found.0.kind) (reads q found.0 old.1 found.2)))
        ])
        (λ n is. elim (inserted_from m (before.drawn + 1) q w n is) [
          | inl here ↦
              work_to lib kept.goals then caller q (asking.new lib before.drawn before.graph before.asks keeps caller kind trees number defined above)
              (ap (task_at then) here.0 ∙ task_new lib before.drawn before.graph before.asks keeps caller kind trees number defined above) refl
              ∙ ap Some (its ∙ sym here.1)
          | inr old ↦
              let found = work_from lib keeps.goals before.graph caller q n old.1 in
              let u = asked_stays q found.0 found.1 in
              work_to lib kept.goals then caller q found.0 u.1 found.2 ∙ ap Some (ap (lib.work found.0.kind) (reads q found.0 found.1 found.2) ∙ sym found.3)
        ]))

    asked_total : total (works_by lib kept.goals then caller) ≡ lib.work kind trees + total (works_by lib keeps.goals before.graph caller)
    asked_total =
        ap total asked_works
        ∙ total_inserted (works_by lib keeps.goals before.graph caller) (before.drawn + 1) (lib.work kind trees)
        (elim (none_or_some (map.get (works_by lib keeps.goals before.graph caller) (before.drawn + 1))) [
          | inl none ↦ none
          | inr some ↦
              absurd (let found = work_from lib keeps.goals before.graph caller (before.drawn + 1) some.0 some.1 in
              let h = keeps.numbers (before.drawn + 1) found.0 found.1 in
              omega arith)
        ])

  -- ---- What is told

  -- a step tells what it makes of tasks
  pub tells_step : (arity : C → ℕ) (told : Told) (before after : Machine C K) (event : Event K) → Kept lib before → Tells told before.drawn before.graph → IsStep lib arity before event after
      → Tells (told_more told event) after.drawn after.graph
  tells_step arity told before after (Register caller id children) keeps tells step =
      subst (λ m. Tells (told_more {K = K} told (Register caller id children)) m.drawn m.graph) (sym step.after_is)
      (record { drawn_is = (let e = tells.drawn_is in omega arith); callers = tells.callers })
  tells_step arity told before after (Copy caller from to) keeps tells step =
      subst (λ m. Tells (told_more {K = K} told (Copy caller from to)) m.drawn m.graph) (sym step.after_is)
      (record { drawn_is = (let e = tells.drawn_is in omega arith); callers = tells.callers })
  tells_step arity told before after (Delete caller id) keeps tells step =
      subst (λ m. Tells told m.drawn m.graph) (sym step.after_is) (record { drawn_is = tells.drawn_is; callers = tells.callers })
  tells_step arity told before after (AskEvent caller task kind inputs) keeps tells step =
      subst (λ m. Tells (told_more told (AskEvent caller task kind inputs)) m.drawn m.graph) (sym step.after_is)
      (record {
        drawn_is = (let e = tells.drawn_is in omega arith);
        callers = λ q t is. elim (task_from lib before.drawn before.graph before.asks keeps caller kind (each (tree_named before) inputs) (before.drawn + 2 + present inputs) step.defined (omega arith) q t is) [
          | inl here ↦
              inserted_here told.callers (told.drawn + 1) q caller caller (let e = tells.drawn_is in let f = here.0 in omega arith) refl
              ∙ ap (λ v. Some v.caller) (sym here.1)
          | inr old ↦
              inserted_other told.callers (told.drawn + 1) q caller (λ same. let e = tells.drawn_is in let h = keeps.numbers q t old.1 in omega arith) ∙ tells.callers q t old.1
        ];
      })
  tells_step arity told before after (Collect caller task got) keeps tells step =
      subst (λ m. Tells told m.drawn m.graph) (sym step.after_is)
      (record {
        drawn_is = tells.drawn_is ∙ sym (handed_drawn (record before { asks = map.remove before.asks task }) step.ask.number step.ask.caller (owner_of got) step.output);
        callers = λ q t is. tells.callers q t (sym (handed_same (record before { asks = map.remove before.asks task }) step.ask.number step.ask.caller (owner_of got) step.output q) ∙ is);
      })
    where
      handed_drawn : (machine : Machine C K) (number caller owner : ℕ) (tree : Tree C) → (handed machine number caller owner tree).drawn ≡ machine.drawn
      handed_drawn machine number caller owner Nothing = refl
      handed_drawn machine number caller owner (Root content a b c d) = refl
  tells_step arity told before after (Abandon caller) keeps tells step =
      subst (λ m. Tells told m.drawn m.graph) (sym step.after_is)
      (record { drawn_is = tells.drawn_is; callers = λ q t is. tells.callers q t (left_task lib before.drawn before.graph before.asks keeps caller q t is).0 })
  tells_step arity told before after (Stop caller) keeps tells step =
      subst (λ m. Tells told m.drawn m.graph) (sym step.after_is) (record { drawn_is = tells.drawn_is; callers = tells.callers })
  tells_step arity told before after (Start worker task) keeps tells step =
      subst (λ m. Tells told m.drawn m.graph) (sym step.after_is)
      (record { drawn_is = tells.drawn_is; callers = λ q t is. let was = runner_was before.graph task (Some worker) q t is in tells.callers q was.0 was.1 ∙ ap Some was.2 })
  tells_step arity told before after (GiveBack worker task) keeps tells step =
      subst (λ m. Tells told m.drawn m.graph) (sym step.after_is)
      (record { drawn_is = tells.drawn_is; callers = λ q t is. let was = runner_was before.graph task None q t is in tells.callers q was.0 was.1 ∙ ap Some was.2 })
  tells_step arity told before after (Finish worker task chunks tasks result) keeps tells step =
      let places = each (λ (chunk : NewChunk C). chunk.children) step.outcome.chunks in
      let start : ℕ = before.drawn + drawn_by_chunks places in
      let ran : Unfinished (Tree C) K = step.unfinished in
      let graph_is = finished_graph lib arity before keeps task ran step.there worker step.runs step.outcome step.sound in
      let drawn_is = finished_drawn lib arity before keeps task ran step.there worker step.runs step.outcome step.sound in
      let its : map.get told.callers task ≡ Some ran.caller = tells.callers task ran step.there in
      let same : told.drawn + drawn_by_chunks chunks ≡ start = let e = tells.drawn_is in let f = ap drawn_by_chunks step.chunks_are in omega arith in
      let callers_is : told_finish (map.get told.callers task) (told.drawn + drawn_by_chunks chunks) tasks told.callers ≡ told_tasks ran.caller start step.outcome.tasks told.callers =
      ap (λ o. told_finish o (told.drawn + drawn_by_chunks chunks) tasks told.callers) its
      ∙ (λ i. told_tasks ran.caller (same i) (sym step.tasks_are i) told.callers) in
      subst (λ m. Tells (told_more {K = K} told (Finish worker task chunks tasks result)) m.drawn m.graph) (sym step.after_is)
      (record {
        drawn_is = (λ i. same i + drawn_by_tasks (sym step.tasks_are i)) ∙ sym drawn_is;
        callers = λ q t is.
            ap (λ m. map.get m q) callers_is
            ∙ elim (from_final lib arity before.drawn before.graph before.asks keeps task ran step.there worker step.runs step.outcome step.sound q t (ap (λ g. task_at g q) (sym graph_is) ∙ is)) [
              | inl old ↦
                  told_old ran.caller start q step.outcome.tasks told.callers (low_base lib arity before.drawn before.graph before.asks keeps task ran step.there worker step.runs step.outcome step.sound q old.before old.was)
                  ∙ tells.callers q old.before old.was
                  ∙ ap Some (sym old.caller)
              | inr new ↦
                  ap (map.get (told_tasks ran.caller start step.outcome.tasks told.callers)) (sym new.number)
                  ∙ told_new ran.caller start new.index step.outcome.tasks told.callers (slice_get_within step.outcome.tasks new.index new.task new.at)
                  ∙ ap Some (sym new.caller)
            ];
      })

  pub tells_run : (arity : C → ℕ) (told : Told) (before after : Machine C K) (events : List (Event K)) → Kept lib before → Tells told before.drawn before.graph → LeadsTo lib arity before events after
      → Tells (told_after told events) after.drawn after.graph
  tells_run arity told before after [] keeps tells run = subst (λ m. Tells told m.drawn m.graph) (sym run) tells
  tells_run arity told before after (event ∷ events) keeps tells run =
      tells_run arity (told_more told event) run.0 after events (step_keeps lib arity before run.0 event keeps run.1) (tells_step arity told before run.0 event keeps tells run.1) run.2

  pub tells_opening : Tells untold (opening {C = C} {K = K}).drawn (opening {C = C} {K = K}).graph
  tells_opening = record { drawn_is = refl; callers = λ q t is. absurd (none_not_some (map.get-empty nat_cmp q) is) }

  -- ---- What is left to do

  -- what an event leaves to do for a caller, with the tasks of the caller that it finishes
  abbrev left_then : Machine C K → ℕ → Event K → ℕ
  left_then before c (Register by id children) = work_left lib before c
  left_then before c (Copy by from to) = work_left lib before c
  left_then before c (Delete by id) = work_left lib before c
  left_then before c (AskEvent by task kind inputs) = cond (nat_eq by c) (work_left lib before c + lib.work kind (each (tree_named before) inputs)) (work_left lib before c)
  left_then before c (Collect by task got) = work_left lib before c
  left_then before c (Abandon by) = cond (nat_eq by c) 0 (work_left lib before c)
  left_then before c (Stop by) = work_left lib before c
  left_then before c (Start worker task) = work_left lib before c
  left_then before c (GiveBack worker task) = work_left lib before c
  left_then before c (Finish worker task chunks tasks result) = work_left lib before c

  asked_left : (before : Machine C K) (keeps : Kept lib before) (caller : ℕ) (kind : K) (inputs : List Ref) (defined : lib.defined kind (each (tree_named before) inputs)) (c : ℕ)
      → work_left lib (asked lib before caller kind inputs) c ≡ cond (nat_eq caller c) (work_left lib before c + lib.work kind (each (tree_named before) inputs)) (work_left lib before c)
  asked_left before keeps caller kind inputs defined c =
      let trees : List (Tree C) = each (tree_named before) inputs in
      let number : ℕ = before.drawn + 2 + present inputs in
      let above : before.drawn + 1 < number = omega arith in
      let later_kept : Kept lib (asked lib before caller kind inputs) = kept before keeps caller kind trees number defined above in
      elim (same_or_not caller c) [
        | inl same ↦
            let more = asked_total before keeps caller kind trees number defined above in
            let first : work_left lib (asked lib before caller kind inputs) caller ≡ total (works_by lib later_kept.goals (asked lib before caller kind inputs).graph caller) = ap total (works_kept lib (asked lib before caller kind inputs) caller later_kept) in
            let second : work_left lib before caller ≡ total (works_by lib keeps.goals before.graph caller) = ap total (works_kept lib before caller keeps) in
            let sums : work_left lib (asked lib before caller kind inputs) caller ≡ work_left lib before caller + lib.work kind trees = omega arith in
            ap (work_left lib (asked lib before caller kind inputs)) (sym same)
            ∙ sums
            ∙ ap (λ k. work_left lib before k + lib.work kind trees) same
            ∙ ap (λ b. cond b (work_left lib before c + lib.work kind trees) (work_left lib before c)) (sym (ap (λ k. nat_eq k c) same ∙ test_same c))
        | inr apart ↦
            left_stays lib before (asked lib before caller kind inputs) c keeps later_kept
            (λ q t is own. (t, still lib before.drawn before.graph before.asks keeps caller kind trees number defined above q t is, refl, refl, refl))
            (λ q u is own. elim (task_from lib before.drawn before.graph before.asks keeps caller kind trees number defined above q u is) [
              | inl here ↦ absurd (apart (ap (λ v. v.caller) (sym here.1) ∙ own))
              | inr old ↦ (u, old.1, own)
            ])
            ∙ ap (λ b. cond b (work_left lib before c + lib.work kind trees) (work_left lib before c)) (sym (test_apart caller c apart))
      ]

  abandon_left : (before : Machine C K) (keeps : Kept lib before) (caller : ℕ) (after_kept : Kept lib (gave_up before caller)) (c : ℕ)
      → work_left lib (gave_up before caller) c ≡ cond (nat_eq caller c) 0 (work_left lib before c)
  abandon_left before keeps caller after_kept c =
      elim (same_or_not caller c) [
        | inl same ↦
            total_none (works_of lib (gave_up before caller) c) (λ q. elim (none_or_some (map.get (works_of lib (gave_up before caller) c) q)) [
              | inl none ↦ none
              | inr some ↦
                  absurd (let found = work_from lib (goal_within lib before.drawn (gave_up before caller).graph) (gave_up before caller).graph c q some.0 some.1 in
                  (left_task lib before.drawn before.graph before.asks keeps caller q found.0 found.1).1 (found.2 ∙ sym same))
            ])
            ∙ ap (λ b. cond b 0 (work_left lib before c)) (sym (ap (λ k. nat_eq k c) same ∙ test_same c))
        | inr apart ↦
            left_stays lib before (gave_up before caller) c keeps after_kept
            (λ q t is own. (t, task_left lib before.drawn before.graph before.asks keeps caller q t is (λ same. apart (sym same ∙ own)), refl, refl, refl))
            (λ q u is own. (u, (left_task lib before.drawn before.graph before.asks keeps caller q u is).0, own))
            ∙ ap (λ b. cond b 0 (work_left lib before c)) (sym (test_apart caller c apart))
      ]

  finish_left : (arity : C → ℕ) (adds : AddsUp arity lib) (told : Told) (before : Machine C K) (keeps : Kept lib before) (tells : Tells told before.drawn before.graph) (worker task : ℕ) (ran : Unfinished (Tree C) K)
      (there : task_at before.graph task ≡ Some ran) (runs : ran.runner ≡ Some worker) (outcome : Outcome C K) (sound : IsSound arity lib ran.kind (input_trees ran) outcome) (c : ℕ)
      → cond (is_whose c (map.get told.callers task)) 1 0 + work_left lib (finished before task ran outcome) c ≡ work_left lib before c
  finish_left arity adds told before keeps tells worker task ran there runs outcome sound c =
      let graph_is = finished_graph lib arity before keeps task ran there worker runs outcome sound in
      let drawn_is = finished_drawn lib arity before keeps task ran there worker runs outcome sound in
      let last_graph : Graph (Tree C) K = last lib arity before.drawn before.graph before.asks keeps task ran there worker runs outcome sound in
      let last_drawn : ℕ = end lib arity before.drawn before.graph before.asks keeps task ran there worker runs outcome sound in
      let after_is : work_left lib (finished before task ran outcome) c ≡ total (works_by lib (goal_within lib last_drawn last_graph) last_graph c) =
      (λ i. total (works_by lib (goal_within lib (drawn_is i) (graph_is i)) (graph_is i) c)) in
      let before_is : work_left lib before c ≡ total (works_by lib keeps.goals before.graph c) = ap total (works_kept lib before c keeps) in
      let its : is_whose c (map.get told.callers task) ≡ nat_eq ran.caller c = ap (is_whose c) (tells.callers task ran there) in
      elim (same_or_not ran.caller c) [
        | inl same ↦
            let one : cond {A = ℕ} (is_whose c (map.get told.callers task)) 1 0 ≡ 1 = ap (λ b. cond {A = ℕ} b 1 0) (its ∙ ap (λ k. nat_eq k c) same ∙ test_same c) in
            let takes : 1 + total (works_by lib (goal_within lib last_drawn last_graph) last_graph c) ≡ total (works_by lib keeps.goals before.graph c) =
            subst (λ k. 1 + total (works_by lib (goal_within lib last_drawn last_graph) last_graph k) ≡ total (works_by lib keeps.goals before.graph k)) same
            (finish_takes_one lib arity before.drawn before.graph before.asks keeps task ran there worker runs outcome sound adds) in
            omega arith
        | inr apart ↦
            let none : cond {A = ℕ} (is_whose c (map.get told.callers task)) 1 0 ≡ 0 = ap (λ b. cond {A = ℕ} b 1 0) (its ∙ test_apart ran.caller c apart) in
            let leaves : total (works_by lib (goal_within lib last_drawn last_graph) last_graph c) ≡ total (works_by lib keeps.goals before.graph c) =
            finish_leaves_other lib arity before.drawn before.graph before.asks keeps task ran there worker runs outcome sound c apart in
            omega arith
      ]

  left_step : (arity : C → ℕ) (adds : AddsUp arity lib) (told : Told) (before after : Machine C K) (event : Event K) (c : ℕ) → Kept lib before → Tells told before.drawn before.graph → IsStep lib arity before event after
      → finishes_by told c event + work_left lib after c ≡ left_then before c event
  left_step arity adds told before after (Register caller id children) c keeps tells step =
      let same = left_same before after c keeps (step_keeps lib arity before after (Register caller id children) keeps step) (λ q. ap (λ (m : Machine C K). task_at m.graph q) step.after_is) in omega arith
  left_step arity adds told before after (Copy caller from to) c keeps tells step =
      let same = left_same before after c keeps (step_keeps lib arity before after (Copy caller from to) keeps step) (λ q. ap (λ (m : Machine C K). task_at m.graph q) step.after_is) in omega arith
  left_step arity adds told before after (Delete caller id) c keeps tells step =
      let same = left_same before after c keeps (step_keeps lib arity before after (Delete caller id) keeps step) (λ q. ap (λ (m : Machine C K). task_at m.graph q) step.after_is) in omega arith
  left_step arity adds told before after (AskEvent caller task kind inputs) c keeps tells step =
      let same = ap (λ m. work_left lib m c) step.after_is ∙ asked_left before keeps caller kind inputs step.defined c in omega arith
  left_step arity adds told before after (Collect caller task got) c keeps tells step =
      let same = left_same before after c keeps (step_keeps lib arity before after (Collect caller task got) keeps step)
      (λ q. ap (λ (m : Machine C K). task_at m.graph q) step.after_is ∙ handed_same (record before { asks = map.remove before.asks task }) step.ask.number step.ask.caller (owner_of got) step.output q) in
      omega arith
  left_step arity adds told before after (Abandon caller) c keeps tells step =
      let kept_after = subst (Kept lib) step.after_is (step_keeps lib arity before after (Abandon caller) keeps step) in
      let same = ap (λ m. work_left lib m c) step.after_is ∙ abandon_left before keeps caller kept_after c in
      omega arith
  left_step arity adds told before after (Stop caller) c keeps tells step =
      let same = left_same before after c keeps (step_keeps lib arity before after (Stop caller) keeps step) (λ q. ap (λ (m : Machine C K). task_at m.graph q) step.after_is) in omega arith
  left_step arity adds told before after (Start worker task) c keeps tells step =
      let same = left_stays lib before after c keeps (step_keeps lib arity before after (Start worker task) keeps step)
      (λ q t is own. let u = runner_stays before.graph task (Some worker) q t is in (u.0, ap (λ (m : Machine C K). task_at m.graph q) step.after_is ∙ u.1, u.2, u.3, u.4))
      (λ q u is own. let t = runner_was before.graph task (Some worker) q u (ap (λ (m : Machine C K). task_at m.graph q) (sym step.after_is) ∙ is) in (t.0, t.1, t.2 ∙ own)) in
      omega arith
  left_step arity adds told before after (GiveBack worker task) c keeps tells step =
      let same = left_stays lib before after c keeps (step_keeps lib arity before after (GiveBack worker task) keeps step)
      (λ q t is own. let u = runner_stays before.graph task None q t is in (u.0, ap (λ (m : Machine C K). task_at m.graph q) step.after_is ∙ u.1, u.2, u.3, u.4))
      (λ q u is own. let t = runner_was before.graph task None q u (ap (λ (m : Machine C K). task_at m.graph q) (sym step.after_is) ∙ is) in (t.0, t.1, t.2 ∙ own)) in
      omega arith
  left_step arity adds told before after (Finish worker task chunks tasks result) c keeps tells step =
      ap (λ m. cond (is_whose c (map.get told.callers task)) 1 0 + work_left lib m c) step.after_is
      ∙ finish_left arity adds told before keeps tells worker task step.unfinished step.there step.runs step.outcome step.sound c

  -- ---- Accounts

  sums_up : (before : Machine C K) (c n : ℕ) (event : Event K) → n + left_then before c event ≡ account_then lib before c event (n + work_left lib before c)
  sums_up before c n (Register by id children) = refl
  sums_up before c n (Copy by from to) = refl
  sums_up before c n (Delete by id) = refl
  sums_up before c n (AskEvent by task kind inputs) =
      elim (nat_eq by c) as (λ b. n + cond b (work_left lib before c + lib.work kind (each (tree_named before) inputs)) (work_left lib before c)
      ≡ cond b (n + work_left lib before c + lib.work kind (each (tree_named before) inputs)) (n + work_left lib before c)) [
        | true ↦ omega arith
        | false ↦ refl
      ]
  sums_up before c n (Collect by task got) = refl
  sums_up before c n (Abandon by) =
      elim (nat_eq by c) as (λ b. n + cond b 0 (work_left lib before c) ≡ cond b (n + work_left lib before c - work_left lib before c) (n + work_left lib before c)) [
        | true ↦ omega arith
        | false ↦ refl
      ]
  sums_up before c n (Stop by) = refl
  sums_up before c n (Start worker task) = refl
  sums_up before c n (GiveBack worker task) = refl
  sums_up before c n (Finish worker task chunks tasks result) = refl

  pub accounts_change : (arity : C → ℕ) → AddsUp arity lib → AccountsChange lib arity
  accounts_change arity adds events before after event c run step =
      let keeps = run_keeps lib arity opening before events (kept_at_opening lib) run in
      let told : Told = told_after untold events in
      let tells = tells_run arity untold opening before events (kept_at_opening lib) tells_opening run in
      let left = left_step arity adds told before after event c keeps tells step in
      let counted = finishes_then untold c events event in
      let n : ℕ = finishes_of c events in
      let whole : account_of lib after (events ++ event ∷ []) c ≡ n + left_then before c event = omega arith in
      whole ∙ sums_up before c n event
