-- What a control state stands for: at the opening, and through events that touch no names.
use Rattle.std.proofs.Common.{◌≡◌, ℕ, zero, suc, Bool, true, false, cond, not, nat_cmp, List, [], ◌∷◌, map as each, inl, inr, Option, None, Some, is_some, refl, sym, ap, ◌∙◌}
use Rattle.std.specs.Option.{option_map, option_and_then}
use Rattle.std.specs.List.{list_any}
use Rattle.std.specs.FinMap as map
use Rattle.std.specs.FinSet as numbers
use Rattle.cht_ids.specs.declared.refs.Ref.{Ref}
use Rattle.task_types.specs.Tree.{Tree, Nothing}
use Rattle.task_types.specs.Meanings.{Meanings}
use Rattle.task_types.proofs.FormedTest.{both_left, both_right}
use Rattle.name_states.specs.States.{NameState, IdRecord, no_names}
use Rattle.name_states.specs.Rules.{IsSound, AreReached}
use Rattle.name_states.specs.Trees.{tree_of}
use Rattle.name_states.specs.WithoutContents.{each_value}
use Rattle.name_states.proofs.Basics.{same_or_not, test_same}
use Rattle.name_states.proofs.SweptOnce.{nothing_goes}
use Rattle.name_states.proofs.Values.{replaced, entries_replaced, get_each_value}
use Rattle.task_states.specs.declared.states.TaskStatus.{TaskStatus}
use Rattle.task_states.specs.declared.states.TaskStatus.TheVariants.{Unknown, Waiting, Ready, Running}
use Rattle.task_states.specs.Maps.{chosen}
use Rattle.task_states.specs.States.{Input, Known, Awaits, Unfinished, Graph, is_awaiting, no_tasks, task_at, status_of, status, is_stopped}
use Rattle.task_states.specs.Steps.{with_task, with_stopped}
use Rattle.task_states.proofs.Maps.{get-chosen, same_maps}
use Rattle.cht_history.specs.declared.event.Event.{Event}
use Rattle.cht_history.specs.declared.event.Event.TheVariants.{Register, Copy, Delete, Ask as AskEvent, Collect, Abandon, Stop, Start, GiveBack, Finish}
use Rattle.name_machine.specs.States.{Holding, Ask, is_of, has_ask}
use Rattle.name_machine.specs.Steps.{stopped}
use Rattle.name_machine.specs.Goals.{read_input, goal_from, goal_within}
use Rattle.name_machine.specs.Machine.{IsStep}
use Rattle.name_machine.specs.Control.{Control, tidied, effect_with}
use Rattle.name_machine.specs.Replay.{Plans, is_ready, is_runner, is_run_by, runs_nothing, is_allowed}
use Rattle.name_machine.specs.Forgetting.{forgotten}
use Rattle.name_machine.specs.Standing.{held_shown, input_shown, task_shown, graph_shown, is_asked_under, asked_among, goal_shown, ask_shown, machine_of}
use Rattle.name_machine.specs.Laws.{OpeningStands}
use Rattle.name_machine.proofs.Values.{any_from, any_to}
use Rattle.name_machine.proofs.Tasks.{changed_here, changed_other, mapped_from}
use Rattle.name_machine.proofs.WorkerParts.{runs_it}
use Rattle.name_machine.proofs.Works.{chosen_to}

-- ---- Maps

chosen_none : {X Y : Type 0} (choice : ℕ → X → Option Y) → chosen choice map.empty ≡ map.empty
chosen_none choice =
    same_maps (chosen choice map.empty) map.empty (λ q.
    get-chosen choice map.empty q ∙ ap (option_and_then (choice q)) (map.get-empty nat_cmp q) ∙ sym (map.get-empty nat_cmp q))

some_of : {X Y : Type 0} (f : X → Y) (o : Option X) → option_and_then (λ x. Some (f x)) o ≡ option_map f o
some_of f None = refl
some_of f (Some x) = refl

map_twice : {X Y Z : Type 0} (f : X → Y) (g : Y → Z) (o : Option X) → option_map g (option_map f o) ≡ option_map (λ x. g (f x)) o
map_twice f g None = refl
map_twice f g (Some x) = refl

module _ {C K : Type 0} (names : NameState C) where
  -- a task that is shown
  pub shown_at : (graph : Graph Ref K) (q : ℕ) → task_at (graph_shown names graph) q ≡ option_map (task_shown names) (task_at graph q)
  shown_at graph q = get-chosen (λ number task. Some (task_shown names task)) graph.tasks q ∙ some_of (task_shown names) (task_at graph q)

  -- a change that shows alike may be made before or after
  pub shown_changed : (graph : Graph Ref K) (n : ℕ) (f : Unfinished Ref K → Unfinished Ref K) (g : Unfinished (Tree C) K → Unfinished (Tree C) K)
      → ((t : Unfinished Ref K) → task_shown names (f t) ≡ g (task_shown names t))
      → graph_shown names (with_task graph n f) ≡ with_task (graph_shown names graph) n g
  shown_changed graph n f g alike =
      let tasks_are : (graph_shown names (with_task graph n f)).tasks ≡ (with_task (graph_shown names graph) n g).tasks =
      same_maps _ _ (λ q. elim (same_or_not q n) [
        | inl same ↦
            shown_at (with_task graph n f) q
            ∙ ap (λ k. option_map (task_shown names) (task_at (with_task graph n f) k)) same
            ∙ ap (option_map (task_shown names)) (changed_here graph n f)
            ∙ map_twice f (task_shown names) (task_at graph n)
            ∙ (λ i. option_map (λ t. alike t i) (task_at graph n))
            ∙ sym (map_twice (task_shown names) g (task_at graph n))
            ∙ ap (option_map g) (sym (shown_at graph n))
            ∙ sym (changed_here (graph_shown names graph) n g)
            ∙ ap (task_at (with_task (graph_shown names graph) n g)) (sym same)
        | inr apart ↦
            shown_at (with_task graph n f) q
            ∙ ap (option_map (task_shown names)) (changed_other graph n q f apart)
            ∙ sym (shown_at graph q)
            ∙ sym (changed_other (graph_shown names graph) n q g apart)
      ]) in
      λ i. record { tasks = tasks_are i; stopped = graph.stopped }

-- ---- Goals and the tasks that are asked for

-- whether a number is asked of the first of some
asked_in : ℕ → List (ℕ × Option ℕ) → ℕ
asked_in number [] = 0
asked_in number (e ∷ es) = cond (is_asked_under number e.1) e.0 (asked_in number es)

module _ {C K : Type 0} (lib : Meanings C K) where
  asked_search : (number : ℕ) (es : List (ℕ × Unfinished (Tree C) K)) → asked_among number es ≡ asked_in number (replaced (λ (t : Unfinished (Tree C) K). t.asked) es)
  unfolding asked_in
  asked_search number [] = refl
  asked_search number (e ∷ es) = ap (cond (is_asked_under number e.1.asked) e.0) (asked_search number es)

  -- the task that is asked for hangs on what is asked alone
  pub asked_same : (number : ℕ) (m n : map.FinMap nat_cmp (Unfinished (Tree C) K))
      → ((q : ℕ) → option_map (λ (t : Unfinished (Tree C) K). t.asked) (map.get m q) ≡ option_map (λ (t : Unfinished (Tree C) K). t.asked) (map.get n q))
      → asked_among number (map.entries m) ≡ asked_among number (map.entries n)
  asked_same number m n same =
      let of : Unfinished (Tree C) K → Option ℕ = λ t. t.asked in
      let maps : each_value of m ≡ each_value of n = same_maps (each_value of m) (each_value of n) (λ q. get_each_value of m q ∙ same q ∙ sym (get_each_value of n q)) in
      asked_search number (map.entries m)
      ∙ ap (asked_in number) (sym (entries_replaced of m) ∙ ap map.entries maps ∙ entries_replaced of n)
      ∙ sym (asked_search number (map.entries n))

  -- what a goal hangs on: the kind and the inputs
  record Asks : Type 0 where
    pub kind : K
    pub inputs : List (Input (Tree C))

  abbrev asks_what : Unfinished (Tree C) K → Asks
  asks_what t = record { kind = t.kind; inputs = t.inputs }

  goal_of_what : (ℕ → Tree C) → Option Asks → Tree C
  goal_of_what goals None = Nothing
  goal_of_what goals (Some what) = lib.goal what.kind (each (read_input goals) what.inputs)

  goal_what : (goals : ℕ → Tree C) (o : Option (Unfinished (Tree C) K)) → goal_from lib goals o ≡ goal_of_what goals (option_map asks_what o)
  unfolding goal_of_what
  goal_what goals None = refl
  goal_what goals (Some t) = refl

  pub goals_same : (depth : ℕ) (g h : Graph (Tree C) K) → ((q : ℕ) → option_map asks_what (task_at g q) ≡ option_map asks_what (task_at h q))
      → (q : ℕ) → goal_within lib depth g q ≡ goal_within lib depth h q
  goals_same zero g h same q = refl
  goals_same (suc depth) g h same q =
      goal_what (goal_within lib depth g) (task_at g q)
      ∙ (λ i. goal_of_what (λ n. goals_same depth g h same n i) (same q i))
      ∙ sym (goal_what (goal_within lib depth h) (task_at h q))

  -- asks show alike where tasks do, but for who runs them
  pub asks_same : (drawn : ℕ) (names : NameState C) (g h : Graph (Tree C) K) (asks : map.FinMap nat_cmp (Ask (Unit {0}) Ref))
      → ((q : ℕ) → option_map asks_what (task_at g q) ≡ option_map asks_what (task_at h q))
      → ((q : ℕ) → option_map (λ (t : Unfinished (Tree C) K). t.asked) (task_at g q) ≡ option_map (λ (t : Unfinished (Tree C) K). t.asked) (task_at h q))
      → chosen (λ task ask. Some (ask_shown lib drawn names g ask)) asks ≡ chosen (λ task ask. Some (ask_shown lib drawn names h ask)) asks
  asks_same drawn names g h asks what asked =
      let goal_is = λ (number : ℕ) (o : Option Ref). one number o in
      λ i. chosen (λ task ask. Some (record {
        caller = ask.caller;
        number = ask.number;
        goal = goal_is ask.number ask.delivered i;
        delivered = option_map (tree_of names) ask.delivered;
      })) asks
    where
      one : (number : ℕ) (o : Option Ref) → goal_shown lib drawn names g number o ≡ goal_shown lib drawn names h number o
      one number None =
          ap (goal_within lib drawn g) (asked_same number g.tasks h.tasks asked) ∙ goals_same drawn g h what (asked_among number (map.entries h.tasks))
      one number (Some r) = refl

-- ---- Steps

-- what one change of a task leaves of all tasks
change_keeps : {X K Y : Type 0} (graph : Graph X K) (n : ℕ) (f : Unfinished X K → Unfinished X K) (part : Unfinished X K → Y) → ((t : Unfinished X K) → part (f t) ≡ part t)
    → (q : ℕ) → option_map part (task_at (with_task graph n f) q) ≡ option_map part (task_at graph q)
change_keeps graph n f part same q =
    elim (same_or_not q n) [
      | inl here ↦
          ap (λ k. option_map part (task_at (with_task graph n f) k)) here
          ∙ ap (option_map part) (changed_here graph n f)
          ∙ map_twice f part (task_at graph n)
          ∙ (λ i. option_map (λ t. same t i) (task_at graph n))
          ∙ ap (λ k. option_map part (task_at graph k)) (sym here)
      | inr apart ↦ ap (option_map part) (changed_other graph n q f apart)
    ]

pub awaiting_shown : {C : Type 0} (names : NameState C) (inputs : List (Input Ref)) → list_any is_awaiting (each (input_shown names) inputs) ≡ list_any is_awaiting inputs
awaiting_shown names [] = refl
awaiting_shown names (Known r ∷ inputs) = awaiting_shown names inputs
awaiting_shown names (Awaits task number ∷ inputs) = refl

module _ {C K : Type 0} (names : NameState C) (graph : Graph Ref K) where
  abbrev status_in : {X : Type 0} → Option (Unfinished X K) → TaskStatus
  status_in None = Unknown
  status_in (Some t) = status_of t

  status_is : {X : Type 0} (g : Graph X K) (q : ℕ) → status g q ≡ status_in (task_at g q)
  status_is {X} g q = go (task_at g q)
    where
      go : (o : Option (Unfinished X K)) → (elim o as (λ x. TaskStatus) [ None ↦ Unknown | Some task ↦ status_of task ]) ≡ status_in o
      go None = refl
      go (Some t) = refl

  shown_in : (o : Option (Unfinished Ref K)) → status_in (option_map (task_shown names) o) ≡ status_in o
  shown_in None = refl
  shown_in (Some t) = ap (λ b. cond b Waiting (cond (is_some t.runner) Running Ready)) (awaiting_shown names t.inputs)

  -- how far a task is hangs on no tree
  pub status_shown : (q : ℕ) → status (graph_shown names graph) q ≡ status graph q
  status_shown q = status_is (graph_shown names graph) q ∙ ap status_in (shown_at names graph q) ∙ shown_in (task_at graph q) ∙ sym (status_is graph q)

ready_only : (s : TaskStatus) → is_ready s ≡ true → s ≡ Ready
ready_only Unknown is = absurd (let clash : false ≡ true = is in cc)
ready_only Waiting is = absurd (let clash : false ≡ true = is in cc)
ready_only Ready is = refl
ready_only Running is = absurd (let clash : false ≡ true = is in cc)

pub not_true : (b : Bool) → not b ≡ true → b ≡ false
not_true true is = absurd (let clash : false ≡ true = is in cc)
not_true false is = refl

run_by : {K : Type 0} (worker : ℕ) (o : Option (Unfinished Ref K)) → is_run_by worker o ≡ true → (t : Unfinished Ref K) × (o ≡ Some t) × (t.runner ≡ Some worker)
run_by worker None is = absurd (let clash : false ≡ true = is in cc)
run_by worker (Some t) is = (t, refl, runs_it worker t.runner is)

-- an event that touches no names: a stop, a start, or a give-back
abbrev pub TouchesNoNames : {K : Type 0} → Event K → Type 0
TouchesNoNames (Register caller id children) = ⊥
TouchesNoNames (Copy caller from to) = ⊥
TouchesNoNames (Delete caller id) = ⊥
TouchesNoNames (AskEvent caller number kind inputs) = ⊥
TouchesNoNames (Collect caller number got) = ⊥
TouchesNoNames (Abandon caller) = ⊥
TouchesNoNames (Stop caller) = Unit {0}
TouchesNoNames (Start worker number) = Unit {0}
TouchesNoNames (GiveBack worker number) = Unit {0}
TouchesNoNames (Finish worker number chunks tasks result) = ⊥

module _ {C K : Type 0} (lib : Meanings C K) where
  -- a state where only tasks change, but for their kinds, inputs and what is asked of them
  graph_changed : (control : Control C (Unit {0}) K) (after : Graph Ref K) (final : Graph (Tree C) K) → graph_shown control.names after ≡ final
      → ((q : ℕ) → option_map (asks_what lib) (task_at final q) ≡ option_map (asks_what lib) (task_at (graph_shown control.names control.graph) q))
      → ((q : ℕ) → option_map (λ (t : Unfinished (Tree C) K). t.asked) (task_at final q) ≡ option_map (λ (t : Unfinished (Tree C) K). t.asked) (task_at (graph_shown control.names control.graph) q))
      → machine_of lib (record control { graph = after }) ≡ record (machine_of lib control) { graph = final }
  graph_changed control after final is what asked =
      let asks_are = (λ i. chosen (λ task ask. Some (ask_shown lib control.drawn control.names (is i) ask)) control.asks)
      ∙ asks_same lib control.drawn control.names final (graph_shown control.names control.graph) control.asks what asked in
      λ i. record {
        drawn = control.drawn;
        holdings = (machine_of lib control).holdings;
        asks = asks_are i;
        graph = is i;
      }

  tidied_same : (arity : C → ℕ) (control : Control C (Unit {0}) K) (after : Graph Ref K) → IsSound arity control.names → AreReached control.names
      → tidied (record control { graph = after }) ≡ record control { graph = after }
  tidied_same arity control after sound reached =
      ap (λ (n : NameState C). let c : Control C (Unit {0}) K = record control { names = n; graph = after } in c) (nothing_goes arity control.names sound reached)

  pub opening_stands : OpeningStands lib
  opening_stands =
      let graph_is : graph_shown no_names no_tasks ≡ no_tasks {X = Tree C} {K = K} = λ i. record { tasks = chosen_none {X = Unfinished Ref K} {Y = Unfinished (Tree C) K} (λ number task. Some (task_shown no_names task)) i; stopped = numbers.empty } in
      λ i. record {
        drawn = 0;
        holdings = chosen_none {X = IdRecord} {Y = Holding C} (held_shown {G = Unit {0}} map.empty no_names) i;
        asks = chosen_none {X = Ask (Unit {0}) Ref} {Y = Ask (Tree C) (Tree C)} (λ task ask. Some (ask_shown lib 0 no_names (graph_shown no_names no_tasks) ask)) i;
        graph = graph_is i;
      }

  stop_stands : (arity : C → ℕ) (control : Control C (Unit {0}) K) (caller : ℕ) → IsSound arity control.names → AreReached control.names
      → machine_of lib (tidied (record control { graph = with_stopped control.graph caller })) ≡ stopped (machine_of lib control) caller
  stop_stands arity control caller sound reached =
      ap (machine_of lib) (tidied_same arity control (with_stopped control.graph caller) sound reached)
      ∙ graph_changed control (with_stopped control.graph caller) (with_stopped (graph_shown control.names control.graph) caller) refl (λ q. refl) (λ q. refl)

  runner_stands : (arity : C → ℕ) (control : Control C (Unit {0}) K) (task : ℕ) (runner : Option ℕ) → IsSound arity control.names → AreReached control.names
      → machine_of lib (tidied (record control { graph = with_task control.graph task (λ t. record t { runner = runner }) }))
      ≡ record (machine_of lib control) { graph = with_task (graph_shown control.names control.graph) task (λ t. record t { runner = runner }) }
  runner_stands arity control task runner sound reached =
      let shown : Graph (Tree C) K = graph_shown control.names control.graph in
      let run_it : Unfinished (Tree C) K → Unfinished (Tree C) K = λ t. record t { runner = runner } in
      let run_ref : Unfinished Ref K → Unfinished Ref K = λ t. record t { runner = runner } in
      ap (machine_of lib) (tidied_same arity control (with_task control.graph task run_ref) sound reached)
      ∙ graph_changed control (with_task control.graph task run_ref) (with_task shown task run_it) (shown_changed control.names control.graph task run_ref run_it (λ t. refl))
      (change_keeps shown task run_it (asks_what lib) (λ t. refl)) (change_keeps shown task run_it (λ t. t.asked) (λ t. refl))

  pub ask_shown_has : (control : Control C (Unit {0}) K) (caller : ℕ) → has_ask control.asks caller ≡ true → has_ask (machine_of lib control).asks caller ≡ true
  ask_shown_has control caller is =
      let one = any_to (is_of caller) control.asks is in
      let shown : Ask (Tree C) (Tree C) = ask_shown lib control.drawn control.names (graph_shown control.names control.graph) one.1 in
      any_from (is_of caller) (machine_of lib control).asks one.0 shown (chosen_to (λ task ask. Some (ask_shown lib control.drawn control.names (graph_shown control.names control.graph) ask)) control.asks one.0 one.1 shown one.2 refl) one.3

  pub stands_still : (arity : C → ℕ) (plans : Plans K) (control : Control C (Unit {0}) K) (contents : List C) (event : Event K) → IsSound arity control.names → AreReached control.names
      → TouchesNoNames event → is_allowed plans (forgotten arity control) event ≡ true → IsStep lib arity (machine_of lib control) event (machine_of lib (tidied (effect_with control contents event)))
  stands_still arity plans control contents (Register caller id children) sound reached touches allowed = absurd touches
  stands_still arity plans control contents (Copy caller from to) sound reached touches allowed = absurd touches
  stands_still arity plans control contents (Delete caller id) sound reached touches allowed = absurd touches
  stands_still arity plans control contents (AskEvent caller task kind inputs) sound reached touches allowed = absurd touches
  stands_still arity plans control contents (Collect caller task got) sound reached touches allowed = absurd touches
  stands_still arity plans control contents (Abandon caller) sound reached touches allowed = absurd touches
  stands_still arity plans control contents (Stop caller) sound reached touches allowed =
      record {
        has_one = ask_shown_has control caller (both_left (has_ask control.asks caller) (not (is_stopped control.graph caller)) allowed);
        goes_on = not_true (is_stopped control.graph caller) (both_right (has_ask control.asks caller) (not (is_stopped control.graph caller)) allowed);
        after_is = stop_stands arity control caller sound reached;
      }
  stands_still arity plans control contents (Start worker task) sound reached touches allowed =
      record {
        ready = status_shown control.names control.graph task ∙ ready_only (status control.graph task) (both_left (is_ready (status control.graph task)) (runs_nothing (forgotten arity control) worker) allowed);
        idle = λ other runs.
            let was = mapped_from (task_shown control.names) (task_at control.graph other) runs.0 (sym (shown_at control.names control.graph other) ∙ runs.1) in
            let its : is_runner worker was.0.runner ≡ true = ap (is_runner worker) (ap (λ v. v.runner) (sym was.2) ∙ runs.2) ∙ test_same worker in
            let any = any_from (λ (t : Unfinished Ref K). is_runner worker t.runner) control.graph.tasks other was.0 was.1 its in
            let none = not_true (list_any (λ (t : Unfinished Ref K). is_runner worker t.runner) (map.values control.graph.tasks)) (both_right (is_ready (status control.graph task)) (runs_nothing (forgotten arity control) worker) allowed) in
            let clash : true ≡ false = sym any ∙ none in
            cc;
        after_is = runner_stands arity control task (Some worker) sound reached;
      }
  stands_still arity plans control contents (GiveBack worker task) sound reached touches allowed =
      let one = run_by worker (task_at control.graph task) allowed in
      record {
        runs = (task_shown control.names one.0, shown_at control.names control.graph task ∙ ap (option_map (task_shown control.names)) one.1, one.2);
        after_is = runner_stands arity control task None sound reached;
      }
  stands_still arity plans control contents (Finish worker task chunks tasks result) sound reached touches allowed = absurd touches
