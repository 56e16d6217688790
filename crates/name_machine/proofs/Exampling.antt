-- A replay takes the eleven events: each state on the way is made of lists.
use Rattle.std.proofs.Common.{◌≡◌, ℕ, ◌+◌, Bool, true, false, cond, not, ◌&&◌, nat_cmp, List, [], ◌∷◌, map as each, Option, None, Some, refl, ap, ◌∙◌}
use Rattle.std.specs.Prelude.{◌++◌, ◌==◌}
use Rattle.std.specs.Option.{option_map, option_and_then}
use Rattle.std.specs.List.{list_any, flat_map}
use Rattle.std.specs.FinMap as map
use Rattle.std.specs.FinMap.{find}
use Rattle.std.specs.FinSet as numbers
use Rattle.cht_ids.specs.declared.refs.Id.{Id}
use Rattle.cht_ids.specs.declared.refs.Ref.{Ref}
use Rattle.cht_ids.specs.declared.refs.Ref.TheVariants.{Null, Id as Held}
use Rattle.task_types.specs.declared.outcome.Place.TheVariants.{Chunk}
use Rattle.task_types.specs.Presence.{Presence, Absent, Present}
use Rattle.task_types.specs.Places.{shape_from}
use Rattle.task_types.specs.Deciding.{is_one_of}
use Rattle.name_states.specs.declared.holder.Holder.{Holder}
use Rattle.name_states.specs.declared.holder.Holder.TheVariants.{Caller, Task}
use Rattle.name_states.specs.States.{NameState, IdRecord, BodyRecord, owned_by, body_named, children_in}
use Rattle.name_states.specs.Steps.{numbered, copied}
use Rattle.task_states.specs.declared.states.TaskStatus.{TaskStatus}
use Rattle.task_states.specs.declared.states.TaskStatus.TheVariants.{Unknown}
use Rattle.task_states.specs.Maps.{each_changed, put_at}
use Rattle.task_states.specs.States.{Known, Unfinished, Graph, task_at, status_of, is_stopped}
use Rattle.task_states.specs.Steps.{settled, with_task}
use Rattle.cht_history.specs.declared.event.Event.{Event}
use Rattle.cht_history.specs.declared.event.Event.TheVariants.{Register, Copy, Delete, Ask as AskEvent, Collect, Start, GiveBack, Finish}
use Rattle.name_machine.specs.States.{Ask}
use Rattle.name_machine.specs.Control.{tidied, ref_at, with_number, ref_known, is_uncollected, is_held_by, answered_with, numbers_awaiting, asked_numbers, copies_of, settled_to, without_task, after_finish}
use Rattle.name_machine.specs.Replay.{Plans, Replayed, is_held, is_caller, is_ready, is_runner, is_run_by, is_callers, is_mine, presence_of_ref, is_delivered, is_finish, is_allowed, effect, happens, replay_from}
use Rattle.name_machine.specs.Example.{id, childless, example_events, TakesExample}
use Rattle.name_machine.proofs.Listed.{made, in_order, made_entries, made_get, only, made_only, but, made_but, each_entry, made_each, onto_list, made_put, nm, copied_listed, copied_same, left_ids, left_bodies, swept_same}

abbrev Asks : Type 0
Asks = List (ℕ × Ask (Unit {0}) Ref)

-- a state of a replay in lists
record Listed (K : Type 0) : Type 0 where
  pub drawn : ℕ
  pub ids : List (ℕ × IdRecord)
  pub bodies : List (ℕ × BodyRecord ℕ)
  pub asks : Asks
  pub tasks : List (ℕ × Unfinished Ref K)

abbrev callers_listed : Asks → ℕ → Id → Option IdRecord → Bool
callers_listed asks caller at None = false
callers_listed asks caller at (Some entry) =
    is_caller caller entry.holder && not (list_any (is_uncollected caller at.number) (each (λ e. e.1) (in_order asks)))

-- what is known of a reference
abbrev body_listed : List (ℕ × BodyRecord ℕ) → Option IdRecord → Option (BodyRecord ℕ)
body_listed bodies None = None
body_listed bodies (Some entry) = find nat_cmp entry.body bodies

abbrev children_listed : List (ℕ × IdRecord) → List (ℕ × BodyRecord ℕ) → Id → List Ref
children_listed ids bodies at = children_in (body_listed bodies (owned_by at.owner (find nat_cmp at.number ids)))

abbrev presence_by : List Ref → Presence
presence_by children = Present (is_held (ref_at children 0)) (is_held (ref_at children 1)) (is_held (ref_at children 2)) (is_held (ref_at children 3))

abbrev presence_listed : List (ℕ × IdRecord) → List (ℕ × BodyRecord ℕ) → Ref → Presence
presence_listed ids bodies Null = Absent
presence_listed ids bodies (Held at) = presence_by (children_listed ids bodies at)

body_same : (ids : List (ℕ × IdRecord)) (bodies : List (ℕ × BodyRecord ℕ)) (o : Option IdRecord) → body_named (nm ids bodies) o ≡ body_listed bodies o
body_same ids bodies None = refl
body_same ids bodies (Some entry) = made_get bodies entry.body

presence_same : (ids : List (ℕ × IdRecord)) (bodies : List (ℕ × BodyRecord ℕ)) (r : Ref) → presence_of_ref (nm ids bodies) r ≡ presence_listed ids bodies r
presence_same ids bodies Null = refl
presence_same ids bodies (Held at) =
    ap (λ o. presence_by (children_in (body_named (nm ids bodies) (owned_by at.owner o)))) (made_get ids at.number)
    ∙ ap (λ o. presence_by (children_in o)) (body_same ids bodies (owned_by at.owner (find nat_cmp at.number ids)))

-- copies for all that awaits
abbrev copies_listed : List (ℕ × IdRecord) → ℕ → List (ℕ × Holder) → List (ℕ × IdRecord)
copies_listed ids from [] = ids
copies_listed ids from (one ∷ more) = copies_listed (copied_listed ids from one.0 one.1) from more

copies_same : (ids : List (ℕ × IdRecord)) (bodies : List (ℕ × BodyRecord ℕ)) (at : Id) (all : List (ℕ × Holder))
    → copies_of (nm ids bodies) (Held at) all ≡ nm (copies_listed ids at.number all) bodies
copies_same ids bodies at [] = refl
copies_same ids bodies at (one ∷ more) =
    ap (λ (n : NameState ℕ). copies_of n (Held at) more) (copied_same ids bodies at.number one.0 one.1) ∙ copies_same (copied_listed ids at.number one.0 one.1) bodies at more

module _ {K : Type 0} where
  abbrev graph_of : List (ℕ × Unfinished Ref K) → Graph Ref K
  graph_of tasks = record { tasks = made tasks; stopped = numbers.empty }

  abbrev st : Listed K → Replayed K
  st l = record { drawn = l.drawn; names = nm l.ids l.bodies; asks = made l.asks; graph = graph_of l.tasks }

  abbrev tidy : Listed K → Listed K
  tidy l = record l { ids = left_ids l.ids l.bodies; bodies = left_bodies l.ids l.bodies }

  tidied_same : (l : Listed K) → tidied (st l) ≡ st (tidy l)
  tidied_same l = ap (λ (n : NameState ℕ). let c : Replayed K = record { drawn = l.drawn; names = n; asks = made l.asks; graph = graph_of l.tasks } in c) (swept_same l.ids l.bodies)

  none_stopped : (caller : ℕ) (tasks : List (ℕ × Unfinished Ref K)) → is_stopped (graph_of tasks) caller ≡ false
  none_stopped caller tasks = numbers.contains-empty nat_cmp caller

  -- ---- What a caller may mention

  abbrev mine_listed : Listed K → ℕ → Id → Bool
  mine_listed l caller at = callers_listed l.asks caller at (owned_by at.owner (find nat_cmp at.number l.ids))

  callers_same : (l : Listed K) (caller : ℕ) (at : Id) (o : Option IdRecord) → is_callers (st l) caller at o ≡ callers_listed l.asks caller at o
  callers_same l caller at None = refl
  callers_same l caller at (Some entry) =
      ap (λ es. is_caller caller entry.holder && not (list_any (is_uncollected caller at.number) (each (λ e. e.1) es))) (made_entries l.asks)

  mine_same : (l : Listed K) (caller : ℕ) (at : Id) → is_mine (st l) caller at ≡ mine_listed l caller at
  mine_same l caller at = ap (λ o. is_callers (st l) caller at (owned_by at.owner o)) (made_get l.ids at.number) ∙ callers_same l caller at (owned_by at.owner (find nat_cmp at.number l.ids))

  -- ---- Steps

  happened : (plans : Plans K) (l after : Listed K) (event : Event K) → is_allowed plans (st l) event ≡ true → effect (st l) event ≡ st after → happens plans (st l) event ≡ Some (st (tidy after))
  happened plans l after event allowed is =
      ap (λ b. cond b (Some (tidied (effect (st l) event))) None) allowed ∙ ap Some (ap tidied is ∙ tidied_same after)

  copies : (plans : Plans K) (l : Listed K) (caller : ℕ) (from to : Id)
      → (mine_listed l caller from && ((to.owner == from.owner) && (to.number == l.drawn + 1))) ≡ true
      → happens plans (st l) (Copy caller from to) ≡ Some (st (tidy (record l { drawn = l.drawn + 1; ids = copied_listed l.ids from.number (l.drawn + 1) (Caller caller) })))
  copies plans l caller from to allowed =
      happened plans l _ (Copy caller from to) (ap (λ b. b && ((to.owner == from.owner) && (to.number == l.drawn + 1))) (mine_same l caller from) ∙ allowed)
      (ap (λ (n : NameState ℕ). let c : Replayed K = record (st l) { drawn = l.drawn + 1; names = n } in c) (copied_same l.ids l.bodies from.number (l.drawn + 1) (Caller caller)))

  deletes : (plans : Plans K) (l : Listed K) (caller : ℕ) (at : Id) → mine_listed l caller at ≡ true
      → happens plans (st l) (Delete caller at) ≡ Some (st (tidy (record l { ids = but at.number l.ids })))
  deletes plans l caller at allowed =
      happened plans l _ (Delete caller at) (mine_same l caller at ∙ allowed)
      (ap (λ ids. let c : Replayed K = record (st l) { names = record { ids = ids; bodies = made l.bodies } } in c) (made_but at.number l.ids))

  -- ---- Tasks

  abbrev status_listed : Option (Unfinished Ref K) → TaskStatus
  status_listed o = elim o as (λ x. TaskStatus) [ None ↦ Unknown | Some task ↦ status_of task ]

  abbrev idle_listed : Listed K → ℕ → Bool
  idle_listed l worker = not (list_any (λ (task : Unfinished Ref K). is_runner worker task.runner) (each (λ e. e.1) (in_order l.tasks)))

  abbrev changed_listed : List (ℕ × Unfinished Ref K) → ℕ → (Unfinished Ref K → Unfinished Ref K) → List (ℕ × Unfinished Ref K)
  changed_listed tasks n f = onto_list tasks n (option_map f (find nat_cmp n tasks))

  changed_same : (tasks : List (ℕ × Unfinished Ref K)) (n : ℕ) (f : Unfinished Ref K → Unfinished Ref K) → with_task (graph_of tasks) n f ≡ graph_of (changed_listed tasks n f)
  changed_same tasks n f =
      ap (λ (ts : map.FinMap nat_cmp (Unfinished Ref K)). let g : Graph Ref K = record { tasks = ts; stopped = numbers.empty } in g)
      (ap (λ o. put_at (made tasks) n (option_map f o)) (made_get tasks n) ∙ made_put tasks n (option_map f (find nat_cmp n tasks)))

  graph_then : (l : Listed K) (g : Graph Ref K) (tasks : List (ℕ × Unfinished Ref K)) → g ≡ graph_of tasks → ◌≡◌ {A = Replayed K} (record (st l) { graph = g }) (st (record l { tasks = tasks }))
  graph_then l g tasks is = ap (λ (h : Graph Ref K). let c : Replayed K = record (st l) { graph = h } in c) is

  starts : (plans : Plans K) (l : Listed K) (worker task : ℕ) → (is_ready (status_listed (find nat_cmp task l.tasks)) && idle_listed l worker) ≡ true
      → happens plans (st l) (Start worker task) ≡ Some (st (tidy (record l { tasks = changed_listed l.tasks task (λ t. record t { runner = Some worker }) })))
  starts plans l worker task allowed =
      happened plans l _ (Start worker task)
      (ap (λ o. is_ready (status_listed o) && not (list_any (λ (t : Unfinished Ref K). is_runner worker t.runner) (map.values (made l.tasks)))) (made_get l.tasks task)
      ∙ ap (λ es. is_ready (status_listed (find nat_cmp task l.tasks)) && not (list_any (λ (t : Unfinished Ref K). is_runner worker t.runner) (each (λ e. e.1) es))) (made_entries l.tasks)
      ∙ allowed)
      (graph_then l _ (changed_listed l.tasks task (λ t. record t { runner = Some worker })) (changed_same l.tasks task (λ t. record t { runner = Some worker })))

  gives_back : (plans : Plans K) (l : Listed K) (worker task : ℕ) → is_run_by worker (find nat_cmp task l.tasks) ≡ true
      → happens plans (st l) (GiveBack worker task) ≡ Some (st (tidy (record l { tasks = changed_listed l.tasks task (λ t. record t { runner = None }) })))
  gives_back plans l worker task allowed =
      happened plans l _ (GiveBack worker task) (ap (is_run_by worker) (made_get l.tasks task) ∙ allowed)
      (graph_then l _ (changed_listed l.tasks task (λ t. record t { runner = None })) (changed_same l.tasks task (λ t. record t { runner = None })))

  -- ---- An ask on two identifiers

  abbrev task_more : Listed K → ℕ → K → List Ref → List (ℕ × Unfinished Ref K)
  task_more l caller kind own = (l.drawn + 1, record { caller = caller; kind = kind; inputs = each Known own; runner = None; asked = None }) ∷ l.tasks

  abbrev asked_listed : Listed K → ℕ → K → Id → Id → Listed K
  asked_listed l caller kind a b =
      record {
        drawn = l.drawn + 2 + 2;
        ids = copied_listed (copied_listed l.ids a.number (l.drawn + 1 + 1) (Task (l.drawn + 1))) b.number (l.drawn + 1 + 1 + 1) (Task (l.drawn + 1));
        bodies = l.bodies;
        asks = (l.drawn + 1, record { caller = caller; number = l.drawn + 2 + 2; goal = tt; delivered = None }) ∷ l.asks;
        tasks = changed_listed (task_more l caller kind (numbered (l.drawn + 1) (Held a ∷ Held b ∷ []))) (l.drawn + 1) (λ t. record t { asked = Some (l.drawn + 2 + 2) });
      }

  asks_two : (plans : Plans K) (l : Listed K) (caller task : ℕ) (kind : K) (a b : Id) → (mine_listed l caller a && (mine_listed l caller b && true)) ≡ true → (task == l.drawn + 1) ≡ true
      → happens plans (st l) (AskEvent caller task kind (Held a ∷ Held b ∷ [])) ≡ Some (st (tidy (asked_listed l caller kind a b)))
  asks_two plans l caller task kind a b mine next =
      let h : Holder = Task (l.drawn + 1) in
      let names_are = ap (λ (n : NameState ℕ). copied n b.number (l.drawn + 1 + 1 + 1) h) (copied_same l.ids l.bodies a.number (l.drawn + 1 + 1) h)
      ∙ copied_same (copied_listed l.ids a.number (l.drawn + 1 + 1) h) l.bodies b.number (l.drawn + 1 + 1 + 1) h in
      let graph_is = changed_same (task_more l caller kind (numbered (l.drawn + 1) (Held a ∷ Held b ∷ []))) (l.drawn + 1) (λ t. record t { asked = Some (l.drawn + 2 + 2) }) in
      happened plans l (asked_listed l caller kind a b) (AskEvent caller task kind (Held a ∷ Held b ∷ []))
      ((λ i. not (none_stopped caller l.tasks i) && (mine_same l caller a i && (mine_same l caller b i && true)) && (task == l.drawn + 1))
      ∙ (λ i. not false && mine i && next i))
      (λ i. record {
        drawn = l.drawn + 2 + 2;
        names = names_are i;
        asks = made ((l.drawn + 1, record { caller = caller; number = l.drawn + 2 + 2; goal = tt; delivered = None }) ∷ l.asks);
        graph = graph_is i;
      })

  -- ---- A finish with one chunk

  abbrev asked_by : Option (Unfinished Ref K) → Option ℕ
  asked_by o = elim o as (λ x. Option ℕ) [ None ↦ None | Some task ↦ task.asked ]

  abbrev awaiting_listed : List (ℕ × Unfinished Ref K) → ℕ → List (ℕ × Holder)
  awaiting_listed tasks task = flat_map (numbers_awaiting task) (in_order tasks) ++ asked_numbers (find nat_cmp task tasks)

  abbrev deliver : ℕ → Ref → Unfinished Ref K → Unfinished Ref K
  deliver task r t = record t { inputs = each (settled task (with_number r)) t.inputs }

  abbrev ask_no_more : Unfinished Ref K → Unfinished Ref K
  ask_no_more t = record t { asked = None }

  abbrev settled_listed : Listed K → ℕ → Id → Listed K
  settled_listed l task at =
      record l {
        ids = copies_listed l.ids at.number (awaiting_listed l.tasks task);
        asks = each_entry (answered_with (asked_by (find nat_cmp task l.tasks)) (Held at)) l.asks;
        tasks = changed_listed (each_entry (deliver task (Held at)) l.tasks) task ask_no_more;
      }

  settled_same : (l : Listed K) (task : ℕ) (at : Id) → settled_to (st l) task (Held at) ≡ st (settled_listed l task at)
  settled_same l task at =
      let names_are = (λ i. copies_of (nm l.ids l.bodies) (Held at) (flat_map (numbers_awaiting task) (made_entries l.tasks i) ++ asked_numbers (made_get l.tasks task i)))
      ∙ copies_same l.ids l.bodies at (awaiting_listed l.tasks task) in
      let asks_are = ap (λ o. each_changed (answered_with (asked_by o) (Held at)) (made l.asks)) (made_get l.tasks task)
      ∙ made_each (answered_with (asked_by (find nat_cmp task l.tasks)) (Held at)) l.asks in
      let graph_is = ap (λ (ts : map.FinMap nat_cmp (Unfinished Ref K)). let g : Graph Ref K = record { tasks = ts; stopped = numbers.empty } in with_task g task ask_no_more) (made_each (deliver task (Held at)) l.tasks)
      ∙ changed_same (each_entry (deliver task (Held at)) l.tasks) task ask_no_more in
      λ i. record { drawn = l.drawn; names = names_are i; asks = asks_are i; graph = graph_is i }

  abbrev without_listed : Listed K → ℕ → Listed K
  without_listed l task = record l { ids = only (λ n. not (is_held_by task n (find nat_cmp n l.ids))) l.ids; tasks = but task l.tasks }

  without_same : (l : Listed K) (task : ℕ) → without_task (st l) task ≡ st (without_listed l task)
  without_same l task =
      let ids_are = ap (map.retain_keys (made l.ids)) (λ i. λ n. not (is_held_by task n (made_get l.ids n i))) ∙ made_only (λ n. not (is_held_by task n (find nat_cmp n l.ids))) l.ids in
      let tasks_are = made_but task l.tasks in
      λ i. record {
        drawn = l.drawn;
        names = record { ids = ids_are i; bodies = made l.bodies };
        asks = made l.asks;
        graph = record { tasks = tasks_are i; stopped = numbers.empty };
      }

  -- the state with the one new chunk
  abbrev grown_listed : Listed K → ℕ → ℕ → Listed K
  grown_listed l worker task =
      record l {
        drawn = l.drawn + 2 + 0 + 0;
        ids = (l.drawn + 2, record { owner = worker; body = l.drawn + 1; holder = Task task }) ∷ l.ids;
        bodies = (l.drawn + 1, record { owner = worker; content = 0; children = [] }) ∷ l.bodies;
      }

  abbrev new_id : Listed K → ℕ → Id
  new_id l worker = record { owner = worker; number = l.drawn + 2 }

  abbrev finished_listed : Listed K → ℕ → ℕ → Listed K
  finished_listed l worker task = without_listed (settled_listed (grown_listed l worker task) task (new_id l worker)) task

  finishes : (plans : Plans K) (l : Listed K) (worker task : ℕ) (t : Unfinished Ref K) → find nat_cmp task l.tasks ≡ Some t → is_runner worker t.runner ≡ true
      → is_one_of plans.same (shape_from (childless ∷ []) [] (Chunk 0)) (plans.plan t.kind (each (λ input. presence_listed l.ids l.bodies (ref_known input)) t.inputs)) ≡ true
      → happens plans (st l) (Finish worker task (childless ∷ []) [] (Chunk 0)) ≡ Some (st (tidy (finished_listed l worker task)))
  finishes plans l worker task t there runs planned =
      let at : task_at (graph_of l.tasks) task ≡ Some t = made_get l.tasks task ∙ there in
      happened plans l (finished_listed l worker task) (Finish worker task (childless ∷ []) [] (Chunk 0))
      (ap (is_finish plans (st l) worker (childless ∷ []) [] (Chunk 0)) at
      ∙ (λ i. runs i && is_one_of plans.same (shape_from (childless ∷ []) [] (Chunk 0)) (plans.plan t.kind (each (λ input. presence_same l.ids l.bodies (ref_known input) i) t.inputs)))
      ∙ planned)
      (ap (after_finish (st l) worker task (0 ∷ []) (childless ∷ []) [] (Chunk 0)) at
      ∙ ap (λ (c : Replayed K). without_task c task) (settled_same (grown_listed l worker task) task (new_id l worker))
      ∙ without_same (settled_listed (grown_listed l worker task) task (new_id l worker)) task)

  -- ---- A collect

  collects : (plans : Plans K) (l : Listed K) (caller task : ℕ) (got : Ref) → is_delivered caller got (find nat_cmp task l.asks) ≡ true
      → happens plans (st l) (Collect caller task got) ≡ Some (st (tidy (record l { asks = but task l.asks })))
  collects plans l caller task got delivered =
      happened plans l _ (Collect caller task got)
      ((λ i. not (none_stopped caller l.tasks i) && is_delivered caller got (made_get l.asks task i)) ∙ delivered)
      (ap (λ asks. let c : Replayed K = record (st l) { asks = asks } in c) (made_but task l.asks))

  -- ---- All events

  -- each event happens after the one before it
  abbrev Takes : Plans K → Replayed K → List (Event K) → Replayed K → Type 0
  Takes plans control [] last = control ≡ last
  Takes plans control (event ∷ events) last = (next : Replayed K) × (happens plans control event ≡ Some next) × Takes plans next events last

  taken : (plans : Plans K) (control : Replayed K) (events : List (Event K)) (last : Replayed K) → Takes plans control events last → replay_from plans control events ≡ Some last
  taken plans control [] last is = ap Some is
  taken plans control (event ∷ events) last takes = ap (option_and_then (λ c. replay_from plans c events)) takes.1 ∙ taken plans takes.0 events last takes.2

  abbrev l0 : Listed K
  l0 = record { drawn = 0; ids = []; bodies = []; asks = []; tasks = [] }

  abbrev l1 : Listed K
  l1 = record {
    drawn = 2;
    ids = (2, record { owner = 0; body = 1; holder = Caller 0 }) ∷ [];
    bodies = (1, record { owner = 0; content = 0; children = [] }) ∷ [];
    asks = [];
    tasks = [];
  }

-- the states on the way, each after what is not reached went
module _ {K : Type 0} (kind : K) where
  abbrev l2 : Listed K
  l2 = tidy (record (tidy l1) { drawn = 3; ids = copied_listed (tidy {K = K} l1).ids 2 3 (Caller 0) })

  abbrev l3 : Listed K
  l3 = tidy (asked_listed l2 0 kind (id 0 2) (id 0 3))

  abbrev run_by : Listed K → Option ℕ → Listed K
  run_by l runner = tidy (record l { tasks = changed_listed l.tasks 4 (λ t. record t { runner = runner }) })

  abbrev l6 : Listed K
  l6 = run_by (run_by (run_by l3 (Some 1)) None) (Some 2)

  abbrev gone : Listed K → ℕ → Listed K
  gone l number = tidy (record l { ids = but number l.ids })

  abbrev l8 : Listed K
  l8 = gone (gone l6 2) 3

  abbrev l9 : Listed K
  l9 = tidy (finished_listed l8 2 4)

  abbrev l10 : Listed K
  l10 = tidy (record l9 { asks = but 4 l9.asks })

  -- the task as worker 2 runs it
  abbrev run_task : Unfinished Ref K
  run_task = record { caller = 0; kind = kind; inputs = Known (Held (id 0 5)) ∷ Known (Held (id 0 6)) ∷ []; runner = Some 2; asked = Some 7 }

pub takes_example : {K : Type 0} (plans : Plans K) → TakesExample plans
takes_example {K} plans kind planned =
    let begun : Listed K = run_by kind (l3 kind) (Some 1) in
    let back : Listed K = run_by kind begun None in
    let less : Listed K = gone kind (l6 kind) 2 in
    taken plans (st l0) (example_events kind) (st (gone kind (l10 kind) 7)) (
      st (tidy l1),
      happened plans l0 l1 (Register 0 (id 0 2) []) refl refl,
      (
        st (l2 kind),
        copies plans (tidy l1) 0 (id 0 2) (id 0 3) refl,
        (
          st (l3 kind),
          asks_two plans (l2 kind) 0 4 kind (id 0 2) (id 0 3) refl refl,
          (
            st begun,
            starts plans (l3 kind) 1 4 refl,
            (
              st back,
              gives_back plans begun 1 4 refl,
              (
                st (l6 kind),
                starts plans back 2 4 refl,
                (
                  st less,
                  deletes plans (l6 kind) 0 (id 0 2) refl,
                  (
                    st (l8 kind),
                    deletes plans less 0 (id 0 3) refl,
                    (
                      st (l9 kind),
                      finishes plans (l8 kind) 2 4 (run_task kind) refl refl planned,
                      (st (l10 kind), collects plans (l9 kind) 0 4 (Held (id 2 7)) refl, (st (gone kind (l10 kind) 7), deletes plans (l10 kind) 0 (id 2 7) refl, refl)),
                    ),
                  ),
                ),
              ),
            ),
          ),
        ),
      ),
    )
