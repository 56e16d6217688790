-- What is owed where a task is asked, and what hangs together then.
use Rattle.std.proofs.Common.{◌≡◌, ℕ, zero, suc, ◌+◌, ◌<◌, ◌≤◌, ◌⊎◌, Bool, true, false, cond, List, [], ◌∷◌, ◌++◌, map as each, drop, length, inl, inr, Option, None, Some, IsSome, is_some, refl, sym, ap, subst, ◌∙◌, arith}
use Rattle.std.specs.Prelude.{slice_get}
use Rattle.std.specs.Ordering.{nat_cmp}
use Rattle.std.specs.FinMap as map
use Rattle.cht_ids.specs.declared.refs.Ref.{Ref}
use Rattle.chunk_refs.specs.Room.{Contents as Names}
use Rattle.name_states.specs.declared.holder.Holder.TheVariants.{Task as ByTask}
use Rattle.name_states.specs.States.{NameState}
use Rattle.name_states.specs.Steps.{present, numbered, linked}
use Rattle.name_states.specs.Reached.{swept}
use Rattle.name_states.specs.Rules.{IsSound, AreReached}
use Rattle.name_states.proofs.Basics.{none_not_some, same_some, same_or_not, none_or_some, inserted_here, inserted_other, inserted_from}
use Rattle.name_states.proofs.SweptOnce.{nothing_goes}
use Rattle.task_states.specs.declared.states.Slot.{Slot}
use Rattle.task_states.specs.declared.states.Slot.TheVariants.{Known as KnownSlot, Awaits as AwaitsSlot}
use Rattle.task_states.specs.declared.states.Awaiter.{Awaiter}
use Rattle.task_states.specs.declared.states.Awaiter.TheVariants.{Input as AtInput, Asked}
use Rattle.task_states.specs.States.{Input, Known, Awaits, Unfinished, Graph, task_at, input_at, is_stopped}
use Rattle.task_states.specs.Steps.{added, with_asked}
use Rattle.task_states.specs.Awaiters.{IsNotAwaited, IsFree, IsAwaiter, number_of}
use Rattle.task_graph.specs.Contents.{inputs_given, AreOf, AreFree}
use Rattle.cht_history.specs.History.{History}
use Rattle.cht_history.specs.declared.event.Event.{Event}
use Rattle.cht_history.specs.declared.event.Event.TheVariants.{Ask as AskEvent}
use Rattle.name_machine.specs.States.{Ask, has_ask}
use Rattle.name_machine.specs.Control.{Control}
use Rattle.name_machine.specs.Standing.{IsOrderly}
use Rattle.name_machine.proofs.Tasks.{changed_other, changed_from}
use Rattle.core_state.specs.AskTable.{AskTable}
use Rattle.core_state.specs.Contents.{after_event}
use Rattle.core_steps.specs.Conditions.{HangsTogether}
use Rattle.core_state.specs.Needed.{due_for_id, due_for_ask, due_for_caller, total_by, total_below}
use Rattle.core_state.specs.Inside.{contents_of, IsKept}
use Rattle.core_state.proofs.Totals.{total_inserted, below_but_one}
use Rattle.core_state.proofs.Needs.{present_few, due_linked, more_events}
use Rattle.core_state.proofs.Stopped.{due_at}
use Rattle.core_state.proofs.Collected.{same_has, has_one}

-- ---- Inputs that are all known

known_at : (refs : List Ref) (place awaited number : ℕ) → slice_get {X = Input Ref} (each Known refs) place ≡ Some (Awaits awaited number) → ⊥
known_at [] place awaited number is = none_not_some refl is
known_at (r ∷ refs) zero awaited number is = let clash : ◌≡◌ {A = Input Ref} (Known r) (Awaits awaited number) = same_some (Known r) (Awaits awaited number) is in cc
known_at (r ∷ refs) (suc place) awaited number is = known_at refs place awaited number is

module _ {K : Type 0} (graph : Graph Ref K) (caller : ℕ) where
  -- they await no task
  pub known_of : (slots : List Slot) (refs : List Ref) → inputs_given slots ≡ each Known refs → AreOf graph caller slots × AreFree graph slots
  known_of [] refs is = (tt, tt)
  known_of (KnownSlot r ∷ slots) [] is = absurd (let clash : length (inputs_given (KnownSlot r ∷ slots)) ≡ 0 = ap length is in omega arith)
  known_of (KnownSlot r ∷ slots) (s ∷ refs) is = known_of slots refs (ap (drop 1) is)
  known_of (AwaitsSlot task number ∷ slots) [] is = absurd (let clash : length (inputs_given (AwaitsSlot task number ∷ slots)) ≡ 0 = ap length is in omega arith)
  known_of (AwaitsSlot task number ∷ slots) (s ∷ refs) is =
      absurd (known_at (s ∷ refs) 0 task number (sym (ap (λ xs. slice_get xs 0) is)))

-- a task that was added is there
pub there_now : {K : Type 0} (graph graph2 : Graph Ref K) (task caller : ℕ) (kind : K) (known : List (Input Ref)) → graph2 ≡ added graph task caller kind known → IsSome (task_at graph2 task)
there_now {K} graph graph2 task caller kind known is =
    let new : Unfinished Ref K = record { caller = caller; kind = kind; inputs = known; runner = None; asked = None } in
    ap (λ (gr : Graph Ref K). is_some (task_at gr task)) is ∙ ap is_some (inserted_here graph.tasks task task new new refl refl)

-- ---- The numbers are new

module _ {C K : Type 0} (arity : C → ℕ) (control : Control C (Unit {0}) K) (orderly : IsOrderly arity control) (together : HangsTogether control) (caller : ℕ) (kind : K) (refs : List Ref)
    (task : ℕ) (task_is : task ≡ control.drawn + 1) where
  pub no_task : task_at control.graph task ≡ None
  no_task =
      elim (none_or_some (task_at control.graph task)) [
        | inl none ↦ none
        | inr some ↦ absurd (let low = together.tasks_drawn task some.0 some.1 in omega arith)
      ]

  pub no_ask_yet : map.get control.asks task ≡ None
  no_ask_yet =
      elim (none_or_some (map.get control.asks task)) [
        | inl none ↦ none
        | inr some ↦ absurd (let low = together.asks_drawn task some.0 some.1 in omega arith)
      ]

  -- the number of no output is as high
  pub no_output_yet : (number : ℕ) → control.drawn < number → (key : ℕ) (ask : Ask (Unit {0}) Ref) → map.get control.asks key ≡ Some ask → ask.number ≡ number → ⊥
  no_output_yet number high key ask is same = let low = orderly.aside.drawn key ask is in omega arith

  abbrev bare : Unfinished Ref K
  bare = record { caller = caller; kind = kind; inputs = each Known refs; runner = None; asked = None }

  abbrev more : Graph Ref K
  more = added control.graph task caller kind (each Known refs)

  more_here : (q : ℕ) → q ≡ task → task_at more q ≡ Some bare
  more_here q same = inserted_here control.graph.tasks task q bare bare same refl

  more_other : (q : ℕ) → (q ≡ task → ⊥) → task_at more q ≡ task_at control.graph q
  more_other q apart = inserted_other control.graph.tasks task q bare apart

  input_from : (of place awaited number : ℕ) → input_at more of place ≡ Some (Awaits awaited number) → input_at control.graph of place ≡ Some (Awaits awaited number)
  input_from of place awaited number is =
      elim (same_or_not of task) [
        | inl same ↦ absurd (known_at refs place awaited number (sym (ap (λ o. elim o [ None ↦ None | Some u ↦ slice_get u.inputs place ]) (more_here of same)) ∙ is))
        | inr apart ↦ sym (ap (λ o. elim o [ None ↦ None | Some u ↦ slice_get u.inputs place ]) (more_other of apart)) ∙ is
      ]

  behind : (o : Option (Unfinished Ref K)) (place : ℕ) (x : Input Ref) → elim o [ None ↦ None | Some u ↦ slice_get u.inputs place ] ≡ Some x
      → (u : Unfinished Ref K) × (o ≡ Some u)
  behind None place x is = absurd (none_not_some refl is)
  behind (Some u) place x is = (u, refl)

  awaiter_not : (awaiter : Awaiter) → IsAwaiter more task awaiter → ⊥
  awaiter_not (AtInput of place number) is =
      let old = input_from of place task number is in
      let by = behind (task_at control.graph of) place (Awaits task number) old in
      let there = together.own of task by.0 by.1 (place, number, old) in
      none_not_some no_task there.1
  awaiter_not (Asked other number) is =
      none_not_some (ap (λ (u : Unfinished Ref K). u.asked) (same_some is.unfinished bare (sym is.there ∙ more_here task refl))) is.number_is

  number_not : (number : ℕ) → control.drawn < number → (of : ℕ) (awaiter : Awaiter) → IsAwaiter more of awaiter → number_of awaiter ≡ number → ⊥
  number_not number high of (AtInput by place other) is same =
      let low = (orderly.aside.inputs other (by, place, of, input_from by place of other is)).0 in
      omega arith
  number_not number high of (Asked other that) is same =
      elim (same_or_not of task) [
        | inl here ↦ none_not_some (ap (λ (u : Unfinished Ref K). u.asked) (same_some is.unfinished bare (sym is.there ∙ more_here of here))) is.number_is
        | inr apart ↦
            let ask = together.asked of that is.unfinished (sym (more_other of apart) ∙ is.there) is.number_is in
            let low = orderly.aside.drawn ask.0 ask.1 ask.2 in
            let under = ask.4 in
            omega arith
      ]

  -- nobody awaits the new task, and nothing awaits under a number that is as high
  pub not_awaited : (graph : Graph Ref K) → graph ≡ more → IsNotAwaited graph task
  not_awaited graph is = subst (λ g. IsNotAwaited g task) (sym is) awaiter_not

  pub free_number : (graph : Graph Ref K) (number : ℕ) → graph ≡ more → control.drawn < number → IsFree graph number
  free_number graph number is high = subst (λ g. IsFree g number) (sym is) (number_not number high)

at_most : (b : Bool) → cond b 2 4 ≤ 4
at_most true = omega arith
at_most false = omega arith

-- ---- What hangs together then

module _ {C K : Type 0} (drawn : ℕ) (names : Names C) (table : AskTable) (graph : Graph Ref K) (history : History K) (callers : ℕ) (running : List (Option ℕ)) (owed : ℕ)
    (kept : IsKept drawn names table graph history callers running owed) where
  -- more room
  pub room_kept : (names2 : Names C) (table2 : AskTable) (graph2 : Graph Ref K) (history2 : History K) → names2.names ≡ names.names → length names2.room.bodies ≡ length names.room.bodies
      → table2.asks ≡ table.asks → length table2.rooms ≡ length table.rooms → graph2 ≡ graph → history2.events ≡ history.events → history.spare ≤ history2.spare
      → IsKept drawn names2 table2 graph2 history2 callers running owed
  room_kept names2 table2 graph2 history2 names_is stores asks_is rooms graph_is events spare =
      let ids : total_by due_for_id names2.names.ids ≡ total_by due_for_id names.names.ids = ap (λ (n : NameState C). total_by due_for_id n.ids) names_is in
      let asked : total_by due_for_ask table2.asks ≡ total_by due_for_ask table.asks = ap (total_by due_for_ask) asks_is in
      let shares : total_below callers (due_for_caller table2.asks (is_stopped graph)) ≡ total_below callers (due_for_caller table.asks (is_stopped graph)) =
      ap (λ (m : map.FinMap nat_cmp (Ask (Unit {0}) Ref)). total_below callers (due_for_caller m (is_stopped graph))) asks_is in
      let long : length history2.events ≡ length history.events = ap length events in
      subst (λ (gr : Graph Ref K). IsKept drawn names2 table2 gr history2 callers running owed) (sym graph_is)
      (record {
        few_callers = kept.few_callers;
        few_workers = kept.few_workers;
        some_worker = kept.some_worker;
        stores = stores ∙ kept.stores;
        lists = rooms ∙ kept.lists;
        tasks = kept.tasks;
        asks = λ q a is. kept.asks q a (sym (ap (λ (m : map.FinMap nat_cmp (Ask (Unit {0}) Ref)). map.get m q) asks_is) ∙ is);
        run = kept.run;
        few = let few = kept.few in omega arith;
        room = let room = kept.room in omega arith;
        enough = let was = kept.enough in omega arith;
      })

  module _ (caller task number : ℕ) (kind : K) (known : List (Input Ref)) (within : caller < callers) (goes : is_stopped graph caller ≡ false)
      (no_task : task_at graph task ≡ None) (no_ask : map.get table.asks task ≡ None) where
    abbrev new_ask : Ask (Unit {0}) Ref
    new_ask = record { caller = caller; number = number; goal = tt; delivered = None }

    abbrev asks_more : map.FinMap nat_cmp (Ask (Unit {0}) Ref)
    asks_more = map.insert table.asks task new_ask

    abbrev new_task : Unfinished Ref K
    new_task = record { caller = caller; kind = kind; inputs = known; runner = None; asked = None }

    abbrev graph_more : Graph Ref K
    graph_more = with_asked (added graph task caller kind known) task number

    others : (q : ℕ) → (q ≡ caller → ⊥) → has_ask asks_more q ≡ has_ask table.asks q
    others q apart =
        same_has asks_more table.asks q
        (λ k a is of. elim (inserted_from table.asks task k new_ask a is) [
          | inl here ↦ absurd (apart (sym of ∙ ap (λ (x : Ask (Unit {0}) Ref). x.caller) here.1))
          | inr other ↦ other.1
        ])
        (λ k a is of. inserted_other table.asks task k new_ask (λ same. none_not_some no_ask (ap (map.get table.asks) (sym same) ∙ is)) ∙ is)

    has_now : has_ask asks_more caller ≡ true
    has_now = has_one asks_more task new_ask caller (inserted_here table.asks task task new_ask new_ask refl refl) refl

    due : (b : Bool) → has_ask table.asks caller ≡ b
        → total_by due_for_ask asks_more + total_below callers (due_for_caller asks_more (is_stopped graph))
        ≡ total_by due_for_ask table.asks + total_below callers (due_for_caller table.asks (is_stopped graph)) + cond b 2 4
    due true has =
        let one = total_inserted due_for_ask table.asks task new_ask no_ask in
        let before = due_at table.asks (is_stopped graph) caller false has goes in
        let after = due_at asks_more (is_stopped graph) caller false has_now goes in
        let all = below_but_one callers (due_for_caller asks_more (is_stopped graph)) (due_for_caller table.asks (is_stopped graph)) caller within
        (λ q apart. ap (λ b. cond b (cond (is_stopped graph q) 1 2) 0) (others q apart)) in
        omega arith
    due false has =
        let one = total_inserted due_for_ask table.asks task new_ask no_ask in
        let before : due_for_caller table.asks (is_stopped graph) caller ≡ 0 = ap (λ x. cond x (cond (is_stopped graph caller) 1 2) 0) has in
        let after = due_at asks_more (is_stopped graph) caller false has_now goes in
        let all = below_but_one callers (due_for_caller asks_more (is_stopped graph)) (due_for_caller table.asks (is_stopped graph)) caller within
        (λ q apart. ap (λ b. cond b (cond (is_stopped graph q) 1 2) 0) (others q apart)) in
        omega arith

    -- a task that is there then is the new one, or was there
    task_from : (q : ℕ) (u : Unfinished Ref K) → task_at graph_more q ≡ Some u
        → ((u.runner ≡ None) × (u.caller ≡ caller)) ⊎ ((v : Unfinished Ref K) × (task_at graph q ≡ Some v) × (u.runner ≡ v.runner) × (u.caller ≡ v.caller))
    task_from q u is =
        let was = changed_from (added graph task caller kind known) task q (λ unfinished. record unfinished { asked = Some number }) u is in
        let runner : u.runner ≡ was.0.runner = elim was.2 [ inl here ↦ ap (λ (x : Unfinished Ref K). x.runner) here.1 | inr other ↦ ap (λ (x : Unfinished Ref K). x.runner) other.1 ] in
        let whose : u.caller ≡ was.0.caller = elim was.2 [ inl here ↦ ap (λ (x : Unfinished Ref K). x.caller) here.1 | inr other ↦ ap (λ (x : Unfinished Ref K). x.caller) other.1 ] in
        elim (inserted_from graph.tasks task q new_task was.0 was.1) [
          | inl here ↦ inl (runner ∙ ap (λ (x : Unfinished Ref K). x.runner) here.1, whose ∙ ap (λ (x : Unfinished Ref K). x.caller) here.1)
          | inr other ↦ inr (was.0, other.1, runner, whose)
        ]

    task_stays : (q : ℕ) (v : Unfinished Ref K) → task_at graph q ≡ Some v → task_at graph_more q ≡ Some v
    task_stays q v is =
        let apart : q ≡ task → ⊥ = λ same. none_not_some no_task (ap (task_at graph) (sym same) ∙ is) in
        changed_other (added graph task caller kind known) task q (λ unfinished. record unfinished { asked = Some number }) apart
        ∙ inserted_other graph.tasks task q new_task apart
        ∙ is

    pub asked_kept : (b : Bool) (drawn2 : ℕ) (names2 : Names C) (table2 : AskTable) (graph2 : Graph Ref K) (history2 : History K) (spare more : ℕ) (inputs : List Ref) (event : Event K)
        → has_ask table.asks caller ≡ b → more ≡ cond b 2 4 → length inputs ≤ 4 → drawn2 ≡ drawn + 2 + present inputs
        → names2.names ≡ linked names.names task (ByTask task) inputs → length names2.room.bodies ≡ length names.room.bodies
        → table2.asks ≡ asks_more → length table2.rooms ≡ length table.rooms → graph2 ≡ graph_more
        → owed + 5 ≤ spare → history2.spare + 1 ≡ spare → history2.events ≡ history.events ++ event ∷ []
        → IsKept drawn2 names2 table2 graph2 history2 callers running (owed + more)
    asked_kept b drawn2 names2 table2 graph2 history2 spare more inputs event has more_is four drawn_is names_is stores asks_is rooms graph_is room left events =
        let few = present_few inputs in
        let low : cond b 2 4 ≤ 4 = at_most b in
        let held = due_linked names.names task (ByTask task) inputs refl in
        let ids : total_by due_for_id names2.names.ids ≡ total_by due_for_id (linked names.names task (ByTask task) inputs).ids = ap (λ (n : NameState C). total_by due_for_id n.ids) names_is in
        let owes = due b has in
        let asked : total_by due_for_ask table2.asks ≡ total_by due_for_ask asks_more = ap (total_by due_for_ask) asks_is in
        let shares : total_below callers (due_for_caller table2.asks (is_stopped graph)) ≡ total_below callers (due_for_caller asks_more (is_stopped graph)) =
        ap (λ (m : map.FinMap nat_cmp (Ask (Unit {0}) Ref)). total_below callers (due_for_caller m (is_stopped graph))) asks_is in
        subst (λ (gr : Graph Ref K). IsKept drawn2 names2 table2 gr history2 callers running (owed + more)) (sym graph_is)
        (record {
          few_callers = kept.few_callers;
          few_workers = kept.few_workers;
          some_worker = kept.some_worker;
          stores = stores ∙ kept.stores;
          lists = rooms ∙ kept.lists;
          tasks = λ q u is. elim (task_from q u is) [
            | inl new ↦ subst (λ n. n < callers) (sym new.1) within
            | inr old ↦ subst (λ n. n < callers) (sym old.3) (kept.tasks q old.0 old.1)
          ];
          asks = λ q a is. elim (inserted_from table.asks task q new_ask a (sym (ap (λ (m : map.FinMap nat_cmp (Ask (Unit {0}) Ref)). map.get m q) asks_is) ∙ is)) [
            | inl new ↦ subst (λ n. n < callers) (sym (ap (λ (x : Ask (Unit {0}) Ref). x.caller) new.1)) within
            | inr old ↦ kept.asks q a old.1
          ];
          run = record {
            runner = λ q w u is runs. elim (task_from q u is) [
              | inl new ↦ absurd (none_not_some new.0 runs)
              | inr old ↦ kept.run.runner q w old.0 old.1 (sym old.2 ∙ runs)
            ];
            task = λ w q is. let old = kept.run.task w q is in (old.0, task_stays q old.0 old.1, old.2);
          };
          few = more_events drawn names table graph history callers running owed kept history2 event 6 drawn2 events (omega arith) (omega arith);
          room = omega arith;
          enough = let was = kept.enough in omega arith;
        })

-- ---- What the control state is then

module _ {C K : Type 0} (drawn drawn2 : ℕ) (names names2 : Names C) (table table2 : AskTable) (graph graph2 : Graph Ref K) (history history2 : History K) (callers : ℕ) (running : List (Option ℕ)) where
  all_is : (drawn3 : ℕ) (names3 : NameState C) (asks3 : map.FinMap nat_cmp (Ask (Unit {0}) Ref)) (graph3 : Graph Ref K) (event : Event K)
      → drawn2 ≡ drawn3 → names2.names ≡ names3 → table2.asks ≡ asks3 → graph2 ≡ graph3 → history2.events ≡ history.events ++ event ∷ []
      → contents_of drawn2 names2 table2 graph2 history2 callers running
      ≡ record {
        control = record { drawn = drawn3; names = names3; asks = asks3; graph = graph3 };
        events = history.events ++ event ∷ [];
        callers = callers;
        workers = length running;
      }
  all_is drawn3 names3 asks3 graph3 event drawn_is names_is asks_is graph_is events = cc

  pub asked_is : (arity : C → ℕ) (caller task number : ℕ) (kind : K) (inputs : List Ref) (known : List (Input Ref)) → task ≡ drawn + 1 → number ≡ drawn + 2 + present inputs
      → drawn2 ≡ number → names2.names ≡ linked names.names task (ByTask task) inputs → IsSound arity names2.names → AreReached names2.names
      → table2.asks ≡ map.insert table.asks task (record { caller = caller; number = number; goal = tt; delivered = None })
      → known ≡ each Known (numbered task inputs) → graph2 ≡ with_asked (added graph task caller kind known) task number
      → history2.events ≡ history.events ++ AskEvent caller task kind inputs ∷ []
      → contents_of drawn2 names2 table2 graph2 history2 callers running
      ≡ after_event (contents_of drawn names table graph history callers running) [] (AskEvent caller task kind inputs)
  asked_is arity caller task number kind inputs known task_is number_is drawn_is names_is sound reached asks_is known_is graph_is events =
      let one : ℕ = drawn + 1 in
      let out : ℕ = drawn + 2 + present inputs in
      let asks_then : ℕ → ℕ → map.FinMap nat_cmp (Ask (Unit {0}) Ref) = λ t n. map.insert table.asks t (record { caller = caller; number = n; goal = tt; delivered = None }) in
      let graph_then : List (Input Ref) → ℕ → ℕ → Graph Ref K = λ k t n. with_asked (added graph t caller kind k) t n in
      all_is out (swept (linked names.names one (ByTask one) inputs)) (asks_then one out) (graph_then (each Known (numbered one inputs)) one out) (AskEvent caller task kind inputs)
      (drawn_is ∙ number_is)
      (sym (nothing_goes arity names2.names sound reached) ∙ ap swept (names_is ∙ ap (λ t. linked names.names t (ByTask t) inputs) task_is))
      (asks_is ∙ ap (λ t. asks_then t number) task_is ∙ ap (asks_then one) number_is)
      (graph_is ∙ ap (λ k. graph_then k task number) known_is ∙ ap (λ t. graph_then (each Known (numbered t inputs)) t number) task_is ∙ ap (graph_then (each Known (numbered one inputs)) one) number_is)
      events
