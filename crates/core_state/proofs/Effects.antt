-- What the outcome of a task leaves, stage by stage.
use Rattle.std.proofs.Common.{◌≡◌, ◌↔◌, ℕ, ◌+◌, ◌≤◌, ◌⊎◌, List, [], ◌++◌, map as each, length, Some, refl, sym, ap, subst, ◌∙◌, arith, nat_cmp, nat_eq}
use Rattle.std.specs.List.{Contains, IsDistinct, filter}
use Rattle.std.specs.List.Sorted.{IsStrictlyIncreasing}
use Rattle.std.specs.FinMap as map
use Rattle.cht_ids.specs.declared.refs.Ref.{Ref}
use Rattle.cht_ids.specs.declared.refs.Ref.TheVariants.{Null as NullRef}
use Rattle.task_types.specs.declared.outcome.Place.{Place}
use Rattle.task_types.specs.declared.outcome.Place.TheVariants.{Null, Input as AtInput, Child, Chunk, Task}
use Rattle.task_types.specs.declared.outcome.NewChunk.{NewChunk}
use Rattle.task_types.specs.declared.outcome.Outcome.{Outcome}
use Rattle.std.proofs.lemmas.Bool.{ltb-true}
use Rattle.task_types.specs.Formed.{may_stand}
use Rattle.name_states.specs.States.{NameState, IsLiveRef}
use Rattle.name_states.specs.Reached.{swept}
use Rattle.task_states.specs.declared.states.TaskStatus.TheVariants.{Ready, Waiting}
use Rattle.name_states.proofs.Basics.{same_some}
use Rattle.std.specs.Option.{option_map}
use Rattle.task_states.specs.States.{Input, Unfinished, Graph, task_at, caller_of, status}
use Rattle.task_states.specs.Steps.{settled, redirected, forwarded, removed}
use Rattle.task_states.specs.Listing.{awaiters}
use Rattle.name_machine.specs.States.{Ask}
use Rattle.name_machine.specs.NewTasks.{drawn_by_tasks, task_numbers, number_at, with_tasks}
use Rattle.name_machine.specs.Control.{Control, Grown, is_held_by, without_ids, with_number, ref_named, task_copies, resolved_to, without_task, tidied, after_finish}
use Rattle.core_steps.specs.Begin.{CanFinish}
use Rattle.core_steps.specs.Conditions.{bodies_of, presences}
use Rattle.core_steps.specs.Delivered.{AreSetApart, IsNowReady}
use Rattle.core_steps.specs.Ending.{is_ready_in}
use Rattle.core_steps.specs.NewlyReady.{AreNewlyReady}
use Rattle.core_steps.specs.Registrable.{grown_so_far, all_grown}
use Rattle.core_steps.proofs.ReadyForTasks.{has_its_tasks}
use Rattle.core_steps.proofs.Course as course
use Rattle.core_steps.proofs.Awaited as awaited
use Rattle.core_steps.proofs.Handed.{HandsOn, IsHanded, settles, redirects, settled_hands, forwarded_hands, ready_stays, run_not_ready}
use Rattle.core_steps.proofs.EndOfFinish.{MayEnd, settled_may_end, forwarded_may_end}
use Rattle.core_steps.proofs.Newly.{count_numbers, new_distinct, new_not_waiting, newly}
use Rattle.core_state.specs.Effect.{control_of, CanForward}

module _ {C K : Type 0} (arity : C → ℕ) (control : Control C (Unit {0}) K) (worker task : ℕ) (ran : Unfinished Ref K) (outcome : Outcome C K)
    (can : CanFinish arity control worker task ran outcome) where
  abbrev inputs : List Ref
  inputs = awaited.inputs arity control worker task ran outcome can

  abbrev grown : Grown C
  grown = awaited.grown arity control worker task ran outcome can

  abbrev pub numbers : List ℕ
  numbers = awaited.numbers arity control worker task ran outcome can

  abbrev pub read : Place → Ref
  read = awaited.read arity control worker task ran outcome can

  abbrev pub tasked : Control C (Unit {0}) K
  tasked = awaited.tasked arity control worker task ran outcome can

  abbrev value : Place → ℕ → Ref
  value place number = with_number (read place) number

  -- ---- Once the new tasks are there

  -- names, numbers, tasks, the output and what the task holds are as the definitions say
  pub record IsTasked (names : NameState C) (drawn : ℕ) (graph : Graph Ref K) (found : List ℕ) (output : Ref) (held made : List Ref) : Type 0 where
    pub names_are : names ≡ tasked.names
    pub draws : drawn ≡ tasked.drawn
    pub graph_is : graph ≡ tasked.graph
    pub numbers_are : found ≡ numbers
    pub output_is : output ≡ read outcome.result
    pub held_are : held ≡ inputs
    pub made_are : made ≡ grown.chunks

  pub tasked_from : (held made : List Ref) (names1 : NameState C) (drawn1 : ℕ) (output : Ref) (names2 : NameState C) (drawn2 : ℕ) (graph2 : Graph Ref K) (found : List ℕ) (caller : ℕ)
      → held ≡ inputs
      → names1 ≡ (all_grown worker task held outcome.chunks (grown_so_far control.names control.drawn [])).names
      → drawn1 ≡ (all_grown worker task held outcome.chunks (grown_so_far control.names control.drawn [])).drawn
      → made ≡ (all_grown worker task held outcome.chunks (grown_so_far control.names control.drawn [])).chunks
      → output ≡ ref_named names1 held made outcome.result
      → names2 ≡ task_copies (ref_named names1 held made) drawn1 outcome.tasks names1
      → drawn2 ≡ drawn1 + drawn_by_tasks outcome.tasks
      → graph2 ≡ with_tasks (λ place number. with_number (ref_named names1 held made place) number) (task_numbers drawn1 outcome.tasks) caller drawn1 outcome.tasks control.graph
      → found ≡ task_numbers drawn1 outcome.tasks
      → caller ≡ ran.caller
      → IsTasked names2 drawn2 graph2 found output held made
  tasked_from held made names1 drawn1 output names2 drawn2 graph2 found caller held_is names1_is drawn1_is made_is output_is names2_is drawn2_is graph2_is found_is caller_is =
      let names_are : names1 ≡ grown.names = names1_is ∙ ap (λ h. (all_grown worker task h outcome.chunks (grown_so_far control.names control.drawn [])).names) held_is in
      let draws : drawn1 ≡ grown.drawn = drawn1_is ∙ ap (λ h. (all_grown worker task h outcome.chunks (grown_so_far control.names control.drawn [])).drawn) held_is in
      let made_are : made ≡ grown.chunks = made_is ∙ ap (λ h. (all_grown worker task h outcome.chunks (grown_so_far control.names control.drawn [])).chunks) held_is in
      let has = has_its_tasks arity control worker task ran outcome can names1 drawn1 made names_are draws made_are names2 drawn2 graph2 found
      (names2_is ∙ ap (λ h. task_copies (ref_named names1 h made) drawn1 outcome.tasks names1) held_is)
      drawn2_is
      (graph2_is ∙ (λ i. with_tasks (λ place number. with_number (ref_named names1 (held_is i) made place) number) (task_numbers drawn1 outcome.tasks) (caller_is i) drawn1 outcome.tasks control.graph))
      found_is in
      record {
        names_are = has.names_are;
        draws = has.draws;
        graph_is = has.graph_is;
        numbers_are = has.numbers_are;
        output_is = output_is ∙ (λ i. ref_named (names_are i) (held_is i) (made_are i) outcome.result);
        held_are = held_is;
        made_are = made_are;
      }

  -- no fewer numbers are drawn once the chunks are there
  pub grown_up : (held : List Ref) (drawn1 : ℕ) → held ≡ inputs → drawn1 ≡ (all_grown worker task held outcome.chunks (grown_so_far control.names control.drawn [])).drawn → control.drawn ≤ drawn1
  grown_up held drawn1 held_is drawn1_is =
      subst (λ d. control.drawn ≤ d) (sym (drawn1_is ∙ ap (λ h. (all_grown worker task h outcome.chunks (grown_so_far control.names control.drawn [])).drawn) held_is))
      (course.chunk_stage arity control worker task ran outcome can).up

  -- the same where the references are handed over as other lists, which are equal
  pub tasked_as : (held made h0 h1 m1 h2 m2 : List Ref) (names1 : NameState C) (drawn1 : ℕ) (output : Ref) (names2 : NameState C) (drawn2 : ℕ) (graph2 : Graph Ref K) (found : List ℕ) (caller : ℕ)
      → h0 ≡ held → h1 ≡ held → m1 ≡ made → h2 ≡ held → m2 ≡ made → held ≡ inputs
      → names1 ≡ (all_grown worker task h0 outcome.chunks (grown_so_far control.names control.drawn [])).names
      → drawn1 ≡ (all_grown worker task h0 outcome.chunks (grown_so_far control.names control.drawn [])).drawn
      → made ≡ (all_grown worker task h0 outcome.chunks (grown_so_far control.names control.drawn [])).chunks
      → output ≡ ref_named names1 h1 m1 outcome.result
      → names2 ≡ task_copies (ref_named names1 h2 m2) drawn1 outcome.tasks names1
      → drawn2 ≡ drawn1 + drawn_by_tasks outcome.tasks
      → graph2 ≡ with_tasks (λ place number. with_number (ref_named names1 h2 m2 place) number) (task_numbers drawn1 outcome.tasks) caller drawn1 outcome.tasks control.graph
      → found ≡ task_numbers drawn1 outcome.tasks
      → caller_of control.graph task ≡ Some caller
      → IsTasked names2 drawn2 graph2 found output held made
  tasked_as held made h0 h1 m1 h2 m2 names1 drawn1 output names2 drawn2 graph2 found caller h0_is h1_is m1_is h2_is m2_is held_is names1_is drawn1_is made_is output_is names2_is drawn2_is graph2_is found_is caller_is =
      tasked_from held made names1 drawn1 output names2 drawn2 graph2 found caller held_is
      (names1_is ∙ ap (λ h. (all_grown worker task h outcome.chunks (grown_so_far control.names control.drawn [])).names) h0_is)
      (drawn1_is ∙ ap (λ h. (all_grown worker task h outcome.chunks (grown_so_far control.names control.drawn [])).drawn) h0_is)
      (made_is ∙ ap (λ h. (all_grown worker task h outcome.chunks (grown_so_far control.names control.drawn [])).chunks) h0_is)
      (output_is ∙ (λ i. ref_named names1 (h1_is i) (m1_is i) outcome.result))
      (names2_is ∙ (λ i. task_copies (ref_named names1 (h2_is i) (m2_is i)) drawn1 outcome.tasks names1))
      drawn2_is
      (graph2_is ∙ (λ i. with_tasks (λ place number. with_number (ref_named names1 (h2_is i) (m2_is i) place) number) (task_numbers drawn1 outcome.tasks) caller drawn1 outcome.tasks control.graph))
      found_is
      (same_some caller ran.caller (sym caller_is ∙ ap (option_map (λ (t : Unfinished Ref K). t.caller)) can.there))

  module _ (names2 : NameState C) (drawn2 : ℕ) (graph2 : Graph Ref K) (found : List ℕ) (output : Ref) (held made : List Ref)
      (is : IsTasked names2 drawn2 graph2 found output held made) where
    pub output_live : IsLiveRef names2 output
    output_live =
        subst (λ n. IsLiveRef n output) (sym is.names_are)
        (subst (IsLiveRef tasked.names) (sym is.output_is) (awaited.result_live arity control worker task ran outcome can))

    pub set_apart : AreSetApart names2 graph2 task
    set_apart =
        subst (λ n. AreSetApart n graph2 task) (sym is.names_are)
        (subst (λ gr. AreSetApart tasked.names gr task) (sym is.graph_is) (awaited.set_apart arity control worker task ran outcome can))

    pub few_await : length (awaiters graph2 task) ≤ length (awaiters control.graph task)
    few_await =
        subst (λ (gr : Graph Ref K). length (awaiters gr task) ≤ length (awaiters control.graph task)) (sym is.graph_is)
        (awaited.no_more_await arity control worker task ran outcome can)

    pub few_found : length found ≡ length outcome.tasks
    few_found = ap length is.numbers_are ∙ count_numbers grown.drawn outcome.tasks

    may_forward : (i : ℕ) → outcome.result ≡ Task i → CanForward tasked.graph task numbers i
    may_forward i result = record {
      within =
          let low = ltb-true i (length outcome.tasks) (ap (may_stand (presences arity control ran) (length outcome.chunks) (length outcome.tasks)) (sym result) ∙ can.formed.result_stands) in
          let count = count_numbers grown.drawn outcome.tasks in
          omega arith;
      callers = awaited.of_one_caller arity control worker task ran outcome can i result;
      apart = awaited.another_task arity control worker task ran outcome can i result;
      asked = awaited.asked_once arity control worker task ran outcome can i result;
    }

    pub can_forward : (i : ℕ) → outcome.result ≡ Task i → CanForward graph2 task found i
    can_forward i result =
        subst (λ gr. CanForward gr task found i) (sym is.graph_is)
        (subst (λ ns. CanForward tasked.graph task ns i) (sym is.numbers_are) (may_forward i result))

  -- ---- Once the output is handed on

  abbrev handed_on : Control C (Unit {0}) K
  handed_on = resolved_to tasked task numbers read outcome.result

  -- what is left of the unfinished tasks, and what ending the task wants
  pub record IsHandedOn (names : NameState C) (graph : Graph Ref K) : Type 0 where
    pub change : Input Ref → Input Ref
    pub handed : IsHanded tasked.graph graph task change
    pub on : HandsOn task change
    pub may_end : MayEnd names graph task (inputs ++ grown.chunks)

  settled_on : (r : Ref) → IsLiveRef tasked.names r → IsHandedOn (resolved_to tasked task numbers (λ place. r) (AtInput 0)).names (resolved_to tasked task numbers (λ place. r) (AtInput 0)).graph
  settled_on r live = record {
    change = settled task (with_number r);
    handed = settled_hands tasked.graph task (with_number r);
    on = settles task (with_number r);
    may_end = settled_may_end arity control worker task ran outcome can r live;
  }

  forwarded_on : (i : ℕ) → outcome.result ≡ Task i → IsHandedOn tasked.names (forwarded tasked.graph task (number_at numbers i))
  forwarded_on i result =
      let apart : number_at numbers i ≡ task → ⊥ = λ same. awaited.another_task arity control worker task ran outcome can i result (sym same) in
      record {
        change = redirected task (number_at numbers i);
        handed = forwarded_hands tasked.graph task (number_at numbers i) apart;
        on = redirects task (number_at numbers i) apart;
        may_end = forwarded_may_end arity control worker task ran outcome can (number_at numbers i) apart;
      }

  place_on : (place : Place) → outcome.result ≡ place → IsLiveRef tasked.names (read place)
      → IsHandedOn (resolved_to tasked task numbers read place).names (resolved_to tasked task numbers read place).graph
  place_on Null result live = settled_on NullRef tt
  place_on (AtInput i) result live = settled_on (read (AtInput i)) live
  place_on (Child i j) result live = settled_on (read (Child i j)) live
  place_on (Chunk i) result live = settled_on (read (Chunk i)) live
  place_on (Task i) result live = forwarded_on i result

  pub result_on : IsHandedOn handed_on.names handed_on.graph
  result_on = place_on outcome.result refl (awaited.result_live arity control worker task ran outcome can)

  module _ (names2 : NameState C) (drawn2 : ℕ) (graph2 : Graph Ref K) (found : List ℕ) (output : Ref) (held made : List Ref)
      (is : IsTasked names2 drawn2 graph2 found output held made)
      (names3 : NameState C) (asks3 : map.FinMap nat_cmp (Ask (Unit {0}) Ref)) (graph3 : Graph Ref K)
      (resolved : (drawn : ℕ) (reads : Place → Ref) → reads Null ≡ NullRef → output ≡ reads outcome.result
      → control_of drawn names3 asks3 graph3 ≡ resolved_to (control_of drawn names2 control.asks graph2) task found reads outcome.result) where
    pub third_is : control_of drawn2 names3 asks3 graph3 ≡ handed_on
    third_is =
        resolved drawn2 read refl is.output_is
        ∙ (λ i. resolved_to (control_of (is.draws i) (is.names_are i) control.asks (is.graph_is i)) task (is.numbers_are i) read outcome.result)

    pub third_on : IsHandedOn names3 graph3
    third_on = subst (λ (s : Control C (Unit {0}) K). IsHandedOn s.names s.graph) (sym third_is) result_on

    pub may_end : MayEnd names3 graph3 task (held ++ made)
    may_end = subst (λ refs. MayEnd names3 graph3 task refs) (sym (λ i. is.held_are i ++ is.made_are i)) third_on.may_end

    pub effect_is : (names4 : NameState C) (graph4 : Graph Ref K) → names4 ≡ swept (without_ids names3 (is_held_by task)) → graph4 ≡ removed graph3 task
        → control_of drawn2 names4 asks3 graph4
        ≡ tidied (after_finish control worker task (bodies_of outcome) (each (λ (chunk : NewChunk C). chunk.children) outcome.chunks) outcome.tasks outcome.result (task_at control.graph task))
    effect_is names4 graph4 names4_is graph4_is =
        (λ i. control_of drawn2 (names4_is i) asks3 (graph4_is i))
        ∙ ap (λ (s : Control C (Unit {0}) K). tidied (without_task s task)) third_is
        ∙ ap (λ o. tidied (after_finish control worker task (bodies_of outcome) (each (λ (chunk : NewChunk C). chunk.children) outcome.chunks) outcome.tasks outcome.result o)) (sym can.there)

    -- ---- The tasks that became Ready

    module _ (ready2 ready3 : List ℕ) (listed : ready2 ≡ [] ++ filter (is_ready_in graph2) found)
        (all_ready : (q : ℕ) → Contains ready3 q ↔ (Contains ready2 q ⊎ IsNowReady graph2 graph3 q)) where
      pub new_is : ready2 ≡ filter (is_ready_in tasked.graph) numbers
      new_is = listed ∙ (λ i. filter (is_ready_in (is.graph_is i)) (is.numbers_are i))

      up : control.drawn ≤ grown.drawn
      up = (course.chunk_stage arity control worker task ran outcome can).up

      pub ready_distinct : IsDistinct nat_eq ready2
      ready_distinct =
          subst (λ xs. IsDistinct nat_eq xs) (sym new_is) (new_distinct value numbers ran.caller control.drawn grown.drawn outcome.tasks control.graph up can.together.tasks_drawn)

      pub none_waits : (q : ℕ) → Contains ready2 q → status graph2 q ≡ Waiting → ⊥
      none_waits q among waits =
          new_not_waiting value numbers ran.caller control.drawn grown.drawn outcome.tasks control.graph up can.together.tasks_drawn q
          (subst (λ xs. Contains xs q) new_is among) (ap (λ (gr : Graph Ref K). status gr q) (sym is.graph_is) ∙ waits)

      then : (q : ℕ) → Contains ready3 q ↔ (Contains (filter (is_ready_in tasked.graph) numbers) q ⊎ IsNowReady tasked.graph graph3 q)
      then q =
          subst (λ (gr : Graph Ref K). Contains ready3 q ↔ (Contains (filter (is_ready_in tasked.graph) numbers) q ⊎ IsNowReady gr graph3 q)) is.graph_is
          (subst (λ xs. Contains ready3 q ↔ (Contains xs q ⊎ IsNowReady graph2 graph3 q)) new_is (all_ready q))

      pub newly_ready : (graph4 : Graph Ref K) (ready4 : List ℕ) → graph4 ≡ removed graph3 task → IsStrictlyIncreasing ready4 → ((q : ℕ) → Contains ready4 q ↔ Contains ready3 q)
          → AreNewlyReady control.graph graph4 ready4
      newly_ready graph4 ready4 graph4_is rise same = record {
        rise = rise;
        exactly = λ q.
            let there = awaited.still_there arity control worker task ran outcome can in
            let now = newly value numbers ran.caller control.drawn grown.drawn outcome.tasks control.graph up can.together.tasks_drawn task graph3 (can.together.tasks_drawn task ran can.there)
            (ready_stays tasked.graph graph3 task third_on.change third_on.handed third_on.on ran there)
            (run_not_ready tasked.graph graph3 task third_on.change third_on.handed third_on.on ran there worker can.runner) ready3 then q in
            subst (λ (gr : Graph Ref K). Contains ready4 q ↔ ((status gr q ≡ Ready) × (status control.graph q ≡ Ready → ⊥))) (sym graph4_is)
            ((λ among. now.0 ((same q).0 among)), (λ both. (same q).1 (now.1 both)));
      }
