-- Leaving contents out of a control state commutes with each event.
use Rattle.std.proofs.Common.{◌≡◌, ℕ, ◌+◌, cond, List, [], ◌∷◌, ◌++◌, map as each, Option, None, Some, refl, sym, ap, ◌∙◌}
use Rattle.std.specs.Option.{option_map}
use Rattle.cht_ids.specs.declared.refs.Ref.{Ref}
use Rattle.cht_ids.specs.declared.refs.Ref.TheVariants.{Null as NullRef, Id as Held}
use Rattle.task_types.specs.declared.outcome.Place.{Place}
use Rattle.task_types.specs.declared.outcome.Place.TheVariants.{Null, Input as AtInput, Child, Chunk, Task}
use Rattle.task_types.specs.declared.outcome.Places.{Places}
use Rattle.task_types.specs.declared.outcome.NewTask.{NewTask}
use Rattle.task_types.specs.Places.{places_of}
use Rattle.name_states.specs.declared.holder.Holder.{Holder}
use Rattle.name_states.specs.declared.holder.Holder.TheVariants.{Caller as ByCaller, Task as ByTask}
use Rattle.name_states.specs.States.{NameState, IdRecord, BodyRecord, body_at, record_of, body_named, children_in}
use Rattle.name_states.specs.Steps.{drawn_by, linked_ref, linked}
use Rattle.name_states.specs.Steps as names
use Rattle.name_states.specs.WithoutContents.{without_content, without_contents}
use Rattle.name_states.proofs.Values.{get_each_value}
use Rattle.name_states.proofs.WithoutContents.{without_copied, without_registered, without_swept}
use Rattle.task_states.specs.States.{Unfinished, task_at}
use Rattle.cht_history.specs.declared.event.Event.{Event}
use Rattle.cht_history.specs.declared.event.Event.TheVariants.{Register, Copy, Delete, Ask as AskEvent, Collect, Abandon, Stop, Start, GiveBack, Finish}
use Rattle.name_machine.specs.NewTasks.{taken, drawn_by_tasks, task_numbers, with_tasks}
use Rattle.name_machine.specs.Control.{Control, Grown, ref_at, with_number, ref_known, child_named, ref_named, copy_of, copies_of, awaiting, chunk_more, chunks_more, input_copies, task_copies, tidied, with_chunks, with_new_tasks, settled_to, resolved_to, without_task, finish_event, after_finish, after_register, effect_with}
use Rattle.name_machine.specs.Replay.{Plans, Replayed, effect}
use Rattle.name_machine.specs.Forgetting.{forgotten, ForgettingReplays}

module _ {C : Type 0} (arity : C → ℕ) where
  -- ---- Names

  linked_one : (names : NameState C) (drawn : ℕ) (holder : Holder) (r : Ref) → without_contents arity (linked_ref names drawn holder r) ≡ linked_ref (without_contents arity names) drawn holder r
  linked_one names drawn holder NullRef = refl
  linked_one names drawn holder (Held id) = without_copied arity names id.number (drawn + 1) holder

  linked_all : (names : NameState C) (drawn : ℕ) (holder : Holder) (refs : List Ref) → without_contents arity (linked names drawn holder refs) ≡ linked (without_contents arity names) drawn holder refs
  linked_all names drawn holder [] = refl
  linked_all names drawn holder (r ∷ refs) =
      linked_all (linked_ref names drawn holder r) (drawn + drawn_by r) holder refs
      ∙ ap (λ n. linked n (drawn + drawn_by r) holder refs) (linked_one names drawn holder r)

  copy_one : (names : NameState C) (r : Ref) (number : ℕ) (holder : Holder) → without_contents arity (copy_of names r number holder) ≡ copy_of (without_contents arity names) r number holder
  copy_one names NullRef number holder = refl
  copy_one names (Held id) number holder = without_copied arity names id.number number holder

  copy_all : (names : NameState C) (r : Ref) (wanted : List (ℕ × Holder)) → without_contents arity (copies_of names r wanted) ≡ copies_of (without_contents arity names) r wanted
  copy_all names r [] = refl
  copy_all names r (one ∷ more) = copy_all (copy_of names r one.0 one.1) r more ∙ ap (λ n. copies_of n r more) (copy_one names r one.0 one.1)

  same_children : (o : Option (BodyRecord C)) → children_in (option_map (without_content arity) o) ≡ children_in o
  same_children None = refl
  same_children (Some body) = refl

  named_children : (names : NameState C) (o : Option IdRecord) → children_in (body_named (without_contents arity names) o) ≡ children_in (body_named names o)
  named_children names None = refl
  named_children names (Some entry) = ap children_in (get_each_value (without_content arity) names.bodies entry.body) ∙ same_children (body_at names entry.body)

  same_child : (names : NameState C) (r : Ref) (j : ℕ) → child_named (without_contents arity names) r j ≡ child_named names r j
  same_child names NullRef j = refl
  same_child names (Held id) j = ap (λ refs. ref_at refs j) (named_children names (record_of names id))

  same_ref : (names : NameState C) (inputs chunks : List Ref) (place : Place) → ref_named (without_contents arity names) inputs chunks place ≡ ref_named names inputs chunks place
  same_ref names inputs chunks Null = refl
  same_ref names inputs chunks (AtInput i) = refl
  same_ref names inputs chunks (Child i j) = same_child names (ref_at inputs i) j
  same_ref names inputs chunks (Chunk i) = refl
  same_ref names inputs chunks (Task i) = refl

  same_refs : (names : NameState C) (inputs chunks : List Ref) → ref_named names inputs chunks ≡ ref_named (without_contents arity names) inputs chunks
  same_refs names inputs chunks = λ i place. sym (same_ref names inputs chunks place) i

  -- ---- New chunks and new tasks

  abbrev forgot : Grown C → Grown ℕ
  forgot grown = record { names = without_contents arity grown.names; drawn = grown.drawn; chunks = grown.chunks }

  chunk_one : (worker task : ℕ) (inputs : List Ref) (content : C) (places : List Place) (grown : Grown C)
      → forgot (chunk_more worker task inputs content places grown) ≡ chunk_more worker task inputs (arity content) places (forgot grown)
  chunk_one worker task inputs content places grown =
      let names_are = without_registered arity grown.names grown.drawn (ByTask task) worker content (each (ref_named grown.names inputs grown.chunks) places)
      ∙ ap (λ read. names.registered (without_contents arity grown.names) grown.drawn (ByTask task) worker (arity content) (each read places)) (same_refs grown.names inputs grown.chunks) in
      λ i. record {
        names = names_are i;
        drawn = grown.drawn + 2 + taken places;
        chunks = grown.chunks ++ Held (record { owner = worker; number = grown.drawn + 2 }) ∷ [];
      }

  chunks_all : (worker task : ℕ) (inputs : List Ref) (contents : List C) (chunks : List Places) (grown : Grown C)
      → forgot (chunks_more worker task inputs contents chunks grown) ≡ chunks_more worker task inputs (each arity contents) chunks (forgot grown)
  chunks_all worker task inputs contents [] grown = refl
  chunks_all worker task inputs [] (places ∷ chunks) grown = refl
  chunks_all worker task inputs (content ∷ contents) (places ∷ chunks) grown =
      chunks_all worker task inputs contents chunks (chunk_more worker task inputs content (places_of places) grown)
      ∙ ap (chunks_more worker task inputs (each arity contents) chunks) (chunk_one worker task inputs content (places_of places) grown)

  inputs_copied : (read : Place → Ref) (task drawn : ℕ) (places : List Place) (names : NameState C)
      → without_contents arity (input_copies read task drawn places names) ≡ input_copies read task drawn places (without_contents arity names)
  inputs_copied read task drawn [] names = refl
  inputs_copied read task drawn (Null ∷ places) names = inputs_copied read task drawn places names
  inputs_copied read task drawn (AtInput i ∷ places) names =
      inputs_copied read task (drawn + 1) places (copy_of names (read (AtInput i)) (drawn + 1) (ByTask task))
      ∙ ap (input_copies read task (drawn + 1) places) (copy_one names (read (AtInput i)) (drawn + 1) (ByTask task))
  inputs_copied read task drawn (Child i j ∷ places) names =
      inputs_copied read task (drawn + 1) places (copy_of names (read (Child i j)) (drawn + 1) (ByTask task))
      ∙ ap (input_copies read task (drawn + 1) places) (copy_one names (read (Child i j)) (drawn + 1) (ByTask task))
  inputs_copied read task drawn (Chunk i ∷ places) names =
      inputs_copied read task (drawn + 1) places (copy_of names (read (Chunk i)) (drawn + 1) (ByTask task))
      ∙ ap (input_copies read task (drawn + 1) places) (copy_one names (read (Chunk i)) (drawn + 1) (ByTask task))
  inputs_copied read task drawn (Task i ∷ places) names = inputs_copied read task (drawn + 1) places names

  tasks_copied : {K : Type 0} (read : Place → Ref) (drawn : ℕ) (tasks : List (NewTask K)) (names : NameState C)
      → without_contents arity (task_copies read drawn tasks names) ≡ task_copies read drawn tasks (without_contents arity names)
  tasks_copied read drawn [] names = refl
  tasks_copied read drawn (task ∷ tasks) names =
      tasks_copied read (drawn + 1 + taken (places_of task.inputs)) tasks (input_copies read (drawn + 1) (drawn + 1) (places_of task.inputs) names)
      ∙ ap (task_copies read (drawn + 1 + taken (places_of task.inputs)) tasks) (inputs_copied read (drawn + 1) (drawn + 1) (places_of task.inputs) names)

  module _ {K : Type 0} where
    -- a control state with other names
    abbrev with_names : Control C (Unit {0}) K → NameState ℕ → Replayed K
    with_names control names = record { drawn = control.drawn; names = names; asks = control.asks; graph = control.graph }

    tasks_all : (control : Control C (Unit {0}) K) (caller : ℕ) (inputs : List Ref) (tasks : List (NewTask K)) (grown : Grown C)
        → forgotten arity (with_new_tasks control caller inputs tasks grown) ≡ with_new_tasks (forgotten arity control) caller inputs tasks (forgot grown)
    tasks_all control caller inputs tasks grown =
        let read_is = same_refs grown.names inputs grown.chunks in
        let names_are = tasks_copied (ref_named grown.names inputs grown.chunks) grown.drawn tasks grown.names
        ∙ ap (λ read. task_copies read grown.drawn tasks (without_contents arity grown.names)) read_is in
        λ i. record {
          drawn = grown.drawn + drawn_by_tasks tasks;
          names = names_are i;
          asks = control.asks;
          graph = with_tasks (λ place number. with_number (read_is i place) number) (task_numbers grown.drawn tasks) caller grown.drawn tasks control.graph;
        }

    settled_all : (control : Control C (Unit {0}) K) (task : ℕ) (r : Ref) → forgotten arity (settled_to control task r) ≡ settled_to (forgotten arity control) task r
    settled_all control task r = ap (with_names (settled_to control task r)) (copy_all control.names r (awaiting control.graph task))

    resolved_all : (control : Control C (Unit {0}) K) (task : ℕ) (numbers : List ℕ) (read : Place → Ref) (place : Place)
        → forgotten arity (resolved_to control task numbers read place) ≡ resolved_to (forgotten arity control) task numbers read place
    resolved_all control task numbers read Null = settled_all control task NullRef
    resolved_all control task numbers read (AtInput i) = settled_all control task (read (AtInput i))
    resolved_all control task numbers read (Child i j) = settled_all control task (read (Child i j))
    resolved_all control task numbers read (Chunk i) = settled_all control task (read (Chunk i))
    resolved_all control task numbers read (Task i) = refl

    finished_all : (control : Control C (Unit {0}) K) (worker task : ℕ) (unfinished : Unfinished Ref K) (contents : List C) (chunks : List Places) (tasks : List (NewTask K)) (result : Place)
        → forgotten arity (finish_event control worker task unfinished contents chunks tasks result)
        ≡ finish_event (forgotten arity control) worker task unfinished (each arity contents) chunks tasks result
    finished_all control worker task unfinished contents chunks tasks result =
        let inputs : List Ref = each ref_known unfinished.inputs in
        let grown : Grown C = with_chunks control worker task inputs contents chunks in
        let more : Control C (Unit {0}) K = with_new_tasks control unfinished.caller inputs tasks grown in
        let grown_is : forgot grown ≡ with_chunks (forgotten arity control) worker task inputs (each arity contents) chunks =
        chunks_all worker task inputs contents chunks (record { names = control.names; drawn = control.drawn; chunks = [] }) in
        ap (λ c. without_task c task) (resolved_all more task (task_numbers grown.drawn tasks) (ref_named grown.names inputs grown.chunks) result)
        ∙ ap (λ c. without_task (resolved_to c task (task_numbers grown.drawn tasks) (ref_named grown.names inputs grown.chunks) result) task) (tasks_all control unfinished.caller inputs tasks grown)
        ∙ ap (λ read. without_task (resolved_to (with_new_tasks (forgotten arity control) unfinished.caller inputs tasks (forgot grown)) task (task_numbers grown.drawn tasks) read result) task)
        (same_refs grown.names inputs grown.chunks)
        ∙ ap (λ (g : Grown ℕ). without_task (resolved_to (with_new_tasks (forgotten arity control) unfinished.caller inputs tasks g) task (task_numbers g.drawn tasks) (ref_named g.names inputs g.chunks) result) task) grown_is

    after_all : (control : Control C (Unit {0}) K) (worker task : ℕ) (contents : List C) (chunks : List Places) (tasks : List (NewTask K)) (result : Place) (o : Option (Unfinished Ref K))
        → forgotten arity (after_finish control worker task contents chunks tasks result o) ≡ after_finish (forgotten arity control) worker task (each arity contents) chunks tasks result o
    after_all control worker task contents chunks tasks result None = refl
    after_all control worker task contents chunks tasks result (Some unfinished) = finished_all control worker task unfinished contents chunks tasks result

    registered_all : (control : Control C (Unit {0}) K) (caller : ℕ) (contents : List C) (children : List Ref)
        → forgotten arity (after_register control caller contents children) ≡ after_register (forgotten arity control) caller (each arity contents) children
    registered_all control caller [] children = refl
    registered_all control caller (content ∷ contents) children =
        ap (with_names (after_register control caller (content ∷ contents) children)) (without_registered arity control.names control.drawn (ByCaller caller) 0 content children)

    -- leaving contents out commutes with what an event does
    pub forgets_effect : (control : Control C (Unit {0}) K) (contents : List C) (event : Event K)
        → forgotten arity (effect_with control contents event) ≡ effect_with (forgotten arity control) (each arity contents) event
    forgets_effect control contents (Register caller id children) = registered_all control caller contents children
    forgets_effect control contents (Copy caller from to) =
        ap (with_names (effect_with control contents (Copy caller from to))) (without_copied arity control.names from.number (control.drawn + 1) (ByCaller caller))
    forgets_effect control contents (Delete caller id) = refl
    forgets_effect control contents (AskEvent caller task kind inputs) =
        ap (with_names (effect_with control contents (AskEvent caller task kind inputs))) (linked_all control.names (control.drawn + 1) (ByTask (control.drawn + 1)) inputs)
    forgets_effect control contents (Collect caller task got) = refl
    forgets_effect control contents (Abandon caller) = refl
    forgets_effect control contents (Stop caller) = refl
    forgets_effect control contents (Start worker task) = refl
    forgets_effect control contents (GiveBack worker task) = refl
    forgets_effect control contents (Finish worker task chunks tasks result) = after_all control worker task contents chunks tasks result (task_at control.graph task)

    pub forgets_tidied : (control : Control C (Unit {0}) K) → forgotten arity (tidied control) ≡ tidied (forgotten arity control)
    forgets_tidied control = ap (with_names control) (without_swept arity control.names)

    pub forgetting_replays : (plans : Plans K) → ForgettingReplays arity plans
    forgetting_replays plans control contents event same allowed =
        ap (λ b. cond b (Some (tidied (effect (forgotten arity control) event))) None) allowed
        ∙ ap (λ all. Some (tidied (effect_with (forgotten arity control) all event))) (sym same)
        ∙ ap (λ c. Some (tidied c)) (sym (forgets_effect control contents event))
        ∙ ap Some (sym (forgets_tidied (effect_with control contents event)))
