-- What is needed after a step, and what hangs together then.
use Rattle.std.proofs.Common.{◌≡◌, ℕ, ◌+◌, ◌*◌, ◌≤◌, List, [], ◌∷◌, ◌++◌, length, inl, inr, Option, None, Some, refl, ap, ◌∙◌, arith, length-append}
use Rattle.cht_ids.specs.declared.refs.Ref.{Ref}
use Rattle.cht_ids.specs.declared.refs.Ref.TheVariants.{Null, Id as Held}
use Rattle.chunk_refs.specs.Room.{Contents as Names}
use Rattle.name_states.specs.declared.holder.Holder.{Holder}
use Rattle.name_states.specs.declared.holder.Holder.TheVariants.{Caller as ByCaller, Body as ByBody}
use Rattle.name_states.specs.States.{NameState, IdRecord, id_at}
use Rattle.name_states.specs.Steps.{present, drawn_by, with_id, with_body, numbered, with_copy, copied, linked, linked_ref, registered, without_id}
use Rattle.name_states.specs.Reached.{swept}
use Rattle.name_states.proofs.Basics.{none_not_some, removed_here, removed_from, none_or_some}
use Rattle.name_states.proofs.Swept.{id-left}
use Rattle.task_states.specs.States.{Graph}
use Rattle.cht_history.specs.History.{History}
use Rattle.cht_history.specs.declared.event.Event.{Event}
use Rattle.core_state.specs.AskTable.{AskTable}
use Rattle.core_state.specs.Needed.{due_for_holder, due_for_id, total_by}
use Rattle.core_state.specs.Inside.{IsKept}
use Rattle.core_state.proofs.Totals.{total_at_most, total_less, total_less_one}

-- at most as many as there are
pub present_few : (refs : List Ref) → present refs ≤ length refs
present_few [] = omega arith
present_few (Null ∷ refs) = let e = present_few refs in omega arith
present_few (Held id ∷ refs) = let e = present_few refs in omega arith

module _ {C : Type 0} where
  -- what a caller may delete is no more by one more identifier than what its holder adds
  due_copy : (names : NameState C) (number : ℕ) (holder : Holder) (found : Option IdRecord)
      → total_by due_for_id (with_copy names number holder found).ids ≤ due_for_holder holder + total_by due_for_id names.ids
  due_copy names number holder None = omega arith
  due_copy names number holder (Some entry) = total_at_most due_for_id names.ids number (record entry { holder = holder })

  pub due_copied : (names : NameState C) (from number : ℕ) (holder : Holder)
      → total_by due_for_id (copied names from number holder).ids ≤ due_for_holder holder + total_by due_for_id names.ids
  due_copied names from number holder = due_copy names number holder (id_at names from)

  due_linked_ref : (names : NameState C) (drawn : ℕ) (holder : Holder) (r : Ref) → due_for_holder holder ≡ 0
      → total_by due_for_id (linked_ref names drawn holder r).ids ≤ total_by due_for_id names.ids
  due_linked_ref names drawn holder Null none = omega arith
  due_linked_ref names drawn holder (Held id) none = let e = due_copied names id.number (drawn + 1) holder in omega arith

  -- what tasks and bodies hold adds nothing
  pub due_linked : (names : NameState C) (drawn : ℕ) (holder : Holder) (refs : List Ref) → due_for_holder holder ≡ 0
      → total_by due_for_id (linked names drawn holder refs).ids ≤ total_by due_for_id names.ids
  due_linked names drawn holder [] none = omega arith
  due_linked names drawn holder (r ∷ refs) none =
      let one = due_linked_ref names drawn holder r none in
      let rest = due_linked (linked_ref names drawn holder r) (drawn + drawn_by r) holder refs none in
      omega arith

  pub due_registered : (names : NameState C) (drawn : ℕ) (holder : Holder) (worker : ℕ) (content : C) (refs : List Ref)
      → total_by due_for_id (registered names drawn holder worker content refs).ids ≤ due_for_holder holder + total_by due_for_id names.ids
  due_registered names drawn holder worker content refs =
      let one = total_at_most due_for_id names.ids (drawn + 2) (record { owner = worker; body = drawn + 1; holder = holder }) in
      let first : NameState C = with_id (with_body names (drawn + 1) (record { owner = worker; content = content; children = numbered (drawn + 2) refs })) (drawn + 2) (record { owner = worker; body = drawn + 1; holder = holder }) in
      let rest = due_linked first (drawn + 2) (ByBody (drawn + 1)) refs refl in
      omega arith

  -- what goes in a sweep takes nothing to it
  pub due_swept : (names : NameState C) → total_by due_for_id (swept names).ids ≤ total_by due_for_id names.ids
  due_swept names = total_less due_for_id (swept names).ids names.ids (λ q v is. (id-left names q v is).0)

  -- one identifier goes
  pub due_ended : (names : NameState C) (number : ℕ) (entry : IdRecord) → id_at names number ≡ Some entry
      → total_by due_for_id (swept (without_id names number)).ids + due_for_id entry ≤ total_by due_for_id names.ids
  due_ended names number entry is =
      total_less_one due_for_id (swept (without_id names number)).ids names.ids number entry is
      (elim (none_or_some (id_at (swept (without_id names number)) number)) [
        | inl none ↦ none
        | inr some ↦ absurd (none_not_some (removed_here names.ids number number refl) (id-left (without_id names number) number some.0 some.1).0)
      ])
      (λ q v found. (removed_from names.ids number q v (id-left (without_id names number) q v found).0).1)

module _ {C K : Type 0} (drawn : ℕ) (names : Names C) (table : AskTable) (graph : Graph Ref K) (history : History K) (callers : ℕ) (running : List (Option ℕ)) (owed : ℕ)
    (kept : IsKept drawn names table graph history callers running owed) where
  -- other names, more numbers and more events
  pub renamed : (drawn2 : ℕ) (names2 : Names C) (history2 : History K) (owed2 : ℕ) → length names2.room.bodies ≡ length names.room.bodies
      → drawn2 ≤ 128 * length history2.events → owed2 ≤ history2.spare
      → total_by due_for_id names2.names.ids + owed ≤ total_by due_for_id names.names.ids + owed2
      → IsKept drawn2 names2 table graph history2 callers running owed2
  renamed drawn2 names2 history2 owed2 stores few room due = record {
    few_callers = kept.few_callers;
    few_workers = kept.few_workers;
    some_worker = kept.some_worker;
    stores = stores ∙ kept.stores;
    lists = kept.lists;
    tasks = kept.tasks;
    asks = kept.asks;
    run = kept.run;
    few = few;
    room = room;
    enough = let was = kept.enough in omega arith;
  }

  -- one more event
  pub more_events : (history2 : History K) (event : Event K) (more drawn2 : ℕ) → history2.events ≡ history.events ++ event ∷ [] → drawn2 ≤ drawn + more → more ≤ 128
      → drawn2 ≤ 128 * length history2.events
  more_events history2 event more drawn2 events less few =
      let long : length history2.events ≡ length history.events + 1 = ap length events ∙ length-append history.events (event ∷ []) in
      let was = kept.few in
      omega arith

  pub registered_kept : (drawn2 : ℕ) (names2 : Names C) (history2 : History K) (spare : ℕ) (caller worker : ℕ) (body : C) (children : List Ref) (event : Event K)
      → length children ≤ 4 → drawn2 ≡ drawn + 2 + present children
      → names2.names ≡ registered names.names drawn (ByCaller caller) worker body children
      → length names2.room.bodies ≡ length names.room.bodies
      → owed + 2 ≤ spare → history2.spare + 1 ≡ spare → history2.events ≡ history.events ++ event ∷ []
      → IsKept drawn2 names2 table graph history2 callers running (owed + 1)
  registered_kept drawn2 names2 history2 spare caller worker body children event four drawn_is names_is stores room left events =
      let few = present_few children in
      let due = due_registered names.names drawn (ByCaller caller) worker body children in
      let ids : total_by due_for_id names2.names.ids ≡ total_by due_for_id (registered names.names drawn (ByCaller caller) worker body children).ids = ap (λ (n : NameState C). total_by due_for_id n.ids) names_is in
      renamed drawn2 names2 history2 (owed + 1) stores (more_events history2 event 6 drawn2 events (omega arith) (omega arith)) (omega arith) (omega arith)

  pub copied_kept : (drawn2 : ℕ) (names2 : Names C) (history2 : History K) (spare : ℕ) (caller from : ℕ) (event : Event K)
      → drawn2 ≡ drawn + 1 → names2.names ≡ copied names.names from (drawn + 1) (ByCaller caller)
      → length names2.room.bodies ≡ length names.room.bodies
      → owed + 2 ≤ spare → history2.spare + 1 ≡ spare → history2.events ≡ history.events ++ event ∷ []
      → IsKept drawn2 names2 table graph history2 callers running (owed + 1)
  copied_kept drawn2 names2 history2 spare caller from event drawn_is names_is stores room left events =
      let due = due_copied names.names from (drawn + 1) (ByCaller caller) in
      let ids : total_by due_for_id names2.names.ids ≡ total_by due_for_id (copied names.names from (drawn + 1) (ByCaller caller)).ids = ap (λ (n : NameState C). total_by due_for_id n.ids) names_is in
      renamed drawn2 names2 history2 (owed + 1) stores (more_events history2 event 6 drawn2 events (omega arith) (omega arith)) (omega arith) (omega arith)

  -- where a caller holds an identifier, its delete is owed
  pub owed_for_id : (number caller : ℕ) (entry : IdRecord) → id_at names.names number ≡ Some entry → entry.holder ≡ ByCaller caller → 1 ≤ owed
  owed_for_id number caller entry is held =
      let due = due_ended names.names number entry is in
      let one : due_for_id entry ≡ 1 = ap due_for_holder held in
      let enough = kept.enough in
      omega arith

  pub deleted_kept : (names2 : Names C) (history2 : History K) (owed2 : ℕ) (number caller : ℕ) (entry : IdRecord) (event : Event K)
      → id_at names.names number ≡ Some entry → entry.holder ≡ ByCaller caller
      → names2.names ≡ swept (without_id names.names number) → length names2.room.bodies ≡ length names.room.bodies
      → owed2 + 1 ≡ owed → history2.spare + 1 ≡ history.spare → history2.events ≡ history.events ++ event ∷ []
      → IsKept drawn names2 table graph history2 callers running owed2
  deleted_kept names2 history2 owed2 number caller entry event is held names_is stores less left events =
      let due = due_ended names.names number entry is in
      let one : due_for_id entry ≡ 1 = ap due_for_holder held in
      let ids : total_by due_for_id names2.names.ids ≡ total_by due_for_id (swept (without_id names.names number)).ids = ap (λ (n : NameState C). total_by due_for_id n.ids) names_is in
      let room = kept.room in
      renamed drawn names2 history2 owed2 stores (more_events history2 event 0 drawn events (omega arith) (omega arith)) (omega arith) (omega arith)
