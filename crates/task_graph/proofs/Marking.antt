-- Which workers and asked outputs a task may have.
use Rattle.std.proofs.Common.{◌≡◌, ℕ, ◌+◌, ◌-◌, ◌≤◌, Bool, true, false, cond, ◌&&◌, ◌||◌, Option, Some, None, is_some, IsSome, nat_eq, refl, sym, ap, subst, ◌∙◌, inl, inr, arith, length, List, [], ◌∷◌, suc, zero}
use Rattle.std.specs.Prelude.{slice_get, map as each, if◌then◌else◌}
use Rattle.std.specs.Option.{option_map}
use Rattle.std.specs.List.{list_any}
use Rattle.std.specs.FinMap as map
use Rattle.cht_ids.specs.declared.refs.Ref.{Ref}
use Rattle.task_states.specs.declared.states.TaskStatus.{TaskStatus}
use Rattle.task_states.specs.declared.states.TaskStatus.TheVariants.{Unknown, Waiting, Ready, Running}
use Rattle.task_states.specs.declared.states.Awaiter.TheVariants.{Input as AtInput}
use Rattle.task_states.specs.States.{Input, Awaits as AwaitsTask, Unfinished, Graph, is_awaiting, task_at, input_at, status, status_of, is_running, is_run_for}
use Rattle.task_states.specs.Steps.{with_task}
use Rattle.task_states.specs.Awaiters.{IsFree}
use Rattle.task_states.specs.Maps.{put_at}
use Rattle.std.specs.List.{IsDistinct}
use Rattle.std.specs.Map.{keys_of}
use Rattle.task_links.specs.declared.callers.Caller.{Caller}
use Rattle.task_links.specs.Callers.{caller_at}
use Rattle.task_graph.proofs.Counting.{count_changed, count_less, passes}
use Rattle.task_graph.proofs.Views.{len-tasks_of}
use Rattle.task_states.proofs.Maps.{test_same, test_apart, get_removed}
use Rattle.task_states.proofs.Options.{not_none, same_some, none_or_some}
use Rattle.task_links.specs.declared.entries.Entry.{Entry}
use Rattle.task_links.specs.declared.entries.Link.{Link}
use Rattle.task_links.specs.declared.entries.Place.{Place}
use Rattle.task_links.specs.declared.entries.Place.TheVariants.{Awaits}
use Rattle.task_links.specs.declared.entries.Spot.{Spot}
use Rattle.task_graph.specs.declared.parts.Parts.{Parts}
use Rattle.task_links.specs.Inside.{shown_entry, shown_place, entries_at, place_in, place_at, inputs_of}
use Rattle.task_links.specs.Weave.{Head, link_at, link_of, head_of, head_at, IsUnused}
use Rattle.task_graph.specs.Graphs.{graph_of, tasks_of, IsWhole, IsRevised, run_for}
use Rattle.task_links.proofs.Writing.{awaits_behind}
use Rattle.task_graph.proofs.Runs.{task_is, task_there, status_there, status_none}

some_of : {K : Type 0} (o : Option (Entry K)) → IsSome (option_map shown_entry o) → IsSome o
some_of None there = there
some_of (Some e) there = refl

-- an entry behind a task
pub entry_of : {K : Type 0} (parts : Parts K) (q : ℕ) → IsSome (task_at (graph_of parts) q) → IsSome (entries_at parts.entries q)
entry_of parts q there = some_of (entries_at parts.entries q) (subst IsSome (task_is parts q) there)

-- an entry behind a status
pub entry_of_status : {K : Type 0} (parts : Parts K) (q : ℕ) (s : TaskStatus) → status (graph_of parts) q ≡ s → (s ≡ Unknown → ⊥) → IsSome (entries_at parts.entries q)
entry_of_status parts q s is known =
    elim (entries_at parts.entries q) as (λ o. entries_at parts.entries q ≡ o → IsSome o) [
      | None ↦ λ none. absurd (known (sym is ∙ status_none parts q none))
      | Some e ↦ λ _. refl
    ] refl

-- a task with no awaiting input has no link
any_at : (places : List Place) (j : ℕ) (link : Link) → slice_get places j ≡ Some (Awaits link) → list_any is_awaiting (each shown_place places) ≡ true
any_at [] j link is = absurd (not_none None (Awaits link) refl is)
any_at (p ∷ places) zero link is = ap (λ (x : Place). is_awaiting (shown_place x) || list_any is_awaiting (each shown_place places)) (same_some p (Awaits link) is)
any_at (p ∷ places) (suc j) link is = ap (λ b. is_awaiting (shown_place p) || b) (any_at places j link is) ∙ elim (is_awaiting (shown_place p)) as (λ b. (b || true) ≡ true) [ true ↦ refl | false ↦ refl ]

place_of : {K : Type 0} (o : Option (Entry K)) (e : Entry K) (j : ℕ) (link : Link) → o ≡ Some e → link_of (place_in o j) ≡ Some link → slice_get (inputs_of e) j ≡ Some (Awaits link)
place_of o e j link is linked = sym (ap (λ x. place_in x j) is) ∙ awaits_behind (place_in o j) link linked

pub no_links : {K : Type 0} (parts : Parts K) (q : ℕ) (e : Entry K) → entries_at parts.entries q ≡ Some e → list_any is_awaiting (shown_entry e).inputs ≡ false → (p : Spot) (l : Link) → link_at (entries_at parts.entries) p ≡ Some l → p.task ≡ q → ⊥
no_links parts q e is none p l linked at =
    let clash = sym (any_at (inputs_of e) p.place l (place_of (entries_at parts.entries p.task) e p.place l (ap (entries_at parts.entries) at ∙ is) linked)) ∙ none in cc

-- what a status says
status_parts : (waits runs : Bool) (s : TaskStatus) → (if waits then Waiting else (if runs then Running else Ready)) ≡ s → (s ≡ Waiting → ⊥) → waits ≡ false
status_parts true runs s is never = absurd (never (sym is))
status_parts false runs s is never = refl

pub not_waiting : {K : Type 0} (u : Unfinished Ref K) (s : TaskStatus) → status_of u ≡ s → (s ≡ Waiting → ⊥) → list_any is_awaiting u.inputs ≡ false
not_waiting u s is never = status_parts (list_any is_awaiting u.inputs) (is_some u.runner) s is never

abbrev one_if : Bool → ℕ
one_if b = cond b 1 0

-- how a change of the worker counts
pub run_ready : {K : Type 0} (u : Unfinished Ref K) → status_of u ≡ Ready → run_for u.caller u ≡ 0
run_ready u is = ap (λ s. one_if (nat_eq u.caller u.caller && is_running s)) is ∙ elim (nat_eq u.caller u.caller) as (λ b. one_if (b && false) ≡ 0) [ true ↦ refl | false ↦ refl ]

pub run_running : {K : Type 0} (u : Unfinished Ref K) → status_of u ≡ Running → run_for u.caller u ≡ 1
run_running u is = ap (λ s. one_if (nat_eq u.caller u.caller && is_running s)) is ∙ ap (λ b. one_if (b && true)) (test_same u.caller)

pub status_with : {K : Type 0} (u : Unfinished Ref K) (runner asked : Option ℕ) (r : Bool) → list_any is_awaiting u.inputs ≡ false → is_some runner ≡ r → status_of (record u { runner = runner; asked = asked }) ≡ (if r then Running else Ready)
status_with u runner asked r none is = ap (λ b. if b then Waiting else (if is_some runner then Running else Ready)) none ∙ ap (λ b. if b then Running else Ready) is

some_value : {X : Type 0} (o : Option X) → IsSome o → (x : X) × (o ≡ Some x)
some_value None there = absurd (cc)
some_value (Some x) there = (x, refl)

-- the entry of a task that is there
pub some_entry : {K : Type 0} (parts : Parts K) (q : ℕ) → IsSome (task_at (graph_of parts) q) → (e : Entry K) × (entries_at parts.entries q ≡ Some e)
some_entry parts q there = some_value (entries_at parts.entries q) (entry_of parts q there)

-- the entry of a task with a status
pub some_of_status : {K : Type 0} (parts : Parts K) (q : ℕ) (s : TaskStatus) → status (graph_of parts) q ≡ s → (s ≡ Unknown → ⊥) → (e : Entry K) × (entries_at parts.entries q ≡ Some e)
some_of_status parts q s is known = some_value (entries_at parts.entries q) (entry_of_status parts q s is known)

-- a task as it is, with one field changed
pub as_changed : {K : Type 0} (graph : Graph Ref K) (t : ℕ) (u : Unfinished Ref K) (change : Unfinished Ref K → Unfinished Ref K) → task_at graph t ≡ Some u → record graph { tasks = map.insert graph.tasks t (change u) } ≡ with_task graph t change
as_changed graph t u change is = ap (λ o. record graph { tasks = put_at graph.tasks t (option_map change o) }) (sym is)

get_shown : (places : List Place) (j : ℕ) (link : Link) → slice_get places j ≡ Some (Awaits link) → slice_get (each shown_place places) j ≡ Some (AwaitsTask link.task link.number)
get_shown [] j link is = absurd (not_none None (Awaits link) refl is)
get_shown (p ∷ places) zero link is = ap (λ (x : Place). Some (shown_place x)) (same_some p (Awaits link) is)
get_shown (p ∷ places) (suc j) link is = get_shown places j link is

input_of : {K : Type 0} (o : Option (Entry K)) (j : ℕ) (link : Link) → place_in o j ≡ Some (Awaits link) → ◌≡◌ {A = Option (Input Ref)} (elim (option_map shown_entry o) as (λ _. Option (Input Ref)) [ None ↦ None | Some task ↦ slice_get task.inputs j ]) (Some (AwaitsTask link.task link.number))
input_of None j link is = absurd (not_none None (Awaits link) refl is)
input_of (Some e) j link is = get_shown (inputs_of e) j link is

pub input_is : {K : Type 0} (parts : Parts K) (spot : Spot) (link : Link) → place_at (entries_at parts.entries) spot ≡ Some (Awaits link) → input_at (graph_of parts) spot.task spot.place ≡ Some (AwaitsTask link.task link.number)
input_is parts spot link place = ap (λ o. elim o as (λ _. Option (Input Ref)) [ None ↦ None | Some task ↦ slice_get task.inputs spot.place ]) (task_is parts spot.task) ∙ input_of (entries_at parts.entries spot.task) spot.place link place

-- a number that no awaiter has
pub unused_of : {K : Type 0} (parts : Parts K) (number : ℕ) → IsFree (graph_of parts) number → IsUnused (link_at (entries_at parts.entries)) number
unused_of {K} parts number free spot link linked same =
    let place = awaits_behind (place_at (entries_at parts.entries) spot) link linked in
    free link.task (AtInput spot.task spot.place link.number) (input_is parts spot link place) same

-- a worker for a Ready task
pub start_revised : {K : Type 0} (parts : Parts K) (t : ℕ) (e : Entry K) (row : Caller) (worker : ℕ) → IsWhole parts → entries_at parts.entries t ≡ Some e → caller_at parts.callers e.caller ≡ Some row → status (graph_of parts) t ≡ Ready
    → IsRevised parts t e (Some worker) e.asked (row.running + 1)
start_revised parts t e row worker whole is at ready =
    let own : status_of (shown_entry e) ≡ Ready = sym (status_there parts t e is) ∙ ready in
    let none = not_waiting (shown_entry e) Ready own (λ clash. cc) in
    let before = run_ready (shown_entry e) own in
    let after = run_running (record (shown_entry e) { runner = Some worker; asked = e.asked }) (status_with (shown_entry e) (Some worker) e.asked true none refl) in
    record {
      idle = inr (no_links parts t e is none);
      free = λ n is. inr is;
      counted = λ other there. let one = ap (λ (r : Caller). r.running) (same_some row other (sym at ∙ there)) in omega arith;
    }

pub start_few : {K : Type 0} (parts : Parts K) (t : ℕ) (e : Entry K) (row : Caller) → IsWhole parts → entries_at parts.entries t ≡ Some e → caller_at parts.callers e.caller ≡ Some row → status (graph_of parts) t ≡ Ready
    → IsDistinct nat_eq (keys_of parts.entries.tasks.entries) → row.running + 1 ≤ length parts.entries.tasks.entries
start_few parts t e row whole is at ready distinct =
    let own : status_of (shown_entry e) ≡ Ready = sym (status_there parts t e is) ∙ ready in
    let fails : is_run_for e.caller (shown_entry e) ≡ false = ap (λ s. nat_eq e.caller e.caller && is_running s) own ∙ elim (nat_eq e.caller e.caller) as (λ b. (b && false) ≡ false) [ true ↦ refl | false ↦ refl ] in
    let less = count_less (is_run_for e.caller) (tasks_of parts.entries.tasks.entries) t (shown_entry e) (task_there parts t e is) fails in
    let len = len-tasks_of parts.entries.tasks.entries distinct in
    let count = whole.counted e.caller row at in
    omega arith

-- no worker for a Running task
pub back_revised : {K : Type 0} (parts : Parts K) (t : ℕ) (e : Entry K) (row : Caller) → IsWhole parts → entries_at parts.entries t ≡ Some e → caller_at parts.callers e.caller ≡ Some row → status (graph_of parts) t ≡ Running → 1 ≤ row.running
    → IsRevised parts t e None e.asked (row.running - 1)
back_revised parts t e row whole is at runs some =
    let own : status_of (shown_entry e) ≡ Running = sym (status_there parts t e is) ∙ runs in
    let none = not_waiting (shown_entry e) Running own (λ clash. cc) in
    let before = run_running (shown_entry e) own in
    let after = run_ready (record (shown_entry e) { runner = None; asked = e.asked }) (status_with (shown_entry e) None e.asked false none refl) in
    record {
      idle = inl refl;
      free = λ n is. inr is;
      counted = λ other there. let one = ap (λ (r : Caller). r.running) (same_some row other (sym at ∙ there)) in omega arith;
    }

-- a Running task is counted
pub back_some : {K : Type 0} (parts : Parts K) (t : ℕ) (e : Entry K) (row : Caller) → IsWhole parts → entries_at parts.entries t ≡ Some e → caller_at parts.callers e.caller ≡ Some row → status (graph_of parts) t ≡ Running → 1 ≤ row.running
back_some parts t e row whole is at runs =
    let own : status_of (shown_entry e) ≡ Running = sym (status_there parts t e is) ∙ runs in
    let before = run_running (shown_entry e) own in
    let m = tasks_of parts.entries.tasks.entries in
    let counts = count_changed (is_run_for e.caller) m (map.remove m t) t (λ q apart. get_removed m t q ∙ ap (λ b. cond b None (map.get m q)) (test_apart q t apart)) in
    let one : passes (is_run_for e.caller) (map.get m t) ≡ run_for e.caller (shown_entry e) = ap (passes (is_run_for e.caller)) (task_there parts t e is) in
    let two : passes (is_run_for e.caller) (map.get (map.remove m t) t) ≡ 0 = ap (passes (is_run_for e.caller)) (get_removed m t t ∙ ap (λ b. cond b None (map.get m t)) (test_same t)) in
    let count = whole.counted e.caller row at in
    omega arith

-- another asked output
pub ask_revised : {K : Type 0} (parts : Parts K) (t : ℕ) (e : Entry K) (row : Caller) (asked : Option ℕ) → IsWhole parts → entries_at parts.entries t ≡ Some e → caller_at parts.callers e.caller ≡ Some row
    → ((n : ℕ) → asked ≡ Some n → IsUnused (link_at (entries_at parts.entries)) n) → IsRevised parts t e e.runner asked row.running
ask_revised parts t e row asked whole is at free = record {
  idle = elim (none_or_some e.runner) [
    | inl none ↦ inl none
    | inr some ↦ inr (λ p l linked same.
        let h = whole.woven.home p l linked in
        let one = same_some (head_of e) h.0 (sym (ap (head_at (entries_at parts.entries)) same ∙ ap (option_map head_of) is) ∙ h.2) in
        not_none e.runner some.0 (ap (λ (x : Head). x.runner) one ∙ h.5) some.1)
  ];
  free = λ n is. inl (free n is);
  counted = λ other there. let one = ap (λ (r : Caller). r.running) (same_some row other (sym at ∙ there)) in omega arith;
}
