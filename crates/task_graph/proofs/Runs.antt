-- Which tasks can be run, behind the fields.
use Rattle.std.proofs.Common.{◌≡◌, ℕ, ◌<◌, Bool, true, false, Option, Some, None, refl, sym, ap, subst, ◌∙◌, arith, length, List, [], ◌∷◌, zero, suc}
use Rattle.std.specs.Option.{option_map}
use Rattle.std.specs.Prelude.{slice_get, IsTrue, ◌↔◌, not}
use Rattle.std.proofs.Common.{rules}
use Rattle.cht_ids.specs.declared.refs.Ref.{Ref}
use Rattle.task_states.specs.declared.states.TaskStatus.{TaskStatus}
use Rattle.task_states.specs.declared.states.TaskStatus.TheVariants.{Unknown, Ready}
use Rattle.task_states.specs.States.{Unfinished, task_at, status, status_of, is_stopped}
use Rattle.task_states.specs.Awaiters.{IsRunnable}
use Rattle.task_states.proofs.Options.{not_none, same_some, map_behind}
use Rattle.task_states.proofs.Runnables.{ready_of}
use Rattle.task_links.specs.declared.callers.Caller.{Caller}
use Rattle.task_links.specs.declared.entries.Entry.{Entry}
use Rattle.task_graph.specs.declared.parts.Parts.{Parts}
use Rattle.task_links.specs.Inside.{shown_entry, shown_at, entries_at, station_of}
use Rattle.task_links.specs.Callers.{caller_at, bounds_of}
use Rattle.task_links.specs.Order.{Bounds}
use Rattle.task_graph.specs.Graphs.{graph_of, IsWhole}
use Rattle.task_graph.proofs.Views.{get-tasks_of, has-stopped, flag}

bound : (own : Bounds) (o : Option Caller) → option_map bounds_of o ≡ Some own → (row : Caller) × (o ≡ Some row)
bound own None is = absurd (not_none None own refl is)
bound own (Some row) is = (row, refl)

within : (rows : List Caller) (c : ℕ) → (row : Caller) × (slice_get rows c ≡ Some row) → c < length rows
within [] c found = absurd (not_none None found.0 refl found.1)
within (r ∷ rows) zero found = omega arith
within (r ∷ rows) (suc c) found = let low = within rows c found in omega arith

pub no_iff : {P : Type 0} → (P → ⊥) → IsTrue false ↔ P
no_iff never = (λ yes. absurd (search rules), λ p. absurd (never p))

pub not_iff : {P : Type 0} (b : Bool) → (b ≡ false → P) → (P → b ≡ false) → IsTrue (not b) ↔ P
not_iff true to from = (λ yes. absurd (search rules), λ p. absurd (let e = from p in cc))
not_iff false to from = (λ yes. to refl, λ p. search rules)

module _ {K : Type 0} (parts : Parts K) where
  -- the task with a number
  pub task_is : (q : ℕ) → task_at (graph_of parts) q ≡ shown_at (entries_at parts.entries) q
  task_is q = get-tasks_of parts.entries.tasks.entries q

  pub task_there : (q : ℕ) (entry : Entry K) → entries_at parts.entries q ≡ Some entry → task_at (graph_of parts) q ≡ Some (shown_entry entry)
  task_there q entry is = task_is q ∙ ap (option_map shown_entry) is

  pub task_none : (q : ℕ) → entries_at parts.entries q ≡ None → task_at (graph_of parts) q ≡ None
  task_none q is = task_is q ∙ ap (option_map shown_entry) is

  pub status_there : (q : ℕ) (entry : Entry K) → entries_at parts.entries q ≡ Some entry → status (graph_of parts) q ≡ status_of (shown_entry entry)
  status_there q entry is = ap (λ o. elim o as (λ _. TaskStatus) [ None ↦ Unknown | Some task ↦ status_of task ]) (task_there q entry is)

  pub status_none : (q : ℕ) → entries_at parts.entries q ≡ None → status (graph_of parts) q ≡ Unknown
  status_none q is = ap (λ (o : Option (Unfinished Ref K)). elim o as (λ _. TaskStatus) [ None ↦ Unknown | Some task ↦ status_of task ]) (task_none q is)

  -- whether a caller is stopped
  pub stopped_is : (c : ℕ) (row : Caller) → caller_at parts.callers c ≡ Some row → is_stopped (graph_of parts) c ≡ row.stopped
  stopped_is c row is = has-stopped parts.callers.rows c ∙ ap flag is

  pub runnable_there : (q : ℕ) (entry : Entry K) (row : Caller) → entries_at parts.entries q ≡ Some entry → caller_at parts.callers entry.caller ≡ Some row → status_of (shown_entry entry) ≡ Ready → row.stopped ≡ false → IsRunnable (graph_of parts) q
  runnable_there q entry row is at ready going = record {
    unfinished = shown_entry entry;
    there = task_there q entry is;
    ready = status_there q entry is ∙ ready;
    not_stopped = stopped_is entry.caller row at ∙ going;
  }

  pub not_runnable : (q : ℕ) → entries_at parts.entries q ≡ None → IsRunnable (graph_of parts) q → ⊥
  not_runnable q is runs = not_none (task_at (graph_of parts) q) runs.unfinished (task_none q is) runs.there

  pub runnable_ready : (q : ℕ) (entry : Entry K) → entries_at parts.entries q ≡ Some entry → IsRunnable (graph_of parts) q → status_of (shown_entry entry) ≡ Ready
  runnable_ready q entry is runs = sym (status_there q entry is) ∙ runs.ready

  pub runnable_going : (q : ℕ) (entry : Entry K) (row : Caller) → entries_at parts.entries q ≡ Some entry → caller_at parts.callers entry.caller ≡ Some row → IsRunnable (graph_of parts) q → row.stopped ≡ false
  runnable_going q entry row is at runs =
      let one = same_some runs.unfinished (shown_entry entry) (sym runs.there ∙ task_there q entry is) in
      sym (stopped_is entry.caller row at) ∙ ap (λ (u : Unfinished Ref K). is_stopped (graph_of parts) u.caller) (sym one) ∙ runs.not_stopped

  -- the entry of a task that can be run
  pub entry_runs : (q : ℕ) → IsRunnable (graph_of parts) q → (e : Entry K) × (entries_at parts.entries q ≡ Some e) × (status_of (shown_entry e) ≡ Ready)
  entry_runs q runs =
      let e = map_behind shown_entry (entries_at parts.entries q) runs.unfinished (sym (task_is q) ∙ runs.there) in
      (e.0, e.1, ap status_of e.2 ∙ ready_of (graph_of parts) q runs)

  -- the row of a task's caller
  pub row_there : IsWhole parts → (q : ℕ) (entry : Entry K) → entries_at parts.entries q ≡ Some entry → (row : Caller) × (caller_at parts.callers entry.caller ≡ Some row)
  row_there whole q entry is = let k = whole.ordered.known q (station_of entry) (ap (option_map station_of) is) in bound k.0 (caller_at parts.callers entry.caller) k.1

  -- the caller of a task is below 64
  pub caller_low : IsWhole parts → (q : ℕ) (entry : Entry K) → entries_at parts.entries q ≡ Some entry → entry.caller < 64
  caller_low whole q entry is =
      let k = whole.ordered.known q (station_of entry) (ap (option_map station_of) is) in
      subst (λ n. entry.caller < n) whole.rows (within parts.callers.rows entry.caller (bound k.0 (caller_at parts.callers entry.caller) k.1))

pub true_is : IsTrue true
true_is = refl

pub false_is : IsTrue false → ⊥
false_is is = cc
