-- A Running task goes, and its caller has one Running task less.
use Rattle.std.proofs.Common.{◌≡◌, ◌≤◌, ◌-◌, ℕ, Bool, cond, ◌&&◌, Some, nat_eq, sym, ap, subst, ◌∙◌, inl, inr, arith, length, refl, None}
use Rattle.std.specs.Option.{option_map}
use Rattle.task_states.specs.declared.states.TaskStatus.TheVariants.{Running}
use Rattle.std.specs.FinMap as map
use Rattle.task_states.specs.Maps.{kept as kept_of}
use Rattle.task_states.specs.States.{status, status_of, is_running, is_run_for, running}
use Rattle.task_states.specs.Steps.{removed}
use Rattle.task_states.proofs.Maps.{same_or_not, test_same, test_apart}
use Rattle.task_states.proofs.Options.{map_behind, same_some}
use Rattle.task_links.specs.declared.callers.Caller.{Caller}
use Rattle.task_links.specs.declared.entries.Entries.{Entries}
use Rattle.task_links.specs.declared.entries.Entry.{Entry}
use Rattle.task_links.specs.Callers.{caller_at, bounds_at, bounds_of, load_at, with_running_at}
use Rattle.task_links.specs.Inside.{entries_at, station_at, shown_entry}
use Rattle.task_links.specs.Order.{IsOrdered}
use Rattle.task_links.specs.Weave.{IsBeside, IsWithout, IsWoven, Middle, head_at, link_at}
use Rattle.task_graph.specs.declared.parts.Parts.{Parts}
use Rattle.task_graph.specs.Graphs.{graph_of, tasks_of, stopped_from, run_for, IsWhole, IsLoose}
use Rattle.task_graph.proofs.Keeping.{taken-woven, taken-short, taken-count, taken-row, taken-graph}
use Rattle.task_graph.proofs.Marking.{back_some, run_running}
use Rattle.task_graph.proofs.Revising.{same_stopped}
use Rattle.task_graph.proofs.Runs.{status_there}

abbrev one_if : Bool → ℕ
one_if b = cond b 1 0

-- the row of the task's caller counts it
pub going_some : {K : Type 0} (old taken : Parts K) (middle : Middle K) (t : ℕ) (row : Caller) (whole : IsWhole old) (own : Entry K) (loose : IsLoose old t own) (without : IsWithout (entries_at old.entries) middle t) (beside : IsBeside middle (entries_at taken.entries))
    (ordered : IsOrdered (bounds_at (caller_at taken.callers)) (station_at (entries_at taken.entries))) (load : (q : ℕ) → load_at (caller_at taken.callers) q ≡ load_at (caller_at old.callers) q) (len : length taken.callers.rows ≡ length old.callers.rows)
    → status (graph_of old) t ≡ Running → caller_at taken.callers own.caller ≡ Some row → 1 ≤ row.running
going_some old taken middle t row whole own loose without beside ordered load len runs at =
    let b = taken-row old taken middle t whole own loose without beside ordered load len own.caller row at in
    let some = back_some old t own b.0 whole loose.there b.1 runs in
    let same = b.2 in
    omega arith

module _ {K : Type 0} (old taken new : Parts K) (middle : Middle K) (t : ℕ) (row : Caller) (whole : IsWhole old) (own : Entry K) (loose : IsLoose old t own) (without : IsWithout (entries_at old.entries) middle t) (beside : IsBeside middle (entries_at taken.entries))
    (ordered : IsOrdered (bounds_at (caller_at taken.callers)) (station_at (entries_at taken.entries))) (load : (q : ℕ) → load_at (caller_at taken.callers) q ≡ load_at (caller_at old.callers) q) (len : length taken.callers.rows ≡ length old.callers.rows)
    (runs : status (graph_of old) t ≡ Running) (at : caller_at taken.callers own.caller ≡ Some row) (same : new.entries ≡ taken.entries)
    (rows : (q : ℕ) → caller_at new.callers q ≡ option_map (with_running_at q own.caller (row.running - 1)) (caller_at taken.callers q)) (len_new : length new.callers.rows ≡ length taken.callers.rows) where
  going_stopped : stopped_from 0 new.callers.rows ≡ stopped_from 0 taken.callers.rows
  going_stopped = same_stopped 0 taken.callers.rows new.callers.rows len_new (λ i r there. (with_running_at i own.caller (row.running - 1) r, rows i ∙ ap (option_map (with_running_at i own.caller (row.running - 1))) there, refl))

  pub going-graph : graph_of new ≡ removed (graph_of old) t
  going-graph =
      (λ i. record { tasks = tasks_of (same i).tasks.entries; stopped = going_stopped i })
      ∙ taken-graph old taken middle t whole own loose without beside ordered load len

  going_bounds : (q : ℕ) → bounds_at (caller_at new.callers) q ≡ bounds_at (caller_at taken.callers) q
  going_bounds q = ap (option_map bounds_of) (rows q) ∙ elim (caller_at taken.callers q) as (λ o. option_map bounds_of (option_map (with_running_at q own.caller (row.running - 1)) o) ≡ option_map bounds_of o) [ None ↦ refl | Some row ↦ refl ]

  other_none : (c : ℕ) → (c ≡ own.caller → ⊥) → run_for c (shown_entry own) ≡ 0
  other_none c apart = ap (λ b. one_if (b && is_running (status_of (shown_entry own)))) (test_apart own.caller c (λ is. apart (sym is)))

  own_one : run_for own.caller (shown_entry own) ≡ 1
  own_one = run_running (shown_entry own) (sym (status_there old t own loose.there) ∙ runs)

  pub going-whole : IsWhole new
  going-whole = record {
    woven = subst (λ (es : Entries K). IsWoven (head_at (entries_at es)) (link_at (entries_at es))) (sym same) (taken-woven old taken middle t whole own loose without beside ordered load len);
    ordered = subst (λ (es : Entries K). IsOrdered (bounds_at (caller_at new.callers)) (station_at (entries_at es))) (sym same) (subst (λ b. IsOrdered b (station_at (entries_at taken.entries))) (λ i q. sym (going_bounds q) i) ordered);
    short = subst (λ (es : Entries K). (q : ℕ) (e : Entry K) → entries_at es q ≡ Some e → e.count ≤ 4) (sym same) (taken-short old taken middle t whole own loose without beside ordered load len);
    rows = len_new ∙ len ∙ whole.rows;
    counted = λ c r is.
        let b = map_behind (with_running_at c own.caller (row.running - 1)) (caller_at taken.callers c) r (sym (rows c) ∙ is) in
        let w = taken-row old taken middle t whole own loose without beside ordered load len c b.0 b.1 in
        let was = whole.counted c w.0 w.1 in
        let kept = w.2 in
        let counts = taken-count old taken middle t whole own loose without beside ordered load len c in
        let now : running (graph_of new) c ≡ running (graph_of taken) c = ap (λ (es : Entries K). map.len (kept_of (is_run_for c) (tasks_of es.tasks.entries))) same in
        ap (λ (x : Caller). x.running) (sym b.2) ∙ elim (same_or_not c own.caller) [
          | inl here ↦
              let one : run_for c (shown_entry own) ≡ 1 = ap (λ d. run_for d (shown_entry own)) here ∙ own_one in
              let equal : b.0.running ≡ row.running = ap (λ (x : Caller). x.running) (same_some b.0 row (sym b.1 ∙ ap (caller_at taken.callers) here ∙ at)) in
              ap (λ test. cond test (row.running - 1) b.0.running) (ap (λ d. nat_eq d own.caller) here ∙ test_same own.caller) ∙ omega arith
          | inr apart ↦
              let none = other_none c apart in
              ap (λ test. cond test (row.running - 1) b.0.running) (test_apart c own.caller apart) ∙ omega arith
        ];
  }
