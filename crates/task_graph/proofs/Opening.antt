-- Where there is no task, all holds.
use Rattle.std.proofs.Common.{◌≡◌, ℕ, ◌<◌, ◌≤◌, false, Some, None, nat_eq, refl, sym, ap, subst, ◌∙◌, inl, inr, arith, List, [], ◌∷◌, length, suc, zero}
use Rattle.std.specs.Prelude.{slice_get}
use Rattle.std.specs.Option.{option_map}
use Rattle.std.specs.FinMap as map
use Rattle.std.specs.FinSet as numbers
use Rattle.std.specs.Ordering.{nat_cmp}
use Rattle.std.specs.Cmp.{nat_cmp_total}
use Rattle.std.specs.HashMap.{hash_map_len}
use Rattle.std.proofs.lemmas.Bool.{cases_lt}
use Rattle.cht_ids.specs.declared.refs.Ref.{Ref}
use Rattle.task_states.specs.States.{Unfinished, no_tasks, task_at, is_run_for}
use Rattle.task_states.specs.Awaiters.{IsRunnable}
use Rattle.task_states.proofs.Maps.{len-kept}
use Rattle.task_states.proofs.Options.{not_none, same_some, map_behind}
use Rattle.task_links.specs.declared.callers.Caller.{Caller}
use Rattle.task_links.specs.declared.entries.Spot.{Spot}
use Rattle.task_graph.specs.declared.held.Held.{Held}
use Rattle.task_graph.specs.declared.parts.Parts.{Parts}
use Rattle.task_links.specs.declared.kept.Kept.{Kept}
use Rattle.task_links.specs.Kept.{opened}
use Rattle.task_links.specs.Inside.{entries_at, place_in, station_at, station_of}
use Rattle.task_links.specs.Callers.{caller_at, bounds_at, bounds_of}
use Rattle.task_links.specs.Weave.{Head, Leads, head_at, head_of, link_at, link_of}
use Rattle.task_links.specs.Order.{Bounds, row_at, IsTail}
use Rattle.std.specs.Map.{lookup}
use Rattle.task_graph.specs.Graphs.{tasks_of, graph_of, stopped_from, IsWhole, IsHeld}
use Rattle.task_links.specs.Queue.{is_queued, IsQueue}
use Rattle.task_links.proofs.Orders.{station_of_row}
use Rattle.task_graph.proofs.Views.{has-stopped, flag}

abbrev no_row : Caller
no_row = record { first = None; last = None; running = 0; stopped = false }

past : (rows : List Caller) (q : ℕ) → length rows ≤ q → slice_get rows q ≡ None
past [] q low = refl
past (r ∷ rows) zero low = absurd (omega arith)
past (r ∷ rows) (suc q) low = past rows q (omega arith)

tasks-none : {K : Type 0} (es : List (ℕ × Kept K)) → es ≡ [] → tasks_of es ≡ map.empty
unfolding tasks_of
tasks-none es is = ap (λ xs. tasks_of xs) is

module _ {K : Type 0} (parts : Parts K) (none : parts.entries.tasks.entries ≡ []) (rows : (c : ℕ) → c < 64 → caller_at parts.callers c ≡ Some (record { first = None; last = None; running = 0; stopped = false })) (len : length parts.callers.rows ≡ 64) where
  entry_none : (q : ℕ) → entries_at parts.entries q ≡ None
  entry_none q = ap (λ es. option_map opened (lookup (nat_eq q) es)) none

  head_none : (q : ℕ) (h : Head) → head_at (entries_at parts.entries) q ≡ Some h → ⊥
  head_none q h is = not_none (head_at (entries_at parts.entries) q) h (ap (option_map head_of) (entry_none q)) is

  link_none : (p : Spot) → link_at (entries_at parts.entries) p ≡ None
  link_none p = ap (λ o. link_of (place_in o p.place)) (entry_none p.task)

  station_none : (q : ℕ) → station_at (entries_at parts.entries) q ≡ None
  station_none q = ap (option_map station_of) (entry_none q)

  row_is : (c : ℕ) (row : Caller) → caller_at parts.callers c ≡ Some row → row ≡ no_row
  row_is c row is =
      elim (cases_lt c 64) [
        | inl low ↦ same_some row no_row (sym is ∙ rows c low)
        | inr high ↦ absurd (not_none (caller_at parts.callers c) row (past parts.callers.rows c (omega (arith, len))) is)
      ]

  bounds_is : (c : ℕ) (own : Bounds) → bounds_at (caller_at parts.callers) c ≡ Some own → own ≡ bounds_of no_row
  bounds_is c own is = let b = map_behind bounds_of (caller_at parts.callers c) own is in sym b.2 ∙ ap bounds_of (row_is c b.0 b.1)

  no_rows : (q g k : ℕ) → row_at (station_at (entries_at parts.entries)) q ≡ Some (g, k) → ⊥
  no_rows q g k is = let r = station_of_row (station_at (entries_at parts.entries)) q g k is in not_none (station_at (entries_at parts.entries) q) r.0 (station_none q) r.1

  pub none-tasks : tasks_of parts.entries.tasks.entries ≡ map.empty
  none-tasks = tasks-none parts.entries.tasks.entries none

  none-stopped : stopped_from 0 parts.callers.rows ≡ numbers.empty
  none-stopped = numbers.same_set nat_cmp_total map.nat_cmp-IsAntisymmetric _ _ (λ q.
      has-stopped parts.callers.rows q
      ∙ elim (cases_lt q 64) [
        | inl low ↦ ap flag (rows q low)
        | inr high ↦ ap flag (past parts.callers.rows q (omega (arith, len)))
      ]
      ∙ sym (numbers.contains-empty nat_cmp q))

  pub none-graph : graph_of parts ≡ no_tasks
  none-graph = λ i. record { tasks = none-tasks i; stopped = none-stopped i }

  pub none-whole : IsWhole parts
  none-whole = record {
    woven = record {
      firsts = λ q h is. absurd (head_none q h is);
      nexts = λ p l is. absurd (not_none (link_at (entries_at parts.entries) p) l (link_none p) is);
      lasts = λ q h is. absurd (head_none q h is);
      home = λ p l is. absurd (not_none (link_at (entries_at parts.entries) p) l (link_none p) is);
      apart = λ p q l m is _ _. absurd (not_none (link_at (entries_at parts.entries) p) l (link_none p) is);
      asked_apart = λ p l q h n is _ _ _. not_none (link_at (entries_at parts.entries) p) l (link_none p) is;
      small = λ p l is. absurd (not_none (link_at (entries_at parts.entries) p) l (link_none p) is);
    };
    ordered = record {
      firsts = λ c own is. subst (λ (b : Bounds). Leads (row_at (station_at (entries_at parts.entries))) c None b.first) (sym (bounds_is c own is)) (λ q k row more. no_rows q c k row);
      afters = λ q s is. absurd (not_none (station_at (entries_at parts.entries) q) s (station_none q) is);
      befores = λ q s is. absurd (not_none (station_at (entries_at parts.entries) q) s (station_none q) is);
      lasts = λ c own is. subst (λ (b : Bounds). IsTail (station_at (entries_at parts.entries)) c b.first b.last) (sym (bounds_is c own is)) refl;
      known = λ q s is. absurd (not_none (station_at (entries_at parts.entries) q) s (station_none q) is);
    };
    short = λ q e is. absurd (not_none (entries_at parts.entries q) e (entry_none q) is);
    rows = len;
    counted = λ c row is.
        let most = len-kept (is_run_for c) (tasks_of parts.entries.tasks.entries) in
        let none_len = ap map.len none-tasks ∙ map.len-empty nat_cmp (Unfinished Ref K) in
        let zero_run = ap (λ (r : Caller). r.running) (row_is c row is) in
        omega arith;
  }

  pub none_runs : (q : ℕ) → IsRunnable (graph_of parts) q → ⊥
  none_runs q runs = not_none (task_at (graph_of parts) q) runs.unfinished (ap (λ m. map.get m q) none-tasks ∙ map.get-empty nat_cmp q) runs.there

pub none-held : {K : Type 0} (held : Held K) → held.parts.entries.tasks.entries ≡ [] → ((c : ℕ) → c < 64 → caller_at held.parts.callers c ≡ Some (record { first = None; last = None; running = 0; stopped = false })) → length held.parts.callers.rows ≡ 64
    → IsQueue held.ready → ((q : ℕ) → is_queued q held.ready ≡ false) → hash_map_len held.parts.entries.tasks ≡ 0 → held.spare ≡ 0 → IsHeld held
none-held held none rows len queue empty count spare = record {
  whole = none-whole held.parts none rows len;
  queue = queue;
  queued = λ task runs. absurd (none_runs held.parts none rows len task runs);
  least = λ task least. absurd (let clash = sym (empty task) ∙ least.0 in cc);
  room = record { entries = omega arith; numbers = omega arith; few = omega arith };
}
