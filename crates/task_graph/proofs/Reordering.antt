-- The same tasks in another order, and more room.
use Rattle.std.proofs.Common.{◌≡◌, ℕ, ◌+◌, ◌<◌, ◌≤◌, ◌^◌, sym, ap, subst, ◌∙◌, arith, length}
use Rattle.std.specs.Option.{option_map}
use Rattle.std.specs.FinMap as map
use Rattle.std.specs.HashMap.{hash_map_len}
use Rattle.task_states.specs.States.{is_run_for}
use Rattle.task_states.specs.Maps.{kept}
use Rattle.task_states.specs.Awaiters.{IsRunnable}
use Rattle.task_states.proofs.Maps.{same_maps}
use Rattle.task_links.specs.declared.callers.Callers.{Callers}
use Rattle.task_graph.specs.declared.held.Held.{Held}
use Rattle.task_graph.specs.declared.parts.Parts.{Parts}
use Rattle.task_links.specs.Inside.{entries_at, shown_entry, station_at, room_of}
use Rattle.task_links.specs.Callers.{caller_at, bounds_at}
use Rattle.task_links.specs.Weave.{head_at, link_at, IsWoven}
use Rattle.task_links.specs.Order.{IsOrdered}
use Rattle.task_links.specs.Queue.{is_queued, IsQueue, queue_capacity}
use Rattle.task_graph.specs.Graphs.{tasks_of, graph_of, stopped_from, IsWhole, IsHeld}
use Rattle.task_graph.proofs.Runs.{task_is}

module _ {K : Type 0} (old new : Parts K) (at : (q : ℕ) → entries_at new.entries q ≡ entries_at old.entries q) (same : new.callers ≡ old.callers) where
  entries_same : entries_at old.entries ≡ entries_at new.entries
  entries_same = λ i q. sym (at q) i

  tasks_same : tasks_of new.entries.tasks.entries ≡ tasks_of old.entries.tasks.entries
  tasks_same = same_maps _ _ (λ q. task_is new q ∙ ap (option_map shown_entry) (at q) ∙ sym (task_is old q))

  pub reordered_graph : graph_of new ≡ graph_of old
  reordered_graph = λ i. record { tasks = tasks_same i; stopped = stopped_from 0 (same i).rows }

  pub reordered_whole : IsWhole old → IsWhole new
  reordered_whole whole = record {
    woven = subst (λ es. IsWoven (head_at es) (link_at es)) entries_same whole.woven;
    ordered = subst (λ es. IsOrdered (bounds_at (caller_at new.callers)) (station_at es)) entries_same (subst (λ (c : Callers). IsOrdered (bounds_at (caller_at c)) (station_at (entries_at old.entries))) (sym same) whole.ordered);
    short = λ q e is. whole.short q e (sym (at q) ∙ is);
    rows = ap (λ (c : Callers). length c.rows) same ∙ whole.rows;
    counted = λ c row is. whole.counted c row (ap (λ (x : Callers). caller_at x c) (sym same) ∙ is) ∙ ap (λ tasks. map.len (kept (is_run_for c) tasks)) (sym tasks_same);
  }

-- all of it still holds
pub reordered_held : {K : Type 0} (old new : Held K) → IsHeld old → ((q : ℕ) → entries_at new.parts.entries q ≡ entries_at old.parts.entries q) → new.parts.callers ≡ old.parts.callers → hash_map_len new.parts.entries.tasks ≡ hash_map_len old.parts.entries.tasks
    → ((q : ℕ) → is_queued q new.ready ≡ is_queued q old.ready) → (IsQueue old.ready → IsQueue new.ready) → new.spare ≤ room_of new.parts.entries → hash_map_len old.parts.entries.tasks + new.spare ≤ queue_capacity new.ready → hash_map_len old.parts.entries.tasks + new.spare < 2 ^ 32 → IsHeld new
reordered_held old new held at same len queued queue entries numbers few =
    let graph = reordered_graph old.parts new.parts at same in
    record {
      whole = reordered_whole old.parts new.parts at same held.whole;
      queue = queue held.queue;
      queued = λ task runs. queued task ∙ held.queued task (subst (λ g. IsRunnable g task) graph runs);
      least = λ task least. subst (λ g. IsRunnable g task) (sym graph) (held.least task (sym (queued task) ∙ least.0, λ number is. least.1 number (queued number ∙ is)));
      room = record { entries = entries; numbers = omega arith; few = omega arith };
    }
