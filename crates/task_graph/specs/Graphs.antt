-- Which tasks the fields behind `Tasks` stand for, and what holds of them.
use Rattle.std.specs.Prelude.{◌≡◌, ℕ, suc, ◌+◌, ◌≤◌, ◌<◌, ◌^◌, cond, true, List, [], ◌∷◌, length, ◌++◌, slice_get, map as each, Option, None, Some, ◌⊎◌}
use Rattle.std.specs.HashMap.{hash_map_len}
use Rattle.std.specs.Ordering.{nat_cmp}
use Rattle.std.specs.FinMap as map
use Rattle.std.specs.FinSet as numbers
use Rattle.cht_ids.specs.declared.refs.Ref.{Ref}
use Rattle.task_states.specs.States.{Unfinished, Graph, running, is_run_for, status_of}
use Rattle.task_states.specs.Awaiters.{IsRunnable}
use Rattle.task_links.specs.declared.callers.Caller.{Caller}
use Rattle.task_links.specs.declared.entries.Entry.{Entry}
use Rattle.task_links.specs.declared.entries.Link.{Link}
use Rattle.task_links.specs.declared.entries.Spot.{Spot}
use Rattle.task_graph.specs.declared.parts.Parts.{Parts}
use Rattle.task_graph.specs.declared.held.Held.{Held}
use Rattle.task_links.specs.declared.kept.Kept.{Kept}
use Rattle.task_links.specs.Kept.{opened}
use Rattle.task_links.specs.Inside.{shown_entry, place_in, entries_at, station_at, room_of}
use Rattle.task_links.specs.Weave.{head_at, link_at, link_of, IsWoven, IsUnused}
use Rattle.task_links.specs.Callers.{caller_at, bounds_at}
use Rattle.task_links.specs.Order.{IsOrdered}
use Rattle.task_links.specs.declared.queue.Queue.{Queue}
use Rattle.task_links.specs.Queue.{is_queued, IsQueue, IsQueueLeast, queue_capacity, queue_len}
use Rattle.task_states.specs.declared.states.TaskStatus.TheVariants.{Ready}

-- the stopped callers of rows, which count from a number
unfoldable pub stopped_from : ℕ → List Caller → numbers.FinSet nat_cmp
stopped_from first [] = numbers.empty
stopped_from first (row ∷ rows) = cond row.stopped (numbers.insert (stopped_from (suc first) rows) first) (stopped_from (suc first) rows)

module _ {K : Type 0} where
  -- the tasks of a hash map's entries
  unfoldable pub tasks_of : List (ℕ × Kept K) → map.FinMap nat_cmp (Unfinished Ref K)
  tasks_of entries = map.from_entries (each (λ e. (e.0, shown_entry (opened e.1))) entries)

  -- the tasks that the fields stand for
  abbrev pub graph_of : Parts K → Graph Ref K
  graph_of parts = record { tasks = tasks_of parts.entries.tasks.entries; stopped = stopped_from 0 parts.callers.rows }

  -- The fields hang together, and what is counted for each caller is exact.
  pub record IsWhole (parts : Parts K) : Type 0 where
    pub woven : IsWoven (head_at (entries_at parts.entries)) (link_at (entries_at parts.entries))
    pub ordered : IsOrdered (bounds_at (caller_at parts.callers)) (station_at (entries_at parts.entries))
    pub short : (task : ℕ) (entry : Entry K) → entries_at parts.entries task ≡ Some entry → entry.count ≤ 4
    pub rows : length parts.callers.rows ≡ 64
    pub counted : (caller : ℕ) (row : Caller) → caller_at parts.callers caller ≡ Some row → row.running ≡ running (graph_of parts) caller

  -- one task with another worker and another asked output
  abbrev pub with_revised : Graph Ref K → ℕ → Unfinished Ref K → Option ℕ → Option ℕ → Graph Ref K
  with_revised graph task unfinished runner asked = record graph { tasks = map.insert graph.tasks task (record unfinished { runner = runner; asked = asked }) }

  -- 1 where a task is Running for a caller, else 0
  abbrev pub run_for : ℕ → Unfinished Ref K → ℕ
  run_for caller unfinished = cond (is_run_for caller unfinished) 1 0

  -- A worker and an asked output that a task may have: no worker where an input awaits, no asked output under the number of
  -- an awaiting input; and how many tasks of its caller are Running then.
  pub record IsRevised (parts : Parts K) (task : ℕ) (entry : Entry K) (runner asked : Option ℕ) (running : ℕ) : Type 0 where
    pub idle : (runner ≡ None) ⊎ ((spot : Spot) (link : Link) → link_at (entries_at parts.entries) spot ≡ Some link → spot.task ≡ task → ⊥)
    pub free : (number : ℕ) → asked ≡ Some number → IsUnused (link_at (entries_at parts.entries)) number ⊎ (entry.asked ≡ Some number)
    pub counted : (row : Caller) → caller_at parts.callers entry.caller ≡ Some row
        → running + run_for entry.caller (shown_entry entry) ≡ row.running + run_for entry.caller (record (shown_entry entry) { runner = runner; asked = asked })

  -- a task that awaits nothing and that nobody awaits
  pub record IsLoose (parts : Parts K) (task : ℕ) (entry : Entry K) : Type 0 where
    pub there : entries_at parts.entries task ≡ Some entry
    pub waits : (spot : Spot) (link : Link) → link_at (entries_at parts.entries) spot ≡ Some link → spot.task ≡ task → ⊥
    pub awaited : (spot : Spot) (link : Link) → link_at (entries_at parts.entries) spot ≡ Some link → link.task ≡ task → ⊥

  -- an entry of at most four inputs, which awaits nothing, which no worker runs and nobody awaits
  pub record IsBare (entry : Entry K) : Type 0 where
    pub idle : entry.runner ≡ None
    pub asked : entry.asked ≡ None
    pub first : entry.first ≡ None
    pub last : entry.last ≡ None
    pub short : entry.count ≤ 4
    pub known : (place : ℕ) → link_of (place_in (Some entry) place) ≡ None

  -- Every task that can be run is among the numbers.
  abbrev pub AreQueued : Held K → Type 0
  AreQueued held = (task : ℕ) → IsRunnable (graph_of held.parts) task → is_queued task held.ready ≡ true

  -- Every task that can be run is among the numbers, but for one that may be missing.
  abbrev pub AreQueuedBut : Held K → ℕ → Type 0
  AreQueuedBut held but = (task : ℕ) → IsRunnable (graph_of held.parts) task → (task ≡ but) ⊎ (is_queued task held.ready ≡ true)

  -- The least number is that of a task that can be run.
  abbrev pub IsLeastRunnable : Held K → Type 0
  IsLeastRunnable held = (task : ℕ) → IsQueueLeast held.ready (Some task) → IsRunnable (graph_of held.parts) task

  -- There is room for the reserved tasks, and for the number of each.
  pub record HasRoom (held : Held K) : Type 0 where
    pub entries : held.spare ≤ room_of held.parts.entries
    pub numbers : hash_map_len held.parts.entries.tasks + held.spare ≤ queue_capacity held.ready
    pub few : hash_map_len held.parts.entries.tasks + held.spare < 2 ^ 32

  -- All of it holds, and the least number is that of a task that can be run.
  pub record IsHeld (held : Held K) : Type 0 where
    pub whole : IsWhole held.parts
    pub queue : IsQueue held.ready
    pub queued : AreQueued held
    pub least : IsLeastRunnable held
    pub room : HasRoom held

  -- the Ready ones of the first entries are among the numbers, as many at most
  pub record IsRefilled (entries rest : List (ℕ × Kept K)) (ready : Queue) : Type 0 where
    pub front : List (ℕ × Kept K)
    pub whole : front ++ rest ≡ entries
    pub count : queue_len ready ≤ length front
    pub queued : (i q : ℕ) (kept : Kept K) → slice_get front i ≡ Some (q, kept) → status_of (shown_entry (opened kept)) ≡ Ready → is_queued q ready ≡ true
