-- All that holds of the fields still holds once a task comes that awaits nothing, or goes, or a caller is stopped.
use Rattle.std.proofs.Common.{◌≡◌, ℕ, ◌+◌, ◌≤◌, Bool, true, false, cond, ◌&&◌, ◌||◌, Option, Some, None, is_some, nat_eq, refl, sym, ap, subst, ◌∙◌, ◌⊎◌, inl, inr, arith, length}
use Rattle.std.specs.Prelude.{if◌then◌else◌}
use Rattle.std.specs.List.{list_any}
use Rattle.task_states.specs.declared.states.TaskStatus.TheVariants.{Waiting, Ready, Running}
use Rattle.std.specs.Option.{option_map}
use Rattle.std.specs.FinMap as map
use Rattle.std.specs.FinSet as numbers
use Rattle.std.specs.Cmp.{nat_cmp_total}
use Rattle.cht_ids.specs.declared.refs.Ref.{Ref}
use Rattle.task_states.specs.States.{Unfinished, is_run_for, running, is_running, is_awaiting}
use Rattle.task_states.specs.Steps.{removed, added, with_stopped}
use Rattle.task_states.proofs.Maps.{same_or_not, test_same, test_apart, same_maps, get_inserted, get_removed}
use Rattle.task_states.specs.States.{Input}
use Rattle.task_states.specs.Steps.{with_task}
use Rattle.task_states.specs.Maps.{put_at, kept}
use Rattle.task_states.proofs.Options.{map_id, not_none, same_some, map_behind}
use Rattle.task_states.proofs.Changes.{tasks_changed}
use Rattle.std.specs.Prelude.{set}
use Rattle.task_links.specs.declared.callers.Callers.{Callers}
use Rattle.task_links.specs.Inside.{with_input}
use Rattle.task_links.specs.declared.callers.Caller.{Caller}
use Rattle.task_links.specs.declared.entries.Entry.{Entry}
use Rattle.task_links.specs.declared.entries.Entries.{Entries}
use Rattle.task_links.specs.declared.entries.Link.{Link}
use Rattle.task_links.specs.declared.entries.Spot.{Spot}
use Rattle.task_graph.specs.declared.parts.Parts.{Parts}
use Rattle.task_links.specs.Weave.{Head, IsWoven, IsBeside, IsInserted, IsWithout, Middle, link_of, link_at, head_at, head_of, count_of}
use Rattle.task_links.specs.Inside.{shown_entry, shown_at, entries_at, place_in, station_at}
use Rattle.task_links.specs.Callers.{caller_at, bounds_at, bounds_of, load_at, load_of, Load}
use Rattle.task_links.specs.Order.{IsOrdered}
use Rattle.task_graph.specs.Graphs.{tasks_of, graph_of, stopped_from, run_for, IsWhole, IsLoose, IsBare}
use Rattle.task_links.proofs.Weaving.{left-woven}
use Rattle.task_graph.proofs.Counting.{count_changed, passes}
use Rattle.task_graph.proofs.Views.{has-stopped, flag, has_inserted, has}
use Rattle.task_graph.proofs.Revising.{same_stopped}
use Rattle.task_graph.proofs.Runs.{task_is, task_there}

abbrev one_if : Bool → ℕ
one_if b = cond b 1 0

none_of : {X Y : Type 0} (f : X → Y) (o : Option X) (y : Y) → option_map f o ≡ Some y → (x : X) × (o ≡ Some x) × (f x ≡ y)
none_of f o y is = map_behind f o y is

module _ {K : Type 0} (old new : Parts K) (middle : Middle K) (beside : IsBeside middle (entries_at new.entries)) (load : (q : ℕ) → load_at (caller_at new.callers) q ≡ load_at (caller_at old.callers) q) (len : length new.callers.rows ≡ length old.callers.rows) where
  row_before : (c : ℕ) (row : Caller) → caller_at new.callers c ≡ Some row → (was : Caller) × (caller_at old.callers c ≡ Some was) × (was.running ≡ row.running)
  row_before c row is =
      let b = map_behind load_of (caller_at old.callers c) (load_of row) (sym (load c) ∙ ap (option_map load_of) is) in
      (b.0, b.1, ap (λ (l : Load). l.running) b.2)

  pub stopped_stays : stopped_from 0 new.callers.rows ≡ stopped_from 0 old.callers.rows
  stopped_stays = same_stopped 0 old.callers.rows new.callers.rows len (λ i row at.
      let b = map_behind load_of (caller_at new.callers i) (load_of row) (load i ∙ ap (option_map load_of) at) in
      (b.0, b.1, ap (λ (l : Load). l.stopped) b.2))

  tasks_are : (q : ℕ) → map.get (tasks_of new.entries.tasks.entries) q ≡ option_map shown_entry (middle q)
  tasks_are q = task_is new q ∙ beside.shown q

  -- counts, where the one task that changed is not Running
  counted_stays : IsWhole old → (t : ℕ) → ((q : ℕ) → (q ≡ t → ⊥) → middle q ≡ entries_at old.entries q)
      → ((c : ℕ) → passes (is_run_for c) (map.get (tasks_of old.entries.tasks.entries) t) ≡ 0) → ((c : ℕ) → passes (is_run_for c) (map.get (tasks_of new.entries.tasks.entries) t) ≡ 0)
      → (c : ℕ) (row : Caller) → caller_at new.callers c ≡ Some row → row.running ≡ running (graph_of new) c
  counted_stays whole t rest before after c row is =
      let b = row_before c row is in
      let counts = count_changed (is_run_for c) (tasks_of old.entries.tasks.entries) (tasks_of new.entries.tasks.entries) t (λ q apart. tasks_are q ∙ ap (option_map shown_entry) (rest q apart) ∙ sym (task_is old q)) in
      let one = before c in
      let two = after c in
      let was = whole.counted c b.0 b.1 in
      let same = b.2 in
      omega arith

  short_stays : ((q : ℕ) (e : Entry K) → middle q ≡ Some e → e.count ≤ 4) → (q : ℕ) (e : Entry K) → entries_at new.entries q ≡ Some e → e.count ≤ 4
  short_stays all q e is =
      let b = map_behind count_of (middle q) e.count (sym (beside.counts q) ∙ ap (option_map count_of) is) in
      subst (λ n. n ≤ 4) b.2 (all q b.0 b.1)

not_run : (b waits runs : Bool) → runs ≡ false → one_if (b && is_running (if waits then Waiting else (if runs then Running else Ready))) ≡ 0
not_run b true runs is = elim b as (λ b. one_if (b && false) ≡ 0) [ true ↦ refl | false ↦ refl ]
not_run b false runs is = ap (λ r. one_if (b && is_running (if r then Running else Ready))) is ∙ elim b as (λ b. one_if (b && false) ≡ 0) [ true ↦ refl | false ↦ refl ]

pub idle_passes : {K : Type 0} (c : ℕ) (u : Unfinished Ref K) → u.runner ≡ None → passes (is_run_for c) (Some u) ≡ 0
idle_passes c u none = not_run (nat_eq u.caller c) (list_any is_awaiting u.inputs) (is_some u.runner) (ap is_some none)

-- a task that goes
module _ {K : Type 0} (old new : Parts K) (middle : Middle K) (t : ℕ) (whole : IsWhole old) (own : Entry K) (loose : IsLoose old t own) (without : IsWithout (entries_at old.entries) middle t) (beside : IsBeside middle (entries_at new.entries))
    (ordered : IsOrdered (bounds_at (caller_at new.callers)) (station_at (entries_at new.entries))) (load : (q : ℕ) → load_at (caller_at new.callers) q ≡ load_at (caller_at old.callers) q) (len : length new.callers.rows ≡ length old.callers.rows) where
  here_none : middle t ≡ None
  here_none = without t ∙ ap (λ b. cond b None (entries_at old.entries t)) (test_same t)

  there_same : (q : ℕ) → (q ≡ t → ⊥) → middle q ≡ entries_at old.entries q
  there_same q apart = without q ∙ ap (λ b. cond b None (entries_at old.entries q)) (test_apart q t apart)

  link_old : (p : Spot) (l : Link) → link_at (entries_at new.entries) p ≡ Some l → (p.task ≡ t → ⊥) × (link_at (entries_at old.entries) p ≡ Some l)
  link_old p l is =
      let at : link_at middle p ≡ Some l = sym (beside.links p) ∙ is in
      elim (same_or_not p.task t) [
        | inl same ↦ absurd (not_none (link_at middle p) l (ap (λ o. link_of (place_in o p.place)) (ap middle same ∙ here_none)) at)
        | inr apart ↦ (apart, sym (ap (λ o. link_of (place_in o p.place)) (there_same p.task apart)) ∙ at)
      ]

  link_new : (p : Spot) (l : Link) → link_at (entries_at old.entries) p ≡ Some l → link_at (entries_at new.entries) p ≡ Some l
  link_new p l is = beside.links p ∙ ap (λ o. link_of (place_in o p.place)) (there_same p.task (loose.waits p l is)) ∙ is

  head_old : (q : ℕ) (h : Head) → head_at (entries_at new.entries) q ≡ Some h → (q ≡ t → ⊥) × (head_at (entries_at old.entries) q ≡ Some h)
  head_old q h is =
      let at : head_at middle q ≡ Some h = sym (beside.heads q) ∙ is in
      elim (same_or_not q t) [
        | inl same ↦ absurd (not_none (head_at middle q) h (ap (option_map head_of) (ap middle same ∙ here_none)) at)
        | inr apart ↦ (apart, sym (ap (option_map head_of) (there_same q apart)) ∙ at)
      ]

  head_new : (q : ℕ) (h : Head) → (q ≡ t → ⊥) → head_at (entries_at old.entries) q ≡ Some h → head_at (entries_at new.entries) q ≡ Some h
  head_new q h apart is = beside.heads q ∙ ap (option_map head_of) (there_same q apart) ∙ is

  pub taken-tasks : tasks_of new.entries.tasks.entries ≡ map.remove (tasks_of old.entries.tasks.entries) t
  taken-tasks = same_maps _ _ (λ q.
      tasks_are old new middle beside load len q
      ∙ elim (same_or_not q t) [
        | inl same ↦ ap (option_map shown_entry) (ap middle same ∙ here_none) ∙ sym (ap (λ b. cond b None (map.get (tasks_of old.entries.tasks.entries) q)) (ap (λ r. nat_eq r t) same ∙ test_same t))
        | inr apart ↦ ap (option_map shown_entry) (there_same q apart) ∙ sym (task_is old q) ∙ sym (ap (λ b. cond b None (map.get (tasks_of old.entries.tasks.entries) q)) (test_apart q t apart))
      ]
      ∙ sym (get_removed (tasks_of old.entries.tasks.entries) t q))

  pub taken-graph : graph_of new ≡ removed (graph_of old) t
  taken-graph = λ i. record { tasks = taken-tasks i; stopped = stopped_stays old new middle beside load len i }

  pub taken-woven : IsWoven (head_at (entries_at new.entries)) (link_at (entries_at new.entries))
  taken-woven = left-woven (head_at (entries_at old.entries)) (head_at (entries_at new.entries)) (link_at (entries_at old.entries)) (link_at (entries_at new.entries)) whole.woven (record {
    was = λ p l is. (link_old p l is).1;
    stays = λ p l h is _. link_new p l is;
    home = λ p l is.
        let o = link_old p l is in
        let h = whole.woven.home p l o.1 in
        (h.0, h.1, head_new p.task h.0 o.0 h.2, head_new l.task h.1 (loose.awaited p l o.1) h.3, h.4, h.5);
    lists = λ q h is. inl (h, (head_old q h is).1, refl, refl);
    asked_apart = λ p l q h n is there asked same. whole.woven.asked_apart p l q h n (link_old p l is).1 (head_old q h there).1 asked same;
  })

  pub taken-short : (q : ℕ) (e : Entry K) → entries_at new.entries q ≡ Some e → e.count ≤ 4
  taken-short = short_stays old new middle beside load len (λ q e is. elim (same_or_not q t) [
    | inl same ↦ absurd (not_none (middle q) e (ap middle same ∙ here_none) is)
    | inr apart ↦ whole.short q e (sym (there_same q apart) ∙ is)
  ])

  -- how many tasks are Running then
  pub taken-count : (c : ℕ) → running (graph_of new) c + run_for c (shown_entry own) ≡ running (graph_of old) c
  taken-count c =
      let counts = count_changed (is_run_for c) (tasks_of old.entries.tasks.entries) (tasks_of new.entries.tasks.entries) t (λ q apart. tasks_are old new middle beside load len q ∙ ap (option_map shown_entry) (there_same q apart) ∙ sym (task_is old q)) in
      let one : passes (is_run_for c) (map.get (tasks_of old.entries.tasks.entries) t) ≡ run_for c (shown_entry own) = ap (passes (is_run_for c)) (task_there old t own loose.there) in
      let two : passes (is_run_for c) (map.get (tasks_of new.entries.tasks.entries) t) ≡ 0 = ap (passes (is_run_for c)) (tasks_are old new middle beside load len t ∙ ap (option_map shown_entry) here_none) in
      omega arith

  -- what was kept for a caller
  pub taken-row : (c : ℕ) (row : Caller) → caller_at new.callers c ≡ Some row → (was : Caller) × (caller_at old.callers c ≡ Some was) × (was.running ≡ row.running)
  taken-row c row is = row_before old new middle beside load len c row is

  -- a task that no worker runs
  pub taken-whole : own.runner ≡ None → IsWhole new
  taken-whole idle = record {
    woven = taken-woven;
    ordered = ordered;
    short = taken-short;
    rows = len ∙ whole.rows;
    counted = λ c row is.
        let b = taken-row c row is in
        let counts = taken-count c in
        let none : run_for c (shown_entry own) ≡ 0 = idle_passes c (shown_entry own) idle in
        let was = whole.counted c b.0 b.1 in
        let same = b.2 in
        omega arith;
  }

-- a task that comes and awaits nothing
module _ {K : Type 0} (old new : Parts K) (middle : Middle K) (t : ℕ) (entry : Entry K) (whole : IsWhole old) (fresh : entries_at old.entries t ≡ None) (bare : IsBare entry) (inserted : IsInserted (entries_at old.entries) middle t entry) (beside : IsBeside middle (entries_at new.entries))
    (ordered : IsOrdered (bounds_at (caller_at new.callers)) (station_at (entries_at new.entries))) (load : (q : ℕ) → load_at (caller_at new.callers) q ≡ load_at (caller_at old.callers) q) (len : length new.callers.rows ≡ length old.callers.rows) where
  placed : Entry K
  placed = record entry { before = inserted.0; after = inserted.1 }

  placed_here : middle t ≡ Some placed
  unfolding placed
  placed_here = inserted.2 t ∙ ap (λ b. cond b (Some (record entry { before = inserted.0; after = inserted.1 })) (entries_at old.entries t)) (test_same t)

  placed_other : (q : ℕ) → (q ≡ t → ⊥) → middle q ≡ entries_at old.entries q
  placed_other q apart = inserted.2 q ∙ ap (λ b. cond b (Some (record entry { before = inserted.0; after = inserted.1 })) (entries_at old.entries q)) (test_apart q t apart)

  pub link_was : (p : Spot) (l : Link) → link_at (entries_at new.entries) p ≡ Some l → (p.task ≡ t → ⊥) × (link_at (entries_at old.entries) p ≡ Some l)
  unfolding placed
  link_was p l is =
      let at : link_at middle p ≡ Some l = sym (beside.links p) ∙ is in
      elim (same_or_not p.task t) [
        | inl same ↦ absurd (not_none (link_at middle p) l (ap (λ o. link_of (place_in o p.place)) (ap middle same ∙ placed_here) ∙ bare.known p.place) at)
        | inr apart ↦ (apart, sym (ap (λ o. link_of (place_in o p.place)) (placed_other p.task apart)) ∙ at)
      ]

  fresh_link : (p : Spot) (l : Link) → link_at (entries_at old.entries) p ≡ Some l → p.task ≡ t → ⊥
  fresh_link p l is same = not_none (link_at (entries_at old.entries) p) l (ap (λ o. link_of (place_in o p.place)) (ap (entries_at old.entries) same ∙ fresh)) is

  fresh_head : (q : ℕ) (h : Head) → head_at (entries_at old.entries) q ≡ Some h → q ≡ t → ⊥
  fresh_head q h is same = not_none (head_at (entries_at old.entries) q) h (ap (option_map head_of) (ap (entries_at old.entries) same ∙ fresh)) is

  head_stays : (q : ℕ) (h : Head) → head_at (entries_at old.entries) q ≡ Some h → head_at (entries_at new.entries) q ≡ Some h
  head_stays q h is = beside.heads q ∙ ap (option_map head_of) (placed_other q (fresh_head q h is)) ∙ is

  head_was : (q : ℕ) (h : Head) → head_at (entries_at new.entries) q ≡ Some h → ((q ≡ t) × (h.first ≡ None) × (h.last ≡ None) × (h.asked ≡ None)) ⊎ (head_at (entries_at old.entries) q ≡ Some h)
  unfolding placed
  head_was q h is =
      let at : head_at middle q ≡ Some h = sym (beside.heads q) ∙ is in
      elim (same_or_not q t) [
        | inl same ↦
            let one : head_of placed ≡ h = same_some (head_of placed) h (sym (ap (option_map head_of) (ap middle same ∙ placed_here)) ∙ at) in
            inl (same, ap (λ (x : Head). x.first) (sym one) ∙ bare.first, ap (λ (x : Head). x.last) (sym one) ∙ bare.last, ap (λ (x : Head). x.asked) (sym one) ∙ bare.asked)
        | inr apart ↦ inr (sym (ap (option_map head_of) (placed_other q apart)) ∙ at)
      ]

  shown_new : Unfinished Ref K
  shown_new = record { caller = entry.caller; kind = entry.kind; inputs = (shown_entry entry).inputs; runner = None; asked = None }

  shown_as : shown_entry placed ≡ shown_new
  unfolding placed shown_new
  shown_as = λ i. record { caller = entry.caller; kind = entry.kind; inputs = (shown_entry entry).inputs; runner = bare.idle i; asked = bare.asked i }

  pub placed-tasks : tasks_of new.entries.tasks.entries ≡ map.insert (tasks_of old.entries.tasks.entries) t (record { caller = entry.caller; kind = entry.kind; inputs = (shown_entry entry).inputs; runner = None; asked = None })
  unfolding shown_new
  placed-tasks = same_maps _ _ (λ q.
      tasks_are old new middle beside load len q
      ∙ elim (same_or_not q t) [
        | inl same ↦ ap (option_map shown_entry) (ap middle same ∙ placed_here) ∙ ap Some shown_as ∙ sym (ap (λ b. cond b (Some shown_new) (map.get (tasks_of old.entries.tasks.entries) q)) (ap (λ r. nat_eq r t) same ∙ test_same t))
        | inr apart ↦ ap (option_map shown_entry) (placed_other q apart) ∙ sym (task_is old q) ∙ sym (ap (λ b. cond b (Some shown_new) (map.get (tasks_of old.entries.tasks.entries) q)) (test_apart q t apart))
      ]
      ∙ sym (get_inserted (tasks_of old.entries.tasks.entries) t shown_new q))

  pub placed-graph : graph_of new ≡ added (graph_of old) t entry.caller entry.kind (shown_entry entry).inputs
  placed-graph = λ i. record { tasks = placed-tasks i; stopped = stopped_stays old new middle beside load len i }

  pub placed-whole : IsWhole new
  unfolding placed
  placed-whole = record {
    woven = left-woven (head_at (entries_at old.entries)) (head_at (entries_at new.entries)) (link_at (entries_at old.entries)) (link_at (entries_at new.entries)) whole.woven (record {
      was = λ p l is. (link_was p l is).1;
      stays = λ p l h is _. beside.links p ∙ ap (λ o. link_of (place_in o p.place)) (placed_other p.task (fresh_link p l is)) ∙ is;
      home = λ p l is.
          let o = link_was p l is in
          let h = whole.woven.home p l o.1 in
          (h.0, h.1, head_stays p.task h.0 h.2, head_stays l.task h.1 h.3, h.4, h.5);
      lists = λ q h is. elim (head_was q h is) [
        | inl new_one ↦ inr (new_one.1, new_one.2, λ p l there at. let home = whole.woven.home p l there in fresh_head l.task home.1 home.3 (at ∙ new_one.0))
        | inr before ↦ inl (h, before, refl, refl)
      ];
      asked_apart = λ p l q h n is there asked same. elim (head_was q h there) [
        | inl new_one ↦ absurd (not_none h.asked n new_one.3 asked)
        | inr before ↦ whole.woven.asked_apart p l q h n (link_was p l is).1 before asked same
      ];
    });
    ordered = ordered;
    short = short_stays old new middle beside load len (λ q e is. elim (same_or_not q t) [
      | inl same ↦ subst (λ (x : Entry K). x.count ≤ 4) (same_some placed e (sym (ap middle same ∙ placed_here) ∙ is)) bare.short
      | inr apart ↦ whole.short q e (sym (placed_other q apart) ∙ is)
    ]);
    rows = len ∙ whole.rows;
    counted = counted_stays old new middle beside load len whole t placed_other
        (λ c. ap (passes (is_run_for c)) (task_is old t ∙ ap (option_map shown_entry) fresh))
        (λ c. ap (passes (is_run_for c)) (tasks_are old new middle beside load len t ∙ ap (option_map shown_entry) placed_here) ∙ idle_passes c (shown_entry placed) bare.idle);
  }

-- an input that is written into a task that no worker runs
module _ {K : Type 0} (old new : Parts K) (spot : Spot) (input : Input Ref) (whole : IsWhole old) (e : Entry K) (is : entries_at old.entries spot.task ≡ Some e) (idle : e.runner ≡ None) (same : new.callers ≡ old.callers)
    (woven : IsWoven (head_at (entries_at new.entries)) (link_at (entries_at new.entries))) (stations : (q : ℕ) → station_at (entries_at new.entries) q ≡ station_at (entries_at old.entries) q)
    (shown : (q : ℕ) → shown_at (entries_at new.entries) q ≡ option_map (with_input q spot input) (shown_at (entries_at old.entries) q)) (counts : (q : ℕ) → option_map count_of (entries_at new.entries q) ≡ option_map count_of (entries_at old.entries q)) where
  written : Unfinished Ref K → Unfinished Ref K
  written u = record u { inputs = set u.inputs spot.place input }

  pub written-tasks : tasks_of new.entries.tasks.entries ≡ put_at (tasks_of old.entries.tasks.entries) spot.task (option_map (λ (u : Unfinished Ref K). record u { inputs = set u.inputs spot.place input }) (map.get (tasks_of old.entries.tasks.entries) spot.task))
  written-tasks =
      tasks_changed (tasks_of old.entries.tasks.entries) (tasks_of new.entries.tasks.entries) spot.task (λ (u : Unfinished Ref K). record u { inputs = set u.inputs spot.place input }) (λ q. with_input q spot input)
      (λ q. task_is new q ∙ shown q ∙ ap (option_map (with_input q spot input)) (sym (task_is old q)))
      (λ u. ap (λ b. record u { inputs = cond b (set u.inputs spot.place input) u.inputs }) (test_same spot.task))
      (λ q u apart. ap (λ b. record u { inputs = cond b (set u.inputs spot.place input) u.inputs }) (test_apart q spot.task apart))

  pub written-graph : graph_of new ≡ with_task (graph_of old) spot.task (λ (u : Unfinished Ref K). record u { inputs = set u.inputs spot.place input })
  written-graph = λ i. record { tasks = written-tasks i; stopped = stopped_from 0 (same i).rows }

  here_shown : map.get (tasks_of new.entries.tasks.entries) spot.task ≡ Some (with_input spot.task spot input (shown_entry e))
  here_shown = task_is new spot.task ∙ shown spot.task ∙ ap (λ o. option_map (with_input spot.task spot input) (option_map shown_entry o)) is

  rest_shown : (q : ℕ) → (q ≡ spot.task → ⊥) → map.get (tasks_of new.entries.tasks.entries) q ≡ map.get (tasks_of old.entries.tasks.entries) q
  rest_shown q apart = task_is new q ∙ shown q ∙ map_id (with_input q spot input) (λ u. ap (λ b. record u { inputs = cond b (set u.inputs spot.place input) u.inputs }) (test_apart q spot.task apart)) (shown_at (entries_at old.entries) q) ∙ sym (task_is old q)

  pub written-whole : IsWhole new
  written-whole = record {
    woven = woven;
    ordered = subst (λ s. IsOrdered (bounds_at (caller_at new.callers)) s) (λ i q. sym (stations q) i) (subst (λ b. IsOrdered b (station_at (entries_at old.entries))) (λ i q. bounds_at (caller_at (sym same i)) q) whole.ordered);
    short = λ q x at. let b = map_behind count_of (entries_at old.entries q) x.count (sym (counts q) ∙ ap (option_map count_of) at) in subst (λ n. n ≤ 4) b.2 (whole.short q b.0 b.1);
    rows = ap (λ (c : Callers). length c.rows) same ∙ whole.rows;
    counted = λ c row at.
        let moved = count_changed (is_run_for c) (tasks_of old.entries.tasks.entries) (tasks_of new.entries.tasks.entries) spot.task rest_shown in
        let before : passes (is_run_for c) (map.get (tasks_of old.entries.tasks.entries) spot.task) ≡ 0 = ap (passes (is_run_for c)) (task_there old spot.task e is) ∙ idle_passes c (shown_entry e) idle in
        let after : passes (is_run_for c) (map.get (tasks_of new.entries.tasks.entries) spot.task) ≡ 0 = ap (passes (is_run_for c)) here_shown ∙ idle_passes c (with_input spot.task spot input (shown_entry e)) idle in
        let was = whole.counted c row (ap (λ (x : Callers). caller_at x c) (sym same) ∙ at) in
        omega arith;
  }

-- an entry behind a head
pub entry_behind_head : {K : Type 0} (entries : ℕ → Option (Entry K)) (q : ℕ) (h : Head) → head_at entries q ≡ Some h → (e : Entry K) × (entries q ≡ Some e) × (head_of e ≡ h)
entry_behind_head entries q h is = map_behind head_of (entries q) h is

-- a caller that is stopped
module _ {K : Type 0} (old new : Parts K) (c : ℕ) (row : Caller) (whole : IsWhole old) (is : caller_at old.callers c ≡ Some row) (same : new.entries ≡ old.entries)
    (puts : (q : ℕ) → caller_at new.callers q ≡ cond (nat_eq q c) (Some (record row { stopped = true })) (caller_at old.callers q)) (len : length new.callers.rows ≡ length old.callers.rows) where
  row_of_new : (q : ℕ) (r : Caller) → caller_at new.callers q ≡ Some r → (was : Caller) × (caller_at old.callers q ≡ Some was) × (bounds_of r ≡ bounds_of was) × (r.running ≡ was.running)
  row_of_new q r at =
      elim (same_or_not q c) [
        | inl here ↦
            let one : record row { stopped = true } ≡ r = same_some _ r (sym (ap (λ b. cond b (Some (record row { stopped = true })) (caller_at old.callers q)) (ap (λ k. nat_eq k c) here ∙ test_same c)) ∙ sym (puts q) ∙ at) in
            (row, ap (caller_at old.callers) here ∙ is, ap bounds_of (sym one), ap (λ (x : Caller). x.running) (sym one))
        | inr apart ↦ (r, sym (ap (λ b. cond b (Some (record row { stopped = true })) (caller_at old.callers q)) (test_apart q c apart)) ∙ sym (puts q) ∙ at, refl, refl)
      ]

  bounds_same : (q : ℕ) → bounds_at (caller_at new.callers) q ≡ bounds_at (caller_at old.callers) q
  bounds_same q =
      ap (option_map bounds_of) (puts q)
      ∙ elim (same_or_not q c) [
        | inl here ↦ ap (λ b. option_map bounds_of (cond b (Some (record row { stopped = true })) (caller_at old.callers q))) (ap (λ k. nat_eq k c) here ∙ test_same c) ∙ sym (ap (option_map bounds_of) (ap (caller_at old.callers) here ∙ is))
        | inr apart ↦ ap (λ b. option_map bounds_of (cond b (Some (record row { stopped = true })) (caller_at old.callers q))) (test_apart q c apart)
      ]

  -- which are stopped then
  pub stopped_more : stopped_from 0 new.callers.rows ≡ numbers.insert (stopped_from 0 old.callers.rows) c
  stopped_more = numbers.same_set nat_cmp_total map.nat_cmp-IsAntisymmetric _ _ (λ q.
      has-stopped new.callers.rows q
      ∙ ap flag (puts q)
      ∙ elim (same_or_not q c) [
        | inl here ↦ let test : nat_eq q c ≡ true = ap (λ k. nat_eq k c) here ∙ test_same c in
            ap (λ b. flag (cond b (Some (record row { stopped = true })) (caller_at old.callers q))) test ∙ sym (ap (λ b. b || has (stopped_from 0 old.callers.rows) q) test)
        | inr apart ↦ let test = test_apart q c apart in
            ap (λ b. flag (cond b (Some (record row { stopped = true })) (caller_at old.callers q))) test ∙ sym (has-stopped old.callers.rows q) ∙ sym (ap (λ b. b || has (stopped_from 0 old.callers.rows) q) test)
      ]
      ∙ sym (has_inserted (stopped_from 0 old.callers.rows) c q))

  pub stop-graph : graph_of new ≡ with_stopped (graph_of old) c
  stop-graph = λ i. record { tasks = tasks_of (same i).tasks.entries; stopped = stopped_more i }

  pub stop-whole : IsWhole new
  stop-whole = record {
    woven = subst (λ es. IsWoven (head_at (entries_at es)) (link_at (entries_at es))) (sym same) whole.woven;
    ordered = subst (λ es. IsOrdered (bounds_at (caller_at new.callers)) (station_at (entries_at es))) (sym same) (subst (λ b. IsOrdered b (station_at (entries_at old.entries))) (λ i q. sym (bounds_same q) i) whole.ordered);
    short = λ q e at. whole.short q e (ap (λ es. entries_at es q) (sym same) ∙ at);
    rows = len ∙ whole.rows;
    counted = λ q r at.
        let b = row_of_new q r at in
        b.3 ∙ whole.counted q b.0 b.1 ∙ ap (λ (es : Entries K). map.len (kept (is_run_for q) (tasks_of es.tasks.entries))) (sym same);
  }
