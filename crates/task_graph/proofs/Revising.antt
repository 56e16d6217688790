-- All that holds of the fields still holds once a task has another worker or another asked output.
use Rattle.std.proofs.Common.{◌≡◌, ℕ, ◌+◌, ◌≤◌, Bool, true, false, cond, ◌&&◌, Option, Some, None, nat_eq, refl, sym, ap, subst, ◌∙◌, inl, inr, arith, length, List, [], ◌∷◌, suc}
use Rattle.std.specs.Option.{option_map}
use Rattle.std.specs.Prelude.{slice_get}
use Rattle.std.specs.FinSet as numbers
use Rattle.std.specs.FinMap as map
use Rattle.task_states.specs.States.{is_run_for, running, status_of, is_running}
use Rattle.task_states.proofs.Maps.{same_or_not, test_same, test_apart, same_maps, get_inserted}
use Rattle.task_states.proofs.Options.{same_some, map_behind}
use Rattle.task_links.specs.declared.callers.Caller.{Caller}
use Rattle.task_links.specs.declared.entries.Entry.{Entry}
use Rattle.task_links.specs.declared.entries.Spot.{Spot}
use Rattle.task_graph.specs.declared.parts.Parts.{Parts}
use Rattle.task_links.specs.Weave.{Head, IsWoven, link_of, link_at, head_at, head_of}
use Rattle.task_links.specs.Inside.{put_in, with_runner_at, with_asked_at, shown_entry, shown_at, entries_at, place_in, station_at, station_of}
use Rattle.task_links.specs.Callers.{caller_at, bounds_at, bounds_of, with_running_at}
use Rattle.task_links.specs.Order.{IsOrdered}
use Rattle.task_graph.specs.Graphs.{tasks_of, graph_of, stopped_from, IsWhole, IsRevised, with_revised, run_for}
use Rattle.task_links.proofs.Changes.{reheaded-woven}
use Rattle.task_graph.proofs.Counting.{count_changed, passes}
use Rattle.task_graph.proofs.Runs.{task_is, task_there}

unchanged_runner : {K : Type 0} (q task : ℕ) (runner : Option ℕ) (o : Option (Entry K)) → nat_eq q task ≡ false → option_map (with_runner_at q task runner) o ≡ o
unchanged_runner q task runner None test = refl
unchanged_runner q task runner (Some entry) test = ap (λ b. Some (record entry { runner = cond b runner entry.runner })) test

-- a task with another worker, as one put in
pub runner_put : {K : Type 0} (old new : ℕ → Option (Entry K)) (task : ℕ) (runner : Option ℕ) (entry : Entry K) → old task ≡ Some entry → ((q : ℕ) → new q ≡ option_map (with_runner_at q task runner) (old q))
    → (q : ℕ) → new q ≡ put_in task (record entry { runner = runner }) old q
runner_put old new task runner entry is writes q =
    elim (same_or_not q task) [
      | inl same ↦
          let test : nat_eq q task ≡ true = ap (λ t. nat_eq t task) same ∙ test_same task in
          writes q
          ∙ ap (option_map (with_runner_at q task runner)) (ap old same ∙ is)
          ∙ ap (λ b. Some (record entry { runner = cond b runner entry.runner })) test
          ∙ ap (λ b. cond b (Some (record entry { runner = runner })) (old q)) (sym test)
      | inr apart ↦
          let test : nat_eq q task ≡ false = test_apart q task apart in
          writes q
          ∙ unchanged_runner q task runner (old q) test
          ∙ ap (λ b. cond b (Some (record entry { runner = runner })) (old q)) (sym test)
    ]

unchanged_asked : {K : Type 0} (q task : ℕ) (asked : Option ℕ) (o : Option (Entry K)) → nat_eq q task ≡ false → option_map (with_asked_at q task asked) o ≡ o
unchanged_asked q task asked None test = refl
unchanged_asked q task asked (Some entry) test = ap (λ b. Some (record entry { asked = cond b asked entry.asked })) test

-- a task with another asked output, as one put in
pub asked_put : {K : Type 0} (old new : ℕ → Option (Entry K)) (task : ℕ) (asked : Option ℕ) (entry : Entry K) → old task ≡ Some entry → ((q : ℕ) → new q ≡ option_map (with_asked_at q task asked) (old q))
    → (q : ℕ) → new q ≡ put_in task (record entry { asked = asked }) old q
asked_put old new task asked entry is writes q =
    elim (same_or_not q task) [
      | inl same ↦
          let test : nat_eq q task ≡ true = ap (λ t. nat_eq t task) same ∙ test_same task in
          writes q
          ∙ ap (option_map (with_asked_at q task asked)) (ap old same ∙ is)
          ∙ ap (λ b. Some (record entry { asked = cond b asked entry.asked })) test
          ∙ ap (λ b. cond b (Some (record entry { asked = asked })) (old q)) (sym test)
      | inr apart ↦
          let test : nat_eq q task ≡ false = test_apart q task apart in
          writes q
          ∙ unchanged_asked q task asked (old q) test
          ∙ ap (λ b. cond b (Some (record entry { asked = asked })) (old q)) (sym test)
    ]

-- rows that stay, as rows with as many Running tasks
same_count : (q caller : ℕ) (row : Caller) (o : Option Caller) → nat_eq q caller ≡ false → o ≡ option_map (with_running_at q caller row.running) o
same_count q caller row None test = refl
same_count q caller row (Some other) test = ap (λ b. Some (record other { running = cond b row.running other.running })) (sym test)

pub same_rows : (callers : ℕ → Option Caller) (caller : ℕ) (row : Caller) → callers caller ≡ Some row → (q : ℕ) → callers q ≡ option_map (with_running_at q caller row.running) (callers q)
same_rows callers caller row is q =
    elim (same_or_not q caller) [
      | inl same ↦
          let there : callers q ≡ Some row = ap callers same ∙ is in
          there
          ∙ ap (λ b. Some (record row { running = cond b row.running row.running })) (sym (ap (λ t. nat_eq t caller) same ∙ test_same caller))
          ∙ sym (ap (option_map (with_running_at q caller row.running)) there)
      | inr apart ↦ same_count q caller row (callers q) (test_apart q caller apart)
    ]

-- the stopped callers, where no flag changed
pub same_stopped : (first : ℕ) (old new : List Caller) → length new ≡ length old → ((i : ℕ) (row : Caller) → slice_get old i ≡ Some row → (other : Caller) × (slice_get new i ≡ Some other) × (other.stopped ≡ row.stopped)) → stopped_from first new ≡ stopped_from first old
unfolding stopped_from
same_stopped first [] [] len same = refl
same_stopped first [] (r ∷ new) len same = absurd (omega arith)
same_stopped first (r ∷ old) [] len same = absurd (omega arith)
same_stopped first (r ∷ old) (s ∷ new) len same =
    let here = same 0 r refl in
    let one : s.stopped ≡ r.stopped = ap (λ (c : Caller). c.stopped) (same_some s here.0 here.1) ∙ here.2 in
    let rest = same_stopped (suc first) old new (omega arith) (λ i. same (suc i)) in
    λ i. cond (one i) (numbers.insert (rest i) first) (rest i)

abbrev one_if : Bool → ℕ
one_if b = cond b 1 0

zero_for : {b : Bool} (r : Bool) → b ≡ false → ◌≡◌ {A = ℕ} (cond (b && r) 1 0) 0
zero_for r test = ap (λ b. one_if (b && r)) test

module _ {K : Type 0} (old new : Parts K) (task : ℕ) (entry : Entry K) (runner asked : Option ℕ) (count : ℕ) (whole : IsWhole old) (is : entries_at old.entries task ≡ Some entry) (revised : IsRevised old task entry runner asked count)
    (puts : (q : ℕ) → entries_at new.entries q ≡ put_in task (record entry { runner = runner; asked = asked }) (entries_at old.entries) q)
    (rows : (q : ℕ) → caller_at new.callers q ≡ option_map (with_running_at q entry.caller count) (caller_at old.callers q)) (len : length new.callers.rows ≡ length old.callers.rows) where
  here : entries_at new.entries task ≡ Some (record entry { runner = runner; asked = asked })
  here = puts task ∙ ap (λ b. cond b (Some (record entry { runner = runner; asked = asked })) (entries_at old.entries task)) (test_same task)

  other : (q : ℕ) → (q ≡ task → ⊥) → entries_at new.entries q ≡ entries_at old.entries q
  other q apart = puts q ∙ ap (λ b. cond b (Some (record entry { runner = runner; asked = asked })) (entries_at old.entries q)) (test_apart q task apart)

  -- what does not speak of the two fields is as before
  unmoved : {X : Type 0} (f : Option (Entry K) → X) → f (Some (record entry { runner = runner; asked = asked })) ≡ f (Some entry) → (q : ℕ) → f (entries_at new.entries q) ≡ f (entries_at old.entries q)
  unmoved f same q =
      elim (same_or_not q task) [
        | inl at ↦ ap (λ r. f (entries_at new.entries r)) at ∙ ap f here ∙ same ∙ sym (ap f is) ∙ sym (ap (λ r. f (entries_at old.entries r)) at)
        | inr apart ↦ ap f (other q apart)
      ]

  links : (p : Spot) → link_at (entries_at new.entries) p ≡ link_at (entries_at old.entries) p
  links p = unmoved (λ o. link_of (place_in o p.place)) refl p.task

  change : ℕ → Head → Head
  change q h = record h { runner = cond (nat_eq q task) runner h.runner; asked = cond (nat_eq q task) asked h.asked }

  unchanged : (q : ℕ) → nat_eq q task ≡ false → (o : Option Head) → option_map (change q) o ≡ o
  unfolding change
  unchanged q test None = refl
  unchanged q test (Some h) = ap (λ b. Some (record h { runner = cond b runner h.runner; asked = cond b asked h.asked })) test

  heads : (q : ℕ) → head_at (entries_at new.entries) q ≡ option_map (change q) (head_at (entries_at old.entries) q)
  unfolding change
  heads q =
      elim (same_or_not q task) [
        | inl at ↦
            let test : nat_eq q task ≡ true = ap (λ t. nat_eq t task) at ∙ test_same task in
            ap (head_at (entries_at new.entries)) at ∙ ap (option_map head_of) here
            ∙ sym (ap (option_map (change q)) (ap (head_at (entries_at old.entries)) at ∙ ap (option_map head_of) is) ∙ ap (λ b. Some (record (head_of entry) { runner = cond b runner entry.runner; asked = cond b asked entry.asked })) test)
        | inr apart ↦
            let test = test_apart q task apart in
            ap (option_map head_of) (other q apart) ∙ sym (unchanged q test (head_at (entries_at old.entries) q))
      ]

  woven : IsWoven (head_at (entries_at new.entries)) (link_at (entries_at new.entries))
  unfolding change
  woven =
      reheaded-woven (head_at (entries_at old.entries)) (head_at (entries_at new.entries)) (link_at (entries_at old.entries)) (link_at (entries_at new.entries)) change whole.woven links heads (λ q h. (refl, refl, refl))
      (λ p l own there own_is none. elim (same_or_not p.task task) [
        | inl at ↦ ap (λ b. cond b runner own.runner) (ap (λ t. nat_eq t task) at ∙ test_same task) ∙ elim revised.idle [ inl free ↦ free | inr nowhere ↦ absurd (nowhere p l there at) ]
        | inr apart ↦ ap (λ b. cond b runner own.runner) (test_apart p.task task apart) ∙ none
      ])
      (λ p l q h n there head_is asked_is number. elim (same_or_not q task) [
        | inl at ↦
            let now : asked ≡ Some n = sym (ap (λ b. cond b asked h.asked) (ap (λ t. nat_eq t task) at ∙ test_same task)) ∙ asked_is in
            elim (revised.free n now) [
              | inl unused ↦ unused p l there number
              | inr before ↦ whole.woven.asked_apart p l task (head_of entry) n there (ap (option_map head_of) is) before number
            ]
        | inr apart ↦ whole.woven.asked_apart p l q h n there head_is (sym (ap (λ b. cond b asked h.asked) (test_apart q task apart)) ∙ asked_is) number
      ])

  stations : (q : ℕ) → station_at (entries_at new.entries) q ≡ station_at (entries_at old.entries) q
  stations q = unmoved (option_map station_of) refl q

  bounds : (q : ℕ) → bounds_at (caller_at new.callers) q ≡ bounds_at (caller_at old.callers) q
  bounds q = ap (option_map bounds_of) (rows q) ∙ elim (caller_at old.callers q) as (λ o. option_map bounds_of (option_map (with_running_at q entry.caller count) o) ≡ option_map bounds_of o) [ None ↦ refl | Some row ↦ refl ]

  tasks : tasks_of new.entries.tasks.entries ≡ map.insert (tasks_of old.entries.tasks.entries) task (record (shown_entry entry) { runner = runner; asked = asked })
  tasks = same_maps _ _ (λ q.
      task_is new q
      ∙ elim (same_or_not q task) [
        | inl at ↦ ap (shown_at (entries_at new.entries)) at ∙ ap (option_map shown_entry) here
            ∙ sym (ap (λ b. cond b (Some (record (shown_entry entry) { runner = runner; asked = asked })) (map.get (tasks_of old.entries.tasks.entries) q)) (ap (λ t. nat_eq t task) at ∙ test_same task))
        | inr apart ↦ ap (option_map shown_entry) (other q apart) ∙ sym (task_is old q)
            ∙ sym (ap (λ b. cond b (Some (record (shown_entry entry) { runner = runner; asked = asked })) (map.get (tasks_of old.entries.tasks.entries) q)) (test_apart q task apart))
      ]
      ∙ sym (get_inserted (tasks_of old.entries.tasks.entries) task (record (shown_entry entry) { runner = runner; asked = asked }) q))

  stopped : stopped_from 0 new.callers.rows ≡ stopped_from 0 old.callers.rows
  stopped = same_stopped 0 old.callers.rows new.callers.rows len (λ i row at. (with_running_at i entry.caller count row, rows i ∙ ap (option_map (with_running_at i entry.caller count)) at, refl))

  pub revised-graph : graph_of new ≡ with_revised (graph_of old) task (shown_entry entry) runner asked
  revised-graph = λ i. record { tasks = tasks i; stopped = stopped i }

  count_of : (c : ℕ) → running (graph_of new) c + run_for c (shown_entry entry) ≡ running (graph_of old) c + run_for c (record (shown_entry entry) { runner = runner; asked = asked })
  count_of c =
      let counts = count_changed (is_run_for c) (tasks_of old.entries.tasks.entries) (tasks_of new.entries.tasks.entries) task (λ q apart. task_is new q ∙ ap (option_map shown_entry) (other q apart) ∙ sym (task_is old q)) in
      ap (λ o. running (graph_of new) c + passes (is_run_for c) o) (sym (task_there old task entry is))
      ∙ counts
      ∙ ap (λ o. running (graph_of old) c + passes (is_run_for c) o) (task_there new task (record entry { runner = runner; asked = asked }) here)

  other_caller : (c : ℕ) → (c ≡ entry.caller → ⊥) → (run_for c (shown_entry entry) ≡ 0) × (run_for c (record (shown_entry entry) { runner = runner; asked = asked }) ≡ 0)
  other_caller c apart =
      let test : nat_eq entry.caller c ≡ false = test_apart entry.caller c (λ same. apart (sym same)) in
      (zero_for (is_running (status_of (shown_entry entry))) test, zero_for (is_running (status_of (record (shown_entry entry) { runner = runner; asked = asked }))) test)

  pub revised-whole : IsWhole new
  revised-whole = record {
    woven = woven;
    ordered = subst (λ s. IsOrdered (bounds_at (caller_at new.callers)) s) (λ i q. sym (stations q) i) (subst (λ b. IsOrdered b (station_at (entries_at old.entries))) (λ i q. sym (bounds q) i) whole.ordered);
    short = λ q e at. elim (same_or_not q task) [
      | inl same ↦ subst (λ (x : Entry K). x.count ≤ 4) (same_some _ e (sym here ∙ sym (ap (entries_at new.entries) same) ∙ at)) (whole.short task entry is)
      | inr apart ↦ whole.short q e (sym (other q apart) ∙ at)
    ];
    rows = len ∙ whole.rows;
    counted = λ c row at.
        let b = map_behind (with_running_at c entry.caller count) (caller_at old.callers c) row (sym (rows c) ∙ at) in
        let moved = count_of c in
        let before = whole.counted c b.0 b.1 in
        ap (λ (r : Caller). r.running) (sym b.2) ∙ elim (same_or_not c entry.caller) [
          | inl same ↦
              let now = revised.counted b.0 (sym (ap (caller_at old.callers) same) ∙ b.1) in
              let here_count = subst (λ d. count + run_for d (shown_entry entry) ≡ b.0.running + run_for d (record (shown_entry entry) { runner = runner; asked = asked })) (sym same) now in
              ap (λ t. cond t count b.0.running) (ap (λ t. nat_eq t entry.caller) same ∙ test_same entry.caller) ∙ omega arith
          | inr apart ↦
              let none = other_caller c apart in
              ap (λ t. cond t count b.0.running) (test_apart c entry.caller apart) ∙ omega arith
        ];
  }
