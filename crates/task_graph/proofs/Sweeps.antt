-- The tasks of a caller go.
use Rattle.std.proofs.Common.{◌≡◌, ℕ, ◌≤◌, true, false, cond, not, ◌&&◌, Option, Some, None, nat_eq, refl, sym, ap, subst, ◌∙◌, ◌⊎◌, inl, inr, arith, length}
use Rattle.std.specs.Option.{option_map, option_and_then}
use Rattle.std.specs.FinMap as map
use Rattle.std.specs.FinSet as numbers
use Rattle.std.specs.Ordering.{nat_cmp}
use Rattle.std.specs.Cmp.{nat_cmp_total, unsigned_tied}
use Rattle.std.proofs.lemmas.Bool.{cases_lt}
use Rattle.cht_ids.specs.declared.refs.Ref.{Ref}
use Rattle.task_states.specs.States.{Unfinished, running, is_run_for, is_running, status_of}
use Rattle.task_states.specs.Steps.{abandoned}
use Rattle.task_states.specs.Maps.{kept}
use Rattle.task_states.proofs.Maps.{same_or_not, test_same, test_apart, same_maps, get-kept}
use Rattle.task_states.proofs.Options.{not_none, same_some, none_or_some, map_behind}
use Rattle.task_links.specs.declared.callers.Caller.{Caller}
use Rattle.task_links.specs.declared.entries.Entry.{Entry}
use Rattle.task_links.specs.declared.entries.Link.{Link}
use Rattle.task_links.specs.declared.entries.Spot.{Spot}
use Rattle.task_graph.specs.declared.parts.Parts.{Parts}
use Rattle.task_links.specs.Inside.{Station, entries_at, shown_entry, place_in, station_at, station_of}
use Rattle.task_links.specs.Callers.{caller_at, bounds_at, bounds_of}
use Rattle.task_links.specs.Weave.{Head, Leads, head_at, head_of, link_at, link_of}
use Rattle.task_links.specs.Order.{Bounds, row_at, IsReached, IsTail}
use Rattle.task_graph.specs.Graphs.{tasks_of, graph_of, stopped_from, IsWhole}
use Rattle.task_graph.specs.Sweeping.{IsBefore, IsSwept}
use Rattle.task_links.proofs.Chains.{row_with}
use Rattle.task_links.proofs.Weaving.{left-woven, leads_alike}
use Rattle.task_links.proofs.Orders.{row_of_station, station_of_row}
use Rattle.task_graph.proofs.Views.{has-stopped, flag, has}
use Rattle.task_graph.proofs.Runs.{task_is, task_there}

module _ {K : Type 0} (old : Parts K) (caller : ℕ) (whole : IsWhole old) where
  never : (q : ℕ) (e : Entry K) → entries_at old.entries q ≡ Some e → e.caller ≡ caller → (first : Option ℕ) → Leads (row_at (station_at (entries_at old.entries))) caller None first → IsBefore first q → ⊥
  never q e there of None leads before = leads q q (row_of_station (station_at (entries_at old.entries)) q (station_of e) (ap (option_map station_of) there) ∙ ap (λ c. row_with c q) of) tt
  never q e there of (Some p) leads before =
      let least = leads.3 q q (row_of_station (station_at (entries_at old.entries)) q (station_of e) (ap (option_map station_of) there) ∙ ap (λ c. row_with c q) of) tt in
      let s = station_of_row (station_at (entries_at old.entries)) p caller leads.0 leads.1 in
      let key = s.3 in
      omega arith

  -- nothing is gone yet
  pub swept_none : (row : Caller) → caller_at old.callers caller ≡ Some row → IsSwept old old caller row.first
  swept_none row is = record {
    some = λ q e there. inr (λ of before. never q e there of row.first (whole.ordered.firsts caller (bounds_of row) (ap (option_map bounds_of) is)) before, there);
    none = λ q there. there;
    next_is = λ task first.
        let leads : Leads (row_at (station_at (entries_at old.entries))) caller None (Some task) = subst (Leads (row_at (station_at (entries_at old.entries))) caller None) first (whole.ordered.firsts caller (bounds_of row) (ap (option_map bounds_of) is)) in
        let s = station_of_row (station_at (entries_at old.entries)) task caller leads.0 leads.1 in
        let e = map_behind station_of (entries_at old.entries task) s.0 s.1 in
        (e.0, e.1, ap (λ (x : Station). x.caller) e.2 ∙ s.2);
  }

  -- what stands before the next one but one is before the next one, or it
  before_next : (p : ℕ) (e : Entry K) → entries_at old.entries p ≡ Some e → e.caller ≡ caller → (q : ℕ) (f : Entry K) → entries_at old.entries q ≡ Some f → f.caller ≡ caller → (after : Option ℕ) → e.after ≡ after → IsBefore after q → q ≤ p
  before_next p e there of q f is same None at before =
      let leads : Leads (row_at (station_at (entries_at old.entries))) e.caller (Some p) None = subst (Leads (row_at (station_at (entries_at old.entries))) e.caller (Some p)) at (whole.ordered.afters p (station_of e) (ap (option_map station_of) there)) in
      elim (cases_lt p q) [
        | inl more ↦ absurd (leads q q (row_of_station (station_at (entries_at old.entries)) q (station_of f) (ap (option_map station_of) is) ∙ ap (λ c. row_with c q) (same ∙ sym of)) more)
        | inr less ↦ less
      ]
  before_next p e there of q f is same (Some n) at before =
      let leads : Leads (row_at (station_at (entries_at old.entries))) e.caller (Some p) (Some n) = subst (Leads (row_at (station_at (entries_at old.entries))) e.caller (Some p)) at (whole.ordered.afters p (station_of e) (ap (option_map station_of) there)) in
      let s = station_of_row (station_at (entries_at old.entries)) n e.caller leads.0 leads.1 in
      let key = s.3 in
      elim (cases_lt p q) [
        | inl more ↦ absurd (let least = leads.3 q q (row_of_station (station_at (entries_at old.entries)) q (station_of f) (ap (option_map station_of) is) ∙ ap (λ c. row_with c q) (same ∙ sym of)) more in omega arith)
        | inr less ↦ less
      ]

  next_above : (p : ℕ) (e : Entry K) → entries_at old.entries p ≡ Some e → (after : Option ℕ) → e.after ≡ after → (q : ℕ) → q ≤ p → IsBefore after q
  next_above p e there None at q low = tt
  next_above p e there (Some n) at q low =
      let leads : Leads (row_at (station_at (entries_at old.entries))) e.caller (Some p) (Some n) = subst (Leads (row_at (station_at (entries_at old.entries))) e.caller (Some p)) at (whole.ordered.afters p (station_of e) (ap (option_map station_of) there)) in
      let s = station_of_row (station_at (entries_at old.entries)) n e.caller leads.0 leads.1 in
      let key = s.3 in
      let more = leads.2 in
      omega arith

  -- the next one is still there
  pub next_there : (now : Parts K) (p : ℕ) → IsSwept old now caller (Some p) → (e : Entry K) × (entries_at old.entries p ≡ Some e) × (e.caller ≡ caller) × (entries_at now.entries p ≡ Some e)
  next_there now p swept =
      let e = swept.next_is p refl in (
        e.0,
        e.1,
        e.2,
        elim (swept.some p e.0 e.1) [
          | inl gone ↦ absurd (let clash = gone.1 in omega arith)
          | inr kept ↦ kept.1
        ],
      )

  -- one more is gone
  pub swept_more : (now next : Parts K) (p : ℕ) (e : Entry K) → IsSwept old now caller (Some p) → entries_at now.entries p ≡ Some e → ((q : ℕ) → entries_at next.entries q ≡ cond (nat_eq q p) None (entries_at now.entries q)) → IsSwept old next caller e.after
  swept_more now next p e swept there takes =
      let own = next_there now p swept in
      let one : own.0 ≡ e = same_some own.0 e (sym own.3 ∙ there) in
      let is : entries_at old.entries p ≡ Some e = own.1 ∙ ap Some one in
      let of : e.caller ≡ caller = ap (λ (x : Entry K). x.caller) (sym one) ∙ own.2 in
      record {
        some = λ q f at. elim (same_or_not q p) [
          | inl same ↦
              let two = same_some e f (sym is ∙ ap (entries_at old.entries) (sym same) ∙ at) in
              inl (ap (λ (x : Entry K). x.caller) (sym two) ∙ of, next_above p e is e.after refl q (omega arith), takes q ∙ ap (λ b. cond b None (entries_at now.entries q)) (ap (λ r. nat_eq r p) same ∙ test_same p))
          | inr apart ↦
              let kept : entries_at next.entries q ≡ entries_at now.entries q = takes q ∙ ap (λ b. cond b None (entries_at now.entries q)) (test_apart q p apart) in
              elim (swept.some q f at) [
                | inl gone ↦ inl (gone.0, (let low = gone.1 in next_above p e is e.after refl q (omega arith)), kept ∙ gone.2)
                | inr stays ↦ inr (λ same before. stays.0 same (let low = before_next p e is of q f at same e.after refl before in omega arith), kept ∙ stays.1)
              ]
        ];
        none = λ q at. takes q ∙ elim (nat_eq q p) as (λ b. cond b None (entries_at now.entries q) ≡ None) [ true ↦ refl | false ↦ swept.none q at ];
        next_is = λ n at.
            let leads : Leads (row_at (station_at (entries_at old.entries))) e.caller (Some p) (Some n) = subst (Leads (row_at (station_at (entries_at old.entries))) e.caller (Some p)) at (whole.ordered.afters p (station_of e) (ap (option_map station_of) is)) in
            let s = station_of_row (station_at (entries_at old.entries)) n e.caller leads.0 leads.1 in
            let x = map_behind station_of (entries_at old.entries n) s.0 s.1 in
            (x.0, x.1, ap (λ (y : Station). y.caller) x.2 ∙ s.2 ∙ of);
      }

-- once all are gone
module _ {K : Type 0} (old now new : Parts K) (caller : ℕ) (whole : IsWhole old) (swept : IsSwept old now caller None) (same : new.entries ≡ now.entries) (kept_rows : now.callers ≡ old.callers)
    (puts : (q : ℕ) → caller_at new.callers q ≡ cond (nat_eq q caller) (Some (record { first = None; last = None; running = 0; stopped = false })) (caller_at now.callers q)) (len : length new.callers.rows ≡ length now.callers.rows) where
  as_now : (q : ℕ) → entries_at new.entries q ≡ entries_at now.entries q
  as_now q = ap (λ es. entries_at es q) same

  from : (q : ℕ) (e : Entry K) → entries_at new.entries q ≡ Some e → (entries_at old.entries q ≡ Some e) × (e.caller ≡ caller → ⊥)
  from q e is =
      elim (none_or_some (entries_at old.entries q)) [
        | inl none ↦ absurd (not_none (entries_at new.entries q) e (as_now q ∙ swept.none q none) is)
        | inr some ↦ elim (swept.some q some.0 some.1) [
          | inl gone ↦ absurd (not_none (entries_at new.entries q) e (as_now q ∙ gone.2) is)
          | inr stays ↦
              let one : some.0 ≡ e = same_some some.0 e (sym stays.1 ∙ sym (as_now q) ∙ is) in
              (some.1 ∙ ap Some one, λ of. stays.0 (ap (λ (x : Entry K). x.caller) one ∙ of) tt)
        ]
      ]

  to : (q : ℕ) (e : Entry K) → entries_at old.entries q ≡ Some e → (e.caller ≡ caller → ⊥) → entries_at new.entries q ≡ Some e
  to q e is apart =
      elim (swept.some q e is) [
        | inl gone ↦ absurd (apart gone.0)
        | inr stays ↦ as_now q ∙ stays.1
      ]

  head_from : (q : ℕ) (h : Head) → head_at (entries_at new.entries) q ≡ Some h → (head_at (entries_at old.entries) q ≡ Some h) × (h.caller ≡ caller → ⊥)
  head_from q h is =
      let e = map_behind head_of (entries_at new.entries q) h is in
      let f = from q e.0 e.1 in
      (ap (option_map head_of) f.0 ∙ ap Some e.2, λ of. f.1 (ap (λ (x : Head). x.caller) e.2 ∙ of))

  head_to : (q : ℕ) (h : Head) → head_at (entries_at old.entries) q ≡ Some h → (h.caller ≡ caller → ⊥) → head_at (entries_at new.entries) q ≡ Some h
  head_to q h is apart =
      let e = map_behind head_of (entries_at old.entries q) h is in
      ap (option_map head_of) (to q e.0 e.1 (λ of. apart (ap (λ (x : Head). x.caller) (sym e.2) ∙ of))) ∙ ap Some e.2

  link_from : (p : Spot) (l : Link) → link_at (entries_at new.entries) p ≡ Some l → (e : Entry K) × (entries_at new.entries p.task ≡ Some e) × (link_at (entries_at old.entries) p ≡ Some l)
  link_from p l is =
      elim (none_or_some (entries_at new.entries p.task)) [
        | inl none ↦ absurd (not_none (link_at (entries_at new.entries) p) l (ap (λ o. link_of (place_in o p.place)) none) is)
        | inr some ↦ (some.0, some.1, ap (λ o. link_of (place_in o p.place)) ((from p.task some.0 some.1).0 ∙ sym some.1) ∙ is)
      ]

  link_to : (p : Spot) (l : Link) (e : Entry K) → link_at (entries_at old.entries) p ≡ Some l → entries_at old.entries p.task ≡ Some e → (e.caller ≡ caller → ⊥) → link_at (entries_at new.entries) p ≡ Some l
  link_to p l e is at apart = ap (λ o. link_of (place_in o p.place)) (to p.task e at apart ∙ sym at) ∙ is

  station_from : (q : ℕ) (s : Station) → station_at (entries_at new.entries) q ≡ Some s → (station_at (entries_at old.entries) q ≡ Some s) × (s.caller ≡ caller → ⊥)
  station_from q s is =
      let e = map_behind station_of (entries_at new.entries q) s is in
      let f = from q e.0 e.1 in
      (ap (option_map station_of) f.0 ∙ ap Some e.2, λ of. f.1 (ap (λ (x : Station). x.caller) e.2 ∙ of))

  station_to : (q : ℕ) (s : Station) → station_at (entries_at old.entries) q ≡ Some s → (s.caller ≡ caller → ⊥) → station_at (entries_at new.entries) q ≡ Some s
  station_to q s is apart =
      let e = map_behind station_of (entries_at old.entries q) s is in
      ap (option_map station_of) (to q e.0 e.1 (λ of. apart (ap (λ (x : Station). x.caller) (sym e.2) ∙ of))) ∙ ap Some e.2

  row_here : caller_at new.callers caller ≡ Some (record { first = None; last = None; running = 0; stopped = false })
  row_here = puts caller ∙ ap (λ b. cond b (Some (record { first = None; last = None; running = 0; stopped = false })) (caller_at now.callers caller)) (test_same caller)

  row_other : (q : ℕ) → (q ≡ caller → ⊥) → caller_at new.callers q ≡ caller_at old.callers q
  row_other q apart = puts q ∙ ap (λ b. cond b (Some (record { first = None; last = None; running = 0; stopped = false })) (caller_at now.callers q)) (test_apart q caller apart) ∙ ap (λ c. caller_at c q) kept_rows

  leads_kept : (g : ℕ) (bound : Option ℕ) (o : Option ℕ) → (g ≡ caller → ⊥) → Leads (row_at (station_at (entries_at old.entries))) g bound o → Leads (row_at (station_at (entries_at new.entries))) g bound o
  leads_kept g bound o apart leads =
      leads_alike (row_at (station_at (entries_at old.entries))) (row_at (station_at (entries_at new.entries))) g bound o
      (λ q k is.
      let s = station_of_row (station_at (entries_at new.entries)) q g k is in
      row_of_station (station_at (entries_at old.entries)) q s.0 (station_from q s.0 s.1).0 ∙ ap (λ c. row_with c q) s.2 ∙ ap (row_with g) s.3)
      (λ q k is.
      let s = station_of_row (station_at (entries_at old.entries)) q g k is in
      row_of_station (station_at (entries_at new.entries)) q s.0 (station_to q s.0 s.1 (λ of. apart (sym s.2 ∙ of))) ∙ ap (λ c. row_with c q) s.2 ∙ ap (row_with g) s.3)
      leads

  bounds_from : (c : ℕ) (own : Bounds) → bounds_at (caller_at new.callers) c ≡ Some own → ((c ≡ caller) × (own.first ≡ None) × (own.last ≡ None)) ⊎ ((c ≡ caller → ⊥) × (bounds_at (caller_at old.callers) c ≡ Some own))
  bounds_from c own is =
      elim (same_or_not c caller) [
        | inl here ↦
            let one = same_some _ own (sym (ap (option_map bounds_of) (ap (caller_at new.callers) here ∙ row_here)) ∙ is) in
            inl (here, ap (λ (b : Bounds). b.first) (sym one), ap (λ (b : Bounds). b.last) (sym one))
        | inr apart ↦ inr (apart, sym (ap (option_map bounds_of) (row_other c apart)) ∙ is)
      ]

  bounds_to : (c : ℕ) (own : Bounds) → (c ≡ caller → ⊥) → bounds_at (caller_at old.callers) c ≡ Some own → bounds_at (caller_at new.callers) c ≡ Some own
  bounds_to c own apart is = ap (option_map bounds_of) (row_other c apart) ∙ is

  reached_kept : (q c : ℕ) → (c ≡ caller → ⊥) → (o : Option ℕ) → IsReached (bounds_at (caller_at old.callers)) (station_at (entries_at old.entries)) q c o → IsReached (bounds_at (caller_at new.callers)) (station_at (entries_at new.entries)) q c o
  reached_kept q c apart None r = (r.0, bounds_to c r.0 apart r.1, r.2)
  reached_kept q c apart (Some p) r = (r.0, station_to p r.0 r.1 (λ of. apart (sym r.2 ∙ of)), r.2, r.3)

  tail_kept : (c : ℕ) (first : Option ℕ) → (c ≡ caller → ⊥) → (o : Option ℕ) → IsTail (station_at (entries_at old.entries)) c first o → IsTail (station_at (entries_at new.entries)) c first o
  tail_kept c first apart None t = t
  tail_kept c first apart (Some p) t = (t.0, station_to p t.0 t.1 (λ of. apart (sym t.2 ∙ of)), t.2, t.3)

  shown_from : (q : ℕ) → map.get (tasks_of new.entries.tasks.entries) q ≡ option_and_then (λ value. cond (not (nat_eq value.caller caller)) (Some value) None) (map.get (tasks_of old.entries.tasks.entries) q)
  shown_from q =
      elim (none_or_some (entries_at old.entries q)) [
        | inl none ↦
            task_is new q ∙ ap (option_map shown_entry) (as_now q ∙ swept.none q none)
            ∙ sym (ap (option_and_then (λ (value : Unfinished Ref K). cond (not (nat_eq value.caller caller)) (Some value) None)) (task_is old q ∙ ap (option_map shown_entry) none))
        | inr some ↦
            let was = task_there old q some.0 some.1 in
            elim (same_or_not some.0.caller caller) [
              | inl of ↦ elim (swept.some q some.0 some.1) [
                | inl gone ↦
                    task_is new q ∙ ap (option_map shown_entry) (as_now q ∙ gone.2)
                    ∙ sym (ap (option_and_then (λ (value : Unfinished Ref K). cond (not (nat_eq value.caller caller)) (Some value) None)) was ∙ ap (λ b. cond (not b) (Some (shown_entry some.0)) None) (ap (λ r. nat_eq r caller) of ∙ test_same caller))
                | inr stays ↦ absurd (stays.0 of tt)
              ]
              | inr apart ↦
                  task_there new q some.0 (to q some.0 some.1 apart)
                  ∙ sym (ap (option_and_then (λ (value : Unfinished Ref K). cond (not (nat_eq value.caller caller)) (Some value) None)) was ∙ ap (λ b. cond (not b) (Some (shown_entry some.0)) None) (test_apart some.0.caller caller apart))
            ]
      ]

  pub swept_tasks : tasks_of new.entries.tasks.entries ≡ kept (λ task. not (nat_eq task.caller caller)) (tasks_of old.entries.tasks.entries)
  swept_tasks = same_maps _ _ (λ q. shown_from q ∙ sym (get-kept (λ task. not (nat_eq task.caller caller)) (tasks_of old.entries.tasks.entries) q))

  pub swept_stopped : stopped_from 0 new.callers.rows ≡ numbers.remove (stopped_from 0 old.callers.rows) caller
  swept_stopped = numbers.same_set nat_cmp_total map.nat_cmp-IsAntisymmetric _ _ (λ q.
      has-stopped new.callers.rows q
      ∙ elim (same_or_not q caller) [
        | inl here ↦ ap flag (ap (caller_at new.callers) here ∙ row_here) ∙ sym (ap (λ b. not b && has (stopped_from 0 old.callers.rows) q) (ap (λ r. nat_eq r caller) here ∙ test_same caller))
        | inr apart ↦ ap flag (row_other q apart) ∙ sym (has-stopped old.callers.rows q) ∙ sym (ap (λ b. not b && has (stopped_from 0 old.callers.rows) q) (test_apart q caller apart))
      ]
      ∙ sym (numbers.contains-remove nat_cmp_total (stopped_from 0 old.callers.rows) caller q ∙ ap (λ b. not b && has (stopped_from 0 old.callers.rows) q) (unsigned_tied q caller)))

  pub swept_graph : graph_of new ≡ abandoned (graph_of old) caller
  swept_graph = λ i. record { tasks = swept_tasks i; stopped = swept_stopped i }

  -- how many run for each caller
  runs_none : (u : Option (Unfinished Ref K)) → option_and_then (λ value. cond (is_run_for caller value) (Some value) None) (option_and_then (λ value. cond (not (nat_eq value.caller caller)) (Some value) None) u) ≡ None
  runs_none None = refl
  runs_none (Some u) = elim (nat_eq u.caller caller) as (λ b. nat_eq u.caller caller ≡ b → option_and_then (λ (value : Unfinished Ref K). cond (is_run_for caller value) (Some value) None) (cond (not b) (Some u) None) ≡ None) [
    | true ↦ λ test. refl
    | false ↦ λ test. ap (λ b. cond (b && is_running (status_of u)) (Some u) None) test
  ] refl

  runs_same : (c : ℕ) → (c ≡ caller → ⊥) → (u : Option (Unfinished Ref K)) → option_and_then (λ value. cond (is_run_for c value) (Some value) None) (option_and_then (λ value. cond (not (nat_eq value.caller caller)) (Some value) None) u) ≡ option_and_then (λ value. cond (is_run_for c value) (Some value) None) u
  runs_same c apart None = refl
  runs_same c apart (Some u) =
      elim (same_or_not u.caller caller) [
        | inl of ↦
            ap (λ b. option_and_then (λ (value : Unfinished Ref K). cond (is_run_for c value) (Some value) None) (cond (not b) (Some u) None)) (ap (λ r. nat_eq r caller) of ∙ test_same caller)
            ∙ sym (ap (λ b. cond (b && is_running (status_of u)) (Some u) None) (test_apart u.caller c (λ same. apart (sym same ∙ of))))
        | inr other ↦ ap (λ b. option_and_then (λ (value : Unfinished Ref K). cond (is_run_for c value) (Some value) None) (cond (not b) (Some u) None)) (test_apart u.caller caller other)
      ]

  running_none : running (graph_of new) caller ≡ 0
  running_none =
      ap map.len (same_maps (kept (is_run_for caller) (tasks_of new.entries.tasks.entries)) map.empty (λ q.
      get-kept (is_run_for caller) (tasks_of new.entries.tasks.entries) q ∙ ap (option_and_then (λ value. cond (is_run_for caller value) (Some value) None)) (shown_from q) ∙ runs_none (map.get (tasks_of old.entries.tasks.entries) q) ∙ sym (map.get-empty nat_cmp q)))
      ∙ map.len-empty nat_cmp (Unfinished Ref K)

  running_same : (c : ℕ) → (c ≡ caller → ⊥) → running (graph_of new) c ≡ running (graph_of old) c
  running_same c apart =
      ap map.len (same_maps (kept (is_run_for c) (tasks_of new.entries.tasks.entries)) (kept (is_run_for c) (tasks_of old.entries.tasks.entries)) (λ q.
      get-kept (is_run_for c) (tasks_of new.entries.tasks.entries) q ∙ ap (option_and_then (λ value. cond (is_run_for c value) (Some value) None)) (shown_from q) ∙ runs_same c apart (map.get (tasks_of old.entries.tasks.entries) q)
      ∙ sym (get-kept (is_run_for c) (tasks_of old.entries.tasks.entries) q)))

  pub swept_whole : IsWhole new
  swept_whole = record {
    woven = left-woven (head_at (entries_at old.entries)) (head_at (entries_at new.entries)) (link_at (entries_at old.entries)) (link_at (entries_at new.entries)) whole.woven (record {
      was = λ p l is. (link_from p l is).2;
      stays = λ p l h is there.
          let home = whole.woven.home p l is in
          let e = map_behind head_of (entries_at old.entries p.task) home.0 home.2 in
          let awaited = head_from l.task h there in
          let two = same_some home.1 h (sym home.3 ∙ awaited.0) in
          link_to p l e.0 is e.1 (λ of. awaited.1 (ap (λ (x : Head). x.caller) (sym two) ∙ home.4 ∙ ap (λ (x : Head). x.caller) (sym e.2) ∙ of));
      home = λ p l is.
          let f = link_from p l is in
          let home = whole.woven.home p l f.2 in
          let e = from p.task f.0 f.1 in
          let one = same_some (head_of f.0) home.0 (sym (ap (option_map head_of) e.0) ∙ home.2) in
          let apart : home.0.caller ≡ caller → ⊥ = λ of. e.1 (ap (λ (x : Head). x.caller) one ∙ of) in
          (home.0, home.1, head_to p.task home.0 home.2 apart, head_to l.task home.1 home.3 (λ of. apart (sym home.4 ∙ of)), home.4, home.5);
      lists = λ q h is. inl (h, (head_from q h is).0, refl, refl);
      asked_apart = λ p l q h n is there asked number. whole.woven.asked_apart p l q h n (link_from p l is).2 (head_from q h there).0 asked number;
    });
    ordered = record {
      firsts = λ c own is. elim (bounds_from c own is) [
        | inl here ↦ subst (Leads (row_at (station_at (entries_at new.entries))) c None) (sym here.1) (λ q k row more. let s = station_of_row (station_at (entries_at new.entries)) q c k row in (station_from q s.0 s.1).1 (s.2 ∙ here.0))
        | inr other ↦ leads_kept c None own.first other.0 (whole.ordered.firsts c own other.1)
      ];
      afters = λ q s is. let f = station_from q s is in leads_kept s.caller (Some q) s.after f.1 (whole.ordered.afters q s f.0);
      befores = λ q s is. let f = station_from q s is in reached_kept q s.caller f.1 s.before (whole.ordered.befores q s f.0);
      lasts = λ c own is. elim (bounds_from c own is) [
        | inl here ↦ subst (IsTail (station_at (entries_at new.entries)) c own.first) (sym here.2) here.1
        | inr other ↦ tail_kept c own.first other.0 own.last (whole.ordered.lasts c own other.1)
      ];
      known = λ q s is. let f = station_from q s is in let k = whole.ordered.known q s f.0 in (k.0, bounds_to s.caller k.0 f.1 k.1);
    };
    short = λ q e is. whole.short q e (from q e is).0;
    rows = len ∙ ap (λ c. length c.rows) kept_rows ∙ whole.rows;
    counted = λ c row is. elim (same_or_not c caller) [
      | inl here ↦ ap (λ (r : Caller). r.running) (same_some row _ (sym is ∙ ap (caller_at new.callers) here ∙ row_here)) ∙ sym running_none ∙ ap (running (graph_of new)) (sym here)
      | inr apart ↦ whole.counted c row (sym (row_other c apart) ∙ is) ∙ sym (running_same c apart)
    ];
  }
