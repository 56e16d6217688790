-- What is read of the fields is so of the tasks.
use Rattle.std.proofs.Common.{◌≡◌, ℕ, ◌<◌, ◌≤◌, Bool, true, false, not, ◌&&◌, Option, Some, None, is_some, IsSome, refl, sym, ap, subst, ◌∙◌, inl, inr, arith, List, [], ◌∷◌, ◌||◌, zero, suc}
use Rattle.std.specs.Prelude.{slice_get, IsTrue, ◌↔◌}
use Rattle.std.specs.List.{list_any}
use Rattle.std.specs.Option.{option_map}
use Rattle.std.proofs.lemmas.Bool.{cases_lt}
use Rattle.cht_ids.specs.declared.refs.Ref.{Ref}
use Rattle.task_states.specs.States.{Input, Unfinished, task_at, caller_of, input_at, is_stopped}
use Rattle.task_states.specs.Awaiters.{IsLeastOf, IsLater, IsRunnable, IsWanted}
use Rattle.task_states.proofs.Options.{not_none, same_some, none_or_some, map_behind}
use Rattle.task_links.specs.declared.callers.Caller.{Caller}
use Rattle.task_links.specs.declared.entries.Entry.{Entry}
use Rattle.task_graph.specs.declared.held.Held.{Held}
use Rattle.task_graph.specs.declared.parts.Parts.{Parts}
use Rattle.task_links.specs.Inside.{Station, inputs_of, shown_place, entries_at, shown_entry, station_at, station_of}
use Rattle.task_links.specs.Callers.{caller_at, bounds_of}
use Rattle.task_links.specs.Weave.{Leads}
use Rattle.task_links.specs.Order.{Bounds, row_at, IsTail, IsOrdered}
use Rattle.task_graph.specs.Graphs.{graph_of, IsWhole, IsHeld}
use Rattle.task_links.specs.Queue.{IsQueueLeast}
use Rattle.task_graph.specs.Reading.{IsCeiling, HasWanted, is_wanted, rest_to}
use Rattle.task_links.proofs.Chains.{row_with}
use Rattle.task_links.proofs.Orders.{row_of_station, station_of_row}
use Rattle.task_graph.proofs.Moves.{entry_of_caller, get_each}
use Rattle.task_graph.proofs.Runs.{task_is, task_there, stopped_is}

some_of : {X : Type 0} (o : Option X) → IsSome o → (x : X) × (o ≡ Some x)
some_of None is = absurd (cc)
some_of (Some x) is = (x, refl)

-- the least number is that of the least task that can be run
pub least_runs : {K : Type 0} (held : Held K) (o : Option ℕ) → IsHeld held → IsQueueLeast held.ready o → IsLeastOf (IsRunnable (graph_of held.parts)) o
least_runs held None is least = λ q runs. let clash : false ≡ true = sym (least q) ∙ is.queued q runs in cc
least_runs held (Some n) is least = (is.least n least, λ q runs. least.1 q (is.queued q runs))

-- nothing follows the last task of a caller
pub tail_of : (bounds : ℕ → Option Bounds) (stations : ℕ → Option Station) (caller : ℕ) → IsOrdered bounds stations → (own : Bounds) → bounds caller ≡ Some own → (last : ℕ) → own.last ≡ Some last → IsTail stations caller own.first (Some last)
tail_of bounds stations caller ordered own is last at = subst (IsTail stations caller own.first) at (ordered.lasts caller own is)

module _ {K : Type 0} (parts : Parts K) (whole : IsWhole parts) where
  -- a task of a caller as a row
  row_of : (q c : ℕ) → caller_of (graph_of parts) q ≡ Some c → row_at (station_at (entries_at parts.entries)) q ≡ Some (c, q)
  row_of q c is = let e = entry_of_caller parts q c is in row_of_station (station_at (entries_at parts.entries)) q (station_of e.0) (ap (option_map station_of) e.1) ∙ ap (λ g. row_with g q) e.2

  of_row : (q g k : ℕ) → row_at (station_at (entries_at parts.entries)) q ≡ Some (g, k) → (caller_of (graph_of parts) q ≡ Some g) × (q ≡ k)
  of_row q g k is =
      let s = station_of_row (station_at (entries_at parts.entries)) q g k is in
      let e = map_behind station_of (entries_at parts.entries q) s.0 s.1 in
      (ap (option_map (λ (u : Unfinished Ref K). u.caller)) (task_there parts q e.0 e.1) ∙ ap Some (ap (λ (x : Station). x.caller) e.2 ∙ s.2), s.3)

  pub caller_there : (q : ℕ) (e : Entry K) → entries_at parts.entries q ≡ Some e → caller_of (graph_of parts) q ≡ Some e.caller
  caller_there q e is = ap (option_map (λ (u : Unfinished Ref K). u.caller)) (task_there parts q e is)

  -- what follows a task is the least above it
  after_least : (q c : ℕ) (after : Option ℕ) → Leads (row_at (station_at (entries_at parts.entries))) c (Some q) after → IsLeastOf (IsLater (graph_of parts) c q) after
  after_least q c None leads = λ n later. leads n n (row_of n c later.0) later.1
  after_least q c (Some m) leads =
      let of = of_row m c leads.0 leads.1 in
      let key = of.1 in
      let above = leads.2 in
      ((of.0, (omega arith)), λ n later. let least = leads.3 n n (row_of n c later.0) later.1 in omega arith)

  pub after_found : (q : ℕ) (e : Entry K) (c : ℕ) → entries_at parts.entries q ≡ Some e → e.caller ≡ c → IsLeastOf (IsLater (graph_of parts) c q) e.after
  after_found q e c is of = after_least q c e.after (subst (λ g. Leads (row_at (station_at (entries_at parts.entries))) g (Some q) e.after) of (whole.ordered.afters q (station_of e) (ap (option_map station_of) is)))

  ceiling_from : (c after : ℕ) (first : Option ℕ) → Leads (row_at (station_at (entries_at parts.entries))) c None first → IsCeiling (graph_of parts) c after first
  ceiling_from c after None leads = λ n of. absurd (leads n n (row_of n c of) tt)
  ceiling_from c after (Some m) leads =
      let of = of_row m c leads.0 leads.1 in
      let key = of.1 in
      (of.0, λ n is low. absurd (let least = leads.3 n n (row_of n c is) tt in omega arith))

  -- from the first on
  pub ceiling_first : (c after : ℕ) (row : Caller) → caller_at parts.callers c ≡ Some row → IsCeiling (graph_of parts) c after row.first
  ceiling_first c after row is = ceiling_from c after row.first (whole.ordered.firsts c (bounds_of row) (ap (option_map bounds_of) is))

  least_from : (c : ℕ) (first : Option ℕ) → Leads (row_at (station_at (entries_at parts.entries))) c None first → IsLeastOf (λ n. caller_of (graph_of parts) n ≡ Some c) first
  least_from c None leads = λ n of. leads n n (row_of n c of) tt
  least_from c (Some m) leads =
      let of = of_row m c leads.0 leads.1 in
      let key = of.1 in
      (of.0, λ n is. let least = leads.3 n n (row_of n c is) tt in omega arith)

  -- the first is the least
  pub first_least : (c : ℕ) (row : Caller) → caller_at parts.callers c ≡ Some row → IsLeastOf (λ n. caller_of (graph_of parts) n ≡ Some c) row.first
  first_least c row is = least_from c row.first (whole.ordered.firsts c (bounds_of row) (ap (option_map bounds_of) is))

  ceiling_step : (c after at : ℕ) (next : Option ℕ) → Leads (row_at (station_at (entries_at parts.entries))) c (Some at) next → IsCeiling (graph_of parts) c after (Some at) → at ≤ after → IsCeiling (graph_of parts) c after next
  ceiling_step c after at None leads ceiling low = λ n of. elim (cases_lt at n) [
    | inl more ↦ absurd (leads n n (row_of n c of) more)
    | inr less ↦ omega arith
  ]
  ceiling_step c after at (Some m) leads ceiling low =
      let own = of_row m c leads.0 leads.1 in
      let key = own.1 in (
        own.0,
        λ n of less. elim (cases_lt at n) [
          | inl more ↦ absurd (let least = leads.3 n n (row_of n c of) more in omega arith)
          | inr below ↦ omega arith
        ],
      )

  pub ceiling_next : (c after : ℕ) (at : ℕ) (e : Entry K) → IsCeiling (graph_of parts) c after (Some at) → entries_at parts.entries at ≡ Some e → at ≤ after → IsCeiling (graph_of parts) c after e.after
  ceiling_next c after at e ceiling is low =
      let of : e.caller ≡ c = same_some e.caller c (sym (caller_there at e is) ∙ ceiling.0) in
      ceiling_step c after at e.after (subst (λ g. Leads (row_at (station_at (entries_at parts.entries))) g (Some at) e.after) of (whole.ordered.afters at (station_of e) (ap (option_map station_of) is))) ceiling low

  pub next_rises : (at : ℕ) (e : Entry K) (m : ℕ) → entries_at parts.entries at ≡ Some e → e.after ≡ Some m → (at < m) × (caller_of (graph_of parts) m ≡ Some e.caller)
  next_rises at e m is next =
      let leads : Leads (row_at (station_at (entries_at parts.entries))) e.caller (Some at) (Some m) = subst (Leads (row_at (station_at (entries_at parts.entries))) e.caller (Some at)) next (whole.ordered.afters at (station_of e) (ap (option_map station_of) is)) in
      let own = of_row m e.caller leads.0 leads.1 in
      let key = own.1 in
      let above = leads.2 in
      ((omega arith), own.0)

  pub nearer_last : (last at : ℕ) (e : Entry K) (next : Option ℕ) → e.after ≡ next → entries_at parts.entries at ≡ Some e → ((n : ℕ) → caller_of (graph_of parts) n ≡ Some e.caller → n ≤ last) → rest_to last next < rest_to last (Some at)
  nearer_last last at e None after is all = let low = all at (caller_there at e is) in omega arith
  nearer_last last at e (Some m) after is all = let low = all at (caller_there at e is) in let next = next_rises at e m is after in let high = all m next.1 in let more = next.0 in omega arith

  -- the last is the greatest
  pub last_greatest : (c : ℕ) (row : Caller) (last : ℕ) → caller_at parts.callers c ≡ Some row → row.last ≡ Some last → (n : ℕ) → caller_of (graph_of parts) n ≡ Some c → n ≤ last
  last_greatest c row last is at n of =
      let tail : IsTail (station_at (entries_at parts.entries)) c row.first (Some last) = subst (IsTail (station_at (entries_at parts.entries)) c row.first) at (whole.ordered.lasts c (bounds_of row) (ap (option_map bounds_of) is)) in
      let leads : Leads (row_at (station_at (entries_at parts.entries))) tail.0.caller (Some last) None = subst (Leads (row_at (station_at (entries_at parts.entries))) tail.0.caller (Some last)) tail.3 (whole.ordered.afters last tail.0 tail.1) in
      elim (cases_lt last n) [
        | inl more ↦ absurd (leads n n (row_of n c of ∙ ap (λ g. row_with g n) (sym tail.2)) more)
        | inr less ↦ less
      ]

  -- where there is no last, there is none
  pub no_last : (c : ℕ) (row : Caller) → caller_at parts.callers c ≡ Some row → row.last ≡ None → (n : ℕ) → caller_of (graph_of parts) n ≡ Some c → ⊥
  no_last c row is at n of =
      let tail : IsTail (station_at (entries_at parts.entries)) c row.first None = subst (IsTail (station_at (entries_at parts.entries)) c row.first) at (whole.ordered.lasts c (bounds_of row) (ap (option_map bounds_of) is)) in
      let leads : Leads (row_at (station_at (entries_at parts.entries))) c None None = subst (Leads (row_at (station_at (entries_at parts.entries))) c None) tail (whole.ordered.firsts c (bounds_of row) (ap (option_map bounds_of) is)) in
      leads n n (row_of n c of) tt

  -- a first task that is above
  pub found_above : (c after at : ℕ) → IsCeiling (graph_of parts) c after (Some at) → after < at → IsLeastOf (IsLater (graph_of parts) c after) (Some at)
  found_above c after at ceiling more = (
    (ceiling.0, more),
    λ n later. elim (cases_lt n at) [
      | inl less ↦ absurd (let low = ceiling.1 n later.0 less in let above = later.1 in omega arith)
      | inr rest ↦ rest
    ],
  )

  pub none_above : (c after : ℕ) → IsCeiling (graph_of parts) c after None → IsLeastOf (IsLater (graph_of parts) c after) None
  none_above c after ceiling = λ n later. let low = ceiling n later.0 in let above = later.1 in omega arith

  -- wanted callers
  pub wanted_from : HasWanted parts.callers.rows → (task : ℕ) × IsWanted (graph_of parts) task
  wanted_from w =
      let first = some_of w.1.first w.4 in
      let leads : Leads (row_at (station_at (entries_at parts.entries))) w.0 None (Some first.0) = subst (Leads (row_at (station_at (entries_at parts.entries))) w.0 None) first.1 (whole.ordered.firsts w.0 (bounds_of w.1) (ap (option_map bounds_of) w.2)) in
      let of = of_row first.0 w.0 leads.0 leads.1 in
      let u = map_behind (λ (u : Unfinished Ref K). u.caller) (task_at (graph_of parts) first.0) w.0 of.0 in
      (first.0, (u.0, u.1, ap (is_stopped (graph_of parts)) u.2 ∙ stopped_is parts w.0 w.1 w.2 ∙ w.3))

  first_some : (c : ℕ) (row : Caller) → caller_at parts.callers c ≡ Some row → (n : ℕ) → caller_of (graph_of parts) n ≡ Some c → IsSome row.first
  first_some c row is n of =
      elim (none_or_some row.first) [
        | inl none ↦ absurd (subst (Leads (row_at (station_at (entries_at parts.entries))) c None) none (whole.ordered.firsts c (bounds_of row) (ap (option_map bounds_of) is)) n n (row_of n c of) tt)
        | inr some ↦ subst IsSome (sym some.1) refl
      ]

  pub wanted_to : (task : ℕ) → IsWanted (graph_of parts) task → HasWanted parts.callers.rows
  wanted_to task wanted =
      let e = map_behind shown_entry (entries_at parts.entries task) wanted.0 (sym (task_is parts task) ∙ wanted.1) in
      let k = whole.ordered.known task (station_of e.0) (ap (option_map station_of) e.1) in
      let r = map_behind bounds_of (caller_at parts.callers e.0.caller) k.0 k.1 in
      let going = sym (stopped_is parts e.0.caller r.0 r.1) ∙ ap (is_stopped (graph_of parts)) (ap (λ (u : Unfinished Ref K). u.caller) e.2) ∙ wanted.2 in
      (e.0.caller, r.0, r.1, going, first_some e.0.caller r.0 r.1 task (caller_there task e.0 e.1))

-- the input of a task
pub input_there : {K : Type 0} (parts : Parts K) (q : ℕ) (e : Entry K) (place : ℕ) → entries_at parts.entries q ≡ Some e → option_map shown_place (slice_get (inputs_of e) place) ≡ input_at (graph_of parts) q place
input_there {K} parts q e place is =
    sym (get_each shown_place (inputs_of e) place) ∙ sym (ap (λ (o : Option (Unfinished Ref K)). elim o as (λ _. Option (Input Ref)) [ None ↦ None | Some unfinished ↦ slice_get unfinished.inputs place ]) (task_there parts q e is))

both_from : (a b : Bool) → (not a && b) ≡ true → (a ≡ false) × (b ≡ true)
both_from true b is = absurd (cc)
both_from false b is = (refl, is)

both_to : (a b : Bool) → a ≡ false → b ≡ true → (not a && b) ≡ true
both_to true b one two = absurd (cc)
both_to false b one two = two

wanted_list : (rows : List Caller) → list_any is_wanted rows ≡ true → HasWanted rows
wanted_list [] is = absurd (cc)
wanted_list (row ∷ rows) is =
    elim (is_wanted row) as (λ b. is_wanted row ≡ b → (b || list_any is_wanted rows) ≡ true → HasWanted (row ∷ rows)) [
      | true ↦ λ here _. let b = both_from row.stopped (is_some row.first) here in (0, row, refl, b.0, b.1)
      | false ↦ λ _ rest. let w = wanted_list rows rest in (suc w.0, w.1, w.2, w.3, w.4)
    ] refl is

or_true : (a : Bool) → (a || true) ≡ true
or_true true = refl
or_true false = refl

list_wanted : (rows : List Caller) (i : ℕ) (row : Caller) → slice_get rows i ≡ Some row → row.stopped ≡ false → IsSome row.first → list_any is_wanted rows ≡ true
list_wanted [] i row at one two = absurd (not_none None row refl at)
list_wanted (r ∷ rows) zero row at one two = ap (λ (x : Caller). is_wanted x || list_any is_wanted rows) (same_some r row at) ∙ ap (λ b. b || list_any is_wanted rows) (both_to row.stopped (is_some row.first) one two)
list_wanted (r ∷ rows) (suc i) row at one two = ap (λ b. is_wanted r || b) (list_wanted rows i row at one two) ∙ or_true (is_wanted r)

-- whether a caller that is not stopped has a task
pub any_iff : {K : Type 0} (parts : Parts K) (b : Bool) → IsWhole parts → b ≡ list_any is_wanted parts.callers.rows → IsTrue b ↔ ((task : ℕ) × IsWanted (graph_of parts) task)
any_iff parts b whole is = (
  λ yes_it. wanted_from parts whole (wanted_list parts.callers.rows (sym is ∙ yes_it)),
  λ w. is ∙ (let h = wanted_to parts whole w.0 w.1 in list_wanted parts.callers.rows h.0 h.1 h.2 h.3 h.4),
)
