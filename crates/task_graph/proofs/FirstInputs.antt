-- The first input that awaits a task, and what comes of a reference for it.
use Rattle.std.proofs.Common.{◌≡◌, ℕ, zero, suc, ◌<◌, ◌≤◌, Bool, true, false, not, Option, Some, None, is_some, List, [], ◌∷◌, take, refl, sym, ap, ap₂, subst, ◌∙◌, ◌⊎◌, inl, inr, set, arith}
use Rattle.std.specs.Prelude.{if◌then◌else◌, slice_get}
use Rattle.std.specs.List.{list_any}
use Rattle.std.specs.Option.{option_map}
use Rattle.cht_ids.specs.declared.refs.Ref.{Ref}
use Rattle.task_states.specs.declared.states.Awaiter.{Awaiter}
use Rattle.task_states.specs.declared.states.Awaiter.TheVariants.{Input as AtInput, Asked}
use Rattle.task_states.specs.declared.states.TaskStatus.{TaskStatus}
use Rattle.task_states.specs.declared.states.TaskStatus.TheVariants.{Unknown, Waiting, Ready, Running}
use Rattle.task_states.specs.States.{Known, Unfinished, Graph, is_awaiting, is_stopped, task_at, status, status_of}
use Rattle.task_states.specs.Steps.{with_task, delivered, without_asked}
use Rattle.task_states.specs.Awaiters.{IsLeastAwaiter, IsRunnable}
use Rattle.task_states.proofs.Options.{not_none, same_some, map_behind}
use Rattle.task_states.proofs.Runnables.{runs_changed, runs_from, ready_of}
use Rattle.task_links.specs.declared.entries.Entry.{Entry}
use Rattle.task_links.specs.declared.entries.Link.{Link}
use Rattle.task_links.specs.declared.entries.Place.TheVariants.{Awaits}
use Rattle.task_links.specs.declared.entries.Spot.{Spot}
use Rattle.task_links.specs.Inside.{entries_at, shown_at, shown_entry, caller_in, place_in, inputs_of}
use Rattle.task_links.specs.Weave.{Head, head_at, head_of, link_at, link_of, IsFirst}
use Rattle.task_links.proofs.Writing.{awaits_behind}
use Rattle.task_graph.specs.Contents.{is_ready}
use Rattle.task_graph.specs.declared.parts.Parts.{Parts}
use Rattle.task_graph.specs.Graphs.{graph_of, IsWhole}
use Rattle.task_graph.specs.Reading.{spot_of}
use Rattle.task_graph.proofs.Awaiting.{no_input, first_link, input_first, input_awaits, input_least, link_behind, one_least}
use Rattle.task_graph.proofs.Keeping.{entry_behind_head}
use Rattle.task_graph.proofs.Runs.{task_is, task_there, caller_low}
use Rattle.task_graph.proofs.Staying.{idle_of, there_changed}

module _ {K : Type 0} (parts : Parts K) (t : ℕ) (e : Entry K) (whole : IsWhole parts) (is : entries_at parts.entries t ≡ Some e) where
  -- where no input awaits a task, none is its awaiter
  pub no_spot : e.first ≡ None → (a : Awaiter) → IsLeastAwaiter (graph_of parts) t a → spot_of a ≡ None
  no_spot first (AtInput s j n) least = absurd (no_input parts t e whole is first s j n least.awaits)
  no_spot first (Asked c n) least = refl

  pub spot_is : (a b : Awaiter) → IsLeastAwaiter (graph_of parts) t a → IsLeastAwaiter (graph_of parts) t b → spot_of b ≡ spot_of a
  spot_is a b one two = ap spot_of (sym (one_least parts t e whole is a b one two))

  pub spot_alone : (spot : Spot) → e.first ≡ Some spot → e.asked ≡ None → (a : Awaiter) → IsLeastAwaiter (graph_of parts) t a → spot_of a ≡ Some spot
  spot_alone spot first asked a least =
      let f = first_link parts t e whole is spot first in
      spot_is (AtInput spot.task spot.place f.0.number) a (input_first parts t e whole is spot f.0 first f.1 (λ n at. absurd (not_none e.asked n asked at))) least

  pub first_is : (spot other : Spot) → e.first ≡ Some spot → Some spot ≡ Some other → IsFirst (head_at (entries_at parts.entries)) (link_at (entries_at parts.entries)) other
  first_is spot other first same =
      let f = first_link parts t e whole is spot first in
      subst (IsFirst (head_at (entries_at parts.entries)) (link_at (entries_at parts.entries))) (same_some spot other same)
      (f.0, head_of e, f.1, ap (head_at (entries_at parts.entries)) f.2 ∙ ap (option_map head_of) is, first)

  -- an input that is a least awaiter is the first of the list
  least_at : (first : Option Spot) → e.first ≡ first → (s j n : ℕ) → IsLeastAwaiter (graph_of parts) t (AtInput s j n) → IsFirst (head_at (entries_at parts.entries)) (link_at (entries_at parts.entries)) (record { task = s; place = j })
  least_at None first s j n least = absurd (no_input parts t e whole is first s j n least.awaits)
  least_at (Some spot) first s j n least =
      let f = first_link parts t e whole is spot first in
      let l = link_behind parts s j t n least.awaits in
      let low = input_least parts t e whole is spot f.0 first f.1 s j n least.awaits in
      let high = least.least (AtInput spot.task spot.place f.0.number) (input_awaits parts t e whole is spot f.0 first f.1) in
      let number : n ≡ f.0.number = omega arith in
      subst (IsFirst (head_at (entries_at parts.entries)) (link_at (entries_at parts.entries))) (sym (whole.woven.apart (record { task = s; place = j }) spot l.0 f.0 l.1 f.1 (l.3 ∙ number)))
      (f.0, head_of e, f.1, ap (head_at (entries_at parts.entries)) f.2 ∙ ap (option_map head_of) is, first)

pub least_first : {K : Type 0} (parts : Parts K) (t s j n : ℕ) → IsWhole parts → IsLeastAwaiter (graph_of parts) t (AtInput s j n) → IsFirst (head_at (entries_at parts.entries)) (link_at (entries_at parts.entries)) (record { task = s; place = j })
least_first parts t s j n whole least =
    let l = link_behind parts s j t n least.awaits in
    let home = whole.woven.home (record { task = s; place = j }) l.0 l.1 in
    let e = entry_behind_head (entries_at parts.entries) l.0.task home.1 home.3 in
    least_at parts t e.0 whole (ap (entries_at parts.entries) (sym l.2) ∙ e.1) e.0.first refl s j n least

short_list : {X : Type 0} (xs : List X) (count j : ℕ) (x : X) → slice_get (take count xs) j ≡ Some x → j < count
short_list xs zero j x is = absurd (not_none None x refl is)
short_list [] (suc count) j x is = absurd (not_none None x refl is)
short_list (y ∷ xs) (suc count) zero x is = omega arith
short_list (y ∷ xs) (suc count) (suc j) x is = let low = short_list xs count j x is in omega arith

-- a place that an awaiter tells is one of four
place_in_four : {K : Type 0} (o : Option (Entry K)) (j : ℕ) (l : Link) → ((e : Entry K) → o ≡ Some e → e.count ≤ 4) → link_of (place_in o j) ≡ Some l → j < 4
place_in_four None j l short is = absurd (not_none None l refl is)
place_in_four (Some e) j l short is =
    let found = awaits_behind (slice_get (inputs_of e) j) l is in
    let low = short_list e.places e.count j (Awaits l) found in
    let few = short e refl in
    omega arith

pub least_low : {K : Type 0} (parts : Parts K) (t s j n : ℕ) → IsWhole parts → IsLeastAwaiter (graph_of parts) t (AtInput s j n) → j < 4
least_low parts t s j n whole least =
    let l = link_behind parts s j t n least.awaits in
    place_in_four (entries_at parts.entries s) j l.0 (λ e is. whole.short s e is) l.1

-- the caller of a task, by its entry
pub caller_is : {K : Type 0} (parts : Parts K) (q caller : ℕ) (u : Unfinished Ref K) → option_map caller_in (entries_at parts.entries q) ≡ Some caller → task_at (graph_of parts) q ≡ Some u → u.caller ≡ caller
caller_is {K} parts q caller u is there =
    let e = map_behind caller_in (entries_at parts.entries q) caller is in
    let shown : shown_entry e.0 ≡ u = same_some (shown_entry e.0) u (sym (task_there parts q e.0 e.1) ∙ there) in
    sym (ap (λ (x : Unfinished Ref K). x.caller) shown) ∙ e.2

pub low_caller : {K : Type 0} (parts : Parts K) → IsWhole parts → (q caller : ℕ) → option_map caller_in (entries_at parts.entries q) ≡ Some caller → caller < 64
low_caller parts whole q caller is =
    let e = map_behind caller_in (entries_at parts.entries q) caller is in
    subst (λ n. n < 64) e.2 (caller_low parts whole q e.0 e.1)

ready_if : (waits : Bool) → is_ready (if waits then Waiting else (if false then Running else Ready)) ≡ not waits
ready_if true = refl
ready_if false = refl

-- whether a task waits, as contracts see it
pub waits_is : {K : Type 0} (parts : Parts K) (q : ℕ) (b : Bool) → option_map {U = Bool} (λ (u : Unfinished Ref K). list_any is_awaiting u.inputs) (shown_at (entries_at parts.entries) q) ≡ Some b
    → option_map {U = Bool} (λ (u : Unfinished Ref K). list_any is_awaiting u.inputs) (task_at (graph_of parts) q) ≡ Some b
waits_is {K} parts q b is = ap (option_map {U = Bool} (λ (u : Unfinished Ref K). list_any is_awaiting u.inputs)) (task_is parts q) ∙ is

-- a delivery by the input that is the awaiter, if one is
pub delivered_at : {K : Type 0} (graph : Graph Ref K) (t : ℕ) (spot : Spot) (r : Ref) (a : Awaiter) → spot_of a ≡ Some spot → with_task graph spot.task (λ u. record u { inputs = set u.inputs spot.place (Known r) }) ≡ delivered graph t a r
delivered_at graph t spot r (AtInput s j n) same =
    ap (λ (p : Spot). with_task graph p.task (λ u. record u { inputs = set u.inputs p.place (Known r) })) (sym (same_some (record { task = s; place = j }) spot same))
delivered_at graph t spot r (Asked c n) same = absurd (not_none None spot refl same)

pub delivered_asked : {K : Type 0} (graph : Graph Ref K) (t : ℕ) (r : Ref) (a : Awaiter) → spot_of a ≡ None → without_asked graph t ≡ delivered graph t a r
delivered_asked graph t r (AtInput s j n) same = absurd (not_none None (record { task = s; place = j }) refl (sym same))
delivered_asked graph t r (Asked c n) same = refl

-- an input of a task that got a reference
module _ {K : Type 0} (old new : Graph Ref K) (spot : Spot) (r : Ref) (made : new ≡ with_task old spot.task (λ u. record u { inputs = set u.inputs spot.place (Known r) })) where
  change : Unfinished Ref K → Unfinished Ref K
  change u = record u { inputs = set u.inputs spot.place (Known r) }

  there_new : task_at new spot.task ≡ option_map change (task_at old spot.task)
  unfolding change
  there_new = ap (λ graph. task_at graph spot.task) made ∙ there_changed old spot.task (λ u. record u { inputs = set u.inputs spot.place (Known r) })

  pub runs_own : (q : ℕ) → IsRunnable new q → (q ≡ spot.task) ⊎ IsRunnable old q
  runs_own q runs = runs_changed old spot.task q (λ u. record u { inputs = set u.inputs spot.place (Known r) }) (subst (λ graph. IsRunnable graph q) made runs)

  -- it waits still
  waiting_never : option_map {U = Bool} (λ (u : Unfinished Ref K). list_any is_awaiting u.inputs) (task_at new spot.task) ≡ Some true → IsRunnable new spot.task → ⊥
  waiting_never waits runs =
      let test = same_some (list_any is_awaiting runs.unfinished.inputs) true (sym (ap (option_map {U = Bool} (λ (u : Unfinished Ref K). list_any is_awaiting u.inputs)) runs.there) ∙ waits) in
      let clash : false ≡ true = sym (idle_of runs.unfinished (ready_of new spot.task runs)) ∙ test in
      cc

  pub runs_waiting : option_map {U = Bool} (λ (u : Unfinished Ref K). list_any is_awaiting u.inputs) (task_at new spot.task) ≡ Some true → (q : ℕ) → IsRunnable new q → (None ≡ Some q) ⊎ IsRunnable old q
  runs_waiting waits q runs = elim (runs_own q runs) [ inl same ↦ absurd (waiting_never waits (subst (IsRunnable new) same runs)) | inr before ↦ inr before ]

  -- its caller is stopped
  stopped_never : (caller : ℕ) → ((u : Unfinished Ref K) → task_at old spot.task ≡ Some u → u.caller ≡ caller) → is_stopped old caller ≡ true → IsRunnable new spot.task → ⊥
  unfolding change
  stopped_never caller own stopped runs =
      let b = map_behind change (task_at old spot.task) runs.unfinished (sym there_new ∙ runs.there) in
      let of : runs.unfinished.caller ≡ caller = sym (ap (λ (u : Unfinished Ref K). u.caller) b.2) ∙ own b.0 b.1 in
      let clash : false ≡ true = sym runs.not_stopped ∙ ap₂ (λ (graph : Graph Ref K) c. is_stopped graph c) made of ∙ stopped in
      cc

  pub runs_stopped : (caller : ℕ) → ((u : Unfinished Ref K) → task_at old spot.task ≡ Some u → u.caller ≡ caller) → is_stopped old caller ≡ true → (q : ℕ) → IsRunnable new q → (None ≡ Some q) ⊎ IsRunnable old q
  runs_stopped caller own stopped q runs = elim (runs_own q runs) [ inl same ↦ absurd (stopped_never caller own stopped (subst (IsRunnable new) same runs)) | inr before ↦ inr before ]

  -- it can be run then
  settled_runs : (u : Unfinished Ref K) → task_at old spot.task ≡ Some u → u.runner ≡ None → option_map {U = Bool} (λ (u : Unfinished Ref K). list_any is_awaiting u.inputs) (task_at new spot.task) ≡ Some false → is_stopped old u.caller ≡ false → IsRunnable new spot.task
  unfolding change
  settled_runs u there idle waits going =
      let is : task_at new spot.task ≡ Some (change u) = there_new ∙ ap (option_map change) there in
      let test = same_some (list_any is_awaiting (change u).inputs) false (sym (ap (option_map {U = Bool} (λ (u : Unfinished Ref K). list_any is_awaiting u.inputs)) is) ∙ waits) in
      runs_from new spot.task (change u) is (ap₂ (λ w s. if w then Waiting else (if s then Running else Ready)) test (ap is_some idle)) (ap (λ (graph : Graph Ref K). is_stopped graph u.caller) made ∙ going)

  pub ready_settled : (u : Unfinished Ref K) → task_at old spot.task ≡ Some u → u.runner ≡ None → option_map {U = Bool} (λ (u : Unfinished Ref K). list_any is_awaiting u.inputs) (task_at new spot.task) ≡ Some false → is_stopped old u.caller ≡ false
      → (q : ℕ) → Some spot.task ≡ Some q → IsRunnable new q
  ready_settled u there idle waits going q same = subst (IsRunnable new) (same_some spot.task q same) (settled_runs u there idle waits going)

  -- whether it is Ready then
  pub ready_told : (u : Unfinished Ref K) → task_at old spot.task ≡ Some u → u.runner ≡ None → (waits : Bool) → option_map {U = Bool} (λ (u : Unfinished Ref K). list_any is_awaiting u.inputs) (task_at new spot.task) ≡ Some waits
      → is_ready (status new spot.task) ≡ not waits
  unfolding change
  ready_told u there idle waits told =
      let is : task_at new spot.task ≡ Some (change u) = there_new ∙ ap (option_map change) there in
      let test = same_some (list_any is_awaiting (change u).inputs) waits (sym (ap (option_map {U = Bool} (λ (u : Unfinished Ref K). list_any is_awaiting u.inputs)) is) ∙ told) in
      ap (λ (o : Option (Unfinished Ref K)). is_ready (elim o as (λ _. TaskStatus) [ None ↦ Unknown | Some task ↦ status_of task ])) is
      ∙ ap₂ (λ w s. is_ready (if w then Waiting else (if s then Running else Ready))) test (ap is_some idle)
      ∙ ready_if waits

-- the task of a first input, which no worker runs
pub waiting_entry : {K : Type 0} (parts : Parts K) (spot : Spot) → IsWhole parts → IsFirst (head_at (entries_at parts.entries)) (link_at (entries_at parts.entries)) spot
    → (u : Unfinished Ref K) × (task_at (graph_of parts) spot.task ≡ Some u) × (u.runner ≡ None)
waiting_entry parts spot whole first =
    let home = whole.woven.home spot first.0 first.2 in
    let own = entry_behind_head (entries_at parts.entries) spot.task home.0 home.2 in
    (shown_entry own.0, task_there parts spot.task own.0 own.1, ap (λ (h : Head). h.runner) own.2 ∙ home.5)
