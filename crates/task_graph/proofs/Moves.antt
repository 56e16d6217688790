-- One input after another comes to await another task.
use Rattle.std.proofs.Common.{◌≡◌, ℕ, ◌-◌, ◌<◌, ◌^◌, Bool, true, false, cond, Option, Some, None, IsSome, nat_eq, refl, sym, ap, subst, ◌∙◌, inl, inr, arith, List, [], ◌∷◌, suc, zero}
use Rattle.std.specs.Prelude.{slice_get, set, map as each, if◌then◌else◌}
use Rattle.std.specs.Option.{option_map}
use Rattle.std.specs.FinMap as map
use Rattle.cht_ids.specs.declared.refs.Ref.{Ref}
use Rattle.std.proofs.lemmas.Bool.Decides.{nat_tests}
use Rattle.task_states.specs.States.{Input, Known, Awaits, Unfinished, Graph, task_at, caller_of, asked_of}
use Rattle.task_states.specs.Steps.{with_task, redirected, inputs_redirected, with_asked}
use Rattle.task_states.specs.Maps.{each_changed}
use Rattle.task_states.proofs.Maps.{same_or_not, test_same, test_apart, same_maps, get-each_changed}
use Rattle.task_states.proofs.Options.{not_none, same_some, none_or_some, map_behind}
use Rattle.task_states.proofs.Changes.{get_changed}
use Rattle.task_links.specs.declared.entries.Entry.{Entry}
use Rattle.task_links.specs.declared.entries.Link.{Link}
use Rattle.task_links.specs.declared.entries.Spot.{Spot}
use Rattle.task_graph.specs.declared.parts.Parts.{Parts}
use Rattle.task_links.specs.Inside.{entries_at, shown_entry, place_at}
use Rattle.task_links.specs.Weave.{Head, Leads, row_of, head_at, head_of, link_at, IsFirst, IsUnused, rest_in, rest_from, rest_after, rest_first}
use Rattle.task_graph.specs.Graphs.{graph_of, IsWhole}
use Rattle.task_graph.specs.Moving.{IsInputMoved, IsTaskMoved, AreMoved, IsMovable, IsMoved}
use Rattle.task_links.proofs.Chains.{same_key}
use Rattle.task_links.proofs.Weaving.{row_is, link_is}
use Rattle.task_graph.proofs.Awaiting.{first_link, no_input}
use Rattle.task_graph.proofs.Marking.{input_is}
use Rattle.task_links.proofs.Writing.{awaits_behind}
use Rattle.task_graph.proofs.Runs.{task_is, task_there}

set_set : {X : Type 0} (xs : List X) (j : ℕ) (v w : X) → set (set xs j v) j w ≡ set xs j w
set_set [] j v w = refl
set_set (x ∷ xs) zero v w = refl
set_set (x ∷ xs) (suc j) v w = ap (λ ys. x ∷ ys) (set_set xs j v w)

-- two writes at one place
module _ {K : Type 0} (graph : Graph Ref K) (t j : ℕ) (a b : Input Ref) where
  first_write : Graph Ref K
  first_write = with_task graph t (λ u. record u { inputs = set u.inputs j a })

  pub twice_other : (q : ℕ) → (q ≡ t → ⊥) → task_at (with_task (with_task graph t (λ u. record u { inputs = set u.inputs j a })) t (λ u. record u { inputs = set u.inputs j b })) q ≡ task_at graph q
  twice_other q apart =
      get_changed (with_task graph t (λ u. record u { inputs = set u.inputs j a })).tasks t q (λ u. record u { inputs = set u.inputs j b })
      ∙ ap (λ s. cond s (option_map (λ (u : Unfinished Ref K). record u { inputs = set u.inputs j b }) (map.get (with_task graph t (λ u. record u { inputs = set u.inputs j a })).tasks t)) (map.get (with_task graph t (λ u. record u { inputs = set u.inputs j a })).tasks q)) (test_apart q t apart)
      ∙ get_changed graph.tasks t q (λ u. record u { inputs = set u.inputs j a })
      ∙ ap (λ s. cond s (option_map (λ (u : Unfinished Ref K). record u { inputs = set u.inputs j a }) (map.get graph.tasks t)) (map.get graph.tasks q)) (test_apart q t apart)

  pub twice_here : (u : Unfinished Ref K) → task_at graph t ≡ Some u → task_at (with_task (with_task graph t (λ u. record u { inputs = set u.inputs j a })) t (λ u. record u { inputs = set u.inputs j b })) t ≡ Some (record u { inputs = set u.inputs j b })
  twice_here u is =
      let one : map.get (with_task graph t (λ u. record u { inputs = set u.inputs j a })).tasks t ≡ Some (record u { inputs = set u.inputs j a }) =
      get_changed graph.tasks t t (λ u. record u { inputs = set u.inputs j a })
      ∙ ap (λ s. cond s (option_map (λ (u : Unfinished Ref K). record u { inputs = set u.inputs j a }) (map.get graph.tasks t)) (map.get graph.tasks t)) (test_same t)
      ∙ ap (option_map (λ (u : Unfinished Ref K). record u { inputs = set u.inputs j a })) is in
      get_changed (with_task graph t (λ u. record u { inputs = set u.inputs j a })).tasks t t (λ u. record u { inputs = set u.inputs j b })
      ∙ ap (λ s. cond s (option_map (λ (u : Unfinished Ref K). record u { inputs = set u.inputs j b }) (map.get (with_task graph t (λ u. record u { inputs = set u.inputs j a })).tasks t)) (map.get (with_task graph t (λ u. record u { inputs = set u.inputs j a })).tasks t)) (test_same t)
      ∙ ap (option_map (λ (u : Unfinished Ref K). record u { inputs = set u.inputs j b })) one
      ∙ ap (λ xs. Some (record u { inputs = xs })) (set_set u.inputs j a b)

get_set_same : {X : Type 0} (xs : List X) (j : ℕ) (v w : X) → slice_get xs j ≡ Some w → slice_get (set xs j v) j ≡ Some v
get_set_same [] j v w is = absurd (not_none None w refl is)
get_set_same (x ∷ xs) zero v w is = refl
get_set_same (x ∷ xs) (suc j) v w is = get_set_same xs j v w is

get_set_other : {X : Type 0} (xs : List X) (j k : ℕ) (v : X) → (k ≡ j → ⊥) → slice_get (set xs j v) k ≡ slice_get xs k
get_set_other [] j k v apart = refl
get_set_other (x ∷ xs) zero zero v apart = absurd (apart refl)
get_set_other (x ∷ xs) zero (suc k) v apart = refl
get_set_other (x ∷ xs) (suc j) zero v apart = refl
get_set_other (x ∷ xs) (suc j) (suc k) v apart = get_set_other xs j k v (λ same. apart (ap suc same))

-- nothing moved yet
pub none_moved : {K : Type 0} (task to : ℕ) (graph : Graph Ref K) → AreMoved task to graph graph
none_moved task to graph = record {
  stopped = refl;
  none = λ q is. is;
  some = λ q u is. (u, is, record { caller = refl; kind = refl; runner = refl; asked = refl; inputs = λ place. inl refl });
}

task_in : Input Ref → ℕ
task_in (Known r) = 0
task_in (Awaits task number) = task

abbrev waiting : ℕ → ℕ → Input Ref
waiting task number = Awaits task number

awaited_same : {a b m n : ℕ} → waiting a m ≡ waiting b n → a ≡ b
unfolding task_in
awaited_same is = ap task_in is

-- an input that moved as well
input_step : (task to number : ℕ) (before now : Option (Input Ref)) → IsInputMoved task to before now → now ≡ Some (Awaits task number) → (task ≡ to → ⊥) → IsInputMoved task to before (Some (Awaits to number))
input_step task to number before now moved is apart =
    elim moved [
      | inl same ↦ inr (number, sym same ∙ is, refl)
      | inr other ↦ absurd (apart (awaited_same (same_some (waiting task number) (waiting to other.0) (sym is ∙ other.2))))
    ]

module _ {K : Type 0} (task to : ℕ) (start : Graph Ref K) (old new : Parts K) (spot : Spot) (moved : AreMoved task to start (graph_of old)) (step : IsMoved old new spot to) (apart : task ≡ to → ⊥) (own : Unfinished Ref K) (own_is : task_at (graph_of old) spot.task ≡ Some own)
    (place : slice_get own.inputs spot.place ≡ Some (Awaits task step.link.number)) where
  task_step : (u : Unfinished Ref K) → IsTaskMoved task to u own → IsTaskMoved task to u (record own { inputs = set own.inputs spot.place (Awaits to step.link.number) })
  task_step u m = record {
    caller = m.caller;
    kind = m.kind;
    runner = m.runner;
    asked = m.asked;
    inputs = λ k. elim (same_or_not k spot.place) [
      | inl same ↦
          subst (IsInputMoved task to (slice_get u.inputs k)) (sym (ap (slice_get (set own.inputs spot.place (Awaits to step.link.number))) same ∙ get_set_same own.inputs spot.place (Awaits to step.link.number) (Awaits task step.link.number) place))
          (input_step task to step.link.number (slice_get u.inputs k) (slice_get own.inputs k) (m.inputs k) (ap (slice_get own.inputs) same ∙ place) apart)
      | inr other ↦ subst (IsInputMoved task to (slice_get u.inputs k)) (sym (get_set_other own.inputs spot.place k (Awaits to step.link.number) other)) (m.inputs k)
    ];
  }

  -- one more moved
  pub one_moved : AreMoved task to start (graph_of new)
  one_moved = record {
    stopped = step.stopped ∙ moved.stopped;
    none = λ q is. elim (same_or_not q spot.task) [
      | inl same ↦ absurd (not_none (task_at (graph_of old) q) own (moved.none q is) (ap (task_at (graph_of old)) same ∙ own_is))
      | inr other ↦ step.tasks q other ∙ moved.none q is
    ];
    some = λ q u is.
        let m = moved.some q u is in
        elim (same_or_not q spot.task) [
          | inl same ↦
              let one : m.0 ≡ own = same_some m.0 own (sym m.1 ∙ ap (task_at (graph_of old)) same ∙ own_is) in
              (record own { inputs = set own.inputs spot.place (Awaits to step.link.number) }, ap (task_at (graph_of new)) same ∙ step.own own own_is, task_step u (subst (IsTaskMoved task to u) one m.2))
          | inr other ↦ (m.0, step.tasks q other ∙ m.1, m.2)
        ];
  }

-- lists with the same at each place
same_lists : {X : Type 0} (xs ys : List X) → ((k : ℕ) → slice_get xs k ≡ slice_get ys k) → xs ≡ ys
same_lists [] [] same = refl
same_lists [] (y ∷ ys) same = absurd (not_none None y refl (same 0))
same_lists (x ∷ xs) [] same = absurd (not_none None x refl (sym (same 0)))
same_lists (x ∷ xs) (y ∷ ys) same = let head = same_some x y (same 0) in let tail = same_lists xs ys (λ k. same (suc k)) in λ i. head i ∷ tail i

pub get_each : {X Y : Type 0} (f : X → Y) (xs : List X) (k : ℕ) → slice_get (each f xs) k ≡ option_map f (slice_get xs k)
get_each f [] k = refl
get_each f (x ∷ xs) zero = refl
get_each f (x ∷ xs) (suc k) = get_each f xs k

-- where no input awaits the first task any more, all have moved
all_moved : (task to : ℕ) (before now : Option (Input Ref)) → IsInputMoved task to before now → ((number : ℕ) → now ≡ Some (Awaits task number) → ⊥) → now ≡ option_map (redirected task to) before
all_moved task to before now (inr moved) never = moved.2 ∙ ap (λ b. Some (Awaits (if b then to else task) moved.0)) (sym (test_same task)) ∙ sym (ap (option_map (redirected task to)) moved.1)
all_moved task to None now (inl same) never = same
all_moved task to (Some (Known r)) now (inl same) never = same
all_moved task to (Some (Awaits other number)) now (inl same) never =
    same ∙ ap (λ b. Some (Awaits (if b then to else other) number)) (sym (test_apart other task (λ at. never number (same ∙ ap (λ t. Some (Awaits t number)) at))))

module _ {K : Type 0} (task to : ℕ) (start : Graph Ref K) (parts : Parts K) (whole : IsWhole parts) (moved : AreMoved task to start (graph_of parts)) (never : (s j number : ℕ) (u : Unfinished Ref K) → task_at (graph_of parts) s ≡ Some u → slice_get u.inputs j ≡ Some (Awaits task number) → ⊥) where
  task_moved : (q : ℕ) (u v : Unfinished Ref K) → task_at (graph_of parts) q ≡ Some v → IsTaskMoved task to u v → v ≡ record u { inputs = each (redirected task to) u.inputs }
  task_moved q u v is m =
      let inputs = same_lists v.inputs (each (redirected task to) u.inputs) (λ k. all_moved task to (slice_get u.inputs k) (slice_get v.inputs k) (m.inputs k) (λ number at. never q k number v is at) ∙ sym (get_each (redirected task to) u.inputs k)) in
      λ i. record { caller = m.caller i; kind = m.kind i; inputs = inputs i; runner = m.runner i; asked = m.asked i }

  pub moved_tasks : (graph_of parts).tasks ≡ each_changed (λ u. record u { inputs = each (redirected task to) u.inputs }) start.tasks
  moved_tasks = same_maps _ _ (λ q.
      elim (none_or_some (task_at start q)) [
        | inl none ↦ moved.none q none ∙ sym (ap (option_map (λ (u : Unfinished Ref K). record u { inputs = each (redirected task to) u.inputs })) none)
        | inr some ↦ let m = moved.some q some.0 some.1 in m.1 ∙ ap Some (task_moved q some.0 m.0 m.1 m.2) ∙ sym (ap (option_map (λ (u : Unfinished Ref K). record u { inputs = each (redirected task to) u.inputs })) some.1)
      ]
      ∙ sym (get-each_changed (λ u. record u { inputs = each (redirected task to) u.inputs }) start.tasks q))

  pub moved_graph : graph_of parts ≡ inputs_redirected start task to
  moved_graph = λ i. record { tasks = moved_tasks i; stopped = moved.stopped i }

-- the callers of tasks stay
pub callers_moved : {K : Type 0} (task to : ℕ) (start now : Graph Ref K) → AreMoved task to start now → (q c : ℕ) → caller_of start q ≡ Some c → caller_of now q ≡ Some c
callers_moved {K} task to start now moved q c is =
    let u = map_behind (λ (u : Unfinished Ref K). u.caller) (task_at start q) c is in
    let m = moved.some q u.0 u.1 in
    let t = m.2 in
    ap (option_map (λ (u : Unfinished Ref K). u.caller)) m.1 ∙ ap Some (t.caller ∙ u.2)

-- two writes, one after the other
pub written_twice : {K : Type 0} (start middle now : Graph Ref K) (t j : ℕ) (a b : Input Ref) → middle ≡ with_task start t (λ u. record u { inputs = set u.inputs j a }) → now ≡ with_task middle t (λ u. record u { inputs = set u.inputs j b })
    → (now.stopped ≡ start.stopped) × ((q : ℕ) → (q ≡ t → ⊥) → task_at now q ≡ task_at start q) × ((u : Unfinished Ref K) → task_at start t ≡ Some u → task_at now t ≡ Some (record u { inputs = set u.inputs j b }))
written_twice {K} start middle now t j a b one two =
    let both : now ≡ with_task (with_task start t (λ u. record u { inputs = set u.inputs j a })) t (λ u. record u { inputs = set u.inputs j b }) = two ∙ ap (λ (g : Graph Ref K). with_task g t (λ u. record u { inputs = set u.inputs j b })) one in (
      ap (λ (g : Graph Ref K). g.stopped) both,
      λ q apart. ap (λ (g : Graph Ref K). task_at g q) both ∙ twice_other start t j a b q apart,
      λ u is. ap (λ (g : Graph Ref K). task_at g t) both ∙ twice_here start t j a b u is,
    )

-- a task of a caller has an entry
pub entry_of_caller : {K : Type 0} (parts : Parts K) (q c : ℕ) → caller_of (graph_of parts) q ≡ Some c → (e : Entry K) × (entries_at parts.entries q ≡ Some e) × (e.caller ≡ c)
entry_of_caller {K} parts q c is =
    let u = map_behind (λ (u : Unfinished Ref K). u.caller) (task_at (graph_of parts) q) c is in
    let e = map_behind shown_entry (entries_at parts.entries q) u.0 (sym (task_is parts q) ∙ u.1) in
    (e.0, e.1, ap (λ (x : Unfinished Ref K). x.caller) e.2 ∙ u.2)

module _ {K : Type 0} (parts : Parts K) (task to : ℕ) (e : Entry K) (whole : IsWhole parts) (is : entries_at parts.entries task ≡ Some e) (spot : Spot) (first : e.first ≡ Some spot) where
  pub the_link : (link : Link) × (link_at (entries_at parts.entries) spot ≡ Some link) × (link.task ≡ task)
  the_link = first_link parts task e whole is spot first

  pub the_first : IsFirst (head_at (entries_at parts.entries)) (link_at (entries_at parts.entries)) spot
  the_first = (the_link.0, head_of e, the_link.1, ap (head_at (entries_at parts.entries)) the_link.2 ∙ ap (option_map head_of) is, first)

  pub movable : (c : ℕ) → e.caller ≡ c → (other : Entry K) → entries_at parts.entries to ≡ Some other → other.caller ≡ c → IsMovable parts spot to
  movable c caller other there same = record {
    first = the_first;
    there = λ own that own_is that_is.
        let h = whole.woven.home spot the_link.0 the_link.1 in
        let one = same_some h.0 own (sym h.2 ∙ own_is) in
        let two = same_some h.1 (head_of e) (sym h.3 ∙ ap (head_at (entries_at parts.entries)) the_link.2 ∙ ap (option_map head_of) is) in
        let three = same_some (head_of other) that (sym (ap (option_map head_of) there) ∙ that_is) in
        ap (λ (x : Head). x.caller) (sym three) ∙ same ∙ sym caller ∙ ap (λ (x : Head). x.caller) (sym two) ∙ h.4 ∙ ap (λ (x : Head). x.caller) one;
    other = (head_of other, ap (option_map head_of) there);
  }

  pub awaited_place : (link : Link) → link_at (entries_at parts.entries) spot ≡ Some link → (u : Unfinished Ref K) → task_at (graph_of parts) spot.task ≡ Some u → slice_get u.inputs spot.place ≡ Some (Awaits task link.number)
  awaited_place link there u at =
      let one = same_some the_link.0 link (sym the_link.1 ∙ there) in
      sym (ap (λ (o : Option (Unfinished Ref K)). elim o as (λ _. Option (Input Ref)) [ None ↦ None | Some unfinished ↦ slice_get unfinished.inputs spot.place ]) at)
      ∙ input_is parts spot link (awaits_behind (place_at (entries_at parts.entries) spot) link there)
      ∙ ap (λ k. Some (waiting k link.number)) (ap (λ (l : Link). l.task) (sym one) ∙ the_link.2)

  pub own_there : (u : Unfinished Ref K) × (task_at (graph_of parts) spot.task ≡ Some u)
  own_there =
      let h = whole.woven.home spot the_link.0 the_link.1 in
      let b = map_behind head_of (entries_at parts.entries spot.task) h.0 h.2 in
      (shown_entry b.0, task_there parts spot.task b.0 b.1)

  nearer_spot : (new : Parts K) (step : IsMoved parts new spot to) → IsWhole new → (task ≡ to → ⊥) → (o : Option Spot) → Leads (row_of (link_at (entries_at new.entries))) task None o → rest_from (link_at (entries_at new.entries)) o < 2 ^ 128 - step.link.number
  nearer_spot new step kept apart None leads = let small = whole.woven.small spot step.link step.was in omega arith
  nearer_spot new step kept apart (Some p) leads =
      let l = link_is (link_at (entries_at new.entries)) p task leads.0 leads.1 in
      let not_it : p ≡ spot → ⊥ = λ same. apart (sym l.2 ∙ ap (λ (x : Link). x.task) (same_some l.0 step.here.0 (sym l.1 ∙ ap (link_at (entries_at new.entries)) same ∙ step.here.1)) ∙ step.here.2) in
      let was = link_is (link_at (entries_at parts.entries)) p task leads.0 (sym (step.rest p not_it) ∙ leads.1) in
      let front : Leads (row_of (link_at (entries_at parts.entries))) task None (Some spot) = subst (Leads (row_of (link_at (entries_at parts.entries))) task None) first (whole.woven.firsts task (head_of e) (ap (option_map head_of) is)) in
      let key = (same_key (sym front.1 ∙ row_is (link_at (entries_at parts.entries)) spot step.link step.was)).1 in
      let least = front.3 p leads.0 (sym (step.rest p not_it) ∙ leads.1) tt in
      let differs : leads.0 ≡ step.link.number → ⊥ = λ same. not_it (whole.woven.apart p spot was.0 step.link was.1 step.was (was.3 ∙ same)) in
      let k = leads.0 in
      let number = l.3 in
      let small = whole.woven.small spot step.link step.was in
      let top = kept.woven.small p l.0 l.1 in
      subst (λ o. rest_in o < 2 ^ 128 - step.link.number) (sym l.1) (omega arith)

  nearer_first : (new : Parts K) (step : IsMoved parts new spot to) → IsWhole new → (task ≡ to → ⊥) → (o : Option (Entry K)) → entries_at new.entries task ≡ o → rest_after (link_at (entries_at new.entries)) o < 2 ^ 128 - step.link.number
  nearer_first new step kept apart None at = let small = whole.woven.small spot step.link step.was in omega arith
  nearer_first new step kept apart (Some f) at = nearer_spot new step kept apart f.first (kept.woven.firsts task (head_of f) (ap (option_map head_of) at))

  -- and nearer to the end
  pub nearer_end : (new : Parts K) → IsMoved parts new spot to → IsWhole new → (task ≡ to → ⊥) → rest_first (entries_at new.entries) task < rest_first (entries_at parts.entries) task
  nearer_end new step kept apart =
      subst (λ o. rest_first (entries_at new.entries) task < rest_after (link_at (entries_at parts.entries)) o) (sym is)
      (subst (λ o. rest_first (entries_at new.entries) task < rest_from (link_at (entries_at parts.entries)) o) (sym first)
      (subst (λ o. rest_first (entries_at new.entries) task < rest_in o) (sym step.was) (nearer_first new step kept apart (entries_at new.entries task) refl)))

-- where nothing awaits a task, no input does
pub none_awaits : {K : Type 0} (parts : Parts K) (task : ℕ) (e : Entry K) → IsWhole parts → entries_at parts.entries task ≡ Some e → e.first ≡ None
    → (s j number : ℕ) (u : Unfinished Ref K) → task_at (graph_of parts) s ≡ Some u → slice_get u.inputs j ≡ Some (Awaits task number) → ⊥
none_awaits {K} parts task e whole is first s j number u there at =
    no_input parts task e whole is first s j number (ap (λ (o : Option (Unfinished Ref K)). elim o as (λ _. Option (Input Ref)) [ None ↦ None | Some unfinished ↦ slice_get unfinished.inputs j ]) there ∙ at)

swap_tests : {X : Type 0} (s t : Bool) → (s ≡ true → t ≡ true → ⊥) → (x y z : X) → cond s x (cond t y z) ≡ cond t y (cond s x z)
swap_tests true true never x y z = absurd (never refl refl)
swap_tests true false never x y z = refl
swap_tests false t never x y z = refl

-- changes of two tasks, in either order
pub either_order : {K : Type 0} (graph : Graph Ref K) (a b : ℕ) (f h : Unfinished Ref K → Unfinished Ref K) → (a ≡ b → ⊥) → with_task (with_task graph a f) b h ≡ with_task (with_task graph b h) a f
either_order {K} graph a b f h apart =
    ap (λ tasks. record graph { tasks = tasks }) (same_maps (with_task (with_task graph a f) b h).tasks (with_task (with_task graph b h) a f).tasks (λ q.
    get_changed (with_task graph a f).tasks b q h
    ∙ ap (λ o. cond (nat_eq q b) (option_map h o) (map.get (with_task graph a f).tasks q)) (get_changed graph.tasks a b f ∙ ap (λ t. cond t (option_map f (map.get graph.tasks a)) (map.get graph.tasks b)) (test_apart b a (λ same. apart (sym same))))
    ∙ ap (λ o. cond (nat_eq q b) (option_map h (map.get graph.tasks b)) o) (get_changed graph.tasks a q f)
    ∙ swap_tests (nat_eq q b) (nat_eq q a) (λ one two. let same_b : q ≡ b = grind (arith, nat_tests) in let same_a : q ≡ a = grind (arith, nat_tests) in apart (sym same_a ∙ same_b)) (option_map h (map.get graph.tasks b)) (option_map f (map.get graph.tasks a)) (map.get graph.tasks q)
    ∙ sym (ap (λ o. cond (nat_eq q a) (option_map f (map.get graph.tasks a)) o) (get_changed graph.tasks b q h))
    ∙ sym (ap (λ o. cond (nat_eq q a) (option_map f o) (map.get (with_task graph b h).tasks q)) (get_changed graph.tasks b a h ∙ ap (λ t. cond t (option_map h (map.get graph.tasks b)) (map.get graph.tasks a)) (test_apart a b apart)))
    ∙ sym (get_changed (with_task graph b h).tasks a q f)))

caller_each : {K : Type 0} (task to : ℕ) (o : Option (Unfinished Ref K)) → option_map (λ (u : Unfinished Ref K). u.caller) (option_map (λ (u : Unfinished Ref K). record u { inputs = each (redirected task to) u.inputs }) o) ≡ option_map (λ (u : Unfinished Ref K). u.caller) o
caller_each task to None = refl
caller_each task to (Some u) = refl

asked_each : {K : Type 0} (task to : ℕ) (o : Option (Unfinished Ref K)) → ◌≡◌ {A = Option ℕ} (elim (option_map (λ (u : Unfinished Ref K). record u { inputs = each (redirected task to) u.inputs }) o) as (λ _. Option ℕ) [ None ↦ None | Some u ↦ u.asked ]) (elim o as (λ _. Option ℕ) [ None ↦ None | Some u ↦ u.asked ])
asked_each task to None = refl
asked_each task to (Some u) = refl

-- a task of a caller is there
pub there_of_caller : {K : Type 0} (graph : Graph Ref K) (q c : ℕ) → caller_of graph q ≡ Some c → IsSome (task_at graph q)
there_of_caller {K} graph q c is = let u = map_behind (λ (u : Unfinished Ref K). u.caller) (task_at graph q) c is in subst IsSome (sym u.1) refl

-- a caller's task stays one where inputs move
pub caller_redirected : {K : Type 0} (graph : Graph Ref K) (task to q : ℕ) → caller_of (inputs_redirected graph task to) q ≡ caller_of graph q
caller_redirected {K} graph task to q =
    ap (option_map (λ (u : Unfinished Ref K). u.caller)) (get-each_changed (λ u. record u { inputs = each (redirected task to) u.inputs }) graph.tasks q) ∙ caller_each task to (task_at graph q)

pub asked_redirected : {K : Type 0} (graph : Graph Ref K) (task to q : ℕ) (number : ℕ) → asked_of graph q ≡ Some number → asked_of (inputs_redirected graph task to) q ≡ Some number
asked_redirected {K} graph task to q number is =
    ap (λ (o : Option (Unfinished Ref K)). elim o as (λ _. Option ℕ) [ None ↦ None | Some u ↦ u.asked ]) (get-each_changed (λ u. record u { inputs = each (redirected task to) u.inputs }) graph.tasks q) ∙ asked_each task to (task_at graph q) ∙ is

-- what is asked of a task
pub asked_there : {K : Type 0} (parts : Parts K) (q : ℕ) (e : Entry K) → entries_at parts.entries q ≡ Some e → asked_of (graph_of parts) q ≡ e.asked
asked_there {K} parts q e is = ap (λ (o : Option (Unfinished Ref K)). elim o as (λ _. Option ℕ) [ None ↦ None | Some u ↦ u.asked ]) (task_there parts q e is)

asked_back : {K : Type 0} (o : Option (Entry K)) (number : ℕ) → ◌≡◌ {A = Option ℕ} (elim (option_map shown_entry o) as (λ _. Option ℕ) [ None ↦ None | Some u ↦ u.asked ]) (Some number) → (e : Entry K) × (o ≡ Some e) × (e.asked ≡ Some number)
asked_back None number is = absurd (not_none None number refl is)
asked_back (Some e) number is = (e, refl, is)

-- no input awaits under the number of an asked output
pub unused_asked : {K : Type 0} (parts : Parts K) (q number : ℕ) → IsWhole parts → asked_of (graph_of parts) q ≡ Some number → IsUnused (link_at (entries_at parts.entries)) number
unused_asked {K} parts q number whole is p l there same =
    let b = asked_back (entries_at parts.entries q) number (sym (ap (λ (o : Option (Unfinished Ref K)). elim o as (λ _. Option ℕ) [ None ↦ None | Some u ↦ u.asked ]) (task_is parts q)) ∙ is) in
    whole.woven.asked_apart p l q (head_of b.0) number there (ap (option_map head_of) b.1) b.2 same

caller_cond : {K : Type 0} (b : Bool) (n : ℕ) (x y : Option (Unfinished Ref K)) → (b ≡ true → x ≡ y) → option_map (λ (u : Unfinished Ref K). u.caller) (cond b (option_map (λ (u : Unfinished Ref K). record u { asked = Some n }) x) y) ≡ option_map (λ (u : Unfinished Ref K). u.caller) y
caller_cond true n None y same = ap (option_map (λ u. u.caller)) (same refl)
caller_cond true n (Some u) y same = ap (option_map (λ u. u.caller)) (same refl)
caller_cond false n x y same = refl

-- asking leaves callers
pub caller_asked : {K : Type 0} (graph : Graph Ref K) (t number q : ℕ) → caller_of (with_asked graph t number) q ≡ caller_of graph q
caller_asked {K} graph t number q =
    ap (option_map (λ (u : Unfinished Ref K). u.caller)) (get_changed graph.tasks t q (λ u. record u { asked = Some number }))
    ∙ caller_cond (nat_eq q t) number (map.get graph.tasks t) (map.get graph.tasks q) (λ test. let same : t ≡ q = grind (arith, nat_tests) in ap (map.get graph.tasks) same)
