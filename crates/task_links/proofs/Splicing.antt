-- A task is put in among those of its caller, or taken out, by a few writes.
use Rattle.std.proofs.Common.{◌≡◌, ℕ, zero, suc, ◌<◌, true, false, cond, ◌&&◌, Option, Some, None, nat_eq, refl, sym, ap, subst, ◌∙◌, ◌⊎◌, inl, inr, arith}
use Rattle.std.specs.Prelude.{slice_get, replicate}
use Rattle.std.specs.Option.{option_map}
use Rattle.task_states.proofs.Maps.{same_or_not, test_same, test_apart}
use Rattle.task_states.proofs.Options.{not_none}
use Rattle.task_links.specs.Inside.{Station}
use Rattle.task_links.specs.Weave.{Leads}
use Rattle.task_links.specs.Order.{Bounds, row_at, IsReached, IsTail, IsOrdered, IsRoom, IsJustBelow, IsBehind, IsFloor, is_number, is_none, with_after_at, with_before_at, with_first_at, with_last_at, IsRestationed, IsRebound, IsSpliced}
use Rattle.task_links.proofs.Chains.{same_key, row_with}
use Rattle.task_links.proofs.Orders.{row_of_station, station_of_row}

pub get_replicate : {X : Type 0} (n i : ℕ) (x : X) → i < n → slice_get (replicate n x) i ≡ Some x
get_replicate zero i x low = absurd (omega arith)
get_replicate (suc n) zero x low = refl
get_replicate (suc n) (suc i) x low = get_replicate n i x (omega arith)

same_some : {X : Type 0} (x y : X) → Some x ≡ Some y → x ≡ y
same_some x y is = cc

pub number_or_not : (q : ℕ) (o : Option ℕ) → ((o ≡ Some q) × (is_number q o ≡ true)) ⊎ ((o ≡ Some q → ⊥) × (is_number q o ≡ false))
number_or_not q None = inr (λ is. not_none None q refl is, refl)
number_or_not q (Some p) =
    elim (same_or_not q p) [
      | inl same ↦ inl (ap Some (sym same), ap (nat_eq q) (sym same) ∙ test_same q)
      | inr apart ↦ inr (λ is. apart (sym (same_some p q is)), test_apart q p apart)
    ]

none_or_not : (d c : ℕ) (o : Option ℕ) → ((d ≡ c) × (o ≡ None) × ((nat_eq d c && is_none o) ≡ true)) ⊎ ((d ≡ c → o ≡ None → ⊥) × ((nat_eq d c && is_none o) ≡ false))
none_or_not d c None =
    elim (same_or_not d c) [
      | inl same ↦ inl (same, refl, ap (λ b. b && true) (ap (λ t. nat_eq t c) same ∙ test_same c))
      | inr apart ↦ inr (λ same _. apart same, ap (λ b. b && true) (test_apart d c apart))
    ]
none_or_not d c (Some p) = inr (λ _ none. not_none (Some p) p none refl, elim (nat_eq d c) as (λ b. (b && false) ≡ false) [ true ↦ refl | false ↦ refl ])

map_behind : {X Y : Type 0} (f : X → Y) (o : Option X) (y : Y) → option_map f o ≡ Some y → (x : X) × (o ≡ Some x) × (f x ≡ y)
map_behind f None y is = absurd (not_none None y refl is)
map_behind f (Some x) y is = (x, refl, same_some (f x) y is)

module _ (bounds new_bounds : ℕ → Option Bounds) (stations middle new : ℕ → Option Station) (n caller : ℕ) (before after to_after to_before : Option ℕ)
    (rest : (q : ℕ) → (q ≡ n → ⊥) → middle q ≡ stations q)
    (made : (q : ℕ) → new q ≡ option_map (with_before_at q after to_before) (option_map (with_after_at q before to_after) (middle q)))
    (bound : (q : ℕ) → new_bounds q ≡ option_map (with_last_at q caller after to_before) (option_map (with_first_at q caller before to_after) (bounds q))) where
  both_maps : (q : ℕ) (o : Option Station) → option_map (with_before_at q after to_before) (option_map (with_after_at q before to_after) o) ≡ option_map (λ s. with_before_at q after to_before (with_after_at q before to_after s)) o
  both_maps q None = refl
  both_maps q (Some s) = refl

  both_bounds : (q : ℕ) (o : Option Bounds) → option_map (with_last_at q caller after to_before) (option_map (with_first_at q caller before to_after) o) ≡ option_map (λ b. with_last_at q caller after to_before (with_first_at q caller before to_after b)) o
  both_bounds q None = refl
  both_bounds q (Some b) = refl

  changed : (q : ℕ) → (q ≡ n → ⊥) → new q ≡ option_map (λ s. with_before_at q after to_before (with_after_at q before to_after s)) (stations q)
  changed q apart = made q ∙ both_maps q (middle q) ∙ ap (option_map (λ s. with_before_at q after to_before (with_after_at q before to_after s))) (rest q apart)

  restationed : (q : ℕ) (old s : Station) → with_before_at q after to_before (with_after_at q before to_after old) ≡ s → IsRestationed old s q before after to_after to_before
  restationed q old s is = record {
    caller = ap (λ (t : Station). t.caller) (sym is);
    led_on = elim (number_or_not q before) [
      | inl at ↦ inl (at.0, ap (λ (t : Station). t.after) (sym is) ∙ ap (λ b. cond b to_after old.after) at.1)
      | inr apart ↦ inr (apart.0, ap (λ (t : Station). t.after) (sym is) ∙ ap (λ b. cond b to_after old.after) apart.1)
    ];
    led_back = elim (number_or_not q after) [
      | inl at ↦ inl (at.0, ap (λ (t : Station). t.before) (sym is) ∙ ap (λ b. cond b to_before old.before) at.1)
      | inr apart ↦ inr (apart.0, ap (λ (t : Station). t.before) (sym is) ∙ ap (λ b. cond b to_before old.before) apart.1)
    ];
  }

  rebound : (q : ℕ) (old b : Bounds) → with_last_at q caller after to_before (with_first_at q caller before to_after old) ≡ b → IsRebound old b (q ≡ caller) before after to_after to_before
  rebound q old b is = record {
    first = elim (none_or_not q caller before) [
      | inl at ↦ inl (at.0, at.1, ap (λ (t : Bounds). t.first) (sym is) ∙ ap (λ b. cond b to_after old.first) at.2)
      | inr apart ↦ inr (apart.0, ap (λ (t : Bounds). t.first) (sym is) ∙ ap (λ b. cond b to_after old.first) apart.1)
    ];
    last = elim (none_or_not q caller after) [
      | inl at ↦ inl (at.0, at.1, ap (λ (t : Bounds). t.last) (sym is) ∙ ap (λ b. cond b to_before old.last) at.2)
      | inr apart ↦ inr (apart.0, ap (λ (t : Bounds). t.last) (sym is) ∙ ap (λ b. cond b to_before old.last) apart.1)
    ];
  }

  pub spliced : IsSpliced bounds new_bounds stations new n caller before after to_after to_before
  spliced = record {
    from = λ q s apart is.
        let behind = map_behind (λ t. with_before_at q after to_before (with_after_at q before to_after t)) (stations q) s (sym (changed q apart) ∙ is) in
        (behind.0, behind.1, restationed q behind.0 s behind.2);
    to = λ q s apart is. (
      with_before_at q after to_before (with_after_at q before to_after s),
      changed q apart ∙ ap (option_map (λ t. with_before_at q after to_before (with_after_at q before to_after t))) is,
      restationed q s _ refl,
    );
    bounds_from = λ q b is.
        let behind = map_behind (λ t. with_last_at q caller after to_before (with_first_at q caller before to_after t)) (bounds q) b (sym (bound q ∙ both_bounds q (bounds q)) ∙ is) in
        (behind.0, behind.1, rebound q behind.0 b behind.2);
    bounds_to = λ q b is. (
      with_last_at q caller after to_before (with_first_at q caller before to_after b),
      bound q ∙ both_bounds q (bounds q) ∙ ap (option_map (λ t. with_last_at q caller after to_before (with_first_at q caller before to_after t))) is,
      rebound q b _ refl,
    );
  }

  -- the task that was put in stands as it was written
  pub here_as : (before ≡ Some n → ⊥) → (after ≡ Some n → ⊥) → (s : Station) → middle n ≡ Some s → new n ≡ Some s
  here_as not_before not_after s is =
      made n
      ∙ ap (λ o. option_map (with_before_at n after to_before) (option_map (with_after_at n before to_after) o)) is
      ∙ elim (number_or_not n before) [
        | inl at ↦ absurd (not_before at.0)
        | inr one ↦ elim (number_or_not n after) [
          | inl at ↦ absurd (not_after at.0)
          | inr two ↦ ap (λ b. Some (with_before_at n after to_before (record s { after = cond b to_after s.after }))) one.1 ∙ ap (λ b. Some (record s { before = cond b to_before s.before })) two.1
        ]
      ]

  -- the task that was taken out is gone
  pub gone_as : middle n ≡ None → new n ≡ None
  gone_as is = made n ∙ ap (λ o. option_map (with_before_at n after to_before) (option_map (with_after_at n before to_after) o)) is

module _ (bounds : ℕ → Option Bounds) (stations : ℕ → Option Station) (caller n : ℕ) (ordered : IsOrdered bounds stations) where
  -- the last task of a caller has none above it
  pub floor_first : (own : Bounds) → bounds caller ≡ Some own → (last : Option ℕ) → own.last ≡ last → IsFloor stations caller n last
  floor_first own is None last =
      let tail : IsTail stations caller own.first None = subst (IsTail stations caller own.first) last (ordered.lasts caller own is) in
      let leads : Leads (row_at stations) caller None None = subst (Leads (row_at stations) caller None) tail (ordered.firsts caller own is) in
      λ q s at of. absurd (leads q q (row_of_station stations q s at ∙ ap (λ g. row_with g q) of) tt)
  floor_first own is (Some p) last =
      let tail : IsTail stations caller own.first (Some p) = subst (IsTail stations caller own.first) last (ordered.lasts caller own is) in
      let leads : Leads (row_at stations) tail.0.caller (Some p) None = subst (Leads (row_at stations) tail.0.caller (Some p)) tail.3 (ordered.afters p tail.0 tail.1) in
      (tail.0, tail.1, tail.2, λ q s at of above. absurd (leads q q (row_of_station stations q s at ∙ ap (λ g. row_with g q) (of ∙ sym tail.2)) above))

  -- one step down from a greater task
  pub floor_next : (p : ℕ) (s : Station) → stations p ≡ Some s → s.caller ≡ caller → n < p → (before : Option ℕ) → s.before ≡ before → IsFloor stations caller n before
  floor_next p s is of above None before =
      let r : IsReached bounds stations p s.caller None = subst (IsReached bounds stations p s.caller) before (ordered.befores p s is) in
      let leads : Leads (row_at stations) s.caller None (Some p) = subst (Leads (row_at stations) s.caller None) r.2 (ordered.firsts s.caller r.0 r.1) in
      let key = (same_key (sym leads.1 ∙ row_of_station stations p s is)).1 in
      λ q t at of_q. let least = leads.3 q q (row_of_station stations q t at ∙ ap (λ g. row_with g q) (of_q ∙ sym of)) tt in omega arith
  floor_next p s is of above (Some b) before =
      let r : IsReached bounds stations p s.caller (Some b) = subst (IsReached bounds stations p s.caller) before (ordered.befores p s is) in
      let leads : Leads (row_at stations) r.0.caller (Some b) (Some p) = subst (Leads (row_at stations) r.0.caller (Some b)) r.3 (ordered.afters b r.0 r.1) in
      let key = (same_key (sym leads.1 ∙ row_of_station stations p s is)).1 in
      (r.0, r.1, r.2 ∙ of, λ q t at of_q low. let least = leads.3 q q (row_of_station stations q t at ∙ ap (λ g. row_with g q) (of_q ∙ sym of ∙ sym r.2)) low in omega arith)

  -- what stands before a task is below it
  pub before_below : (p : ℕ) (s : Station) (b : ℕ) → stations p ≡ Some s → s.before ≡ Some b → b < p
  before_below p s b is before =
      let r : IsReached bounds stations p s.caller (Some b) = subst (IsReached bounds stations p s.caller) before (ordered.befores p s is) in
      let leads : Leads (row_at stations) r.0.caller (Some b) (Some p) = subst (Leads (row_at stations) r.0.caller (Some b)) r.3 (ordered.afters b r.0 r.1) in
      let key = (same_key (sym leads.1 ∙ row_of_station stations p s is)).1 in
      let more = leads.2 in
      omega arith

  -- what stands just below, and what follows it
  pub room_made : (before after : Option ℕ) → IsJustBelow stations caller n before → IsBehind bounds stations caller before after → IsRoom bounds stations caller n before after
  room_made None after below behind = (behind.0, behind.1, behind.2, below)
  room_made (Some p) after below behind = (below.0, below.1, below.2, below.3, behind.2 ∙ ap (λ (t : Station). t.after) (same_some behind.0 below.0 (sym behind.1 ∙ below.1)), below.4)

  -- neither neighbour is the number itself, where it is new
  pub before_apart : (before after : Option ℕ) → IsRoom bounds stations caller n before after → stations n ≡ None → before ≡ Some n → ⊥
  before_apart None after room fresh is = not_none None n refl is
  before_apart (Some p) after room fresh is = not_none (stations n) room.0 fresh (sym (ap stations (same_some p n is)) ∙ room.1)

  pub after_there : (before after : Option ℕ) → IsRoom bounds stations caller n before after → (q : ℕ) → after ≡ Some q → (s : Station) × (stations q ≡ Some s)
  after_there None after room q is =
      let leads : Leads (row_at stations) caller None (Some q) = subst (Leads (row_at stations) caller None) (sym room.2 ∙ is) (ordered.firsts caller room.0 room.1) in
      let s = station_of_row stations q caller leads.0 leads.1 in
      (s.0, s.1)
  after_there (Some p) after room q is =
      let leads : Leads (row_at stations) room.0.caller (Some p) (Some q) = subst (Leads (row_at stations) room.0.caller (Some p)) (sym room.4 ∙ is) (ordered.afters p room.0 room.1) in
      let s = station_of_row stations q room.0.caller leads.0 leads.1 in
      (s.0, s.1)

  -- and both neighbours of a task are there
  pub next_there : (p : ℕ) (s : Station) (q : ℕ) → stations p ≡ Some s → s.after ≡ Some q → (t : Station) × (stations q ≡ Some t)
  next_there p s q is at =
      let leads : Leads (row_at stations) s.caller (Some p) (Some q) = subst (Leads (row_at stations) s.caller (Some p)) at (ordered.afters p s is) in
      let t = station_of_row stations q s.caller leads.0 leads.1 in
      (t.0, t.1)

  pub back_there : (p : ℕ) (s : Station) (q : ℕ) → stations p ≡ Some s → s.before ≡ Some q → (t : Station) × (stations q ≡ Some t)
  back_there p s q is at = let r : IsReached bounds stations p s.caller (Some q) = subst (IsReached bounds stations p s.caller) at (ordered.befores p s is) in (r.0, r.1)

  -- the caller of a room is known
  pub home_made : (before after : Option ℕ) → IsRoom bounds stations caller n before after → (own : Bounds) × (bounds caller ≡ Some own)
  home_made None after room = (room.0, room.1)
  home_made (Some p) after room = let k = ordered.known p room.0 room.1 in (k.0, ap bounds (sym room.2) ∙ k.1)

  -- what follows a task is above it
  pub after_above : (p : ℕ) (s : Station) (q : ℕ) → stations p ≡ Some s → s.after ≡ Some q → p < q
  after_above p s q is at =
      let leads : Leads (row_at stations) s.caller (Some p) (Some q) = subst (Leads (row_at stations) s.caller (Some p)) at (ordered.afters p s is) in
      let t = station_of_row stations q s.caller leads.0 leads.1 in
      let key = t.3 in
      let more = leads.2 in
      omega arith
