-- The tasks of each caller stay linked once one is put in or taken out.
use Rattle.std.proofs.Common.{◌≡◌, ℕ, ◌<◌, Option, Some, None, refl, sym, ap, subst, ◌∙◌, ◌⊎◌, inl, inr, arith}
use Rattle.std.specs.Option.{option_map}
use Rattle.std.proofs.lemmas.Bool.{cases_lt}
use Rattle.task_states.proofs.Maps.{same_or_not}
use Rattle.task_states.proofs.Options.{not_none}
use Rattle.task_links.specs.Inside.{Station}
use Rattle.task_links.specs.Weave.{Above, Leads}
use Rattle.task_links.specs.Order.{Bounds, row_at, IsReached, IsTail, IsOrdered, IsRoom, IsRestationed, IsRebound, IsSpliced}
use Rattle.task_links.proofs.Chains.{same_key, row_with, leads_from_new, leads_to_new, leads_still, leads_over, leads_past}

same_some : {X : Type 0} (x y : X) → Some x ≡ Some y → x ≡ y
same_some x y is = cc

pub row_of_station : (stations : ℕ → Option Station) (q : ℕ) (s : Station) → stations q ≡ Some s → row_at stations q ≡ Some (s.caller, q)
row_of_station stations q s is = ap (option_map {U = ℕ × ℕ} (λ (t : Station). (t.caller, q))) is

behind_row : (o : Option Station) (q g k : ℕ) → option_map {U = ℕ × ℕ} (λ (t : Station). (t.caller, q)) o ≡ row_with g k → (s : Station) × (o ≡ Some s) × (s.caller ≡ g) × (q ≡ k)
behind_row None q g k is = absurd (let clash : None ≡ row_with g k = is in cc)
behind_row (Some s) q g k is = (s, refl, (same_key is).0, (same_key is).1)

pub station_of_row : (stations : ℕ → Option Station) (q g k : ℕ) → row_at stations q ≡ row_with g k → (s : Station) × (stations q ≡ Some s) × (s.caller ≡ g) × (q ≡ k)
station_of_row stations q g k is = behind_row (stations q) q g k is

no_row : (stations : ℕ → Option Station) (q : ℕ) → stations q ≡ None → row_at stations q ≡ None
no_row stations q is = ap (option_map {U = ℕ × ℕ} (λ (t : Station). (t.caller, q))) is

none_or_some : {X : Type 0} (o : Option X) → (o ≡ None) ⊎ ((x : X) × (o ≡ Some x))
none_or_some None = inl refl
none_or_some (Some x) = inr (x, refl)

some_or_none : {X : Type 0} (o p : Option X) → ((x : X) → o ≡ Some x → p ≡ Some x) → (o ≡ None → p ≡ None) → p ≡ o
some_or_none None p some none = none refl
some_or_none (Some x) p some none = some x refl

module _ (bounds new_bounds : ℕ → Option Bounds) (stations new : ℕ → Option Station) (n caller : ℕ) (before after to_after to_before : Option ℕ)
    (spliced : IsSpliced bounds new_bounds stations new n caller before after to_after to_before) where
  rows_same : (q : ℕ) → (q ≡ n → ⊥) → row_at new q ≡ row_at stations q
  rows_same q apart =
      elim (none_or_some (stations q)) [
        | inl none ↦
            no_row new q (elim (none_or_some (new q)) [
              | inl also ↦ also
              | inr some ↦ let f = spliced.from q some.0 apart some.1 in absurd (not_none (stations q) f.0 none f.1)
            ]) ∙ sym (no_row stations q none)
        | inr some ↦
            let t = spliced.to q some.0 apart some.1 in
            let r = t.2 in
            row_of_station new q t.0 t.1 ∙ ap (λ c. row_with c q) r.caller ∙ sym (row_of_station stations q some.0 some.1)
      ]

-- a task that is put in
module _ (bounds new_bounds : ℕ → Option Bounds) (stations new : ℕ → Option Station) (n caller : ℕ) (before after : Option ℕ)
    (ordered : IsOrdered bounds stations) (fresh : stations n ≡ None) (room : IsRoom bounds stations caller n before after) (home : (own : Bounds) × (bounds caller ≡ Some own))
    (here : new n ≡ Some (record { caller = caller; before = before; after = after })) (spliced : IsSpliced bounds new_bounds stations new n caller before after (Some n) (Some n)) where
  rows : (q : ℕ) → (q ≡ n → ⊥) → row_at new q ≡ row_at stations q
  rows q apart = rows_same bounds new_bounds stations new n caller before after (Some n) (Some n) spliced q apart

  row_here : row_at new n ≡ Some (caller, n)
  row_here = row_of_station new n (record { caller = caller; before = before; after = after }) here

  apart_from : (q : ℕ) (s : Station) → stations q ≡ Some s → q ≡ n → ⊥
  apart_from q s is same = not_none (stations q) s (ap stations same ∙ fresh) is

  abbrev Fits : Option ℕ → Type 0
  Fits bound = Above bound n × Leads (row_at stations) caller bound after × ((i : ℕ) (m : ℕ) → row_at stations i ≡ Some (caller, m) → Above bound m → n < m)

  fits_front : (own : Bounds) → bounds caller ≡ Some own → after ≡ own.first → ((q : ℕ) (s : Station) → stations q ≡ Some s → s.caller ≡ caller → n < q) → Fits None
  fits_front own is at all = (
    tt,
    subst (Leads (row_at stations) caller None) (sym at) (ordered.firsts caller own is),
    λ i m row more. let s = station_of_row stations i caller m row in let low = all i s.0 s.1 s.2 in let key = s.3 in omega arith,
  )

  fits_behind : (p : ℕ) (s : Station) → stations p ≡ Some s → s.caller ≡ caller → p < n → after ≡ s.after
      → ((q : ℕ) (t : Station) → stations q ≡ Some t → t.caller ≡ caller → p < q → n < q) → Fits (Some p)
  fits_behind p s is of less at all = (
    less,
    subst (Leads (row_at stations) caller (Some p)) (sym at) (subst (λ c. Leads (row_at stations) c (Some p) s.after) of (ordered.afters p s is)),
    λ i m row more. let t = station_of_row stations i caller m row in let key = t.3 in let low = all i t.0 t.1 t.2 (omega arith) in omega arith,
  )

  from_new : (before : Option ℕ) → IsRoom bounds stations caller n before after → Leads (row_at new) caller (Some n) after
  from_new None r = let f = fits_front r.0 r.1 r.2 r.3 in leads_from_new same_or_not (row_at stations) (row_at new) n caller n (no_row stations n fresh) row_here rows None after f.1 f.0 f.2
  from_new (Some p) r = let f = fits_behind p r.0 r.1 r.2 r.3 r.4 r.5 in leads_from_new same_or_not (row_at stations) (row_at new) n caller n (no_row stations n fresh) row_here rows (Some p) after f.1 f.0 f.2

  to_front : (before : Option ℕ) → IsRoom bounds stations caller n before after → before ≡ None → Leads (row_at new) caller None (Some n)
  to_front None r none = let f = fits_front r.0 r.1 r.2 r.3 in leads_to_new same_or_not (row_at stations) (row_at new) n caller n (no_row stations n fresh) row_here rows None f.0 f.2
  to_front (Some p) r none = absurd (not_none (Some p) p none refl)

  between : (c : ℕ) → c ≡ caller → (before : Option ℕ) → IsRoom bounds stations caller n before after → (before ≡ None → ⊥) → (i : ℕ) × (k : ℕ) × (row_at stations i ≡ Some (c, k)) × Above None k × (k < n)
  between c same None r some = absurd (some refl)
  between c same (Some p) r some = (p, p, row_of_station stations p r.0 r.1 ∙ ap (λ t. row_with t p) (r.2 ∙ sym same), tt, r.3)

  to_behind : (before : Option ℕ) → IsRoom bounds stations caller n before after → (p : ℕ) (s : Station) → before ≡ Some p → stations p ≡ Some s → Leads (row_at new) s.caller (Some p) (Some n)
  to_behind None r p s is there = absurd (not_none None p refl is)
  to_behind (Some p') r p s is there =
      let same : p' ≡ p = same_some p' p is in
      let one : r.0 ≡ s = same_some r.0 s (sym r.1 ∙ ap stations same ∙ there) in
      let f = fits_behind p' r.0 r.1 r.2 r.3 r.4 r.5 in
      subst (λ c. Leads (row_at new) c (Some p) (Some n)) (sym (ap (λ (t : Station). t.caller) (sym one) ∙ r.2))
      (subst (λ q. Leads (row_at new) caller (Some q) (Some n)) same
      (leads_to_new same_or_not (row_at stations) (row_at new) n caller n (no_row stations n fresh) row_here rows (Some p') f.0 f.2))

  between_behind : (before : Option ℕ) → IsRoom bounds stations caller n before after → (q : ℕ) (s : Station) → stations q ≡ Some s → s.caller ≡ caller → q < n → (before ≡ Some q → ⊥)
      → (i : ℕ) × (k : ℕ) × (row_at stations i ≡ Some (s.caller, k)) × (q < k) × (k < n)
  between_behind None r q s is of less not_it = absurd (let more = r.3 q s is of in omega arith)
  between_behind (Some p) r q s is of less not_it = (
    p,
    p,
    row_of_station stations p r.0 r.1 ∙ ap (λ t. row_with t p) (r.2 ∙ sym of),
    elim (same_or_not p q) [
      | inl same ↦ absurd (not_it (ap Some same))
      | inr apart ↦ elim (cases_lt p q) [ inl below ↦ absurd (let more = r.5 q s is of below in omega arith) | inr above ↦ omega arith ]
    ],
    r.3,
  )

  -- what the room says of what follows
  follows_front : (before : Option ℕ) → IsRoom bounds stations caller n before after → before ≡ None → (own : Bounds) → bounds caller ≡ Some own → after ≡ own.first
  follows_front None r none own is = r.2 ∙ ap (λ (b : Bounds). b.first) (same_some r.0 own (sym r.1 ∙ is))
  follows_front (Some p) r none own is = absurd (not_none (Some p) p none refl)

  follows_behind : (before : Option ℕ) → IsRoom bounds stations caller n before after → (p : ℕ) → before ≡ Some p → (s : Station) → stations p ≡ Some s → (s.caller ≡ caller) × (after ≡ s.after)
  follows_behind None r p is s there = absurd (not_none None p refl is)
  follows_behind (Some p') r p is s there =
      let one : r.0 ≡ s = same_some r.0 s (sym r.1 ∙ ap stations (same_some p' p is) ∙ there) in
      (ap (λ (t : Station). t.caller) (sym one) ∙ r.2, r.4 ∙ ap (λ (t : Station). t.after) one)

  -- the new task is led to
  reached_new : (before : Option ℕ) → IsRoom bounds stations caller n before after → ((q : ℕ) (own : Bounds) → bounds q ≡ Some own → (new : Bounds) × (new_bounds q ≡ Some new) × IsRebound own new (q ≡ caller) before after (Some n) (Some n))
      → ((q : ℕ) (s : Station) → (q ≡ n → ⊥) → stations q ≡ Some s → (t : Station) × (new q ≡ Some t) × IsRestationed s t q before after (Some n) (Some n)) → IsReached new_bounds new n caller before
  reached_new None r to_bounds to =
      let b = to_bounds caller r.0 r.1 in
      let j = b.2 in
      (b.0, b.1, elim j.first [ inl front ↦ front.2 | inr stays ↦ absurd (stays.0 refl refl) ])
  reached_new (Some p) r to_bounds to =
      let t = to p r.0 (apart_from p r.0 r.1) r.1 in
      let j = t.2 in
      (t.0, t.1, j.caller ∙ r.2, elim j.led_on [ inl behind ↦ behind.1 | inr stays ↦ absurd (stays.0 refl) ])

  -- what follows is of the caller
  after_caller : (q : ℕ) (s : Station) → stations q ≡ Some s → after ≡ Some q → s.caller ≡ caller
  after_caller q s is at =
      let leads : Leads (row_at new) caller (Some n) (Some q) = subst (Leads (row_at new) caller (Some n)) at (from_new before room) in
      (same_key (sym (row_of_station stations q s is) ∙ sym (rows q (apart_from q s is)) ∙ leads.1)).0

  keep_reached : (q : ℕ) (c : ℕ) → (after ≡ Some q → ⊥) → (o : Option ℕ) → IsReached bounds stations q c o → IsReached new_bounds new q c o
  keep_reached q c not_after None reached =
      let b = spliced.bounds_to c reached.0 reached.1 in
      let j = b.2 in (
        b.0,
        b.1,
        elim j.first [
          | inl front ↦ absurd (not_after (follows_front before room front.1 reached.0 (ap bounds (sym front.0) ∙ reached.1) ∙ reached.2))
          | inr stays ↦ stays.1 ∙ reached.2
        ],
      )
  keep_reached q c not_after (Some p) reached =
      let t = spliced.to p reached.0 (apart_from p reached.0 reached.1) reached.1 in
      let j = t.2 in (
        t.0,
        t.1,
        j.caller ∙ reached.2,
        elim j.led_on [
          | inl behind ↦ absurd (not_after ((follows_behind before room p behind.0 reached.0 reached.1).1 ∙ reached.3))
          | inr stays ↦ stays.1 ∙ reached.3
        ],
      )

  keep_tail : (c : ℕ) (old own : Bounds) → bounds c ≡ Some old → IsRebound old own (c ≡ caller) before after (Some n) (Some n) → (c ≡ caller → after ≡ None → ⊥) → (o : Option ℕ) → IsTail stations c old.first o → IsTail new c own.first o
  keep_tail c old own is rebound never None tail =
      elim rebound.first [
        | inl front ↦ absurd (never front.0 (follows_front before room front.1 old (ap bounds (sym front.0) ∙ is) ∙ tail))
        | inr stays ↦ stays.1 ∙ tail
      ]
  keep_tail c old own is rebound never (Some p) tail =
      let t = spliced.to p tail.0 (apart_from p tail.0 tail.1) tail.1 in
      let j = t.2 in (
        t.0,
        t.1,
        j.caller ∙ tail.2,
        elim j.led_on [
          | inl behind ↦ let f = follows_behind before room p behind.0 tail.0 tail.1 in absurd (never (sym tail.2 ∙ f.0) (f.1 ∙ tail.3))
          | inr stays ↦ stays.1 ∙ tail.3
        ],
      )

  pub placed-ordered : IsOrdered new_bounds new
  placed-ordered = record {
    firsts = λ c own is.
        let b = spliced.bounds_from c own is in
        let j = b.2 in
        elim j.first [
          | inl front ↦ subst (Leads (row_at new) c None) (sym front.2) (subst (λ g. Leads (row_at new) g None (Some n)) (sym front.0) (to_front before room front.1))
          | inr stays ↦
              subst (Leads (row_at new) c None) (sym stays.1)
              (leads_still same_or_not (row_at stations) (row_at new) n caller n (no_row stations n fresh) row_here rows c None b.0.first (ordered.firsts c b.0 b.1) (λ same more. between c same before room (stays.0 same)))
        ];
    afters = λ q s is. elim (same_or_not q n) [
      | inl same ↦
          let one : record { caller = caller; before = before; after = after } ≡ s = same_some _ s (sym here ∙ ap new (sym same) ∙ is) in
          subst (λ m. Leads (row_at new) s.caller (Some m) s.after) (sym same) (subst (λ (t : Station). Leads (row_at new) t.caller (Some n) t.after) one (from_new before room))
      | inr apart ↦
          let f = spliced.from q s apart is in
          let j = f.2 in
          subst (λ c. Leads (row_at new) c (Some q) s.after) (sym j.caller)
          (elim j.led_on [
            | inl behind ↦ subst (Leads (row_at new) f.0.caller (Some q)) (sym behind.1) (to_behind before room q f.0 behind.0 f.1)
            | inr stays ↦
                subst (Leads (row_at new) f.0.caller (Some q)) (sym stays.1)
                (leads_still same_or_not (row_at stations) (row_at new) n caller n (no_row stations n fresh) row_here rows f.0.caller (Some q) f.0.after (ordered.afters q f.0 f.1)
                (λ same more. between_behind before room q f.0 f.1 same more stays.0))
          ])
    ];
    befores = λ q s is. elim (same_or_not q n) [
      | inl same ↦
          let one : record { caller = caller; before = before; after = after } ≡ s = same_some _ s (sym here ∙ ap new (sym same) ∙ is) in
          subst (λ m. IsReached new_bounds new m s.caller s.before) (sym same) (subst (λ (t : Station). IsReached new_bounds new n t.caller t.before) one (reached_new before room spliced.bounds_to spliced.to))
      | inr apart ↦
          let f = spliced.from q s apart is in
          let j = f.2 in
          subst (λ c. IsReached new_bounds new q c s.before) (sym j.caller)
          (elim j.led_back [
            | inl ahead ↦ subst (IsReached new_bounds new q f.0.caller) (sym ahead.1) (record { caller = caller; before = before; after = after }, here, sym (after_caller q f.0 f.1 ahead.0), ahead.0)
            | inr stays ↦ subst (IsReached new_bounds new q f.0.caller) (sym stays.1) (keep_reached q f.0.caller stays.0 f.0.before (ordered.befores q f.0 f.1))
          ])
    ];
    lasts = λ c own is.
        let b = spliced.bounds_from c own is in
        let j = b.2 in
        elim j.last [
          | inl back ↦ subst (IsTail new c own.first) (sym back.2) (record { caller = caller; before = before; after = after }, here, sym back.0, back.1)
          | inr stays ↦ subst (IsTail new c own.first) (sym stays.1) (keep_tail c b.0 own b.1 b.2 stays.0 b.0.last (ordered.lasts c b.0 b.1))
        ];
    known = λ q s is. elim (same_or_not q n) [
      | inl same ↦
          let one : record { caller = caller; before = before; after = after } ≡ s = same_some _ s (sym here ∙ ap new (sym same) ∙ is) in
          let b = spliced.bounds_to caller home.0 home.1 in
          (b.0, ap new_bounds (ap (λ (t : Station). t.caller) (sym one)) ∙ b.1)
      | inr apart ↦
          let f = spliced.from q s apart is in
          let j = f.2 in
          let k = ordered.known q f.0 f.1 in
          let b = spliced.bounds_to f.0.caller k.0 k.1 in
          (b.0, ap new_bounds j.caller ∙ b.1)
    ];
  }

-- a task that is taken out
module _ (bounds new_bounds : ℕ → Option Bounds) (stations new : ℕ → Option Station) (n : ℕ) (s : Station) (ordered : IsOrdered bounds stations) (there : stations n ≡ Some s) (gone : new n ≡ None)
    (spliced : IsSpliced bounds new_bounds stations new n s.caller s.before s.after s.after s.before) where
  rows_left : (q : ℕ) → (q ≡ n → ⊥) → row_at new q ≡ row_at stations q
  rows_left q apart = rows_same bounds new_bounds stations new n s.caller s.before s.after s.after s.before spliced q apart

  row_gone : row_at stations n ≡ Some (s.caller, n)
  row_gone = row_of_station stations n s there

  only_one : (i : ℕ) → row_at stations i ≡ row_with s.caller n → i ≡ n
  only_one i is = (station_of_row stations i s.caller n is).3

  apart_of : (q : ℕ) (t : Station) → new q ≡ Some t → q ≡ n → ⊥
  apart_of q t is same = not_none (new q) t (ap new same ∙ gone) is

  first_apart : (c : ℕ) (own : Bounds) → bounds c ≡ Some own → (c ≡ s.caller → s.before ≡ None → ⊥) → own.first ≡ Some n → ⊥
  first_apart c own is never first =
      let leads : Leads (row_at stations) c None (Some n) = subst (Leads (row_at stations) c None) first (ordered.firsts c own is) in
      let key = same_key (sym leads.1 ∙ row_gone) in
      elim (none_or_some s.before) [
        | inl none ↦ never key.0 none
        | inr some ↦
            let r : IsReached bounds stations n s.caller (Some some.0) = subst (IsReached bounds stations n s.caller) some.1 (ordered.befores n s there) in
            let to : Leads (row_at stations) r.0.caller (Some some.0) (Some n) = subst (Leads (row_at stations) r.0.caller (Some some.0)) r.3 (ordered.afters some.0 r.0 r.1) in
            let least = leads.3 some.0 some.0 (row_of_station stations some.0 r.0 r.1 ∙ ap (λ g. row_with g some.0) (r.2 ∙ sym key.0)) tt in
            let at = (same_key (sym to.1 ∙ row_gone)).1 in
            let below = to.2 in
            let same = key.1 in
            omega arith
      ]

  after_apart : (q : ℕ) (t : Station) → stations q ≡ Some t → (s.before ≡ Some q → ⊥) → t.after ≡ Some n → ⊥
  after_apart q t is never after =
      let leads : Leads (row_at stations) t.caller (Some q) (Some n) = subst (Leads (row_at stations) t.caller (Some q)) after (ordered.afters q t is) in
      let key = same_key (sym leads.1 ∙ row_gone) in
      let above = leads.2 in
      let at_key = key.1 in
      elim (none_or_some s.before) [
        | inl none ↦
            let r : IsReached bounds stations n s.caller None = subst (IsReached bounds stations n s.caller) none (ordered.befores n s there) in
            let to : Leads (row_at stations) s.caller None (Some n) = subst (Leads (row_at stations) s.caller None) r.2 (ordered.firsts s.caller r.0 r.1) in
            let least = to.3 q q (row_of_station stations q t is ∙ ap (λ g. row_with g q) key.0) tt in
            let at = (same_key (sym to.1 ∙ row_gone)).1 in
            omega arith
        | inr some ↦
            let r : IsReached bounds stations n s.caller (Some some.0) = subst (IsReached bounds stations n s.caller) some.1 (ordered.befores n s there) in
            let to : Leads (row_at stations) r.0.caller (Some some.0) (Some n) = subst (Leads (row_at stations) r.0.caller (Some some.0)) r.3 (ordered.afters some.0 r.0 r.1) in
            let at = (same_key (sym to.1 ∙ row_gone)).1 in
            let p = some.0 in
            let below : p < to.0 = to.2 in
            elim (same_or_not p q) [
              | inl same ↦ never (some.1 ∙ ap Some same)
              | inr apart ↦ elim (cases_lt p q) [
                | inl less ↦ let least = to.3 q q (row_of_station stations q t is ∙ ap (λ g. row_with g q) (key.0 ∙ sym r.2)) less in omega arith
                | inr more ↦ let least = leads.3 p p (row_of_station stations p r.0 r.1 ∙ ap (λ g. row_with g p) (r.2 ∙ sym key.0)) (omega arith) in omega arith
              ]
            ]
      ]

  -- what led to the task leads to what followed it
  over_first : s.before ≡ None → Leads (row_at new) s.caller None s.after
  over_first none =
      let r : IsReached bounds stations n s.caller None = subst (IsReached bounds stations n s.caller) none (ordered.befores n s there) in
      leads_over same_or_not (row_at stations) (row_at new) n s.caller n row_gone (no_row new n gone) rows_left None s.after only_one
      (subst (Leads (row_at stations) s.caller None) r.2 (ordered.firsts s.caller r.0 r.1)) (ordered.afters n s there)

  over_behind : (q : ℕ) (t : Station) → stations q ≡ Some t → s.before ≡ Some q → Leads (row_at new) t.caller (Some q) s.after
  over_behind q t is before =
      let r : IsReached bounds stations n s.caller (Some q) = subst (IsReached bounds stations n s.caller) before (ordered.befores n s there) in
      let one : r.0 ≡ t = same_some r.0 t (sym r.1 ∙ is) in
      let of : t.caller ≡ s.caller = ap (λ (u : Station). u.caller) (sym one) ∙ r.2 in
      subst (λ c. Leads (row_at new) c (Some q) s.after) (sym of)
      (leads_over same_or_not (row_at stations) (row_at new) n s.caller n row_gone (no_row new n gone) rows_left (Some q) s.after only_one
      (subst (λ c. Leads (row_at stations) c (Some q) (Some n)) of (subst (Leads (row_at stations) t.caller (Some q)) (ap (λ (u : Station). u.after) (sym one) ∙ r.3) (ordered.afters q t is))) (ordered.afters n s there))

  before_apart : (p : ℕ) → s.before ≡ Some p → p ≡ n → ⊥
  before_apart p before same =
      let r : IsReached bounds stations n s.caller (Some p) = subst (IsReached bounds stations n s.caller) before (ordered.befores n s there) in
      let to : Leads (row_at stations) r.0.caller (Some p) (Some n) = subst (Leads (row_at stations) r.0.caller (Some p)) r.3 (ordered.afters p r.0 r.1) in
      let at = (same_key (sym to.1 ∙ row_gone)).1 in
      let below = to.2 in
      omega arith

  -- what stood before the task leads on to what followed it
  reached_next : (q : ℕ) → s.after ≡ Some q → (o : Option ℕ) → s.before ≡ o → IsReached new_bounds new q s.caller o
  reached_next q after None before =
      let r : IsReached bounds stations n s.caller None = subst (IsReached bounds stations n s.caller) before (ordered.befores n s there) in
      let b = spliced.bounds_to s.caller r.0 r.1 in
      let j = b.2 in
      (b.0, b.1, elim j.first [ inl front ↦ front.2 ∙ after | inr stays ↦ absurd (stays.0 refl before) ])
  reached_next q after (Some p) before =
      let r : IsReached bounds stations n s.caller (Some p) = subst (IsReached bounds stations n s.caller) before (ordered.befores n s there) in
      let t = spliced.to p r.0 (before_apart p before) r.1 in
      let j = t.2 in
      (t.0, t.1, j.caller ∙ r.2, elim j.led_on [ inl behind ↦ behind.1 ∙ after | inr stays ↦ absurd (stays.0 before) ])

  keep_led : (q c : ℕ) → (q ≡ n → ⊥) → (s.after ≡ Some q → ⊥) → (o : Option ℕ) → IsReached bounds stations q c o → IsReached new_bounds new q c o
  keep_led q c apart not_after None reached =
      let b = spliced.bounds_to c reached.0 reached.1 in
      let j = b.2 in (
        b.0,
        b.1,
        elim j.first [
          | inl front ↦
              let r : IsReached bounds stations n s.caller None = subst (IsReached bounds stations n s.caller) front.1 (ordered.befores n s there) in
              let one : r.0 ≡ reached.0 = same_some r.0 reached.0 (sym r.1 ∙ ap bounds (sym front.0) ∙ reached.1) in
              absurd (apart (same_some q n (sym reached.2 ∙ ap (λ (b : Bounds). b.first) (sym one) ∙ r.2)))
          | inr stays ↦ stays.1 ∙ reached.2
        ],
      )
  keep_led q c apart not_after (Some p) reached =
      elim (same_or_not p n) [
        | inl same ↦ absurd (not_after (ap (λ (u : Station). u.after) (same_some s reached.0 (sym there ∙ ap stations (sym same) ∙ reached.1)) ∙ reached.3))
        | inr other ↦
            let t = spliced.to p reached.0 other reached.1 in
            let j = t.2 in (
              t.0,
              t.1,
              j.caller ∙ reached.2,
              elim j.led_on [
                | inl behind ↦
                    let r : IsReached bounds stations n s.caller (Some p) = subst (IsReached bounds stations n s.caller) behind.0 (ordered.befores n s there) in
                    let one : r.0 ≡ reached.0 = same_some r.0 reached.0 (sym r.1 ∙ reached.1) in
                    absurd (apart (same_some q n (sym reached.3 ∙ ap (λ (u : Station). u.after) (sym one) ∙ r.3)))
                | inr stays ↦ stays.1 ∙ reached.3
              ],
            )
      ]

  -- the last of the caller's list, where nothing followed the task
  tail_before : (first : Option ℕ) → (s.before ≡ None → first ≡ s.after) → s.after ≡ None → (o : Option ℕ) → s.before ≡ o → IsTail new s.caller first o
  tail_before first at after None before = at before ∙ after
  tail_before first at after (Some p) before =
      let r : IsReached bounds stations n s.caller (Some p) = subst (IsReached bounds stations n s.caller) before (ordered.befores n s there) in
      let t = spliced.to p r.0 (before_apart p before) r.1 in
      let j = t.2 in
      (t.0, t.1, j.caller ∙ r.2, elim j.led_on [ inl behind ↦ behind.1 ∙ after | inr stays ↦ absurd (stays.0 before) ])

  keep_end : (c : ℕ) (old own : Bounds) → bounds c ≡ Some old → IsRebound old own (c ≡ s.caller) s.before s.after s.after s.before → (c ≡ s.caller → s.after ≡ None → ⊥) → (o : Option ℕ) → IsTail stations c old.first o → IsTail new c own.first o
  keep_end c old own is rebound never None tail =
      elim rebound.first [
        | inl front ↦
            let r : IsReached bounds stations n s.caller None = subst (IsReached bounds stations n s.caller) front.1 (ordered.befores n s there) in
            let one : r.0 ≡ old = same_some r.0 old (sym r.1 ∙ ap bounds (sym front.0) ∙ is) in
            absurd (not_none old.first n tail (ap (λ (b : Bounds). b.first) (sym one) ∙ r.2))
        | inr stays ↦ stays.1 ∙ tail
      ]
  keep_end c old own is rebound never (Some p) tail =
      elim (same_or_not p n) [
        | inl same ↦
            let one : s ≡ tail.0 = same_some s tail.0 (sym there ∙ ap stations (sym same) ∙ tail.1) in
            absurd (never (sym (ap (λ (u : Station). u.caller) one ∙ tail.2)) (ap (λ (u : Station). u.after) one ∙ tail.3))
        | inr other ↦
            let t = spliced.to p tail.0 other tail.1 in
            let j = t.2 in (
              t.0,
              t.1,
              j.caller ∙ tail.2,
              elim j.led_on [
                | inl behind ↦
                    let r : IsReached bounds stations n s.caller (Some p) = subst (IsReached bounds stations n s.caller) behind.0 (ordered.befores n s there) in
                    let one : r.0 ≡ tail.0 = same_some r.0 tail.0 (sym r.1 ∙ tail.1) in
                    absurd (not_none tail.0.after n tail.3 (ap (λ (u : Station). u.after) (sym one) ∙ r.3))
                | inr stays ↦ stays.1 ∙ tail.3
              ],
            )
      ]

  pub taken-ordered : IsOrdered new_bounds new
  taken-ordered = record {
    firsts = λ c own is.
        let b = spliced.bounds_from c own is in
        let j = b.2 in
        elim j.first [
          | inl front ↦ subst (Leads (row_at new) c None) (sym front.2) (subst (λ g. Leads (row_at new) g None s.after) (sym front.0) (over_first front.1))
          | inr stays ↦
              subst (Leads (row_at new) c None) (sym stays.1)
              (leads_past same_or_not (row_at stations) (row_at new) n s.caller n row_gone (no_row new n gone) rows_left c None b.0.first (first_apart c b.0 b.1 stays.0) (ordered.firsts c b.0 b.1))
        ];
    afters = λ q t is.
        let f = spliced.from q t (apart_of q t is) is in
        let j = f.2 in
        subst (λ c. Leads (row_at new) c (Some q) t.after) (sym j.caller)
        (elim j.led_on [
          | inl behind ↦ subst (Leads (row_at new) f.0.caller (Some q)) (sym behind.1) (over_behind q f.0 f.1 behind.0)
          | inr stays ↦
              subst (Leads (row_at new) f.0.caller (Some q)) (sym stays.1)
              (leads_past same_or_not (row_at stations) (row_at new) n s.caller n row_gone (no_row new n gone) rows_left f.0.caller (Some q) f.0.after (after_apart q f.0 f.1 stays.0) (ordered.afters q f.0 f.1))
        ]);
    befores = λ q t is.
        let apart = apart_of q t is in
        let f = spliced.from q t apart is in
        let j = f.2 in
        subst (λ c. IsReached new_bounds new q c t.before) (sym j.caller)
        (elim j.led_back [
          | inl ahead ↦
              let leads : Leads (row_at stations) s.caller (Some n) (Some q) = subst (Leads (row_at stations) s.caller (Some n)) ahead.0 (ordered.afters n s there) in
              let of = (same_key (sym (row_of_station stations q f.0 f.1) ∙ leads.1)).0 in
              subst (λ c. IsReached new_bounds new q c t.before) (sym of) (subst (IsReached new_bounds new q s.caller) (sym ahead.1) (reached_next q ahead.0 s.before refl))
          | inr stays ↦ subst (IsReached new_bounds new q f.0.caller) (sym stays.1) (keep_led q f.0.caller apart stays.0 f.0.before (ordered.befores q f.0 f.1))
        ]);
    lasts = λ c own is.
        let b = spliced.bounds_from c own is in
        let j = b.2 in
        elim j.last [
          | inl back ↦
              subst (IsTail new c own.first) (sym back.2)
              (subst (λ g. IsTail new g own.first s.before) (sym back.0)
              (tail_before own.first (λ none. elim j.first [ inl front ↦ front.2 | inr stays ↦ absurd (stays.0 back.0 none) ]) back.1 s.before refl))
          | inr stays ↦ subst (IsTail new c own.first) (sym stays.1) (keep_end c b.0 own b.1 b.2 stays.0 b.0.last (ordered.lasts c b.0 b.1))
        ];
    known = λ q t is.
        let f = spliced.from q t (apart_of q t is) is in
        let j = f.2 in
        let k = ordered.known q f.0 f.1 in
        let b = spliced.bounds_to f.0.caller k.0 k.1 in
        (b.0, ap new_bounds j.caller ∙ b.1);
  }
