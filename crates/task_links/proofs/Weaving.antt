-- The lists of awaiting inputs hang together once an input joins one, the first of one leaves it, or tasks come and go.
use Rattle.std.proofs.Common.{◌≡◌, ℕ, ◌<◌, ◌≤◌, ◌^◌, Option, Some, None, refl, sym, ap, subst, ◌∙◌, ◌⊎◌, inl, inr, arith}
use Rattle.std.specs.Option.{option_map}
use Rattle.std.proofs.lemmas.Bool.{cases_lt}
use Rattle.task_states.proofs.Maps.{same_or_not}
use Rattle.task_states.proofs.Options.{not_none, same_some, none_or_some}
use Rattle.task_links.specs.declared.entries.Spot.{Spot}
use Rattle.task_links.specs.declared.entries.Link.{Link}
use Rattle.task_links.specs.Weave.{Above, Leads, Head, row_of, IsEnd, last_behind, IsWoven, IsGap, IsJoined, IsTied, IsUntied, IsLeft}
use Rattle.task_links.proofs.Chains.{same_key, row_with, leads_from_new, leads_to_new, leads_still, leads_over, leads_past}

pub same_spot : (a b : Spot) → (a ≡ b) ⊎ (a ≡ b → ⊥)
same_spot a b =
    elim (same_or_not a.task b.task) [
      | inl one ↦ elim (same_or_not a.place b.place) [ inl two ↦ inl (λ i. record { task = one i; place = two i }) | inr apart ↦ inr (λ same. apart (ap (λ (s : Spot). s.place) same)) ]
      | inr apart ↦ inr (λ same. apart (ap (λ (s : Spot). s.task) same))
    ]

abbrev row_some : Option Link → Option (ℕ × ℕ)
row_some o = option_map (λ (link : Link). (link.task, link.number)) o

-- the row of a link
pub row_is : (links : Spot → Option Link) (spot : Spot) (link : Link) → links spot ≡ Some link → row_of links spot ≡ Some (link.task, link.number)
row_is links spot link is = ap (option_map (λ (l : Link). (l.task, l.number))) is

behind_option : (o : Option Link) (g k : ℕ) → option_map (λ (link : Link). (link.task, link.number)) o ≡ row_with g k → (link : Link) × (o ≡ Some link) × (link.task ≡ g) × (link.number ≡ k)
behind_option None g k is = absurd (let clash : None ≡ row_with g k = is in cc)
behind_option (Some link) g k is = (link, refl, (same_key is).0, (same_key is).1)

-- the link of a row
pub link_is : (links : Spot → Option Link) (spot : Spot) (g k : ℕ) → row_of links spot ≡ row_with g k → (link : Link) × (links spot ≡ Some link) × (link.task ≡ g) × (link.number ≡ k)
link_is links spot g k is = behind_option (links spot) g k is

-- no row where there is no link
pub no_row : (links : Spot → Option Link) (spot : Spot) → links spot ≡ None → row_of links spot ≡ None
no_row links spot is = ap (option_map (λ (l : Link). (l.task, l.number))) is

-- rows of a group that are the same lead alike
pub leads_alike : {I : Type 0} (row new : I → Option (ℕ × ℕ)) (g : ℕ) (bound : Option ℕ) (o : Option I)
    → ((i : I) (k : ℕ) → new i ≡ Some (g, k) → row i ≡ Some (g, k)) → ((i : I) (k : ℕ) → row i ≡ Some (g, k) → new i ≡ Some (g, k))
    → Leads row g bound o → Leads new g bound o
leads_alike row new g bound None back to leads = λ i k is more. leads i k (back i k is) more
leads_alike row new g bound (Some p) back to leads = (leads.0, to p leads.0 leads.1, leads.2, λ i m is more. leads.3 i m (back i m is) more)

-- the end of a list that stays
end_stays : (new_heads : ℕ → Option Head) (links new_links : Spot → Option Link) (q : ℕ) (head : Head) → new_heads q ≡ Some head
    → ((spot : Spot) (link : Link) (h : Head) → links spot ≡ Some link → new_heads link.task ≡ Some h → new_links spot ≡ Some link)
    → (first last : Option Spot) → IsEnd links q first last → IsEnd new_links q first last
end_stays new_heads links new_links q head is stays first None end = end
end_stays new_heads links new_links q head is stays first (Some p) end = (end.0, stays p end.0 head end.1 (ap new_heads end.2 ∙ is), end.2, end.3)

-- what is left hangs together
pub left-woven : (heads new_heads : ℕ → Option Head) (links new_links : Spot → Option Link) → IsWoven heads links → IsLeft heads new_heads links new_links → IsWoven new_heads new_links
left-woven heads new_heads links new_links woven left =
    let alike = λ (q : ℕ) (head : Head) (there : new_heads q ≡ Some head) (bound : Option ℕ) (o : Option Spot) (leads : Leads (row_of links) q bound o).
    leads_alike (row_of links) (row_of new_links) q bound o
    (λ i k is. let l = link_is new_links i q k is in row_is links i l.0 (left.was i l.0 l.1) ∙ ap (λ t. row_with t l.0.number) l.2 ∙ ap (row_with q) l.3)
    (λ i k is. let l = link_is links i q k is in row_is new_links i l.0 (left.stays i l.0 head l.1 (ap new_heads l.2 ∙ there)) ∙ ap (λ t. row_with t l.0.number) l.2 ∙ ap (row_with q) l.3) leads in
    record {
      firsts = λ q head is. elim (left.lists q head is) [
        | inl old ↦ subst (Leads (row_of new_links) q None) (sym old.2) (alike q head is None old.0.first (woven.firsts q old.0 old.1))
        | inr empty ↦ subst (Leads (row_of new_links) q None) (sym empty.0) (λ i k row more. let l = link_is new_links i q k row in empty.2 i l.0 (left.was i l.0 l.1) l.2)
      ];
      nexts = λ spot link is. let h = left.home spot link is in alike link.task h.1 h.3 (Some link.number) link.next (woven.nexts spot link (left.was spot link is));
      lasts = λ q head is. elim (left.lists q head is) [
        | inl old ↦ subst (λ o. IsEnd new_links q head.first o) (sym old.3) (subst (λ o. IsEnd new_links q o old.0.last) (sym old.2) (end_stays new_heads links new_links q head is left.stays old.0.first old.0.last (woven.lasts q old.0 old.1)))
        | inr empty ↦ subst (λ o. IsEnd new_links q head.first o) (sym empty.1) empty.0
      ];
      home = left.home;
      apart = λ spot other link that one two. woven.apart spot other link that (left.was spot link one) (left.was other that two);
      asked_apart = left.asked_apart;
      small = λ spot link is. woven.small spot link (left.was spot link is);
    }

same_or_less : (a b : ℕ) → (b ≤ a) ⊎ (a < b)
same_or_less a b = elim (cases_lt a b) [ inl less ↦ inr less | inr rest ↦ inl rest ]

-- an input that joins a list
module _ (heads new_heads : ℕ → Option Head) (links new_links : Spot → Option Link) (spot : Spot) (task number : ℕ) (before next : Option Spot)
    (woven : IsWoven heads links) (free : links spot ≡ None) (gap : IsGap heads links task number before next) (tied : IsTied heads new_heads links new_links spot task number before next) where
  here : row_of new_links spot ≡ Some (task, number)
  here = row_is new_links spot (record { task = task; number = number; next = next }) tied.here

  -- the bound below the new number
  bound_of : Option Spot → Option ℕ
  bound_of before = option_map (λ (link : Link). link.number) (elim before [ None ↦ None | Some p ↦ links p ])

  -- a number below which nothing of the list stands but what is below the new one, and what leads on from it
  abbrev Fits : Option ℕ → Type 0
  Fits bound = Above bound number × Leads (row_of links) task bound next × ((i : Spot) (m : ℕ) → row_of links i ≡ Some (task, m) → Above bound m → number < m)

  fits_front : (head : Head) → heads task ≡ Some head → next ≡ head.first → ((s : Spot) (l : Link) → links s ≡ Some l → l.task ≡ task → number < l.number) → Fits None
  fits_front head is first all = (
    tt,
    subst (Leads (row_of links) task None) (sym first) (woven.firsts task head is),
    λ i m row more. let l = link_is links i task m row in subst (λ k. number < k) l.3 (all i l.0 l.1 l.2),
  )

  fits_behind : (p : Spot) (link : Link) → links p ≡ Some link → link.task ≡ task → link.number < number → next ≡ link.next
      → ((s : Spot) (other : Link) → links s ≡ Some other → other.task ≡ task → link.number < other.number → number < other.number) → Fits (Some link.number)
  fits_behind p link is at less after all = (
    less,
    subst (λ o. Leads (row_of links) task (Some link.number) o) (sym after) (subst (λ t. Leads (row_of links) t (Some link.number) link.next) at (woven.nexts p link is)),
    λ i m row more. let l = link_is links i task m row in subst (λ k. number < k) l.3 (all i l.0 l.1 l.2 (subst (λ k. link.number < k) (sym l.3) more)),
  )

  -- what stands below the new number stands not above what is before it
  below_before : (before : Option Spot) → IsGap heads links task number before next → (s : Spot) (l : Link) → links s ≡ Some l → l.task ≡ task → l.number < number
      → (p : Spot) × (lp : Link) × (before ≡ Some p) × (links p ≡ Some lp) × (lp.task ≡ task) × (lp.number < number) × (l.number ≤ lp.number)
  below_before None gap s l is at less = absurd (let more = gap.3 s l is at in omega arith)
  below_before (Some p) gap s l is at less =
      (p, gap.0, refl, gap.1, gap.2, gap.3, elim (same_or_less gap.0.number l.number) [ inl low ↦ low | inr high ↦ absurd (let more = gap.5 s l is at high in omega arith) ])

  -- the new one leads on
  from_new : Leads (row_of new_links) task (Some number) next
  from_new = elim before as (λ b. IsGap heads links task number b next → Leads (row_of new_links) task (Some number) next) [
    | None ↦ λ g. let f = fits_front g.0 g.1 g.2 g.3 in leads_from_new same_spot (row_of links) (row_of new_links) spot task number (no_row links spot free) here tied.rows None next f.1 f.0 f.2
    | Some p ↦ λ g. let f = fits_behind p g.0 g.1 g.2 g.3 g.4 g.5 in
        leads_from_new same_spot (row_of links) (row_of new_links) spot task number (no_row links spot free) here tied.rows (Some g.0.number) next f.1 f.0 f.2
  ] gap

  to_front : (before : Option Spot) → IsGap heads links task number before next → before ≡ None → Leads (row_of new_links) task None (Some spot)
  to_front None g none = let f = fits_front g.0 g.1 g.2 g.3 in leads_to_new same_spot (row_of links) (row_of new_links) spot task number (no_row links spot free) here tied.rows None f.0 f.2
  to_front (Some p) g none = absurd (let clash : Some p ≡ None = none in cc)

  between : (q : ℕ) → q ≡ task → (before : Option Spot) → IsGap heads links task number before next → (before ≡ None → ⊥) → (i : Spot) × (k : ℕ) × (row_of links i ≡ Some (q, k)) × Above None k × (k < number)
  between q same None g some = absurd (some refl)
  between q same (Some p) g some = (p, g.0.number, row_is links p g.0 g.1 ∙ ap (λ t. row_with t g.0.number) (g.2 ∙ sym same), tt, g.3)

  -- the first of a list
  first_is : (q : ℕ) (old head : Head) → heads q ≡ Some old → IsJoined old head (q ≡ task) before next spot → Leads (row_of new_links) q None head.first
  first_is q old head is joined = elim joined.first [
    | inl front ↦
        subst (λ o. Leads (row_of new_links) q None o) (sym front.2) (subst (λ t. Leads (row_of new_links) t None (Some spot)) (sym front.0) (to_front before gap front.1))
    | inr stays ↦
        subst (λ o. Leads (row_of new_links) q None o) (sym stays.1)
        (leads_still same_spot (row_of links) (row_of new_links) spot task number (no_row links spot free) here tied.rows q None old.first (woven.firsts q old is)
        (λ same more. between q same before gap (stays.0 same)))
  ]

  -- the next one behind what stands before the new one
  to_behind : (before : Option Spot) → IsGap heads links task number before next → (p : Spot) → before ≡ Some p → (l : Link) → links p ≡ Some l → Leads (row_of new_links) l.task (Some l.number) (Some spot)
  to_behind None g p is l there = absurd (let clash : None ≡ Some p = is in cc)
  to_behind (Some p') g p is l there =
      let one : g.0 ≡ l = same_some g.0 l (sym g.1 ∙ ap links (same_some p' p is) ∙ there) in
      let f = fits_behind p' g.0 g.1 g.2 g.3 g.4 g.5 in
      subst (λ (m : Link). Leads (row_of new_links) m.task (Some m.number) (Some spot)) one
      (subst (λ t. Leads (row_of new_links) t (Some g.0.number) (Some spot)) (sym g.2)
      (leads_to_new same_spot (row_of links) (row_of new_links) spot task number (no_row links spot free) here tied.rows (Some g.0.number) f.0 f.2))

  between_behind : (p : Spot) (l : Link) → links p ≡ Some l → l.task ≡ task → l.number < number → (before ≡ Some p → ⊥) → (i : Spot) × (k : ℕ) × (row_of links i ≡ Some (l.task, k)) × (l.number < k) × (k < number)
  between_behind p l is at less not_it =
      let b = below_before before gap p l is at less in
      let under = b.6 in (
        b.0,
        b.1.number,
        row_is links b.0 b.1 b.3 ∙ ap (λ t. row_with t b.1.number) (b.4 ∙ sym at),
        elim (same_or_not l.number b.1.number) [
          | inl same ↦ absurd (not_it (b.2 ∙ ap Some (sym (woven.apart p b.0 l b.1 is b.3 same))))
          | inr apart ↦ omega arith
        ],
        b.5,
      )

  -- the next one behind an input that stood in a list
  next_is : (p : Spot) (link : Link) → (p ≡ spot → ⊥) → new_links p ≡ Some link → Leads (row_of new_links) link.task (Some link.number) link.next
  next_is p link apart is =
      let t = tied.nexts p link apart is in
      let r = t.2 in
      subst (λ g. Leads (row_of new_links) g (Some link.number) link.next) (sym r.task)
      (subst (λ k. Leads (row_of new_links) t.0.task (Some k) link.next) (sym r.number)
      (elim r.next [
        | inl behind ↦ subst (λ o. Leads (row_of new_links) t.0.task (Some t.0.number) o) (sym behind.1) (to_behind before gap p behind.0 t.0 t.1)
        | inr stays ↦
            subst (λ o. Leads (row_of new_links) t.0.task (Some t.0.number) o) (sym stays.1)
            (leads_still same_spot (row_of links) (row_of new_links) spot task number (no_row links spot free) here tied.rows t.0.task (Some t.0.number) t.0.next (woven.nexts p t.0 t.1)
            (λ same more. between_behind p t.0 t.1 same more stays.0))
      ]))

  -- what a gap says of what follows
  follows_front : (before : Option Spot) → IsGap heads links task number before next → before ≡ None → (head : Head) → heads task ≡ Some head → next ≡ head.first
  follows_front None g none head is = g.2 ∙ ap (λ (h : Head). h.first) (same_some g.0 head (sym g.1 ∙ is))
  follows_front (Some p) g none head is = absurd (let clash : Some p ≡ None = none in cc)

  follows_behind : (before : Option Spot) → IsGap heads links task number before next → (p : Spot) → before ≡ Some p → (l : Link) → links p ≡ Some l → (l.task ≡ task) × (next ≡ l.next)
  follows_behind None g p is l there = absurd (let clash : None ≡ Some p = is in cc)
  follows_behind (Some p') g p is l there =
      let one : g.0 ≡ l = same_some g.0 l (sym g.1 ∙ ap links (same_some p' p is) ∙ there) in
      (ap (λ (m : Link). m.task) (sym one) ∙ g.2, g.4 ∙ ap (λ (m : Link). m.next) one)

  keep_end : (q : ℕ) (old head : Head) → heads q ≡ Some old → IsJoined old head (q ≡ task) before next spot → (q ≡ task → next ≡ None → ⊥) → (o : Option Spot) → IsEnd links q old.first o → IsEnd new_links q head.first o
  keep_end q old head is joined never None end =
      elim joined.first [
        | inl front ↦ absurd (never front.0 (follows_front before gap front.1 old (ap heads (sym front.0) ∙ is) ∙ end))
        | inr stays ↦ stays.1 ∙ end
      ]
  keep_end q old head is joined never (Some p) end =
      let apart : p ≡ spot → ⊥ = λ same. not_none (links p) end.0 (ap links same ∙ free) end.1 in
      let l = link_is new_links p end.0.task end.0.number (tied.rows p apart ∙ row_is links p end.0 end.1) in
      let t = tied.nexts p l.0 apart l.1 in
      let r = t.2 in
      let one : t.0 ≡ end.0 = same_some t.0 end.0 (sym t.1 ∙ end.1) in (
        l.0,
        l.1,
        l.2 ∙ end.2,
        elim r.next [
          | inl behind ↦ let f = follows_behind before gap p behind.0 end.0 end.1 in absurd (never (sym end.2 ∙ f.0) (f.1 ∙ end.3))
          | inr stays ↦ stays.1 ∙ ap (λ (m : Link). m.next) one ∙ end.3
        ],
      )

  end_is : (q : ℕ) (old head : Head) → heads q ≡ Some old → IsJoined old head (q ≡ task) before next spot → IsEnd new_links q head.first head.last
  end_is q old head is joined =
      elim joined.last [
        | inl back ↦ subst (λ o. IsEnd new_links q head.first o) (sym back.2) (record { task = task; number = number; next = next }, tied.here, sym back.0, back.1)
        | inr stays ↦ subst (λ o. IsEnd new_links q head.first o) (sym stays.1) (keep_end q old head is joined stays.0 old.last (woven.lasts q old is))
      ]

  -- where an input stood that is not the new one
  was_there : (p : Spot) (link : Link) → new_links p ≡ Some link → ((p ≡ spot) × (link.task ≡ task) × (link.number ≡ number)) ⊎ ((old : Link) × (links p ≡ Some old) × (link.task ≡ old.task) × (link.number ≡ old.number))
  was_there p link is =
      elim (same_spot p spot) [
        | inl same ↦
            let one : link ≡ record { task = task; number = number; next = next } = same_some link _ (sym is ∙ ap new_links same ∙ tied.here) in
            inl (same, ap (λ (l : Link). l.task) one, ap (λ (l : Link). l.number) one)
        | inr apart ↦ let t = tied.nexts p link apart is in let r = t.2 in inr (t.0, t.1, r.task, r.number)
      ]

  abbrev HomeOf : Spot → Link → Type 0
  HomeOf p link = (own : Head) × (awaited : Head) × (new_heads p.task ≡ Some own) × (new_heads link.task ≡ Some awaited) × (awaited.caller ≡ own.caller) × (own.runner ≡ None)

  home_is : (p : Spot) (link : Link) (t : ℕ) → link.task ≡ t → (own awaited : Head) → heads p.task ≡ Some own → heads t ≡ Some awaited → awaited.caller ≡ own.caller → own.runner ≡ None → HomeOf p link
  home_is p link t at own awaited one two callers idle =
      let a = tied.heads_to p.task own one in
      let b = tied.heads_to t awaited two in
      let ja = a.2 in
      let jb = b.2 in
      (a.0, b.0, a.1, ap new_heads at ∙ b.1, jb.caller ∙ callers ∙ sym ja.caller, ja.runner ∙ idle)

  module _ (own awaited : Head) (own_is : heads spot.task ≡ Some own) (awaited_is : heads task ≡ Some awaited) (callers : awaited.caller ≡ own.caller) (idle : own.runner ≡ None)
      (unused : (p : Spot) (l : Link) → links p ≡ Some l → l.number ≡ number → ⊥) (unasked : (q : ℕ) (h : Head) (m : ℕ) → heads q ≡ Some h → h.asked ≡ Some m → m ≡ number → ⊥) (small : number < 2 ^ 128) where
    pub tied-woven : IsWoven new_heads new_links
    tied-woven = record {
      firsts = λ q head is. let h = tied.heads_from q head is in first_is q h.0 head h.1 h.2;
      nexts = λ p link is. elim (same_spot p spot) [
        | inl same ↦
            let one : record { task = task; number = number; next = next } ≡ link = same_some _ link (sym tied.here ∙ ap new_links (sym same) ∙ is) in
            subst (λ (l : Link). Leads (row_of new_links) l.task (Some l.number) l.next) one from_new
        | inr apart ↦ next_is p link apart is
      ];
      lasts = λ q head is. let h = tied.heads_from q head is in end_is q h.0 head h.1 h.2;
      home = λ p link is. elim (was_there p link is) [
        | inl new ↦ home_is p link task new.1 own awaited (ap (λ (s : Spot). heads s.task) new.0 ∙ own_is) awaited_is callers idle
        | inr old ↦ let h = woven.home p old.0 old.1 in home_is p link old.0.task old.2 h.0 h.1 h.2 h.3 h.4 h.5
      ];
      apart = λ p q l m one two same. elim (was_there p l one) [
        | inl new ↦ elim (was_there q m two) [
          | inl also ↦ new.0 ∙ sym also.0
          | inr old ↦ absurd (unused q old.0 old.1 (sym old.3 ∙ sym same ∙ new.2))
        ]
        | inr old ↦ elim (was_there q m two) [
          | inl new ↦ absurd (unused p old.0 old.1 (sym old.3 ∙ same ∙ new.2))
          | inr also ↦ woven.apart p q old.0 also.0 old.1 also.1 (sym old.3 ∙ same ∙ also.3)
        ]
      ];
      asked_apart = λ p l q head m is there asked same.
          let h = tied.heads_from q head there in
          let j = h.2 in
          elim (was_there p l is) [
            | inl new ↦ unasked q h.0 m h.1 (sym j.asked ∙ asked) (sym same ∙ new.2)
            | inr old ↦ woven.asked_apart p old.0 q h.0 m old.1 h.1 (sym j.asked ∙ asked) (sym old.3 ∙ same)
          ];
      small = λ p l is. elim (was_there p l is) [
        | inl new ↦ subst (λ k. k < 2 ^ 128) (sym new.2) small
        | inr old ↦ subst (λ k. k < 2 ^ 128) (sym old.3) (woven.small p old.0 old.1)
      ];
    }

-- the first of a list leaves it
module _ (heads new_heads : ℕ → Option Head) (links new_links : Spot → Option Link) (spot : Spot) (gone : Link) (woven : IsWoven heads links) (untied : IsUntied heads new_heads links new_links spot gone) where
  rows_rest : (i : Spot) → (i ≡ spot → ⊥) → row_of new_links i ≡ row_of links i
  rows_rest i apart = ap row_some (untied.rest i apart)

  was_row : row_of links spot ≡ Some (gone.task, gone.number)
  was_row = row_is links spot gone untied.there

  only_one : (i : Spot) → row_of links i ≡ row_with gone.task gone.number → i ≡ spot
  only_one i is = let l = link_is links i gone.task gone.number is in woven.apart i spot l.0 gone l.1 untied.there l.3

  link_was : (p : Spot) (l : Link) → new_links p ≡ Some l → (p ≡ spot → ⊥) × (links p ≡ Some l)
  link_was p l is =
      elim (same_spot p spot) [
        | inl same ↦ absurd (not_none (new_links p) l (ap new_links same ∙ untied.here) is)
        | inr apart ↦ (apart, sym (untied.rest p apart) ∙ is)
      ]

  -- the first of another list is another
  first_apart : (q : ℕ) (old : Head) → heads q ≡ Some old → (q ≡ gone.task → ⊥) → old.first ≡ Some spot → ⊥
  first_apart q old is apart first =
      let leads = subst (Leads (row_of links) q None) first (woven.firsts q old is) in
      apart (same_key (sym leads.1 ∙ was_row)).0

  -- nothing stands before the first
  next_apart : (head : Head) → heads gone.task ≡ Some head → head.first ≡ Some spot → (p : Spot) (l : Link) → links p ≡ Some l → l.next ≡ Some spot → ⊥
  next_apart head is first p l there after =
      let leads = subst (Leads (row_of links) l.task (Some l.number)) after (woven.nexts p l there) in
      let row = same_key (sym leads.1 ∙ was_row) in
      let front = subst (Leads (row_of links) gone.task None) first (woven.firsts gone.task head is) in
      let front_key = (same_key (sym front.1 ∙ was_row)).1 in
      let least = front.3 p l.number (row_is links p l there ∙ ap (λ t. row_with t l.number) row.0) tt in
      let above = leads.2 in
      let key = row.1 in
      omega arith

  end_stays_on : (q : ℕ) (first last : Option Spot) (other : Option Spot) → (last ≡ Some spot → ⊥) → (first ≡ None → other ≡ None) → IsEnd links q first last → IsEnd new_links q other last
  end_stays_on q first None other apart empty end = empty end
  end_stays_on q first (Some p) other apart empty end = (end.0, untied.rest p (λ same. apart (ap Some same)) ∙ end.1, end.2, end.3)

  -- the end of the list that the first left
  end_after : (q : ℕ) (old : Head) → heads q ≡ Some old → q ≡ gone.task → old.first ≡ Some spot → (next : Option Spot) → gone.next ≡ next → IsEnd new_links q next (last_behind next old.last)
  end_after q old is at first None next = refl
  end_after q old is at first (Some n) next =
      elim (none_or_some old.last) [
        | inl none ↦ absurd (not_none old.first spot (subst (λ o. IsEnd links q old.first o) none (woven.lasts q old is)) first)
        | inr some ↦
            let end = subst (λ o. IsEnd links q old.first o) some.1 (woven.lasts q old is) in
            subst (λ o. IsEnd new_links q (Some n) o) (sym some.1) (
              end.0,
              untied.rest some.0 (λ same.
                  let one : end.0 ≡ gone = same_some end.0 gone (sym end.1 ∙ ap links same ∙ untied.there) in
                  not_none gone.next n (ap (λ (l : Link). l.next) (sym one) ∙ end.3) next) ∙ end.1,
              end.2,
              end.3,
            )
      ]

  last_apart : (head : Head) → heads gone.task ≡ Some head → (q : ℕ) (old : Head) → heads q ≡ Some old → (q ≡ gone.task → ⊥) → old.last ≡ Some spot → ⊥
  last_apart head is q old there apart last =
      let end = subst (λ o. IsEnd links q old.first o) last (woven.lasts q old there) in
      let one : end.0 ≡ gone = same_some end.0 gone (sym end.1 ∙ untied.there) in
      apart (sym end.2 ∙ ap (λ (l : Link). l.task) one)

  pub untied-woven : (head : Head) → heads gone.task ≡ Some head → head.first ≡ Some spot → IsWoven new_heads new_links
  untied-woven top top_is top_first = record {
    firsts = λ q head is. let h = untied.heads_from q head is in elim h.5 [
      | inl own ↦
          subst (λ t. Leads (row_of new_links) t None head.first) (sym own.0)
          (subst (Leads (row_of new_links) gone.task None) (sym own.2)
          (leads_over same_spot (row_of links) (row_of new_links) spot gone.task gone.number was_row (no_row new_links spot untied.here) rows_rest None gone.next only_one
          (subst (Leads (row_of links) gone.task None) top_first (woven.firsts gone.task top top_is))
          (woven.nexts spot gone untied.there)))
      | inr other ↦
          subst (Leads (row_of new_links) q None) (sym other.1)
          (leads_past same_spot (row_of links) (row_of new_links) spot gone.task gone.number was_row (no_row new_links spot untied.here) rows_rest q None h.0.first (first_apart q h.0 h.1 other.0) (woven.firsts q h.0 h.1))
    ];
    nexts = λ p link is.
        let w = link_was p link is in
        leads_past same_spot (row_of links) (row_of new_links) spot gone.task gone.number was_row (no_row new_links spot untied.here) rows_rest link.task (Some link.number) link.next (next_apart top top_is top_first p link w.1) (woven.nexts p link w.1);
    lasts = λ q head is. let h = untied.heads_from q head is in elim h.5 [
      | inl own ↦ subst (λ o. IsEnd new_links q head.first o) (sym own.3) (subst (λ o. IsEnd new_links q o (last_behind gone.next h.0.last)) (sym own.2) (end_after q h.0 h.1 own.0 own.1 gone.next refl))
      | inr other ↦ subst (λ o. IsEnd new_links q head.first o) (sym other.2) (end_stays_on q h.0.first h.0.last head.first (last_apart top top_is q h.0 h.1 other.0) (λ none. other.1 ∙ none) (woven.lasts q h.0 h.1))
    ];
    home = λ p link is.
        let w = link_was p link is in
        let h = woven.home p link w.1 in
        let a = untied.heads_to p.task h.0 h.2 in
        let b = untied.heads_to link.task h.1 h.3 in
        (a.0, b.0, a.1, b.1, b.2 ∙ h.4 ∙ sym a.2, a.3 ∙ h.5);
    apart = λ p q l m one two. woven.apart p q l m (link_was p l one).1 (link_was q m two).1;
    asked_apart = λ p l q head m is there asked same.
        let h = untied.heads_from q head there in
        woven.asked_apart p l q h.0 m (link_was p l is).1 h.1 (sym h.4 ∙ asked) same;
    small = λ p l is. woven.small p l (link_was p l is).1;
  }
