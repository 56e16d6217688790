-- An input that is written into a list joins it.
use Rattle.std.proofs.Common.{◌≡◌, ℕ, true, false, cond, ◌&&◌, Option, Some, None, IsSome, nat_eq, refl, sym, ap, ◌∙◌, ◌⊎◌, inl, inr, arith}
use Rattle.std.specs.Option.{option_map}
use Rattle.std.proofs.lemmas.Bool.Decides.{nat_tests}
use Rattle.task_states.proofs.Maps.{same_or_not, test_same, test_apart}
use Rattle.task_states.proofs.Options.{not_none, same_some, map_behind}
use Rattle.task_links.specs.declared.entries.Entry.{Entry}
use Rattle.task_links.specs.declared.entries.Link.{Link}
use Rattle.task_links.specs.declared.entries.Spot.{Spot}
use Rattle.task_links.specs.Inside.{is_spot}
use Rattle.task_links.specs.Weave.{Head, head_of, head_at, is_at, with_next_at, with_ends, with_joined, with_passed, instead, last_behind, IsGap, IsJoined, IsRelinked, IsTied, IsUntied}
use Rattle.task_links.proofs.Weaving.{same_spot}

pub spot_same : (a : Spot) → is_spot a a ≡ true
spot_same a = ap (λ b. b && nat_eq a.place a.place) (test_same a.task) ∙ test_same a.place

pub spot_from : (a b : Spot) → is_spot a b ≡ true → a ≡ b
spot_from a b is =
    let one : a.task ≡ b.task = grind (arith, nat_tests) in
    let two : a.place ≡ b.place = grind (arith, nat_tests) in
    λ i. record { task = one i; place = two i }

pub spot_apart : (a b : Spot) → (a ≡ b → ⊥) → is_spot a b ≡ false
spot_apart a b apart = elim (is_spot a b) as (λ t. is_spot a b ≡ t → t ≡ false) [ true ↦ λ is. absurd (apart (spot_from a b is)) | false ↦ λ _. refl ] refl

pub at_or_not : (spot : Spot) (o : Option Spot) → ((o ≡ Some spot) × (is_at spot o ≡ true)) ⊎ ((o ≡ Some spot → ⊥) × (is_at spot o ≡ false))
at_or_not spot None = inr (λ is. not_none None spot refl is, refl)
at_or_not spot (Some other) =
    elim (same_spot spot other) [
      | inl same ↦ inl (ap Some (sym same), ap (is_spot spot) (sym same) ∙ spot_same spot)
      | inr apart ↦ inr (λ is. apart (sym (same_some other spot is)), spot_apart spot other apart)
    ]

other_joined : (q task : ℕ) (own : Head) (before : Option Spot) (spot : Spot) (next : Option Spot) (o : Option Head) → nat_eq q task ≡ false
    → option_map (with_joined q task before spot next) o ≡ option_map (with_ends q task (instead before spot own.first) (instead next spot own.last)) o
other_joined q task own before spot next None test = refl
other_joined q task own before spot next (Some h) test =
    ap (λ b. Some (record h { first = cond b (instead before spot h.first) h.first; last = cond b (instead next spot h.last) h.last })) test
    ∙ sym (ap (λ b. Some (record h { first = cond b (instead before spot own.first) h.first; last = cond b (instead next spot own.last) h.last })) test)

-- the ends of a list that an input joined, by the head that was there
pub joined_as : (heads new_heads : ℕ → Option Head) (task : ℕ) (own : Head) (before : Option Spot) (spot : Spot) (next : Option Spot) → heads task ≡ Some own
    → ((q : ℕ) → new_heads q ≡ option_map (with_joined q task before spot next) (heads q))
    → (q : ℕ) → new_heads q ≡ option_map (with_ends q task (instead before spot own.first) (instead next spot own.last)) (heads q)
joined_as heads new_heads task own before spot next is made q =
    made q
    ∙ elim (same_or_not q task) [
      | inl same ↦
          let there : heads q ≡ Some own = ap heads same ∙ is in
          ap (option_map (with_joined q task before spot next)) there ∙ sym (ap (option_map (with_ends q task (instead before spot own.first) (instead next spot own.last))) there)
      | inr apart ↦ other_joined q task own before spot next (heads q) (test_apart q task apart)
    ]

other_passed : (q task : ℕ) (own : Head) (next : Option Spot) (o : Option Head) → nat_eq q task ≡ false → option_map (with_passed q task next) o ≡ option_map (with_ends q task next (last_behind next own.last)) o
other_passed q task own next None test = refl
other_passed q task own next (Some h) test =
    ap (λ b. Some (record h { first = cond b next h.first; last = cond b (last_behind next h.last) h.last })) test
    ∙ sym (ap (λ b. Some (record h { first = cond b next h.first; last = cond b (last_behind next own.last) h.last })) test)

-- the ends of a list whose first has gone, by the head that was there
pub passed_as : (heads new_heads : ℕ → Option Head) (task : ℕ) (own : Head) (next : Option Spot) → heads task ≡ Some own
    → ((q : ℕ) → new_heads q ≡ option_map (with_passed q task next) (heads q)) → (q : ℕ) → new_heads q ≡ option_map (with_ends q task next (last_behind next own.last)) (heads q)
passed_as heads new_heads task own next is made q =
    made q
    ∙ elim (same_or_not q task) [
      | inl same ↦
          let there : heads q ≡ Some own = ap heads same ∙ is in
          ap (option_map (with_passed q task next)) there ∙ sym (ap (option_map (with_ends q task next (last_behind next own.last))) there)
      | inr apart ↦ other_passed q task own next (heads q) (test_apart q task apart)
    ]

-- what heads the list of a task that is there
pub head_there : {K : Type 0} (entries : ℕ → Option (Entry K)) (task : ℕ) → IsSome (entries task) → (head : Head) × (head_at entries task ≡ Some head)
head_there entries task there = elim (entries task) as (λ (o : Option (Entry _)). IsSome o → (head : Head) × (option_map head_of o ≡ Some head)) [ None ↦ λ none. absurd (cc) | Some entry ↦ λ _. (head_of entry, refl) ] there

module _ (heads new_heads : ℕ → Option Head) (links new_links : Spot → Option Link) (spot : Spot) (link : Link) (before : Option Spot) (own : Head)
    (free : links spot ≡ None) (gap : IsGap heads links link.task link.number before link.next) (own_is : heads link.task ≡ Some own)
    (made_links : (p : Spot) → new_links p ≡ option_map (with_next_at p before (Some spot)) (cond (is_spot p spot) (Some link) (links p)))
    (made_heads : (q : ℕ) → new_heads q ≡ option_map (with_ends q link.task (instead before spot own.first) (instead link.next spot own.last)) (heads q)) where
  linked : (before : Option Spot) → IsGap heads links link.task link.number before link.next → before ≡ Some spot → ⊥
  linked None gap is = not_none None spot refl is
  linked (Some p) gap is = not_none (links spot) gap.0 free (sym (ap links (same_some p spot is)) ∙ gap.1)

  made_here : new_links spot ≡ Some link
  made_here =
      elim (at_or_not spot before) [
        | inl at ↦ absurd (linked before gap at.0)
        | inr apart ↦
            made_links spot
            ∙ ap (λ b. option_map (with_next_at spot before (Some spot)) (cond b (Some link) (links spot))) (spot_same spot)
            ∙ ap (λ b. Some (record link { next = cond b (Some spot) link.next })) apart.1
      ]

  made_other : (p : Spot) → (p ≡ spot → ⊥) → new_links p ≡ option_map (with_next_at p before (Some spot)) (links p)
  made_other p apart = made_links p ∙ ap (λ b. option_map (with_next_at p before (Some spot)) (cond b (Some link) (links p))) (spot_apart p spot apart)

  rows_same : (p : Spot) (o : Option Link) → option_map {U = ℕ × ℕ} (λ (l : Link). (l.task, l.number)) (option_map (with_next_at p before (Some spot)) o) ≡ option_map {U = ℕ × ℕ} (λ (l : Link). (l.task, l.number)) o
  rows_same p None = refl
  rows_same p (Some l) = refl

  relinked : (p : Spot) (old new : Link) → with_next_at p before (Some spot) old ≡ new → IsRelinked old new p before spot
  relinked p old new is = record {
    task = ap (λ (l : Link). l.task) (sym is);
    number = ap (λ (l : Link). l.number) (sym is);
    next = elim (at_or_not p before) [
      | inl at ↦ inl (at.0, ap (λ (l : Link). l.next) (sym is) ∙ ap (λ b. cond b (Some spot) old.next) at.1)
      | inr apart ↦ inr (apart.0, ap (λ (l : Link). l.next) (sym is) ∙ ap (λ b. cond b (Some spot) old.next) apart.1)
    ];
  }

  put_first : (q : ℕ) (b : Option Spot) (old : Head) (first : Option Spot) → heads q ≡ Some old → first ≡ cond (nat_eq q link.task) (instead b spot own.first) old.first
      → ((q ≡ link.task) × (b ≡ None) × (first ≡ Some spot)) ⊎ ((q ≡ link.task → b ≡ None → ⊥) × (first ≡ old.first))
  put_first q b old first is made =
      elim (same_or_not q link.task) [
        | inl same ↦
            let test : nat_eq q link.task ≡ true = ap (λ t. nat_eq t link.task) same ∙ test_same link.task in
            let one : own ≡ old = same_some own old (sym own_is ∙ sym (ap heads same) ∙ is) in
            let now : first ≡ instead b spot own.first = made ∙ ap (λ t. cond t (instead b spot own.first) old.first) test in
            elim b as (λ b. first ≡ instead b spot own.first → ((q ≡ link.task) × (b ≡ None) × (first ≡ Some spot)) ⊎ ((q ≡ link.task → b ≡ None → ⊥) × (first ≡ old.first))) [
              | None ↦ λ now. inl (same, refl, now)
              | Some p ↦ λ now. inr (λ _ none. not_none (Some p) p none refl, now ∙ ap (λ (h : Head). h.first) one)
            ] now
        | inr apart ↦ inr (λ same. absurd (apart same), made ∙ ap (λ t. cond t (instead b spot own.first) old.first) (test_apart q link.task apart))
      ]

  put_last : (q : ℕ) (b : Option Spot) (old : Head) (last : Option Spot) → heads q ≡ Some old → last ≡ cond (nat_eq q link.task) (instead b spot own.last) old.last
      → ((q ≡ link.task) × (b ≡ None) × (last ≡ Some spot)) ⊎ ((q ≡ link.task → b ≡ None → ⊥) × (last ≡ old.last))
  put_last q b old last is made =
      elim (same_or_not q link.task) [
        | inl same ↦
            let test : nat_eq q link.task ≡ true = ap (λ t. nat_eq t link.task) same ∙ test_same link.task in
            let one : own ≡ old = same_some own old (sym own_is ∙ sym (ap heads same) ∙ is) in
            let now : last ≡ instead b spot own.last = made ∙ ap (λ t. cond t (instead b spot own.last) old.last) test in
            elim b as (λ b. last ≡ instead b spot own.last → ((q ≡ link.task) × (b ≡ None) × (last ≡ Some spot)) ⊎ ((q ≡ link.task → b ≡ None → ⊥) × (last ≡ old.last))) [
              | None ↦ λ now. inl (same, refl, now)
              | Some p ↦ λ now. inr (λ _ none. not_none (Some p) p none refl, now ∙ ap (λ (h : Head). h.last) one)
            ] now
        | inr apart ↦ inr (λ same. absurd (apart same), made ∙ ap (λ t. cond t (instead b spot own.last) old.last) (test_apart q link.task apart))
      ]

  joined : (q : ℕ) (old new : Head) → heads q ≡ Some old → with_ends q link.task (instead before spot own.first) (instead link.next spot own.last) old ≡ new → IsJoined old new (q ≡ link.task) before link.next spot
  joined q old new is made = record {
    caller = ap (λ (h : Head). h.caller) (sym made);
    runner = ap (λ (h : Head). h.runner) (sym made);
    asked = ap (λ (h : Head). h.asked) (sym made);
    first = put_first q before old new.first is (ap (λ (h : Head). h.first) (sym made));
    last = put_last q link.next old new.last is (ap (λ (h : Head). h.last) (sym made));
  }

  pub tied : IsTied heads new_heads links new_links spot link.task link.number before link.next
  tied = record {
    here = made_here;
    rows = λ p apart. ap (option_map {U = ℕ × ℕ} (λ (l : Link). (l.task, l.number))) (made_other p apart) ∙ rows_same p (links p);
    nexts = λ p l apart is.
        let behind = map_behind (with_next_at p before (Some spot)) (links p) l (sym (made_other p apart) ∙ is) in
        (behind.0, behind.1, relinked p behind.0 l behind.2);
    heads_from = λ q head is.
        let behind = map_behind (with_ends q link.task (instead before spot own.first) (instead link.next spot own.last)) (heads q) head (sym (made_heads q) ∙ is) in
        (behind.0, behind.1, joined q behind.0 head behind.1 behind.2);
    heads_to = λ q head is. (
      with_ends q link.task (instead before spot own.first) (instead link.next spot own.last) head,
      made_heads q ∙ ap (option_map (with_ends q link.task (instead before spot own.first) (instead link.next spot own.last))) is,
      joined q head _ is refl,
    );
  }

-- the first of a list that is written as a known input leaves it
module _ (heads new_heads : ℕ → Option Head) (links new_links : Spot → Option Link) (spot : Spot) (link : Link) (own : Head)
    (there : links spot ≡ Some link) (own_is : heads link.task ≡ Some own) (first : own.first ≡ Some spot)
    (made_links : (p : Spot) → new_links p ≡ cond (is_spot p spot) None (links p))
    (made_heads : (q : ℕ) → new_heads q ≡ option_map (with_ends q link.task link.next (last_behind link.next own.last)) (heads q)) where
  untied_ends : (q : ℕ) (old new : Head) → heads q ≡ Some old → with_ends q link.task link.next (last_behind link.next own.last) old ≡ new
      → ((q ≡ link.task) × (old.first ≡ Some spot) × (new.first ≡ link.next) × (new.last ≡ last_behind link.next old.last)) ⊎ ((q ≡ link.task → ⊥) × (new.first ≡ old.first) × (new.last ≡ old.last))
  untied_ends q old new is made =
      elim (same_or_not q link.task) [
        | inl same ↦
            let test : nat_eq q link.task ≡ true = ap (λ t. nat_eq t link.task) same ∙ test_same link.task in
            let one : own ≡ old = same_some own old (sym own_is ∙ sym (ap heads same) ∙ is) in
            inl (
              same,
              ap (λ (h : Head). h.first) (sym one) ∙ first,
              ap (λ (h : Head). h.first) (sym made) ∙ ap (λ t. cond t link.next old.first) test,
              ap (λ (h : Head). h.last) (sym made) ∙ ap (λ t. cond t (last_behind link.next own.last) old.last) test ∙ ap (λ (h : Head). last_behind link.next h.last) one,
            )
        | inr apart ↦
            let test = test_apart q link.task apart in
            inr (
              apart,
              ap (λ (h : Head). h.first) (sym made) ∙ ap (λ t. cond t link.next old.first) test,
              ap (λ (h : Head). h.last) (sym made) ∙ ap (λ t. cond t (last_behind link.next own.last) old.last) test,
            )
      ]

  pub untied : IsUntied heads new_heads links new_links spot link
  untied = record {
    there = there;
    here = made_links spot ∙ ap (λ b. cond b None (links spot)) (spot_same spot);
    rest = λ p apart. made_links p ∙ ap (λ b. cond b None (links p)) (spot_apart p spot apart);
    heads_from = λ q head is.
        let behind = map_behind (with_ends q link.task link.next (last_behind link.next own.last)) (heads q) head (sym (made_heads q) ∙ is) in (
          behind.0,
          behind.1,
          ap (λ (h : Head). h.caller) (sym behind.2),
          ap (λ (h : Head). h.runner) (sym behind.2),
          ap (λ (h : Head). h.asked) (sym behind.2),
          untied_ends q behind.0 head behind.1 behind.2,
        );
    heads_to = λ q head is. (with_ends q link.task link.next (last_behind link.next own.last) head, made_heads q ∙ ap (option_map (with_ends q link.task link.next (last_behind link.next own.last))) is, refl, refl);
  }
