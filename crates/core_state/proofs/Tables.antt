-- One ask more, one less, and an ask that was answered.
use Rattle.std.proofs.Common.{◌≡◌, ℕ, Bool, true, false, ◌&&◌, cond, nat_eq, List, Some, None, IsSome, is_some, inl, inr, refl, sym, ap, ◌∙◌}
use Rattle.std.specs.Option.{option_map}
use Rattle.std.specs.Map.{lookup}
use Rattle.std.specs.FinMap as map
use Rattle.cht_ids.specs.declared.refs.Ref.{Ref}
use Rattle.name_states.proofs.Basics.{none_not_some, same_some, same_or_not, same_from_test, test_same, test_apart, none_or_some, inserted_here, inserted_other, removed_here, removed_other}
use Rattle.task_states.specs.Maps.{each_changed}
use Rattle.task_states.proofs.Maps.{same_maps, get-each_changed}
use Rattle.name_machine.specs.States.{Ask}
use Rattle.name_machine.specs.Control.{answered_with, with_number}
use Rattle.core_state.specs.declared.asked.Kept.{Kept}
use Rattle.core_state.specs.Lists.{is_listed}
use Rattle.core_state.specs.Asked.{shown_ask, asks_of, kept_at, AreListed}
use Rattle.core_state.proofs.Asking.{get-asks_of}

-- ---- What stands under a key that was written, and under the others

module _ {X : Type 0} where
  put_here : (key q : ℕ) (v o : X) → key ≡ q → cond (nat_eq key q) v o ≡ v
  put_here key q v o same = ap (λ t. cond t v o) (ap (nat_eq key) (sym same) ∙ test_same key)

  put_other : (key q : ℕ) (v o : X) → (key ≡ q → ⊥) → cond (nat_eq key q) v o ≡ o
  put_other key q v o apart = ap (λ t. cond t v o) (test_apart key q apart)

true_either_way : (b x : Bool) → x ≡ true → cond b true x ≡ true
true_either_way true x is = refl
true_either_way false x is = is

both : (a b : Bool) → (a && b) ≡ true → (a ≡ true) × (b ≡ true)
both true b is = (refl, is)
both false b is = absurd (let clash : false ≡ true = is in cc)

both_tests : (a b c d : ℕ) → a ≡ b → c ≡ d → (nat_eq a b && nat_eq c d) ≡ true
both_tests a b c d p q = ap (λ x. x && nat_eq c d) (ap (nat_eq a) (sym p) ∙ test_same a) ∙ ap (nat_eq c) (sym q) ∙ test_same c

second_fails : (x : Bool) (c d : ℕ) → (c ≡ d → ⊥) → (x && nat_eq c d) ≡ false
second_fails true c d apart = test_apart c d apart
second_fails false c d apart = refl

-- ---- What contracts see

module _ (es es2 : List (ℕ × Kept)) where
  pub asks_same : ((q : ℕ) → kept_at es2 q ≡ kept_at es q) → asks_of es2 ≡ asks_of es
  asks_same same = same_maps (asks_of es2) (asks_of es) (λ q. get-asks_of es2 q ∙ ap (option_map shown_ask) (same q) ∙ sym (get-asks_of es q))

  -- an ask put in
  pub asks_put : (task : ℕ) (kept : Kept) → ((q : ℕ) → kept_at es2 q ≡ cond (nat_eq task q) (Some kept) (kept_at es q))
      → asks_of es2 ≡ map.insert (asks_of es) task (shown_ask kept)
  asks_put task kept put =
      same_maps (asks_of es2) (map.insert (asks_of es) task (shown_ask kept)) (λ q. elim (same_or_not task q) [
        | inl same ↦
            get-asks_of es2 q
            ∙ ap (option_map shown_ask) (put q ∙ put_here task q (Some kept) (kept_at es q) same)
            ∙ sym (inserted_here (asks_of es) task q (shown_ask kept) (shown_ask kept) (sym same) refl)
        | inr apart ↦
            get-asks_of es2 q
            ∙ ap (option_map shown_ask) (put q ∙ put_other task q (Some kept) (kept_at es q) apart)
            ∙ sym (get-asks_of es q)
            ∙ sym (inserted_other (asks_of es) task q (shown_ask kept) (λ e. apart (sym e)))
      ])

  -- an ask taken out
  pub asks_less : (task : ℕ) → ((q : ℕ) → kept_at es2 q ≡ cond (nat_eq task q) None (kept_at es q)) → asks_of es2 ≡ map.remove (asks_of es) task
  asks_less task less =
      same_maps (asks_of es2) (map.remove (asks_of es) task) (λ q. elim (same_or_not task q) [
        | inl same ↦
            get-asks_of es2 q ∙ ap (option_map shown_ask) (less q ∙ put_here task q None (kept_at es q) same) ∙ sym (removed_here (asks_of es) task q (sym same))
        | inr apart ↦
            get-asks_of es2 q
            ∙ ap (option_map shown_ask) (less q ∙ put_other task q None (kept_at es q) apart)
            ∙ sym (get-asks_of es q)
            ∙ sym (removed_other (asks_of es) task q (λ e. apart (sym e)))
      ])

-- ---- An answer

-- an ask with another number stays as it is
answered_not : (number : ℕ) (r : Ref) (ask : Ask (Unit {0}) Ref) → (ask.number ≡ number → ⊥) → answered_with (Some number) r ask ≡ ask
answered_not number r ask apart = ap (λ t. cond t (record ask { delivered = Some (with_number r number) }) ask) (test_apart ask.number number apart)

answered_here : (number : ℕ) (r : Ref) (ask : Ask (Unit {0}) Ref) → ask.number ≡ number → answered_with (Some number) r ask ≡ record ask { delivered = Some (with_number r number) }
answered_here number r ask same =
    ap (λ t. cond t (record ask { delivered = Some (with_number r number) }) ask) (ap (λ n. nat_eq n number) same ∙ test_same number)

module _ (es : List (ℕ × Kept)) (number : ℕ) (r : Ref) where
  answered_other : (q : ℕ) → ((kept : Kept) → kept_at es q ≡ Some kept → kept.number ≡ number → ⊥)
      → map.get (asks_of es) q ≡ map.get (each_changed (answered_with (Some number) r) (asks_of es)) q
  answered_other q apart =
      elim (none_or_some (kept_at es q)) [
        | inl none ↦
            let at : map.get (asks_of es) q ≡ None = get-asks_of es q ∙ ap (option_map shown_ask) none in
            at ∙ sym (get-each_changed (answered_with (Some number) r) (asks_of es) q ∙ ap (option_map (answered_with (Some number) r)) at)
        | inr some ↦
            let at : map.get (asks_of es) q ≡ Some (shown_ask some.0) = get-asks_of es q ∙ ap (option_map shown_ask) some.1 in
            at
            ∙ sym (get-each_changed (answered_with (Some number) r) (asks_of es) q
            ∙ ap (option_map (answered_with (Some number) r)) at
            ∙ ap Some (answered_not number r (shown_ask some.0) (λ same. apart some.0 some.1 same)))
      ]

  -- no ask has the number
  pub answered_none : (outputs : List (ℕ × ℕ)) (lists : List (List ℕ)) → AreListed es outputs lists → lookup (nat_eq number) outputs ≡ None
      → asks_of es ≡ each_changed (answered_with (Some number) r) (asks_of es)
  answered_none outputs lists rightly none =
      same_maps (asks_of es) (each_changed (answered_with (Some number) r) (asks_of es)) (λ q.
      answered_other q (λ kept is same. none_not_some none (ap (λ n. lookup (nat_eq n) outputs) (sym same) ∙ rightly.output q kept is)))

  -- an ask has it
  pub answered_one : (es2 : List (ℕ × Kept)) (outputs : List (ℕ × ℕ)) (lists : List (List ℕ)) (task : ℕ) (kept : Kept) (output : Ref) → AreListed es outputs lists
      → lookup (nat_eq number) outputs ≡ Some task → kept_at es task ≡ Some kept → output ≡ with_number r number
      → ((q : ℕ) → kept_at es2 q ≡ cond (nat_eq task q) (Some (record kept { delivered = Some output })) (kept_at es q))
      → asks_of es2 ≡ each_changed (answered_with (Some number) r) (asks_of es)
  answered_one es2 outputs lists task kept output rightly leads is made put =
      let there = rightly.asked number task leads in
      let number_is : kept.number ≡ number = ap (λ (k : Kept). k.number) (same_some kept there.0 (sym is ∙ there.1)) ∙ there.2 in
      let now : Kept = record kept { delivered = Some output } in
      same_maps (asks_of es2) (each_changed (answered_with (Some number) r) (asks_of es)) (λ q. elim (same_or_not task q) [
        | inl same ↦
            get-asks_of es2 q
            ∙ ap (option_map shown_ask) (put q ∙ put_here task q (Some now) (kept_at es q) same)
            ∙ ap (λ o. Some (record (shown_ask kept) { delivered = Some o })) made
            ∙ ap Some (sym (answered_here number r (shown_ask kept) number_is))
            ∙ sym (get-each_changed (answered_with (Some number) r) (asks_of es) q
            ∙ ap (option_map (answered_with (Some number) r)) (ap (map.get (asks_of es)) (sym same) ∙ get-asks_of es task ∙ ap (option_map shown_ask) is))
        | inr apart ↦
            get-asks_of es2 q
            ∙ ap (option_map shown_ask) (put q ∙ put_other task q (Some now) (kept_at es q) apart)
            ∙ sym (get-asks_of es q)
            ∙ answered_other q (λ other at same. apart (same_some task q (sym leads ∙ ap (λ n. lookup (nat_eq n) outputs) (sym same) ∙ rightly.output q other at)))
      ])

-- ---- What leads to the asks

module _ (es es2 : List (ℕ × Kept)) (outputs outputs2 : List (ℕ × ℕ)) (lists lists2 : List (List ℕ)) (rightly : AreListed es outputs lists) where
  pub listed_same : ((q : ℕ) → kept_at es2 q ≡ kept_at es q) → ((n : ℕ) → lookup (nat_eq n) outputs2 ≡ lookup (nat_eq n) outputs)
      → ((c q : ℕ) → is_listed lists2 c q ≡ is_listed lists c q) → AreListed es2 outputs2 lists2
  listed_same tasks numbers rows = record {
    output = λ q k is. numbers k.number ∙ rightly.output q k (sym (tasks q) ∙ is);
    asked = λ n q is. let was = rightly.asked n q (sym (numbers n) ∙ is) in (was.0, tasks q ∙ was.1, was.2);
    listed = λ q k is. rows k.caller q ∙ rightly.listed q k (sym (tasks q) ∙ is);
    own = λ c q is. let was = rightly.own c q (sym (rows c q) ∙ is) in (was.0, tasks q ∙ was.1, was.2);
  }

  -- one ask more
  pub listed_more : (task : ℕ) (kept : Kept) → kept_at es task ≡ None → ((q : ℕ) (k : Kept) → kept_at es q ≡ Some k → k.number ≡ kept.number → ⊥)
      → ((q : ℕ) → kept_at es2 q ≡ cond (nat_eq task q) (Some kept) (kept_at es q))
      → ((n : ℕ) → lookup (nat_eq n) outputs2 ≡ cond (nat_eq kept.number n) (Some task) (lookup (nat_eq n) outputs))
      → ((c q : ℕ) → is_listed lists2 c q ≡ cond (nat_eq kept.caller c && nat_eq task q) true (is_listed lists c q)) → AreListed es2 outputs2 lists2
  listed_more task kept absent fresh tasks numbers rows = record {
    output = λ q k is. elim (same_or_not task q) [
      | inl same ↦
          let here : kept ≡ k = same_some kept k (sym (tasks q ∙ put_here task q (Some kept) (kept_at es q) same) ∙ is) in
          numbers k.number ∙ put_here kept.number k.number (Some task) (lookup (nat_eq k.number) outputs) (ap (λ (x : Kept). x.number) here) ∙ ap Some same
      | inr apart ↦
          let old : kept_at es q ≡ Some k = sym (tasks q ∙ put_other task q (Some kept) (kept_at es q) apart) ∙ is in
          numbers k.number ∙ put_other kept.number k.number (Some task) (lookup (nat_eq k.number) outputs) (λ e. fresh q k old (sym e)) ∙ rightly.output q k old
    ];
    asked = λ n q is. elim (same_or_not kept.number n) [
      | inl same ↦
          let at : task ≡ q = same_some task q (sym (numbers n ∙ put_here kept.number n (Some task) (lookup (nat_eq n) outputs) same) ∙ is) in
          (kept, tasks q ∙ put_here task q (Some kept) (kept_at es q) at, same)
      | inr apart ↦
          let was = rightly.asked n q (sym (numbers n ∙ put_other kept.number n (Some task) (lookup (nat_eq n) outputs) apart) ∙ is) in
          (was.0, tasks q ∙ put_other task q (Some kept) (kept_at es q) (λ e. none_not_some absent (ap (kept_at es) e ∙ was.1)) ∙ was.1, was.2)
    ];
    listed = λ q k is. elim (same_or_not task q) [
      | inl same ↦
          let here : kept ≡ k = same_some kept k (sym (tasks q ∙ put_here task q (Some kept) (kept_at es q) same) ∙ is) in
          rows k.caller q ∙ ap (λ t. cond t true (is_listed lists k.caller q)) (both_tests kept.caller k.caller task q (ap (λ (x : Kept). x.caller) here) same)
      | inr apart ↦
          let old : kept_at es q ≡ Some k = sym (tasks q ∙ put_other task q (Some kept) (kept_at es q) apart) ∙ is in
          rows k.caller q ∙ true_either_way (nat_eq kept.caller k.caller && nat_eq task q) (is_listed lists k.caller q) (rightly.listed q k old)
    ];
    own = λ c q is. elim (nat_eq kept.caller c && nat_eq task q) as
        (λ b. (nat_eq kept.caller c && nat_eq task q) ≡ b → (k : Kept) × (kept_at es2 q ≡ Some k) × (k.caller ≡ c)) [
          | true ↦ λ passes.
              let tests = both _ _ passes in
              (kept, tasks q ∙ put_here task q (Some kept) (kept_at es q) (same_from_test task q tests.1), same_from_test kept.caller c tests.0)
          | false ↦ λ fails.
              let was = rightly.own c q (sym (rows c q ∙ ap (λ t. cond t true (is_listed lists c q)) fails) ∙ is) in
              (was.0, tasks q ∙ put_other task q (Some kept) (kept_at es q) (λ e. none_not_some absent (ap (kept_at es) e ∙ was.1)) ∙ was.1, was.2)
        ] refl;
  }

  -- one ask less
  pub listed_less : (task : ℕ) (kept : Kept) → kept_at es task ≡ Some kept
      → ((q : ℕ) → kept_at es2 q ≡ cond (nat_eq task q) None (kept_at es q))
      → ((n : ℕ) → lookup (nat_eq n) outputs2 ≡ cond (nat_eq kept.number n) None (lookup (nat_eq n) outputs))
      → ((c q : ℕ) → is_listed lists2 c q ≡ cond (nat_eq kept.caller c && nat_eq task q) false (is_listed lists c q)) → AreListed es2 outputs2 lists2
  listed_less task kept there tasks numbers rows =
      let stays : (q : ℕ) (k : Kept) → kept_at es2 q ≡ Some k → (task ≡ q → ⊥) × (kept_at es q ≡ Some k) = λ q k is. elim (same_or_not task q) [
        | inl same ↦ absurd (none_not_some (tasks q ∙ put_here task q None (kept_at es q) same) is)
        | inr apart ↦ (apart, sym (tasks q ∙ put_other task q None (kept_at es q) apart) ∙ is)
      ] in
      let itself : (q : ℕ) (k : Kept) → kept_at es q ≡ Some k → task ≡ q → kept ≡ k = λ q k is same. same_some kept k (sym there ∙ ap (kept_at es) same ∙ is) in
      record {
        output = λ q k is.
            let old = stays q k is in
            numbers k.number
            ∙ put_other kept.number k.number None (lookup (nat_eq k.number) outputs)
            (λ e. old.0 (same_some task q (sym (rightly.output task kept there) ∙ ap (λ n. lookup (nat_eq n) outputs) e ∙ rightly.output q k old.1)))
            ∙ rightly.output q k old.1;
        asked = λ n q is. elim (same_or_not kept.number n) [
          | inl same ↦ absurd (none_not_some (numbers n ∙ put_here kept.number n None (lookup (nat_eq n) outputs) same) is)
          | inr apart ↦
              let was = rightly.asked n q (sym (numbers n ∙ put_other kept.number n None (lookup (nat_eq n) outputs) apart) ∙ is) in
              (was.0, tasks q ∙ put_other task q None (kept_at es q) (λ e. apart (ap (λ (x : Kept). x.number) (itself q was.0 was.1 e) ∙ was.2)) ∙ was.1, was.2)
        ];
        listed = λ q k is.
            let old = stays q k is in
            rows k.caller q ∙ ap (λ t. cond t false (is_listed lists k.caller q)) (second_fails (nat_eq kept.caller k.caller) task q old.0) ∙ rightly.listed q k old.1;
        own = λ c q is. elim (nat_eq kept.caller c && nat_eq task q) as
            (λ b. (nat_eq kept.caller c && nat_eq task q) ≡ b → (k : Kept) × (kept_at es2 q ≡ Some k) × (k.caller ≡ c)) [
              | true ↦ λ passes. absurd (let clash : false ≡ true = sym (rows c q ∙ ap (λ t. cond t false (is_listed lists c q)) passes) ∙ is in cc)
              | false ↦ λ fails.
                  let was = rightly.own c q (sym (rows c q ∙ ap (λ t. cond t false (is_listed lists c q)) fails) ∙ is) in
                  let apart : task ≡ q → ⊥ = λ e.
                  let passes = both_tests kept.caller c task q (ap (λ (x : Kept). x.caller) (itself q was.0 was.1 e) ∙ was.2) e in
                  let clash : false ≡ true = sym fails ∙ passes in
                  cc in
                  (was.0, tasks q ∙ put_other task q None (kept_at es q) apart ∙ was.1, was.2)
            ] refl;
      }

-- another ask under the same task, with the same caller and number
pub listed_written : (es es2 : List (ℕ × Kept)) (outputs : List (ℕ × ℕ)) (lists : List (List ℕ)) (task : ℕ) (kept now : Kept) → AreListed es outputs lists
    → kept_at es task ≡ Some kept → now.caller ≡ kept.caller → now.number ≡ kept.number
    → ((q : ℕ) → kept_at es2 q ≡ cond (nat_eq task q) (Some now) (kept_at es q)) → AreListed es2 outputs lists
listed_written es es2 outputs lists task kept now rightly there caller number tasks =
    let from : (q : ℕ) (k : Kept) → kept_at es2 q ≡ Some k → (old : Kept) × (kept_at es q ≡ Some old) × (k.caller ≡ old.caller) × (k.number ≡ old.number) = λ q k is. elim (same_or_not task q) [
      | inl same ↦
          let here : now ≡ k = same_some now k (sym (tasks q ∙ put_here task q (Some now) (kept_at es q) same) ∙ is) in
          (kept, ap (kept_at es) (sym same) ∙ there, ap (λ (x : Kept). x.caller) (sym here) ∙ caller, ap (λ (x : Kept). x.number) (sym here) ∙ number)
      | inr apart ↦ (k, sym (tasks q ∙ put_other task q (Some now) (kept_at es q) apart) ∙ is, refl, refl)
    ] in
    let to : (q : ℕ) (old : Kept) → kept_at es q ≡ Some old → (k : Kept) × (kept_at es2 q ≡ Some k) × (k.caller ≡ old.caller) × (k.number ≡ old.number) = λ q old is. elim (same_or_not task q) [
      | inl same ↦
          let here : kept ≡ old = same_some kept old (sym there ∙ ap (kept_at es) same ∙ is) in
          (now, tasks q ∙ put_here task q (Some now) (kept_at es q) same, caller ∙ ap (λ (x : Kept). x.caller) here, number ∙ ap (λ (x : Kept). x.number) here)
      | inr apart ↦ (old, tasks q ∙ put_other task q (Some now) (kept_at es q) apart ∙ is, refl, refl)
    ] in
    record {
      output = λ q k is. let old = from q k is in ap (λ n. lookup (nat_eq n) outputs) old.3 ∙ rightly.output q old.0 old.1;
      asked = λ n q is. let was = rightly.asked n q is in let k = to q was.0 was.1 in (k.0, k.1, k.3 ∙ was.2);
      listed = λ q k is. let old = from q k is in ap (λ c. is_listed lists c q) old.2 ∙ rightly.listed q old.0 old.1;
      own = λ c q is. let was = rightly.own c q is in let k = to q was.0 was.1 in (k.0, k.1, k.2 ∙ was.2);
    }

-- a task that nobody asked, and one that somebody did
pub not_there : (es : List (ℕ × Kept)) (q : ℕ) → map.get (asks_of es) q ≡ None → kept_at es q ≡ None
not_there es q is =
    elim (none_or_some (kept_at es q)) [
      | inl none ↦ none
      | inr some ↦ absurd (none_not_some is (get-asks_of es q ∙ ap (option_map shown_ask) some.1))
    ]

pub is_there : (es : List (ℕ × Kept)) (q : ℕ) → IsSome (map.get (asks_of es) q) → IsSome (kept_at es q)
is_there es q is =
    elim (none_or_some (kept_at es q)) [
      | inl none ↦ absurd (let clash : false ≡ true = sym (ap is_some (get-asks_of es q ∙ ap (option_map shown_ask) none)) ∙ is in cc)
      | inr some ↦ ap is_some some.1
    ]
