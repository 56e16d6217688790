-- Each kind of step keeps what holds between steps.
use Rattle.std.proofs.Common.{◌≡◌, ◌≢◌, ℕ, zero, suc, ◌<◌, ◌≤◌, ◌==◌, true≢false, List, [], ◌∷◌, ◌++◌, length, set, slice_get, slice_set, slice_index, Option, None, Some, is_some, refl, sym, ap, ◌∙◌, subst, arith, ⊎_elim, inl, inr}
use Rattle.std.specs.Option.{unwrap_or}
use mathlib.Core.Option.{some, none, some-injective, some-ne-none}
use mathlib.Core.Logic.{dite}
use native.Mathlib.Decide.{ℕ_discrete}
use prog.Atomic.{either}
use lib.ListN.{get_elem?}
use Rattle.atomic_table.specs.Table.{State, Act, Me, keeps, takes, gives, Allows, Splits, Joins, Final, Seen, opening}
use Rattle.atomic_table.proofs.Lists.{at_set, at_snoc, at_longer, set_again, set_else}
use Rattle.seat_lock.specs.declared.rule.View.{View}
use Rattle.seat_lock.specs.Steps.{times, Fits, times_in, IsFree, IsTaken, IsKept, Kept, first_view, without_first, first_alone, joined, spent, claiming, released, Claims, Releases}
use Rattle.seat_lock.specs.Seats.{HasTurn}
use Rattle.seat_lock.proofs.Entries

-- a view that rests is not the one in a turn
none_some : {X : Type 0} (o : Option X) (x : X) → o ≡ None → o ≡ Some x → ⊥
none_some o x p q = true≢false (ap is_some (sym q ∙ p))

module _ {V P : Type 0} where
  every_set : (F : ℕ → View V P → Type 0) (views : List (View V P)) (id : ℕ) (w : View V P) → F id w → ((j : ℕ) (u : View V P) → j ≢ id → get_elem? views j ≡ some u → F j u) → (j : ℕ) (u : View V P) → get_elem? (set views id w) j ≡ some u → F j u
  every_set F views id w mine others j u e = ⊎_elim (λ (x : (j ≡ id) × (w ≡ u)). subst (λ (y : ℕ × View V P). F y.0 y.1) (λ i. (sym x.0 i, x.1 i)) mine)
      (λ (x : (j ≢ id) × (get_elem? views j ≡ some u)). others j u x.0 x.1) (at_set views id j w u e)

  every_more : (F : ℕ → View V P → Type 0) (views : List (View V P)) (w : View V P) → ((j : ℕ) (u : View V P) → get_elem? views j ≡ some u → F j u) → ((j : ℕ) → F j w) → (j : ℕ) (u : View V P) → get_elem? (views ++ w ∷ []) j ≡ some u → F j u
  every_more F views w old new j u e = ⊎_elim (λ (x : get_elem? views j ≡ some u). old j u x) (λ (x : w ≡ u). subst (λ (y : View V P). F j y) x (new j)) (at_snoc views w u j e)

  every_one : (F : View V P → Type 0) (w : View V P) → F w → (j : ℕ) (u : View V P) → get_elem? (w ∷ []) j ≡ some u → F u
  every_one F w f zero u e = subst F (some-injective w u e) f
  every_one F w f (suc j) u e = absurd (some-ne-none u (sym e))

  module _ (parts : V → List P) (opened : V) where
    abbrev count : ℕ
    count = length (parts opened)

    pub opens : Kept parts opened (opening (0 ∷ []) (Some opened ∷ []) (first_view (parts opened)))
    opens = let v : View V P = first_view (parts opened) in record {
      alone = λ n. let h = Entries.times_opening n 0 (parts opened) in omega (arith, h);
      counts = λ id u e h. every_one (λ (y : View V P). y.count ≡ count) v refl id u e;
      now = inl (record {
        value = opened;
        word = refl;
        home = refl;
        sized = refl;
        rests = λ id u e. every_one (λ (y : View V P). y.claimed ≡ None) v refl id u e;
        fits = λ id u e. every_one (λ (y : View V P). Fits (parts opened) y.entries) v (Entries.Fits_opening (parts opened)) id u e;
      });
    }

    module _ (s : State (Option V) (View V P)) (kept : Kept parts opened s) where
      -- a view may change where it keeps the numbers of its entries and knows the number of seats
      alone_set : (id : ℕ) (v w : View V P) → get_elem? s.views id ≡ some v → ((n : ℕ) → times n w.entries ≡ times n v.entries) → (n : ℕ) → times_in n (set s.views id w) ≤ 1
      alone_set id v w here same n = let a = Entries.times_set n s.views id v w here in let b = kept.alone n in let c = same n in omega (arith, a, b, c)

      counts_set : (id : ℕ) (v w : View V P) → get_elem? s.views id ≡ some v → (0 < length w.entries → 0 < length v.entries) → w.count ≡ v.count → (j : ℕ) (u : View V P) → get_elem? (set s.views id w) j ≡ some u → 0 < length u.entries → u.count ≡ count
      counts_set id v w here some_ same = every_set (λ j u. 0 < length u.entries → u.count ≡ count) s.views id w (λ h. same ∙ kept.counts id v here (some_ h)) (λ j u ne e. kept.counts j u e)

      abbrev Claimed : ℕ → View V P → List (ℕ × Option V) → Type 0
      Claimed id v c = (w : View V P) × (a : Act (Option V)) × Rattle.atomic_table.specs.Table.Valid s.homes c a × Kept parts opened (Rattle.atomic_table.specs.Table.stepped s 0 (either (slice_index s.words 0 == 0) 1 (slice_index s.words 0)) id c w a)
          × Claims parts (v, c) (slice_index s.words 0) (w, Rattle.atomic_table.specs.Table.carried_after c a)

      claim_free : (id : ℕ) (v : View V P) (c : List (ℕ × Option V)) → 0 < length v.entries → get_elem? s.views id ≡ some v → IsFree parts count s.words s.homes s.views → Claimed id v c
      claim_free id v c seated here f = let w : View V P = claiming parts f.value v in (
        w,
        takes 0 (Some f.value),
        ap (λ hs. get_elem? hs 0) f.home,
        record {
          alone = alone_set id v w here (λ n. refl);
          counts = counts_set id v w here (λ h. h) refl;
          now = inr (record {
            holder = id;
            held = w;
            parts = parts f.value;
            word = ap (λ (ws : List ℕ). slice_set ws 0 (either (slice_index ws 0 == 0) 1 (slice_index ws 0))) f.word;
            home = ap (λ hs. slice_set hs 0 none) f.home;
            sized = f.sized;
            holds = Entries.set_there s.views id v w here;
            claimed = refl;
            seated = seated;
            rests = every_set (λ j u. j ≢ id → u.claimed ≡ None) s.views id w (λ ne. absurd (ne refl)) (λ j u ne e _. f.rests j u e);
            fits = every_set (λ j u. Fits (parts f.value) u.entries) s.views id w (f.fits id v here) (λ j u ne e. f.fits j u e);
          });
        },
        inl (ap (λ (ws : List ℕ). slice_index ws 0) f.word, (f.value, f.sized ∙ sym (kept.counts id v here seated), f.fits id v here, refl)),
      )

      claim_taken : (id : ℕ) (v : View V P) (c : List (ℕ × Option V)) → get_elem? s.views id ≡ some v → IsTaken count s.words s.homes s.views → Claimed id v c
      claim_taken id v c here t = let again : s.views ≡ set s.views id v = sym (set_again s.views id v here) in
          let is : slice_index s.words 0 ≡ 1 = ap (λ (ws : List ℕ). slice_index ws 0) t.word in
          let word : slice_set s.words 0 (either (slice_index s.words 0 == 0) 1 (slice_index s.words 0)) ≡ 1 ∷ [] = ap (λ (ws : List ℕ). slice_set ws 0 (either (slice_index ws 0 == 0) 1 (slice_index ws 0))) t.word in (
            v,
            keeps,
            tt,
            subst (λ vs. IsKept parts count (slice_set s.words 0 (either (slice_index s.words 0 == 0) 1 (slice_index s.words 0))) s.homes vs) again (record {
              alone = kept.alone;
              counts = kept.counts;
              now = inr (record { holder = t.holder; held = t.held; parts = t.parts; word = word; home = t.home; sized = t.sized; holds = t.holds; claimed = t.claimed; seated = t.seated; rests = t.rests; fits = t.fits });
            }),
            inr ((λ z. let e : 1 ≡ 0 = sym is ∙ z in omega (arith, e)), refl),
          )

      abbrev Released : ℕ → View V P → V → Type 0
      Released id v value = (w : View V P) × (a : Act (Option V)) × Rattle.atomic_table.specs.Table.Valid s.homes ((0, Some value) ∷ []) a × Kept parts opened (Rattle.atomic_table.specs.Table.stepped s 0 0 id ((0, Some value) ∷ []) w a)
          × Releases parts (v, (0, Some value) ∷ []) (slice_index s.words 0) (w, Rattle.atomic_table.specs.Table.carried_after ((0, Some value) ∷ []) a)

      release_taken : (id : ℕ) (v : View V P) (value : V) (number : ℕ) → get_elem? s.views id ≡ some v → 1 ≤ times number v.entries
          → (t : IsTaken count s.words s.homes s.views) → length (parts value) ≡ length t.parts → ((i : ℕ) → i ≢ number → slice_get t.parts i ≡ slice_get (parts value) i) → id ≡ t.holder → Released id v value
      release_taken id v value number here mine t len same is = let w : View V P = released parts value v in
          let apart : (j : ℕ) → j ≢ id → j ≢ t.holder = λ j ne e. ne (e ∙ sym is) in
          let others : (j : ℕ) (u : View V P) → j ≢ id → get_elem? s.views j ≡ some u → times number u.entries ≡ 0 = λ j u ne e. let two = Entries.times_two number s.views j id u v ne e here in let one = kept.alone number in omega (arith, two, one, mine) in (
            w,
            gives,
            tt,
            record {
              alone = alone_set id v w here (λ n. Entries.times_renewed n (parts value) v.entries);
              counts = counts_set id v w here (λ h. let e = Entries.length_renewed (parts value) v.entries in omega (arith, h, e)) refl;
              now = inl (record {
                value = value;
                word = ap (λ (ws : List ℕ). slice_set ws 0 0) t.word;
                home = ap (λ hs. slice_set hs 0 (some (Some value))) t.home;
                sized = len ∙ t.sized;
                rests = every_set (λ j u. u.claimed ≡ None) s.views id w refl (λ j u ne e. t.rests j u e (apart j ne));
                fits = every_set (λ j u. Fits (parts value) u.entries) s.views id w (Entries.Fits_renewed t.parts (parts value) v.entries len (t.fits id v here))
                    (λ j u ne e. Entries.Fits_elsewhere t.parts (parts value) number u.entries same (others j u ne e) (t.fits j u e));
              });
            },
            (value, refl, refl, Entries.Fits_renewed t.parts (parts value) v.entries len (t.fits id v here)),
          )

      release_any : (id : ℕ) (v : View V P) (value : V) (ps : List P) (number : ℕ) → get_elem? s.views id ≡ some v → v.claimed ≡ Some ps → 1 ≤ times number v.entries
          → length (parts value) ≡ length ps → ((i : ℕ) → i ≢ number → slice_get ps i ≡ slice_get (parts value) i) → Released id v value
      release_any id v value ps number here claimed mine len same = ⊎_elim
          (λ (f : IsFree parts count s.words s.homes s.views). absurd (none_some v.claimed ps (f.rests id v here) claimed))
          (λ (t : IsTaken count s.words s.homes s.views). dite (ℕ_discrete id t.holder)
          (λ (is : id ≡ t.holder). let one : v ≡ t.held = some-injective v t.held (sym here ∙ ap (λ (k : ℕ). get_elem? s.views k) is ∙ t.holds) in
          let both : ps ≡ t.parts = ap (λ (o : Option (List P)). unwrap_or o []) (sym claimed ∙ ap (λ (y : View V P). y.claimed) one ∙ t.claimed) in
          release_taken id v value number here mine t (len ∙ ap length both) (λ i ne. ap (λ (l : List P). slice_get l i) (sym both) ∙ same i ne) is)
          (λ (ne : id ≢ t.holder). absurd (none_some v.claimed ps (t.rests id v here ne) claimed)))
          kept.now

    pub claims : (slots id : ℕ) (me : Me (Option V) (View V P)) → 0 < length me.0.entries → Allows (Kept parts opened) slots id me 0 (λ n. either (n == 0) 1 n) (Claims parts me)
    claims slots id (v, c) seated s kept one here small = ⊎_elim (λ f. claim_free s kept id v c seated here f) (λ t. claim_taken s kept id v c here t) kept.now

    pub releases : (slots id : ℕ) (me : Me (Option V) (View V P)) (v : View V P) (value : V) (o : Option (List P)) (number : ℕ) → me ≡ (v, (0, Some value) ∷ []) → v.claimed ≡ o → HasTurn number o (parts value) → 1 ≤ times number v.entries
        → Allows (Kept parts opened) slots id me 0 (λ _. 0) (Releases parts me)
    releases slots id me v value None number is claimed never mine = absurd never
    releases slots id me v value (Some ps) number is claimed agree mine = subst (λ (m : Me (Option V) (View V P)). Allows (Kept parts opened) slots id m 0 (λ _. 0) (Releases parts m)) (sym is)
        (λ s kept one here small. release_any s kept id v value ps number here claimed mine agree.0 agree.1)

    -- a new seat takes the first entry of one that rests
    pub splits : (id : ℕ) (v : View V P) → v.claimed ≡ None → Splits (Kept parts opened) id v (without_first v) (first_alone v)
    splits id v rests s kept here = let l : View V P = without_first v in let r : View V P = first_alone v in
        let every : (F : ℕ → View V P → Type 0) → F id l → ((j : ℕ) → F j r) → ((j : ℕ) (u : View V P) → get_elem? s.views j ≡ some u → F j u) → (j : ℕ) (u : View V P) → get_elem? (set s.views id l ++ r ∷ []) j ≡ some u → F j u
        = λ F mine new old. every_more F (set s.views id l) r (every_set F s.views id l mine (λ j u _ e. old j u e)) new in
        let fits : (ps : List P) → ((j : ℕ) (u : View V P) → get_elem? s.views j ≡ some u → Fits ps u.entries) → (j : ℕ) (u : View V P) → get_elem? (set s.views id l ++ r ∷ []) j ≡ some u → Fits ps u.entries
        = λ ps old. every (λ j u. Fits ps u.entries) (Entries.Fits_others ps v.entries (old id v here)) (λ j. Entries.Fits_first ps v.entries (old id v here)) old in record {
          alone = λ n. let a = Entries.times_more n (set s.views id l) r in let b = Entries.times_set n s.views id v l here in let c = Entries.times_cut n v.entries in let d = kept.alone n in omega (arith, a, b, c, d);
          counts = every (λ j u. 0 < length u.entries → u.count ≡ count) (λ h. kept.counts id v here (Entries.length_others v.entries h)) (λ j h. kept.counts id v here (Entries.length_first v.entries h)) kept.counts;
          now = ⊎_elim
              (λ (f : IsFree parts count s.words s.homes s.views). inl (record {
                value = f.value;
                word = f.word;
                home = f.home;
                sized = f.sized;
                rests = every (λ j u. u.claimed ≡ None) rests (λ j. refl) f.rests;
                fits = fits (parts f.value) f.fits;
              }))
              (λ (t : IsTaken count s.words s.homes s.views). let apart : t.holder ≢ id = λ e. none_some v.claimed t.parts rests (ap (λ (y : View V P). y.claimed) (some-injective v t.held (sym here ∙ ap (λ (k : ℕ). get_elem? s.views k) (sym e) ∙ t.holds)) ∙ t.claimed) in
              inr (record {
                holder = t.holder;
                held = t.held;
                parts = t.parts;
                word = t.word;
                home = t.home;
                sized = t.sized;
                holds = at_longer (set s.views id l) (r ∷ []) t.holder t.held (set_else s.views id t.holder l apart ∙ t.holds);
                claimed = t.claimed;
                seated = t.seated;
                rests = every (λ j u. j ≢ t.holder → u.claimed ≡ None) (λ _. rests) (λ j _. refl) t.rests;
                fits = fits t.parts t.fits;
              }))
              kept.now;
        }

    -- a seat that rests, with an entry, takes in those of another one that rests
    pub joins : (id : ℕ) (v : View V P) (other : ℕ) (w : View V P) → v.claimed ≡ None → w.claimed ≡ None → 0 < length v.entries → Joins (Kept parts opened) id v other w (joined v w) spent
    joins id v other w rests gone seated s kept here two there = let b : View V P = joined v w in let vs : List (View V P) = set s.views id b in
        let was : get_elem? s.views other ≡ some w = sym (set_else s.views id other b two) ∙ there in
        let every : (F : ℕ → View V P → Type 0) → F id b → F other spent → ((j : ℕ) (u : View V P) → get_elem? s.views j ≡ some u → F j u) → (j : ℕ) (u : View V P) → get_elem? (set vs other spent) j ≡ some u → F j u
        = λ F mine theirs old. every_set F vs other spent theirs (λ j u _ e. every_set F s.views id b mine (λ k y _ f. old k y f) j u e) in
        let fits : (ps : List P) → ((j : ℕ) (u : View V P) → get_elem? s.views j ≡ some u → Fits ps u.entries) → (j : ℕ) (u : View V P) → get_elem? (set vs other spent) j ≡ some u → Fits ps u.entries
        = λ ps old. every (λ j u. Fits ps u.entries) (Entries.Fits_append ps w.entries v.entries (old other w was) (old id v here)) tt old in record {
          alone = λ n. let a = Entries.times_set n s.views id v b here in let c = Entries.times_set n vs other w spent there in let d = Entries.times_append n w.entries v.entries in let e = kept.alone n in omega (arith, a, c, d, e);
          counts = every (λ j u. 0 < length u.entries → u.count ≡ count) (λ h. kept.counts id v here seated) (λ h. absurd (omega (arith, h))) kept.counts;
          now = ⊎_elim
              (λ (f : IsFree parts count s.words s.homes s.views). inl (record {
                value = f.value;
                word = f.word;
                home = f.home;
                sized = f.sized;
                rests = every (λ j u. u.claimed ≡ None) rests refl f.rests;
                fits = fits (parts f.value) f.fits;
              }))
              (λ (t : IsTaken count s.words s.homes s.views).
              let not_held : (j : ℕ) (u : View V P) → u.claimed ≡ None → get_elem? s.views j ≡ some u → t.holder ≢ j = λ j u none_ at e. none_some u.claimed t.parts none_ (ap (λ (y : View V P). y.claimed) (some-injective u t.held (sym at ∙ ap (λ (k : ℕ). get_elem? s.views k) (sym e) ∙ t.holds)) ∙ t.claimed) in
              inr (record {
                holder = t.holder;
                held = t.held;
                parts = t.parts;
                word = t.word;
                home = t.home;
                sized = t.sized;
                holds = set_else vs other t.holder spent (not_held other w gone was) ∙ set_else s.views id t.holder b (not_held id v rests here) ∙ t.holds;
                claimed = t.claimed;
                seated = t.seated;
                rests = every (λ j u. j ≢ t.holder → u.claimed ≡ None) (λ _. rests) (λ _. refl) t.rests;
                fits = fits t.parts t.fits;
              }))
              kept.now;
        }

    -- where one seat that rests has all numbers, the value is at home, with its parts as that seat remembers them
    pub closes : (id : ℕ) (v : View V P) (ws : List ℕ) (xs : List (Option V)) → v.claimed ≡ None → 0 < length v.entries → ((i : ℕ) → i < v.count → 1 ≤ times i v.entries)
        → Final (Seen (Kept parts opened) id v) ws xs → (value : V) × (get_elem? xs 0 ≡ some (Some value)) × (length (parts value) ≡ v.count) × Fits (parts value) v.entries
    closes id v ws xs rests seated all (s, seen, _, _, homes) = let kept : Kept parts opened s = seen.0 in let here : get_elem? s.views id ≡ some v = seen.1 in
        let sized : v.count ≡ count = kept.counts id v here seated in ⊎_elim
        (λ (f : IsFree parts count s.words s.homes s.views). (f.value, homes 0 (Some f.value) (ap (λ hs. get_elem? hs 0) f.home), f.sized ∙ sym sized, f.fits id v here))
        (λ (t : IsTaken count s.words s.homes s.views). let apart : t.holder ≢ id = λ e. none_some v.claimed t.parts rests (ap (λ (y : View V P). y.claimed) (some-injective v t.held (sym here ∙ ap (λ (k : ℕ). get_elem? s.views k) (sym e) ∙ t.holds)) ∙ t.claimed) in
        let some_ = Entries.some_number t.held.entries t.seated in
        let below = Entries.below t.parts t.held.entries some_.0 (t.fits t.holder t.held t.holds) some_.1 in
        let both = Entries.times_two some_.0 s.views t.holder id t.held v apart t.holds here in
        let one = kept.alone some_.0 in let theirs = some_.1 in
        let mine = all some_.0 (let e = t.sized in omega (arith, below, e, sized)) in
        absurd (omega (arith, both, one, mine, theirs)))
        kept.now
