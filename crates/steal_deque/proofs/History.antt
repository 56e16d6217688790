-- Each kind of step keeps the order of the steals.
use Rattle.std.proofs.Common.{◌≡◌, ◌≢◌, ◌⊎◌, ℕ, zero, suc, ◌+◌, ◌<◌, true, false, true≢false, List, [], ◌∷◌, ◌++◌, length, set, sym, refl, ap, ◌∙◌, subst, ⊎_elim, inl, inr, append_assoc, append-nil, length-append, arith, eq-eqb, ne_eqb, IsPermutation}
use Rattle.std.proofs.lemmas.List.Sorted.{IsPermutation-refl, IsPermutation-append_left, IsPermutation-append_right, IsPermutation-append_comm, IsPermutation-trans}
use mathlib.Core.Option.{some, some-injective, some-ne-none}
use mathlib.Core.Logic.{dite}
use native.Mathlib.Decide.{ℕ_discrete}
use lib.ListN.{get_elem?}
use Rattle.crossbeam_deque.specs.Tasks.{Pushes, Takes as TakesFirst, Pops, Finds, FindsFew, Forks, Merges, Learns}
use Rattle.atomic_table.proofs.Lists.{at_set, set_else, at_longer}
use Rattle.steal_deque.specs.declared.rule.View.{View}
use Rattle.steal_deque.specs.History.{Stolen, numbers_of, by, steals_of, owner_view, spent, exposing, taking, stealing, one_more, newcomer, joined_with, Took, AreOver, IsOwner, IsHistory, Kept, Takes, WasEmpty, HeldFew, Settles}

numbers_append : (xs ys : List Stolen) → numbers_of (xs ++ ys) ≡ numbers_of xs ++ numbers_of ys
numbers_append [] ys = refl
numbers_append (x ∷ xs) ys = ap (λ l. x.1 ∷ l) (numbers_append xs ys)

numbers_one : (port : ℕ) (xs : List ℕ) → numbers_of (steals_of port xs) ≡ xs
numbers_one port [] = refl
numbers_one port (x ∷ xs) = ap (λ l. x ∷ l) (numbers_one port xs)

by_append : (port : ℕ) (xs ys : List Stolen) → by port (xs ++ ys) ≡ by port xs ++ by port ys
by_append port [] ys = refl
by_append port (x ∷ xs) ys = dite (ℕ_discrete x.0 port)
    (λ e. rw (eq-eqb x.0 port e) (ap (λ l. x.1 ∷ l) (by_append port xs ys)))
    (λ ne. rw (ne_eqb x.0 port ne) (by_append port xs ys))

by_own : (port : ℕ) (xs : List ℕ) → by port (steals_of port xs) ≡ xs
by_own port [] = refl
by_own port (x ∷ xs) = rw (eq-eqb port port refl) (ap (λ l. x ∷ l) (by_own port xs))

by_other : (port other : ℕ) (xs : List ℕ) → other ≢ port → by port (steals_of other xs) ≡ []
by_other port other [] ne = refl
by_other port other (x ∷ xs) ne = rw (ne_eqb other port ne) (by_other port other xs ne)

-- what another pass took stays
by_stays : (port other : ℕ) (steals : List Stolen) (xs : List ℕ) → other ≢ port → by port (steals ++ steals_of other xs) ≡ by port steals
by_stays port other steals xs ne = by_append port steals (steals_of other xs) ∙ ap (λ l. by port steals ++ l) (by_other port other xs ne) ∙ append-nil (by port steals)

get_set : (views : List View) (i : ℕ) (old new : View) → get_elem? views i ≡ some old → get_elem? (set views i new) i ≡ some new
get_set [] i old new e = absurd (some-ne-none old (sym e))
get_set (v ∷ vs) zero old new e = refl
get_set (v ∷ vs) (suc i) old new e = get_set vs i old new e

length_same : (views : List View) (i : ℕ) (new : View) → length (set views i new) ≡ length views
length_same [] i new = refl
length_same (v ∷ vs) zero new = refl
length_same (v ∷ vs) (suc i) new = ap suc (length_same vs i new)

within : (views : List View) (i : ℕ) (v : View) → get_elem? views i ≡ some v → i < length views
within [] i v e = absurd (some-ne-none v (sym e))
within (u ∷ us) zero v e = omega arith
within (u ∷ us) (suc i) v e = let h = within us i v e in omega (arith, h)

-- a fact on each view and its port
every_set : (F : ℕ → View → Type 0) (views : List View) (port : ℕ) (w : View) → F port w → ((j : ℕ) (u : View) → j ≢ port → get_elem? views j ≡ some u → F j u) → (j : ℕ) (u : View) → get_elem? (set views port w) j ≡ some u → F j u
every_set F views port w mine others j u e = ⊎_elim (λ (x : (j ≡ port) × (w ≡ u)). subst (λ (y : ℕ × View). F y.0 y.1) (λ i. (sym x.0 i, x.1 i)) mine)
    (λ (x : (j ≢ port) × (get_elem? views j ≡ some u)). others j u x.0 x.1) (at_set views port j w u e)

never_both : (b : View) → b.over ≡ false → b.over ≡ true → ⊥
never_both b f t = true≢false (sym t ∙ f)

-- passes that are over stay so where a view changes that is not over
over_set : (views : List View) (port : ℕ) (v w : View) (passes : List (ℕ × List ℕ)) → get_elem? views port ≡ some v → v.over ≡ false → AreOver views passes → AreOver (set views port w) passes
over_set views port v w [] here live gone = tt
over_set views port v w (p ∷ ps) here live gone = (
  (λ u e. ⊎_elim (λ (x : (p.0 ≡ port) × (w ≡ u)). absurd (never_both v live (gone.0 v (ap (λ k. get_elem? views k) x.0 ∙ here))))
      (λ (x : (p.0 ≢ port) × (get_elem? views p.0 ≡ some u)). gone.0 u x.1) (at_set views port p.0 w u e)),
  over_set views port v w ps here live gone.1,
)

took_stays : (views : List View) (port : ℕ) (v : View) (steals : List Stolen) (xs : List ℕ) (passes : List (ℕ × List ℕ)) → get_elem? views port ≡ some v → v.over ≡ false → AreOver views passes → Took steals passes → Took (steals ++ steals_of port xs) passes
took_stays views port v steals xs [] here live gone took = tt
took_stays views port v steals xs (p ∷ ps) here live gone took =
    (by_stays p.0 port steals xs (λ e. never_both v live (gone.0 v (ap (λ k. get_elem? views k) (sym e) ∙ here))) ∙ took.0, took_stays views port v steals xs ps here live gone.1 took.1)

-- the owner's pass is the first
owner_at : (steals : List Stolen) (items : List ℕ) (views : List View) (port : ℕ) (v : View) → IsHistory steals items views → get_elem? views port ≡ some v → v.over ≡ false → v.port ≡ 0 → port ≡ 0
owner_at steals items views port v h here live zero_ = sym (h.named port v here live) ∙ zero_

pub begins : Kept [] (owner_view ∷ [])
begins = (
  [],
  record {
    owner = λ v e. let is : owner_view ≡ v = some-injective owner_view v e in subst (λ (u : View). IsOwner [] [] (owner_view ∷ []) u) is
        (record { port = refl; over = refl; made = refl; pending = refl; exposed = IsPermutation-refl []; took = tt; gone = tt });
    named = elim [ zero ↦ λ v e live. ap (λ (u : View). u.port) (sym (some-injective owner_view v e)) | suc j ↦ λ v e live. absurd (some-ne-none v (sym e)) ];
    took = elim [ zero ↦ λ v e live h. absurd (omega (arith, h)) | suc j ↦ λ v e live h. absurd (some-ne-none v (sym e)) ];
    others = λ port h. refl;
    never = refl;
  },
)

-- a step of the owner that changes what is left and what it knows of that
owner_steps : (steals : List Stolen) (items later : List ℕ) (views : List View) (port : ℕ) (v w : View) → IsHistory steals items views → get_elem? views port ≡ some v → v.port ≡ 0 → v.over ≡ false
    → w.port ≡ v.port → w.over ≡ v.over → w.made ≡ v.made → w.joined ≡ v.joined → w.pending ≡ numbers_of steals ++ later → (IsPermutation (v.taken ++ v.pending) v.exposed → IsPermutation (w.taken ++ w.pending) w.exposed)
    → IsHistory steals later (set views port w)
owner_steps steals items later views port v w h here zero_ live same_port same_over same_made same_joined pending exposed =
    let first : port ≡ 0 = owner_at steals items views port v h here live zero_ in
    let mine : IsOwner steals items views v = h.owner v (ap (λ k. get_elem? views k) (sym first) ∙ here) in
    let own : IsOwner steals later (set views port w) w = record {
      port = same_port ∙ zero_;
      over = same_over ∙ live;
      made = ap (λ k. k + 1) same_made ∙ mine.made ∙ sym (length_same views port w);
      pending = pending;
      exposed = exposed mine.exposed;
      took = subst (λ l. Took steals l) (sym same_joined) mine.took;
      gone = subst (λ l. AreOver (set views port w) l) (sym same_joined) (over_set views port v w v.joined here live mine.gone);
    } in record {
      owner = λ u e. subst (λ (y : View). IsOwner steals later (set views port w) y) (some-injective w u (sym (get_set views port v w here) ∙ ap (λ k. get_elem? (set views port w) k) first ∙ e)) own;
      named = every_set (λ j u. u.over ≡ false → u.port ≡ j) views port w (λ _. same_port ∙ h.named port v here live) (λ j u ne e. h.named j u e);
      took = every_set (λ j u. u.over ≡ false → 0 < j → by j steals ≡ u.taken) views port w (λ _ pos. absurd (omega (arith, first, pos))) (λ j u ne e. h.took j u e);
      others = λ j le. h.others j (let n = length_same views port w in omega (arith, n, le));
      never = h.never;
    }

pub exposes : (port : ℕ) (v : View) (xs : List ℕ) → v.port ≡ 0 → v.over ≡ false → Pushes Kept port v xs (λ w. w ≡ exposing v xs)
exposes port v xs zero_ live items views (steals, h) here = let w : View = exposing v xs in
    let first : port ≡ 0 = owner_at steals items views port v h here live zero_ in
    let mine : IsOwner steals items views v = h.owner v (ap (λ k. get_elem? views k) (sym first) ∙ here) in (
      w,
      (
        steals,
        owner_steps steals items (items ++ xs) views port v w h here zero_ live refl refl refl refl (ap (λ l. l ++ xs) mine.pending ∙ append_assoc (numbers_of steals) items xs)
            (λ p. subst (λ l. IsPermutation l (v.exposed ++ xs)) (append_assoc v.taken v.pending xs) (IsPermutation-append_left xs (v.taken ++ v.pending) v.exposed p)),
      ),
      refl,
    )

pub takes : (port : ℕ) (v : View) → v.port ≡ 0 → v.over ≡ false → Pops Kept port v (Takes v)
takes port v zero_ live x items views (steals, h) here = let rest : List ℕ = numbers_of steals ++ items in let w : View = taking v rest (x ∷ []) in
    let first : port ≡ 0 = owner_at steals (items ++ x ∷ []) views port v h here live zero_ in
    let mine : IsOwner steals (items ++ x ∷ []) views v = h.owner v (ap (λ k. get_elem? views k) (sym first) ∙ here) in
    let newest : v.pending ≡ rest ++ x ∷ [] = mine.pending ∙ sym (append_assoc (numbers_of steals) items (x ∷ [])) in (
      w,
      (
        steals,
        owner_steps steals (items ++ x ∷ []) items views port v w h here zero_ live refl refl refl refl refl
            (λ p. IsPermutation-trans ((v.taken ++ x ∷ []) ++ rest) (v.taken ++ v.pending) v.exposed
            (subst (λ l. IsPermutation ((v.taken ++ x ∷ []) ++ rest) (v.taken ++ l)) (sym newest)
            (subst (λ l. IsPermutation l (v.taken ++ (rest ++ x ∷ []))) (sym (append_assoc v.taken (x ∷ []) rest)) (IsPermutation-append_right v.taken (x ∷ [] ++ rest) (rest ++ x ∷ []) (IsPermutation-append_comm (x ∷ []) rest)))) p),
      ),
      (rest, newest, refl),
    )

pub finds : (port : ℕ) (v : View) → Finds Kept port v (WasEmpty v)
finds port v views kept here = (port, views, kept, here)

pub finds_few : (port : ℕ) (v : View) → FindsFew Kept 1 port v (HeldFew v)
finds_few port v items views few kept here = (port, items, views, few, kept, here)

pub steals : (port : ℕ) (v : View) → 0 < v.port → v.over ≡ false → TakesFirst Kept port v 1 (λ xs w. w ≡ stealing v xs)
steals port v pos live xs items views some_ one (log, h) here = let w : View = stealing v xs in let more : List Stolen = log ++ steals_of port xs in
    let at : v.port ≡ port = h.named port v here live in
    let thief : 0 < port = omega (arith, at, pos) in
    let back : get_elem? (set views port w) 0 ≡ get_elem? views 0 = set_else views port 0 w (λ e. omega (arith, e, thief)) in
    let oldest : numbers_of log ++ (xs ++ items) ≡ numbers_of more ++ items = sym (append_assoc (numbers_of log) xs items) ∙ ap (λ l. (numbers_of log ++ l) ++ items) (sym (numbers_one port xs)) ∙ ap (λ l. l ++ items) (sym (numbers_append log (steals_of port xs))) in (
      w,
      (
        more,
        record {
          owner = λ u e. let mine : IsOwner log (xs ++ items) views u = h.owner u (sym back ∙ e) in record {
            port = mine.port;
            over = mine.over;
            made = mine.made ∙ sym (length_same views port w);
            pending = mine.pending ∙ oldest;
            exposed = mine.exposed;
            took = took_stays views port v log xs u.joined here live mine.gone mine.took;
            gone = over_set views port v w u.joined here live mine.gone;
          };
          named = every_set (λ j u. u.over ≡ false → u.port ≡ j) views port w (λ _. at) (λ j u ne e. h.named j u e);
          took = every_set (λ j u. u.over ≡ false → 0 < j → by j more ≡ u.taken) views port w
              (λ _ p. by_append port log (steals_of port xs) ∙ ap (λ l. l ++ by port (steals_of port xs)) (h.took port v here live p) ∙ ap (λ l. v.taken ++ l) (by_own port xs))
              (λ j u ne e l p. by_stays j port log xs (λ s. ne (sym s)) ∙ h.took j u e l p);
          others = λ j le. let n = length_same views port w in let inside = within views port v here in by_stays j port log xs (λ s. omega (arith, n, le, inside, s)) ∙ h.others j (omega (arith, n, le));
          never = by_stays 0 port log xs (λ s. omega (arith, s, thief)) ∙ h.never;
        },
      ),
      refl,
    )

-- where a list is one longer, an item stands where it stood, or at the end
at_end : (l : List View) (a b : View) (j : ℕ) → get_elem? (l ++ a ∷ []) j ≡ some b → (get_elem? l j ≡ some b) ⊎ ((j ≡ length l) × (a ≡ b))
at_end [] a b zero e = inr (refl, some-injective a b e)
at_end [] a b (suc j) e = absurd (some-ne-none b (sym e))
at_end (x ∷ xs) a b zero e = inl e
at_end (x ∷ xs) a b (suc j) e = ⊎_elim (λ h. inl h) (λ h. inr (ap suc h.0, h.1)) (at_end xs a b j e)

pub forks : (port : ℕ) (v : View) → v.port ≡ 0 → v.over ≡ false → v.joined ≡ [] → Forks Kept port v (one_more v) (newcomer v)
forks port v zero_ live alone items views (log, h) here = let l : View = one_more v in let r : View = newcomer v in let vs : List View = set views port l in
    let first : port ≡ 0 = owner_at log items views port v h here live zero_ in
    let mine : IsOwner log items views v = h.owner v (ap (λ k. get_elem? views k) (sym first) ∙ here) in
    let same : length vs ≡ length views = length_same views port l in
    let longer : length (vs ++ r ∷ []) ≡ length views + 1 = length-append vs (r ∷ []) ∙ ap (λ k. k + 1) same in
    let own : IsOwner log items (vs ++ r ∷ []) l = record {
      port = zero_;
      over = live;
      made = ap (λ k. k + 1) mine.made ∙ sym longer;
      pending = mine.pending;
      exposed = mine.exposed;
      took = mine.took;
      gone = subst (λ j. AreOver (vs ++ r ∷ []) j) (sym alone) tt;
    } in
    let at : get_elem? (vs ++ r ∷ []) port ≡ some l = at_longer vs (r ∷ []) port l (get_set views port v l here) in
    let every : (F : ℕ → View → Type 0) → F port l → F (length views) r → ((j : ℕ) (u : View) → get_elem? views j ≡ some u → F j u) → (j : ℕ) (u : View) → get_elem? (vs ++ r ∷ []) j ≡ some u → F j u
    = λ F left right old j u e. ⊎_elim (λ (x : get_elem? vs j ≡ some u). every_set F views port l left (λ k y ne f. old k y f) j u x)
    (λ (x : (j ≡ length vs) × (r ≡ u)). subst (λ (y : ℕ × View). F y.0 y.1) (λ i. (sym (x.0 ∙ same) i, x.1 i)) right) (at_end vs r u j e) in (
      log,
      record {
        owner = λ u e. subst (λ (y : View). IsOwner log items (vs ++ r ∷ []) y) (some-injective l u (sym at ∙ ap (λ k. get_elem? (vs ++ r ∷ []) k) first ∙ e)) own;
        named = every (λ j u. u.over ≡ false → u.port ≡ j) (λ _. h.named port v here live) (λ _. mine.made) h.named;
        took = every (λ j u. u.over ≡ false → 0 < j → by j log ≡ u.taken) (λ _ pos. absurd (omega (arith, first, pos))) (λ _ _. h.others (length views) (omega arith)) h.took;
        others = λ j le. h.others j (omega (arith, longer, le));
        never = h.never;
      },
    )

took_more : (log : List Stolen) (passes : List (ℕ × List ℕ)) (p : ℕ × List ℕ) → Took log passes → by p.0 log ≡ p.1 → Took log (passes ++ p ∷ [])
took_more log [] p t e = (e, tt)
took_more log (q ∷ qs) p t e = (t.0, took_more log qs p t.1 e)

over_more : (views : List View) (passes : List (ℕ × List ℕ)) (p : ℕ × List ℕ) → AreOver views passes → ((v : View) → get_elem? views p.0 ≡ some v → v.over ≡ true) → AreOver views (passes ++ p ∷ [])
over_more views [] p t e = (e, tt)
over_more views (q ∷ qs) p t e = (t.0, over_more views qs p t.1 e)

over_spent : (views : List View) (other : ℕ) (passes : List (ℕ × List ℕ)) → AreOver views passes → AreOver (set views other spent) passes
over_spent views other [] gone = tt
over_spent views other (p ∷ ps) gone = ((λ u e. ⊎_elim (λ (x : (p.0 ≡ other) × (spent ≡ u)). ap (λ (y : View). y.over) (sym x.1)) (λ (x : (p.0 ≢ other) × (get_elem? views p.0 ≡ some u)). gone.0 u x.1) (at_set views other p.0 spent u e)), over_spent views other ps gone.1)

pub merges : (port : ℕ) (v : View) (other : ℕ) (w : View) → v.port ≡ 0 → v.over ≡ false → 0 < w.port → w.over ≡ false → Merges Kept port v other w (joined_with v w) spent
merges port v other w zero_ live pos thief items views (log, h) here two there = let b : View = joined_with v w in let vs : List View = set views port b in let us : List View = set vs other spent in
    let first : port ≡ 0 = owner_at log items views port v h here live zero_ in
    let mine : IsOwner log items views v = h.owner v (ap (λ k. get_elem? views k) (sym first) ∙ here) in
    let was : get_elem? views other ≡ some w = sym (set_else views port other b two) ∙ there in
    let named : w.port ≡ other = h.named other w was thief in
    let long : length us ≡ length views = length_same vs other spent ∙ length_same views port b in
    let own : IsOwner log items us b = record {
      port = zero_;
      over = live;
      made = mine.made ∙ sym long;
      pending = mine.pending;
      exposed = mine.exposed;
      took = took_more log v.joined (w.port, w.taken) mine.took (ap (λ k. by k log) named ∙ h.took other w was thief (omega (arith, pos, named)));
      gone = over_more us v.joined (w.port, w.taken) (over_spent vs other v.joined (over_set views port v b v.joined here live mine.gone))
          (λ u e. ap (λ (y : View). y.over) (sym (some-injective spent u (sym (get_set vs other w spent there) ∙ ap (λ k. get_elem? us k) (sym named) ∙ e))));
    } in
    let at : get_elem? us port ≡ some b = set_else vs other port spent (λ e. two (sym e)) ∙ get_set views port v b here in
    let every : (F : ℕ → View → Type 0) → F port b → F other spent → ((j : ℕ) (u : View) → get_elem? views j ≡ some u → F j u) → (j : ℕ) (u : View) → get_elem? us j ≡ some u → F j u
    = λ F left right old. every_set F vs other spent right (λ j u _ e. every_set F views port b left (λ k y _ f. old k y f) j u e) in (
      log,
      record {
        owner = λ u e. subst (λ (y : View). IsOwner log items us y) (some-injective b u (sym at ∙ ap (λ k. get_elem? us k) first ∙ e)) own;
        named = every (λ j u. u.over ≡ false → u.port ≡ j) (λ _. h.named port v here live) (λ f. absurd (true≢false f)) h.named;
        took = every (λ j u. u.over ≡ false → 0 < j → by j log ≡ u.taken) (λ _ p. absurd (omega (arith, first, p))) (λ f. absurd (true≢false f)) h.took;
        others = λ j le. h.others j (omega (arith, long, le));
        never = h.never;
      },
    )

pub learns : (port : ℕ) (v : View) → v.port ≡ 0 → v.over ≡ false → Learns Kept port v (Settles v)
learns port v zero_ live items views (log, h) here =
    let first : port ≡ 0 = owner_at log items views port v h here live zero_ in
    let mine : IsOwner log items views v = h.owner v (ap (λ k. get_elem? views k) (sym first) ∙ here) in
    (log, mine.pending, mine.exposed, mine.took, (λ j le. let n = mine.made in h.others j (omega (arith, n, le))), h.never)
