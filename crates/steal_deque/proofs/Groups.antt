-- The owners of a group and the thieves that come back to them.
use Rattle.std.proofs.Common.{◌≡◌, ℕ, zero, suc, ◌+◌, ◌-◌, ◌^◌, ◌<◌, ◌≤◌, min, List, [], ◌∷◌, ◌++◌, map, length, set, take, drop, replicate, slice_get, get_or, Option, None, Some, MatchOption, sym, refl, ap, ◌∙◌, subst, append_assoc, append-nil, length-append, arith}
use Rattle.std.proofs.lemmas.Option.{slice_get_within}
use Rattle.steal_deque.specs.declared.rule.View.{View}
use Rattle.steal_deque.specs.declared.own.Own.{Own}
use Rattle.steal_deque.specs.declared.victim.Victim.{Victim}
use Rattle.steal_deque.specs.declared.thief.Thief.{Thief}
use Rattle.std.specs.Option.{unwrap_or}
use Rattle.steal_deque.specs.History.{spent, joined_with, stealing, one_more, newcomer, HeldFew, Settles}
use Rattle.steal_deque.specs.Ends.{own_view, own_deque, victim_view, victim_deque, SameVictim}
use Rattle.steal_deque.specs.Groups.{ports, views_of, deques_of, Reaches, AreThieves, AreOwners, ArePorts, AreAll, returned_all, returned_by, total, AllSettle, owner_with, AreNew}

no_first : {Y : Type 0} (y : Y) (ys : List Y) → y ∷ ys ≡ [] → ⊥
no_first y ys e = let h : suc (length ys) ≡ 0 = ap length e in omega (arith, h)

no_some : {Y : Type 0} (y : Y) → None ≡ Some y → ⊥
no_some y e = cc

module _ {X Y : Type 0} where
  pub map_set : (f : X → Y) (xs : List X) (i : ℕ) (y : X) → map f (set xs i y) ≡ set (map f xs) i (f y)
  map_set f [] i y = refl
  map_set f (x ∷ xs) zero y = refl
  map_set f (x ∷ xs) (suc i) y = ap (λ l. f x ∷ l) (map_set f xs i y)

  -- a list of what does not change at a place
  pub map_set_same : (f : X → Y) (xs : List X) (i : ℕ) (d y : X) → i < length xs → f y ≡ f (get_or xs i d) → map f (set xs i y) ≡ map f xs
  map_set_same f [] i d y h e = refl
  map_set_same f (x ∷ xs) zero d y h e = ap (λ z. z ∷ map f xs) e
  map_set_same f (x ∷ xs) (suc i) d y h e = ap (λ l. f x ∷ l) (map_set_same f xs i d y (omega (arith, h)) e)

  pub get_or_map : (f : X → Y) (xs : List X) (i : ℕ) (d : X) (e : Y) → i < length xs → get_or (map f xs) i e ≡ f (get_or xs i d)
  get_or_map f [] i d e h = absurd (omega (arith, h))
  get_or_map f (x ∷ xs) zero d e h = refl
  get_or_map f (x ∷ xs) (suc i) d e h = get_or_map f xs i d e (omega (arith, h))

  pub slice_map : (f : X → Y) (xs : List X) (i : ℕ) (d : X) → i < length xs → slice_get (map f xs) i ≡ Some (f (get_or xs i d))
  slice_map f [] i d h = absurd (omega (arith, h))
  slice_map f (x ∷ xs) zero d h = refl
  slice_map f (x ∷ xs) (suc i) d h = slice_map f xs i d (omega (arith, h))

  pub slice_map_last : (f : X → Y) (xs : List X) (x : X) → slice_get (map f (xs ++ x ∷ [])) (length xs) ≡ Some (f x)
  slice_map_last f [] x = refl
  slice_map_last f (z ∷ zs) x = slice_map_last f zs x

  pub slice_map_front : (f : X → Y) (xs ys : List X) (k : ℕ) (y : Y) → slice_get (map f xs) k ≡ Some y → slice_get (map f (xs ++ ys)) k ≡ Some y
  slice_map_front f [] ys k y e = absurd (no_some y e)
  slice_map_front f (x ∷ xs) ys zero y e = e
  slice_map_front f (x ∷ xs) ys (suc k) y e = slice_map_front f xs ys k y e

  pub length_map : (f : X → Y) (xs : List X) → length (map f xs) ≡ length xs
  length_map f [] = refl
  length_map f (x ∷ xs) = ap suc (length_map f xs)

returns_none : (v : View) (vs : List View) → v ∷ (returned_all vs []) ≡ v ∷ vs
returns_none v [] = refl
returns_none v (u ∷ us) = refl

returns_last : (views others : List View) (w : View) → length others < length views → returned_all views (others ++ w ∷ []) ≡ returned_all (set views (length others) (joined_with (get_or views (length others) spent) w)) others
returns_last [] others w h = absurd (omega (arith, h))
returns_last (v ∷ vs) [] w h = returns_none (joined_with v w) vs
returns_last (v ∷ vs) (u ∷ us) w h = ap (λ l. joined_with v u ∷ l) (returns_last vs us w (omega (arith, h)))

returned_last : (views : List View) (thieves : List (List View)) (more : List View) → returned_by views (thieves ++ more ∷ []) ≡ returned_by (returned_all views more) thieves
returned_last views [] more = refl
returned_last views (t ∷ ts) more = ap (λ l. returned_all l t) (returned_last views ts more)

map_thief_last : (xs : List Thief) (x : Thief) → map views_of (xs ++ x ∷ []) ≡ map views_of xs ++ views_of x ∷ []
map_thief_last [] x = refl
map_thief_last (z ∷ zs) x = ap (λ l. views_of z ∷ l) (map_thief_last zs x)

thieves_front : (n : ℕ) (owns : List Own) (less : List Thief) (thief : Thief) → AreThieves n owns (less ++ thief ∷ []) → AreThieves n owns less
thieves_front n owns [] thief are = tt
thieves_front n owns (t ∷ ts) thief are = (are.0, are.1, are.2, thieves_front (n + 1) owns ts thief are.3)

thief_last : (n : ℕ) (owns : List Own) (less : List Thief) (thief : Thief) → AreThieves n owns (less ++ thief ∷ []) → deques_of thief ≡ map own_deque owns
thief_last n owns [] thief are = are.1
thief_last n owns (t ∷ ts) thief are = thief_last (n + 1) owns ts thief are.3

-- some thieves are still to come back
pub record IsSettling (before owns : List Own) (all rest : List Thief) : Type 0 where
  pub deques : map own_deque owns ≡ map own_deque before
  pub views : returned_by (map own_view owns) (map views_of rest) ≡ returned_by (map own_view before) (map views_of all)
  pub others : AreThieves 0 before rest

pub settles : (owns : List Own) (thieves : List Thief) → AreAll owns thieves → IsSettling owns owns thieves thieves
settles owns thieves are = record { deques = refl; views = refl; others = are.others }

pub reaches : (before owns : List Own) (all rest less : List Thief) (thief : Thief) → IsSettling before owns all rest → rest ≡ less ++ thief ∷ [] → Reaches owns thief.victims.items
reaches before owns all rest less thief is e k deque at = ap (λ l. slice_get l k) (is.deques ∙ sym (thief_last 0 before less thief (subst (λ l. AreThieves 0 before l) e is.others))) ∙ at

pub settles_one : (before owns later : List Own) (all rest less : List Thief) (thief : Thief) → IsSettling before owns all rest → rest ≡ less ++ thief ∷ [] → map own_deque later ≡ map own_deque owns → map own_view later ≡ returned_all (map own_view owns) (views_of thief)
    → IsSettling before later all less
settles_one before owns later all rest less thief is e deques views = record {
  deques = deques ∙ is.deques;
  views = ap (λ l. returned_by l (map views_of less)) views ∙ sym (returned_last (map own_view owns) (map views_of less) (views_of thief)) ∙ ap (λ l. returned_by (map own_view owns) l) (sym (map_thief_last less thief)) ∙ ap (λ l. returned_by (map own_view owns) (map views_of l)) (sym e) ∙ is.views;
  others = thieves_front 0 before less thief (subst (λ l. AreThieves 0 before l) e is.others);
}

pub settled : (before owns : List Own) (all rest : List Thief) → IsSettling before owns all rest → rest ≡ [] → map own_view owns ≡ returned_by (map own_view before) (map views_of all)
settled before owns all rest is e = ap (λ l. returned_by (map own_view owns) (map views_of l)) (sym e) ∙ is.views

-- some ends of one thief are still to come back
pub record IsReturning (before owns : List Own) (all rest : List Victim) : Type 0 where
  pub deques : map own_deque owns ≡ map own_deque before
  pub views : returned_all (map own_view owns) (map victim_view rest) ≡ returned_all (map own_view before) (map victim_view all)
  pub reaches : Reaches owns rest

-- some deques are still to be counted
pub record IsCounting (all owns : List Own) (numbers : ℕ) : Type 0 where
  pub back : List View
  pub lefts : List (List ℕ)
  pub whole : map own_view all ≡ map own_view owns ++ back
  pub settled : AllSettle back lefts
  pub sum : numbers ≡ min (total lefts) (2 ^ 64 - 1)

some_is : {X : Type 0} (x y : X) → Some x ≡ Some y → x ≡ y
some_is {X = X} x y e = ap (λ (o : Option X). unwrap_or o x) e

returned_none : (vs : List View) → returned_all vs [] ≡ vs
returned_none [] = refl
returned_none (v ∷ vs) = refl

map_last : (xs : List Victim) (x : Victim) → map victim_view (xs ++ x ∷ []) ≡ map victim_view xs ++ victim_view x ∷ []
map_last [] x = refl
map_last (z ∷ zs) x = ap (λ l. victim_view z ∷ l) (map_last zs x)

map_view_last : (xs : List Own) (x : Own) → map own_view (xs ++ x ∷ []) ≡ map own_view xs ++ own_view x ∷ []
map_view_last [] x = refl
map_view_last (z ∷ zs) x = ap (λ l. own_view z ∷ l) (map_view_last zs x)

min_more : (t f m : ℕ) → min (min t m + f) m ≡ min (f + t) m
min_more t f m = grind (arith)

-- a thief after a steal from the deque at a place
pub same_ends : (victims : List Victim) (i : ℕ) (d y : Victim) → i < length victims → d ≡ get_or victims i d → SameVictim d y → (map victim_deque (set victims i y) ≡ map victim_deque victims) × (ports (map victim_view (set victims i y)) ≡ ports (map victim_view victims))
same_ends victims i d y h is same = let here : i < length (map victim_view victims) = (let n = length_map victim_view victims in omega (arith, h, n)) in (
  map_set_same victim_deque victims i d y h (same.0 ∙ ap victim_deque is),
  ap ports (map_set victim_view victims i y) ∙ map_set_same (λ (v : View). v.port) (map victim_view victims) i spent (victim_view y) here (same.1 ∙ ap (λ (v : Victim). (victim_view v).port) is ∙ ap (λ (v : View). v.port) (sym (get_or_map victim_view victims i d spent h))),
)

set_again : (views : List View) (i : ℕ) (d : View) → i < length views → set views i (get_or views i d) ≡ views
set_again [] i d h = refl
set_again (v ∷ vs) zero d h = refl
set_again (v ∷ vs) (suc i) d h = ap (λ l. v ∷ l) (set_again vs i d (omega (arith, h)))

pub told : (victims : List Victim) (i : ℕ) (d y : Victim) (r : Option ℕ) → i < length victims → d ≡ get_or victims i d
    → MatchOption r (HeldFew (victim_view d) × (victim_view y ≡ victim_view d)) (λ task. victim_view y ≡ stealing (victim_view d) (task ∷ []))
    → MatchOption r (HeldFew (get_or (map victim_view victims) i spent) × (map victim_view (set victims i y) ≡ map victim_view victims)) (λ task. map victim_view (set victims i y) ≡ set (map victim_view victims) i (stealing (get_or (map victim_view victims) i spent) (task ∷ [])))
told victims i d y None h is t = let at : victim_view d ≡ get_or (map victim_view victims) i spent = ap victim_view is ∙ sym (get_or_map victim_view victims i d spent h) in (
  subst HeldFew at t.0,
  map_set victim_view victims i y ∙ ap (λ v. set (map victim_view victims) i v) (t.1 ∙ at) ∙ set_again (map victim_view victims) i spent (let n = length_map victim_view victims in omega (arith, h, n)),
)
told victims i d y (Some task) h is t = let at : victim_view d ≡ get_or (map victim_view victims) i spent = ap victim_view is ∙ sym (get_or_map victim_view victims i d spent h) in
    map_set victim_view victims i y ∙ ap (λ v. set (map victim_view victims) i v) (t ∙ ap (λ v. stealing v (task ∷ [])) at)

-- the place of the owner whose end comes back
pub place_reached : (owns : List Own) (rest less : List Victim) (victim : Victim) → Reaches owns rest → rest ≡ less ++ victim ∷ [] → length less < length owns
place_reached owns rest less victim reaches e = let at : slice_get (map own_deque owns) (length less) ≡ Some (victim_deque victim) = reaches (length less) (victim_deque victim) (ap (λ l. slice_get (map victim_deque l) (length less)) e ∙ slice_map_last victim_deque less victim) in
    let w = slice_get_within (map own_deque owns) (length less) (victim_deque victim) at in let n = length_map own_deque owns in omega (arith, w, n)

-- the owner whose end comes back
pub reached : (owns : List Own) (rest less : List Victim) (victim : Victim) (d : Own) → Reaches owns rest → rest ≡ less ++ victim ∷ [] → (length less < length owns) × (victim_deque victim ≡ own_deque (get_or owns (length less) d))
reached owns rest less victim d reaches e = let at : slice_get (map own_deque owns) (length less) ≡ Some (victim_deque victim) = reaches (length less) (victim_deque victim) (ap (λ l. slice_get (map victim_deque l) (length less)) e ∙ slice_map_last victim_deque less victim) in
    let inside : length less < length owns = (let w = slice_get_within (map own_deque owns) (length less) (victim_deque victim) at in let n = length_map own_deque owns in omega (arith, w, n)) in
    (inside, some_is (victim_deque victim) (own_deque (get_or owns (length less) d)) (sym at ∙ slice_map own_deque owns (length less) d inside))

pub starts : (owns : List Own) (victims : List Victim) → Reaches owns victims → IsReturning owns owns victims victims
starts owns victims reaches = record { deques = refl; views = refl; reaches = reaches }

pub one_returned : (before owns : List Own) (all rest less : List Victim) (victim : Victim) (k : ℕ) (d y : Own) → IsReturning before owns all rest → rest ≡ less ++ victim ∷ [] → k ≡ length less → d ≡ get_or owns k d
    → own_deque y ≡ own_deque d → own_view y ≡ joined_with (own_view d) (victim_view victim) → IsReturning before (set owns k y) all less
one_returned before owns all rest less victim k d y is e place at same joined =
    let inside : k < length owns = (let r = (reached owns rest less victim d is.reaches e).0 in omega (arith, r, place)) in
    let deques : map own_deque (set owns k y) ≡ map own_deque owns = map_set_same own_deque owns k d y inside (same ∙ ap own_deque at) in
    let n : length (map victim_view less) ≡ k = length_map victim_view less ∙ sym place in
    let many : length (map victim_view less) < length (map own_view owns) = (let m = length_map own_view owns in omega (arith, inside, n, m)) in record {
      deques = deques ∙ is.deques;
      views = ap (λ l. returned_all l (map victim_view less)) (map_set own_view owns k y ∙ ap (λ v. set (map own_view owns) k v) (joined ∙ ap (λ v. joined_with v (victim_view victim)) (ap own_view at ∙ sym (get_or_map own_view owns k d spent inside))) ∙ ap (λ j. set (map own_view owns) j (joined_with (get_or (map own_view owns) j spent) (victim_view victim))) (sym n))
          ∙ sym (returns_last (map own_view owns) (map victim_view less) (victim_view victim) many) ∙ ap (λ l. returned_all (map own_view owns) l) (sym (map_last less victim)) ∙ ap (λ l. returned_all (map own_view owns) (map victim_view l)) (sym e) ∙ is.views;
      reaches = λ j deque f. ap (λ l. slice_get l j) deques ∙ is.reaches j deque (ap (λ l. slice_get (map victim_deque l) j) e ∙ slice_map_front victim_deque less (victim ∷ []) j deque f);
    }

pub all_returned : (before owns : List Own) (all rest : List Victim) → IsReturning before owns all rest → rest ≡ [] → map own_view owns ≡ returned_all (map own_view before) (map victim_view all)
all_returned before owns all rest is e = sym (returned_none (map own_view owns)) ∙ ap (λ l. returned_all (map own_view owns) (map victim_view l)) (sym e) ∙ is.views

pub counts : (all : List Own) → IsCounting all all 0
counts all = record { back = []; lefts = []; whole = sym (append-nil (map own_view all)); settled = tt; sum = refl }

pub counts_one : (all owns less : List Own) (own : Own) (numbers found later : ℕ) (left : List ℕ) → IsCounting all owns numbers → owns ≡ less ++ own ∷ [] → length left ≡ found → Settles (own_view own) left → later ≡ min (numbers + found) (2 ^ 64 - 1) → IsCounting all less later
counts_one all owns less own numbers found later left is e n settles sum = record {
  back = own_view own ∷ is.back;
  lefts = left ∷ is.lefts;
  whole = is.whole ∙ ap (λ l. map own_view l ++ is.back) e ∙ ap (λ l. l ++ is.back) (map_view_last less own) ∙ append_assoc (map own_view less) (own_view own ∷ []) is.back;
  settled = (settles, is.settled);
  sum = sum ∙ ap (λ k. min (k + found) (2 ^ 64 - 1)) is.sum ∙ min_more (total is.lefts) found (2 ^ 64 - 1) ∙ ap (λ k. min (k + total is.lefts) (2 ^ 64 - 1)) (sym n);
}

pub counted : (all owns : List Own) (numbers : ℕ) → IsCounting all owns numbers → owns ≡ [] → (lefts : List (List ℕ)) × AllSettle (map own_view all) lefts × (numbers ≡ min (total lefts) (2 ^ 64 - 1))
counted all owns numbers is e = (is.lefts, subst (λ l. AllSettle l is.lefts) (sym (is.whole ∙ ap (λ l. map own_view l ++ is.back) e)) is.settled, is.sum)

-- a thief's ends of the first deques are made
pub record IsHiring (before owns : List Own) (victims : List Victim) (number worker : ℕ) : Type 0 where
  pub rest : ℕ
  pub many : worker + rest ≡ length before
  pub same : length owns ≡ length before
  pub deques : map own_deque owns ≡ map own_deque before
  pub views : map own_view owns ≡ replicate worker (owner_with (number + 1)) ++ replicate rest (owner_with number)
  pub reached : map victim_deque victims ≡ take worker (map own_deque before)
  pub known : map victim_view victims ≡ replicate worker (newcomer (owner_with number))

take_none : {X : Type 0} (xs : List X) → take 0 xs ≡ []
take_none [] = refl
take_none (x ∷ xs) = refl

pub hires : (owns : List Own) (number : ℕ) → map own_view owns ≡ replicate (length owns) (owner_with number) → IsHiring owns owns [] number 0
hires owns number views = record { rest = length owns; many = omega arith; same = refl; deques = refl; views = views; reached = sym (take_none (map own_deque owns)); known = refl }

suc_one : (n : ℕ) → suc n ≡ n + 1
suc_one n = omega arith

take_next : {X : Type 0} (xs : List X) (k : ℕ) (d : X) → k < length xs → take (suc k) xs ≡ take k xs ++ get_or xs k d ∷ []
take_next [] k d h = absurd (omega (arith, h))
take_next (x ∷ xs) zero d h = ap (λ l. x ∷ l) (take_none xs)
take_next (x ∷ xs) (suc k) d h = ap (λ l. x ∷ l) (take_next xs k d (omega (arith, h)))

replicate_next : {X : Type 0} (k : ℕ) (x : X) → replicate k x ++ x ∷ [] ≡ replicate (suc k) x
replicate_next zero x = refl
replicate_next (suc k) x = ap (λ l. x ∷ l) (replicate_next k x)

set_next : (k m : ℕ) (x y : View) → set (replicate k x ++ replicate (suc m) y) k x ≡ replicate (suc k) x ++ replicate m y
set_next zero m x y = refl
set_next (suc k) m x y = ap (λ l. x ∷ l) (set_next k m x y)

get_next : (k m : ℕ) (x y d : View) → get_or (replicate k x ++ replicate (suc m) y) k d ≡ y
get_next zero m x y d = refl
get_next (suc k) m x y d = get_next k m x y d

map_push : {X Y : Type 0} (f : X → Y) (xs : List X) (x : X) → map f (xs ++ x ∷ []) ≡ map f xs ++ f x ∷ []
map_push f [] x = refl
map_push f (z ∷ zs) x = ap (λ l. f z ∷ l) (map_push f zs x)

length_set : {X : Type 0} (xs : List X) (i : ℕ) (x : X) → length (set xs i x) ≡ length xs
length_set [] i x = refl
length_set (z ∷ zs) zero x = refl
length_set (z ∷ zs) (suc i) x = ap suc (length_set zs i x)

-- what the owner at the next place knows
pub next_view : (before owns : List Own) (victims : List Victim) (number worker rest : ℕ) (d : Own) → worker < length owns → worker + rest ≡ length before → length owns ≡ length before → map own_view owns ≡ replicate worker (owner_with (number + 1)) ++ replicate rest (owner_with number)
    → (own_view (get_or owns worker d) ≡ owner_with number) × ((y : Own) → own_view y ≡ owner_with (number + 1) → map own_view (set owns worker y) ≡ replicate (worker + 1) (owner_with (number + 1)) ++ replicate (rest - 1) (owner_with number))
next_view before owns victims number worker zero d inside many same views = absurd (omega (arith, inside, many, same))
next_view before owns victims number worker (suc m) d inside many same views = (
  sym (get_or_map own_view owns worker d spent inside) ∙ ap (λ l. get_or l worker spent) views ∙ get_next worker m (owner_with (number + 1)) (owner_with number) spent,
  λ y e. map_set own_view owns worker y ∙ ap (λ v. set (map own_view owns) worker v) e ∙ ap (λ l. set l worker (owner_with (number + 1))) views ∙ set_next worker m (owner_with (number + 1)) (owner_with number) ∙ ap (λ j. replicate j (owner_with (number + 1)) ++ replicate m (owner_with number)) (suc_one worker) ∙ ap (λ k. replicate (worker + 1) (owner_with (number + 1)) ++ replicate k (owner_with number)) (omega arith),
)

pub next_known : (before owns : List Own) (victims : List Victim) (number worker : ℕ) (d : Own) → IsHiring before owns victims number worker → worker < length owns → d ≡ get_or owns worker d → own_view d ≡ owner_with number
next_known before owns victims number worker d is inside at = ap own_view at ∙ (next_view before owns victims number worker is.rest d inside is.many is.same is.views).0

pub hires_one : (before owns : List Own) (victims : List Victim) (number worker : ℕ) (d y : Own) (victim : Victim) → IsHiring before owns victims number worker → worker < length owns → d ≡ get_or owns worker d
    → own_deque y ≡ own_deque d → own_view y ≡ one_more (own_view d) → victim_view victim ≡ newcomer (own_view d) → victim_deque victim ≡ own_deque d → IsHiring before (set owns worker y) (victims ++ victim ∷ []) number (worker + 1)
hires_one before owns victims number worker d y victim is inside at same more known deque =
    let next = next_view before owns victims number worker is.rest d inside is.many is.same is.views in
    let whose : own_view d ≡ owner_with number = ap own_view at ∙ next.0 in
    let here : worker < length (map own_deque before) = (let n = length_map own_deque before in let s = is.same in omega (arith, inside, n, s)) in record {
      rest = is.rest - 1;
      many = let m = is.many in let s = is.same in omega (arith, m, s, inside);
      same = length_set owns worker y ∙ is.same;
      deques = map_set_same own_deque owns worker d y inside (same ∙ ap own_deque at) ∙ is.deques;
      views = next.1 y (more ∙ ap one_more whose);
      reached = map_push victim_deque victims victim ∙ ap (λ l. l ++ victim_deque victim ∷ []) is.reached ∙ ap (λ e. take worker (map own_deque before) ++ e ∷ []) (deque ∙ ap own_deque at ∙ sym (get_or_map own_deque owns worker d (own_deque d) inside) ∙ ap (λ l. get_or l worker (own_deque d)) is.deques) ∙ sym (take_next (map own_deque before) worker (own_deque d) here) ∙ ap (λ j. take j (map own_deque before)) (suc_one worker);
      known = map_push victim_view victims victim ∙ ap (λ l. l ++ victim_view victim ∷ []) is.known ∙ ap (λ v. replicate worker (newcomer (owner_with number)) ++ v ∷ []) (known ∙ ap newcomer whose) ∙ replicate_next worker (newcomer (owner_with number)) ∙ ap (λ j. replicate j (newcomer (owner_with number))) (suc_one worker);
    }

take_all : {X : Type 0} (xs : List X) (n : ℕ) → n ≡ length xs → take n xs ≡ xs
take_all [] n e = ap (λ k. take k []) e
take_all (x ∷ xs) zero e = absurd (omega (arith, e))
take_all (x ∷ xs) (suc n) e = ap (λ l. x ∷ l) (take_all xs n (omega (arith, e)))

pub hired : (before owns : List Own) (victims : List Victim) (number worker : ℕ) → IsHiring before owns victims number worker → length owns ≤ worker
    → (map own_view owns ≡ replicate (length before) (owner_with (number + 1))) × (map own_deque owns ≡ map own_deque before) × (map victim_deque victims ≡ map own_deque before) × (map victim_view victims ≡ replicate (length before) (newcomer (owner_with number)))
hired before owns victims number worker is end = let m = is.many in let s = is.same in
    let none : is.rest ≡ 0 = omega (arith, m, s, end) in let all : worker ≡ length before = omega (arith, m, s, end) in (
      is.views ∙ ap (λ k. replicate worker (owner_with (number + 1)) ++ replicate k (owner_with number)) none ∙ append-nil (replicate worker (owner_with (number + 1))) ∙ ap (λ k. replicate k (owner_with (number + 1))) all,
      is.deques,
      is.reached ∙ take_all (map own_deque before) worker (all ∙ sym (length_map own_deque before)),
      is.known ∙ ap (λ k. replicate k (newcomer (owner_with number))) all,
    )

-- the owners that are opened
pub opens_one : (owns : List Own) (own : Own) (n : ℕ) → map own_view owns ≡ replicate n (owner_with 0) → own_view own ≡ owner_with 0 → map own_view (owns ++ own ∷ []) ≡ replicate (n + 1) (owner_with 0)
opens_one owns own n e f = map_view_last owns own ∙ ap (λ l. l ++ own_view own ∷ []) e ∙ ap (λ v. replicate n (owner_with 0) ++ v ∷ []) f ∙ replicate_next n (owner_with 0) ∙ ap (λ j. replicate j (owner_with 0)) (suc_one n)

-- so many thieves are hired
pub record IsStaffed (before owns : List Own) (workers number : ℕ) (thieves : List Thief) : Type 0 where
  pub many : length before ≡ workers
  pub same : length owns ≡ workers
  pub views : map own_view owns ≡ replicate workers (owner_with number)
  pub deques : map own_deque owns ≡ map own_deque before
  pub made : length thieves ≡ number
  pub each : AreThieves 0 before thieves
  pub new : (t : ℕ) (thief : Thief) → slice_get thieves t ≡ Some thief → views_of thief ≡ replicate workers (newcomer (owner_with t))

length_replicate : {X : Type 0} (n : ℕ) (x : X) → length (replicate n x) ≡ n
length_replicate zero x = refl
length_replicate (suc n) x = ap suc (length_replicate n x)

pub staffs : (owns : List Own) (workers : ℕ) → map own_view owns ≡ replicate workers (owner_with 0) → IsStaffed owns owns workers 0 []
staffs owns workers e = let many : length owns ≡ workers = sym (length_map own_view owns) ∙ ap length e ∙ length_replicate workers (owner_with 0) in
    record { many = many; same = many; views = e; deques = refl; made = refl; each = tt; new = λ t thief f. absurd (no_some thief f) }

thieves_more : (n : ℕ) (owns : List Own) (thieves : List Thief) (thief : Thief) → AreThieves n owns thieves → thief.number ≡ n + length thieves → deques_of thief ≡ map own_deque owns → ArePorts (n + length thieves + 1) (ports (views_of thief)) → AreThieves n owns (thieves ++ thief ∷ [])
thieves_more n owns [] thief are number deques own = let same : n + 0 ≡ n = omega arith in (number ∙ same, deques, subst (λ k. ArePorts (k + 1) (ports (views_of thief))) same own, tt)
thieves_more n owns (t ∷ ts) thief are number deques own = let same : n + suc (length ts) ≡ n + 1 + length ts = omega arith in
    (are.0, are.1, are.2, thieves_more (n + 1) owns ts thief are.3 (number ∙ same) deques (subst (λ k. ArePorts (k + 1) (ports (views_of thief))) same own))

ports_new : (n t : ℕ) → ArePorts (t + 1) (ports (replicate n (newcomer (owner_with t))))
ports_new zero t = tt
ports_new (suc n) t = (refl, ports_new n t)

facts_more : {X : Type 0} (F : ℕ → X → Type 0) (xs : List X) (x : X) → ((k : ℕ) (y : X) → slice_get xs k ≡ Some y → F k y) → F (length xs) x → (k : ℕ) (y : X) → slice_get (xs ++ x ∷ []) k ≡ Some y → F k y
facts_more F [] x old new zero y e = subst (λ z. F 0 z) (some_is x y e) new
facts_more F [] x old new (suc k) y e = absurd (no_some y e)
facts_more F (z ∷ zs) x old new zero y e = old 0 y e
facts_more F (z ∷ zs) x old new (suc k) y e = facts_more (λ j w. F (suc j) w) zs x (λ j w f. old (suc j) w f) new k y e

pub staffs_one : (before owns later : List Own) (workers number : ℕ) (thieves : List Thief) (thief : Thief) → IsStaffed before owns workers number thieves
    → map own_view later ≡ replicate (length owns) (owner_with (number + 1)) → map own_deque later ≡ map own_deque owns → thief.number ≡ number → deques_of thief ≡ map own_deque owns → views_of thief ≡ replicate (length owns) (newcomer (owner_with number))
    → IsStaffed before later workers (number + 1) (thieves ++ thief ∷ [])
staffs_one before owns later workers number thieves thief is views deques named reached known =
    let all : views_of thief ≡ replicate workers (newcomer (owner_with number)) = known ∙ ap (λ n. replicate n (newcomer (owner_with number))) is.same in
    let n : number ≡ 0 + length thieves = (let m = is.made in omega (arith, m)) in record {
      many = is.many;
      same = sym (length_map own_view later) ∙ ap length views ∙ length_replicate (length owns) (owner_with (number + 1)) ∙ is.same;
      views = views ∙ ap (λ k. replicate k (owner_with (number + 1))) is.same;
      deques = deques ∙ is.deques;
      made = length-append thieves (thief ∷ []) ∙ ap (λ k. k + 1) is.made;
      each = thieves_more 0 before thieves thief is.each (named ∙ n) (reached ∙ is.deques) (subst (λ k. ArePorts (k + 1) (ports (views_of thief))) n (subst (λ l. ArePorts (number + 1) (ports l)) (sym all) (ports_new workers number)));
      new = facts_more (λ t h. views_of h ≡ replicate workers (newcomer (owner_with t))) thieves thief is.new (all ∙ ap (λ t. replicate workers (newcomer (owner_with t))) (sym is.made));
    }

same_thieves : (n : ℕ) (before owns : List Own) (thieves : List Thief) → map own_deque owns ≡ map own_deque before → AreThieves n before thieves → AreThieves n owns thieves
same_thieves n before owns [] e are = tt
same_thieves n before owns (t ∷ ts) e are = (are.0, are.1 ∙ sym e, are.2, same_thieves (n + 1) before owns ts e are.3)

owners_new : (made n : ℕ) (owns : List Own) → map own_view owns ≡ replicate n (owner_with made) → AreOwners made owns
owners_new made n [] e = tt
owners_new made zero (o ∷ os) e = absurd (no_first (own_view o) (map own_view os) e)
owners_new made (suc n) (o ∷ os) e = let first : own_view o ≡ owner_with made = ap (λ l. get_or l 0 spent) e in (ap (λ (v : View). v.made) first, ap (λ (v : View). v.joined) first, owners_new made n os (ap (drop 1) e))

pub staffed : (before owns : List Own) (workers : ℕ) (thieves : List Thief) → IsStaffed before owns workers workers thieves → (length owns ≡ workers) × AreAll owns thieves × AreNew owns thieves
staffed before owns workers thieves is = (
  is.same,
  record { many = is.made ∙ sym is.same; owners = subst (λ n. AreOwners n owns) (sym is.same) (owners_new workers workers owns is.views); others = same_thieves 0 before owns thieves is.deques is.each },
  (is.views ∙ ap (λ n. replicate n (owner_with n)) (sym is.same), λ t thief e. is.new t thief e ∙ ap (λ n. replicate n (newcomer (owner_with t))) (sym is.same)),
)
