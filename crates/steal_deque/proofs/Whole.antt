-- All that the passes of a group took, with what is left, is all that was exposed.
use Rattle.std.proofs.Common.{◌≡◌, ◌≢◌, ℕ, zero, suc, ◌+◌, ◌-◌, ◌<◌, if◌then◌else◌, ◌==◌, List, [], ◌∷◌, ◌++◌, map, min, length, sym, refl, ap, ◌∙◌, subst, append_assoc, append-nil, length-append, arith, eq-eqb, ne_eqb, IsPermutation}
use Rattle.std.specs.List.{flat_map, concat}
use Rattle.std.proofs.lemmas.List.Sorted.{IsPermutation-refl, IsPermutation-cons, IsPermutation-middle, IsPermutation-append_left, IsPermutation-append_right, IsPermutation-append_comm, IsPermutation-trans}
use Rattle.std.proofs.lemmas.List.Folds.{flat_map-map}
use Rattle.std.proofs.lemmas.Grind.{flat_map-append}
use mathlib.Core.Logic.{dite}
use native.Mathlib.Decide.{ℕ_discrete}
use Rattle.steal_deque.specs.declared.rule.View.{View}
use Rattle.steal_deque.specs.declared.own.Own.{Own}
use Rattle.steal_deque.specs.declared.thief.Thief.{Thief}
use Rattle.steal_deque.specs.History.{Stolen, numbers_of, by, joined_with, Took, Settles}
use Rattle.steal_deque.specs.Ends.{own_view, own_deque, victim_view, victim_deque}
use Rattle.steal_deque.specs.Groups.{ports, views_of, deques_of, AreThieves, AreOwners, ArePorts, AreAll, returned_all, returned_by, total, AllSettle, stolen_by, all_taken, all_stolen, all_exposed}

-- the parts of four lists change places
four : (a b c d : List ℕ) → IsPermutation ((a ++ b) ++ (c ++ d)) ((a ++ c) ++ (b ++ d))
four a b c d =
    let left : a ++ ((b ++ c) ++ d) ≡ (a ++ b) ++ (c ++ d) = ap (λ l. a ++ l) (append_assoc b c d) ∙ sym (append_assoc a b (c ++ d)) in
    let right : a ++ ((c ++ b) ++ d) ≡ (a ++ c) ++ (b ++ d) = ap (λ l. a ++ l) (append_assoc c b d) ∙ sym (append_assoc a c (b ++ d)) in
    let mid : IsPermutation (a ++ ((b ++ c) ++ d)) (a ++ ((c ++ b) ++ d)) = IsPermutation-append_right a ((b ++ c) ++ d) ((c ++ b) ++ d) (IsPermutation-append_left d (b ++ c) (c ++ b) (IsPermutation-append_comm b c)) in
    subst (λ l. IsPermutation l ((a ++ c) ++ (b ++ d))) left (subst (λ l. IsPermutation (a ++ ((b ++ c) ++ d)) l) right mid)

both : (a b c d : List ℕ) → IsPermutation a b → IsPermutation c d → IsPermutation (a ++ c) (b ++ d)
both a b c d p q = IsPermutation-trans (a ++ c) (b ++ c) (b ++ d) (IsPermutation-append_left c a b p) (IsPermutation-append_right b c d q)

-- the steals of other passes
abbrev without : ℕ → List Stolen → List Stolen
without port [] = []
without port (steal ∷ steals) = if steal.0 == port then without port steals else steal ∷ without port steals

by_split : (port : ℕ) (steals : List Stolen) → IsPermutation (by port steals ++ numbers_of (without port steals)) (numbers_of steals)
by_split port [] = IsPermutation-refl []
by_split port (x ∷ xs) = dite (ℕ_discrete x.0 port)
    (λ e. rw (eq-eqb x.0 port e) (IsPermutation-cons x.1 (by port xs ++ numbers_of (without port xs)) (numbers_of xs) (by_split port xs)))
    (λ ne. rw (ne_eqb x.0 port ne) (IsPermutation-trans (by port xs ++ x.1 ∷ numbers_of (without port xs)) (x.1 ∷ (by port xs ++ numbers_of (without port xs))) (x.1 ∷ numbers_of xs)
    (IsPermutation-middle (by port xs) x.1 (numbers_of (without port xs)))
    (IsPermutation-cons x.1 (by port xs ++ numbers_of (without port xs)) (numbers_of xs) (by_split port xs))))

by_without_same : (port : ℕ) (steals : List Stolen) → by port (without port steals) ≡ []
by_without_same port [] = refl
by_without_same port (x ∷ xs) = dite (ℕ_discrete x.0 port)
    (λ e. rw (eq-eqb x.0 port e) (by_without_same port xs))
    (λ ne. rw (ne_eqb x.0 port ne, ne_eqb x.0 port ne) (by_without_same port xs))

by_without : (port other : ℕ) (steals : List Stolen) → other ≢ port → by other (without port steals) ≡ by other steals
by_without port other [] ne = refl
by_without port other (x ∷ xs) ne = dite (ℕ_discrete x.0 port)
    (λ e. rw (eq-eqb x.0 port e, ne_eqb x.0 other (λ f. ne (sym f ∙ e))) (by_without port other xs ne))
    (λ no. rw (ne_eqb x.0 port no) (ap (λ l. if x.0 == other then x.1 ∷ l else l) (by_without port other xs ne)))

no_first : {Y : Type 0} (y : Y) (ys : List Y) → y ∷ ys ≡ [] → ⊥
no_first y ys e = let h : suc (length ys) ≡ 0 = ap length e in omega (arith, h)

no_steals : (steals : List Stolen) → ((port : ℕ) → by port steals ≡ []) → steals ≡ []
no_steals [] none = refl
no_steals (x ∷ xs) none = absurd (no_first x.1 (by x.0 xs) (sym (ap (λ b. if b then x.1 ∷ by x.0 xs else by x.0 xs) (eq-eqb x.0 x.0 refl)) ∙ none x.0))

-- passes with the ports from one number down to another, which is not among them
abbrev pub Falls : ℕ → ℕ → List (ℕ × List ℕ) → Type 0
Falls n m [] = n ≡ m
Falls n m (pass ∷ passes) = (pass.0 ≡ n) × (m < n) × Falls (n - 1) m passes

falls_more : (n m : ℕ) (passes : List (ℕ × List ℕ)) (numbers : List ℕ) → Falls n (m + 1) passes → Falls n m (passes ++ (m + 1, numbers) ∷ [])
falls_more n m [] numbers falls = (sym falls, omega (arith, falls), omega (arith, falls))
falls_more n m (p ∷ ps) numbers falls = (falls.0, (let h = falls.1 in omega (arith, h)), falls_more (n - 1) m ps numbers falls.2)

-- all numbers that passes took
abbrev gathered : List (ℕ × List ℕ) → List ℕ
gathered passes = flat_map (λ (pass : ℕ × List ℕ). pass.1) passes

took_without : (n m : ℕ) (steals : List Stolen) (passes : List (ℕ × List ℕ)) → Falls m 0 passes → m < n → Took steals passes → Took (without n steals) passes
took_without n m steals [] falls less took = tt
took_without n m steals (p ∷ ps) falls less took = (
  by_without n p.0 steals (λ e. let f = falls.0 in omega (arith, e, f, less)) ∙ took.0,
  took_without n (m - 1) steals ps falls.2 (omega (arith, less)) took.1,
)

-- what all passes took is what was stolen
took_all : (n : ℕ) (steals : List Stolen) (passes : List (ℕ × List ℕ)) → Falls n 0 passes → Took steals passes → ((port : ℕ) → n < port → by port steals ≡ []) → by 0 steals ≡ [] → IsPermutation (gathered passes) (numbers_of steals)
took_all n steals [] falls took others never =
    let none : steals ≡ [] = no_steals steals (elim [ zero ↦ never | suc j ↦ others (suc j) (omega (arith, falls)) ]) in
    subst (λ l. IsPermutation [] (numbers_of l)) (sym none) (IsPermutation-refl [])
took_all n steals (p ∷ ps) falls took others never =
    let mine : p.1 ≡ by n steals = sym (ap (λ k. by k steals) (sym falls.0) ∙ took.0) in
    let pos = falls.1 in
    let less : n - 1 < n = omega (arith, pos) in
    let rest : IsPermutation (gathered ps) (numbers_of (without n steals)) = took_all (n - 1) (without n steals) ps falls.2 (took_without n (n - 1) steals ps falls.2 less took.1)
    (λ port above. dite (ℕ_discrete port n)
    (λ e. subst (λ k. by k (without n steals) ≡ []) (sym e) (by_without_same n steals))
    (λ ne. by_without n port steals ne ∙ others port (omega (arith, above, ne))))
    (by_without n 0 steals (λ e. omega (arith, e, pos)) ∙ never) in
    subst (λ l. IsPermutation (l ++ gathered ps) (numbers_of steals)) (sym mine)
    (IsPermutation-trans (by n steals ++ gathered ps) (by n steals ++ numbers_of (without n steals)) (numbers_of steals)
    (IsPermutation-append_right (by n steals) (gathered ps) (numbers_of (without n steals)) rest) (by_split n steals))

-- the owners know all passes from one number down to another
abbrev pub AllFall : ℕ → ℕ → List View → Type 0
AllFall n m [] = Unit {0}
AllFall n m (view ∷ views) = (view.made ≡ n) × Falls n m view.joined × AllFall n m views

fall_one : (n m : ℕ) (views others : List View) → length others ≡ length views → ArePorts (m + 1) (ports others) → AllFall n (m + 1) views → AllFall n m (returned_all views others)
fall_one n m [] others same are fall = tt
fall_one n m (v ∷ vs) [] same are fall = absurd (omega (arith, same))
fall_one n m (v ∷ vs) (o ∷ os) same are fall = (fall.0, subst (λ k. Falls n m (v.joined ++ (k, o.taken) ∷ [])) (sym are.0) (falls_more n m v.joined o.taken fall.1), fall_one n m vs os (omega (arith, same)) are.1 fall.2)

fall_none : (n : ℕ) (owns : List Own) → AreOwners n owns → AllFall n n (map own_view owns)
fall_none n [] are = tt
fall_none n (own ∷ owns) are = (are.0, subst (λ l. Falls n n l) (sym are.1) refl, fall_none n owns are.2)

returned_length : (views others : List View) → length (returned_all views others) ≡ length views
returned_length [] others = refl
returned_length (v ∷ vs) [] = refl
returned_length (v ∷ vs) (o ∷ os) = ap suc (returned_length vs os)

length_map : {X Y : Type 0} (f : X → Y) (xs : List X) → length (map f xs) ≡ length xs
length_map f [] = refl
length_map f (x ∷ xs) = ap suc (length_map f xs)

reached_length : (owns : List Own) (thief : Thief) → deques_of thief ≡ map own_deque owns → length (views_of thief) ≡ length owns
reached_length owns thief e = length_map victim_view thief.victims.items ∙ sym (length_map victim_deque thief.victims.items) ∙ ap length e ∙ length_map own_deque owns

-- what the owners know once these thieves are back
abbrev back_of : List Own → List Thief → List View
back_of owns thieves = returned_by (map own_view owns) (map views_of thieves)

back_length : (owns : List Own) (thieves : List Thief) → length (back_of owns thieves) ≡ length owns
back_length owns [] = length_map own_view owns
back_length owns (t ∷ ts) = returned_length (back_of owns ts) (views_of t) ∙ back_length owns ts

back_fall : (n m : ℕ) (owns : List Own) (thieves : List Thief) → AreThieves m owns thieves → length thieves + m ≡ n → AreOwners n owns → AllFall n m (back_of owns thieves)
back_fall n m owns [] are many owners = let none : m ≡ n = omega (arith, many) in subst (λ k. AllFall n k (map own_view owns)) (sym none) (fall_none n owns owners)
back_fall n m owns (t ∷ ts) are many owners = fall_one n m (back_of owns ts) (views_of t) (reached_length owns t are.1 ∙ sym (back_length owns ts)) are.2 (back_fall n (m + 1) owns ts are.3 (omega (arith, many)) owners)

-- what the passes took that were joined into an owner's
abbrev joined_of : View → List ℕ
joined_of view = gathered view.joined

gathers_one : (views others : List View) → length others ≡ length views → IsPermutation (flat_map joined_of views ++ flat_map (λ (v : View). v.taken) others) (flat_map joined_of (returned_all views others))
gathers_one [] [] same = IsPermutation-refl []
gathers_one [] (o ∷ os) same = absurd (omega (arith, same))
gathers_one (v ∷ vs) [] same = absurd (omega (arith, same))
gathers_one (v ∷ vs) (o ∷ os) same =
    let here : joined_of v ++ o.taken ≡ joined_of (joined_with v o) = sym (flat_map-append (λ (pass : ℕ × List ℕ). pass.1) v.joined ((o.port, o.taken) ∷ []) ∙ ap (λ l. joined_of v ++ l) (append-nil o.taken)) in
    let stolen : List ℕ = flat_map (λ (v : View). v.taken) os in
    let known : List ℕ = flat_map joined_of vs in
    IsPermutation-trans ((joined_of v ++ known) ++ (o.taken ++ stolen)) ((joined_of v ++ o.taken) ++ (known ++ stolen)) (joined_of (joined_with v o) ++ flat_map joined_of (returned_all vs os))
    (four (joined_of v) known o.taken stolen)
    (subst (λ l. IsPermutation ((joined_of v ++ o.taken) ++ (known ++ stolen)) (l ++ flat_map joined_of (returned_all vs os))) here
    (IsPermutation-append_right (joined_of v ++ o.taken) (known ++ stolen) (flat_map joined_of (returned_all vs os)) (gathers_one vs os (omega (arith, same)))))

gathers_none : (n : ℕ) (owns : List Own) → AreOwners n owns → flat_map joined_of (map own_view owns) ≡ []
gathers_none n [] are = refl
gathers_none n (own ∷ owns) are = ap (λ l. gathered l ++ flat_map joined_of (map own_view owns)) are.1 ∙ gathers_none n owns are.2

-- what the thieves stole is what the owners know of them
gathers : (n m : ℕ) (owns : List Own) (thieves : List Thief) → AreThieves m owns thieves → AreOwners n owns → IsPermutation (all_stolen thieves) (flat_map joined_of (back_of owns thieves))
gathers n m owns [] are owners = subst (λ l. IsPermutation [] l) (sym (gathers_none n owns owners)) (IsPermutation-refl [])
gathers n m owns (t ∷ ts) are owners =
    IsPermutation-trans (stolen_by t ++ all_stolen ts) (all_stolen ts ++ stolen_by t) (flat_map joined_of (returned_all (back_of owns ts) (views_of t))) (IsPermutation-append_comm (stolen_by t) (all_stolen ts))
    (IsPermutation-trans (all_stolen ts ++ stolen_by t) (flat_map joined_of (back_of owns ts) ++ stolen_by t) (flat_map joined_of (returned_all (back_of owns ts) (views_of t)))
    (IsPermutation-append_left (stolen_by t) (all_stolen ts) (flat_map joined_of (back_of owns ts)) (gathers n (m + 1) owns ts are.3 owners))
    (gathers_one (back_of owns ts) (views_of t) (reached_length owns t are.1 ∙ sym (back_length owns ts))))

-- a list that owners keep and that a return leaves
returned_keeps : (f : View → List ℕ) → ((v w : View) → f (joined_with v w) ≡ f v) → (views others : List View) → flat_map f (returned_all views others) ≡ flat_map f views
returned_keeps f keeps [] others = refl
returned_keeps f keeps (v ∷ vs) [] = refl
returned_keeps f keeps (v ∷ vs) (o ∷ os) = ap (λ l. l ++ flat_map f (returned_all vs os)) (keeps v o) ∙ ap (λ l. f v ++ l) (returned_keeps f keeps vs os)

back_keeps : (f : View → List ℕ) → ((v w : View) → f (joined_with v w) ≡ f v) → (owns : List Own) (thieves : List Thief) → flat_map f (back_of owns thieves) ≡ flat_map f (map own_view owns)
back_keeps f keeps owns [] = refl
back_keeps f keeps owns (t ∷ ts) = returned_keeps f keeps (back_of owns ts) (views_of t) ∙ back_keeps f keeps owns ts

abbrev exposed_in : View → List ℕ
exposed_in view = view.exposed

abbrev taken_in : View → List ℕ
taken_in view = view.taken

-- one deque by itself
one_whole : (n : ℕ) (view : View) (left : List ℕ) → view.made ≡ n → Falls n 0 view.joined → Settles view left → IsPermutation ((view.taken ++ joined_of view) ++ left) view.exposed
one_whole n view left made falls (steals, pending, exposed, took, others, never) =
    let stolen : IsPermutation (joined_of view) (numbers_of steals) = took_all n steals view.joined falls took (λ port above. others port (omega (arith, above, made))) never in
    IsPermutation-trans ((view.taken ++ joined_of view) ++ left) ((view.taken ++ numbers_of steals) ++ left) view.exposed
    (IsPermutation-append_left left (view.taken ++ joined_of view) (view.taken ++ numbers_of steals) (IsPermutation-append_right view.taken (joined_of view) (numbers_of steals) stolen))
    (subst (λ l. IsPermutation l view.exposed) (ap (λ l. view.taken ++ l) pending ∙ sym (append_assoc view.taken (numbers_of steals) left)) exposed)

all_whole : (n : ℕ) (views : List View) (lefts : List (List ℕ)) → AllFall n 0 views → AllSettle views lefts → IsPermutation ((flat_map taken_in views ++ flat_map joined_of views) ++ concat lefts) (flat_map exposed_in views)
all_whole n [] [] fall settle = IsPermutation-refl []
all_whole n [] (l ∷ ls) fall settle = absurd settle
all_whole n (v ∷ vs) [] fall settle = absurd settle
all_whole n (v ∷ vs) (l ∷ ls) fall settle =
    let taken : List ℕ = flat_map taken_in vs in
    let joined : List ℕ = flat_map joined_of vs in
    let exposed : List ℕ = flat_map exposed_in vs in
    IsPermutation-trans (((v.taken ++ taken) ++ (joined_of v ++ joined)) ++ (l ++ concat ls)) (((v.taken ++ joined_of v) ++ (taken ++ joined)) ++ (l ++ concat ls)) (v.exposed ++ exposed)
    (IsPermutation-append_left (l ++ concat ls) ((v.taken ++ taken) ++ (joined_of v ++ joined)) ((v.taken ++ joined_of v) ++ (taken ++ joined)) (four v.taken taken (joined_of v) joined))
    (IsPermutation-trans (((v.taken ++ joined_of v) ++ (taken ++ joined)) ++ (l ++ concat ls)) (((v.taken ++ joined_of v) ++ l) ++ ((taken ++ joined) ++ concat ls)) (v.exposed ++ exposed)
    (four (v.taken ++ joined_of v) (taken ++ joined) l (concat ls))
    (both ((v.taken ++ joined_of v) ++ l) v.exposed ((taken ++ joined) ++ concat ls) exposed (one_whole n v l fall.0 fall.1 settle.0) (all_whole n vs ls fall.2 settle.1)))

total_is : (lefts : List (List ℕ)) → total lefts ≡ length (concat lefts)
total_is [] = refl
total_is (l ∷ ls) = ap (λ k. length l + k) (total_is ls) ∙ sym (length-append l (concat ls))

-- what all owners took and all thieves stole, with what is left, is what all owners exposed
pub whole : (owns : List Own) (thieves : List Thief) (lefts : List (List ℕ)) (numbers most : ℕ) → AreAll owns thieves → AllSettle (returned_by (map own_view owns) (map views_of thieves)) lefts → numbers ≡ min (total lefts) most
    → (left : List ℕ) × IsPermutation ((all_taken owns ++ all_stolen thieves) ++ left) (all_exposed owns) × (numbers ≡ min (length left) most)
whole owns thieves lefts numbers most are settle count =
    let n : ℕ = length owns in
    let many = are.many in
    let fall : AllFall n 0 (back_of owns thieves) = back_fall n 0 owns thieves are.others (omega (arith, many)) are.owners in
    let stolen : IsPermutation (all_stolen thieves) (flat_map joined_of (back_of owns thieves)) = gathers n 0 owns thieves are.others are.owners in
    let taken : flat_map taken_in (back_of owns thieves) ≡ all_taken owns = back_keeps taken_in (λ v w. refl) owns thieves ∙ flat_map-map taken_in own_view owns in
    let exposed : flat_map exposed_in (back_of owns thieves) ≡ all_exposed owns = back_keeps exposed_in (λ v w. refl) owns thieves ∙ flat_map-map exposed_in own_view owns in
    let all = all_whole n (back_of owns thieves) lefts fall settle in (
      concat lefts,
      IsPermutation-trans ((all_taken owns ++ all_stolen thieves) ++ concat lefts) ((all_taken owns ++ flat_map joined_of (back_of owns thieves)) ++ concat lefts) (all_exposed owns)
          (IsPermutation-append_left (concat lefts) (all_taken owns ++ all_stolen thieves) (all_taken owns ++ flat_map joined_of (back_of owns thieves)) (IsPermutation-append_right (all_taken owns) (all_stolen thieves) (flat_map joined_of (back_of owns thieves)) stolen))
          (subst (λ l. IsPermutation ((l ++ flat_map joined_of (back_of owns thieves)) ++ concat lefts) (all_exposed owns)) taken (subst (λ l. IsPermutation ((flat_map taken_in (back_of owns thieves) ++ flat_map joined_of (back_of owns thieves)) ++ concat lefts) l) exposed all)),
      count ∙ ap (λ k. min k most) (total_is lefts),
    )
