-- Names and their bindings, as one is bound or ended.
use Rattle.std.proofs.Common.{◌≡◌, ℕ, Bool, true, false, cond, inl, inr, List, [], ◌∷◌, ◌++◌, Option, Some, None, refl, sym, ap, ap₂, ◌∙◌, subst}
use Rattle.std.specs.Prelude.{not, option_map, slice_set}
use Rattle.std.specs.Str.{bytes_eq}
use Rattle.std.specs.Cmp.Lexicographic.{bytes_decides}
use Rattle.std.proofs.lemmas.Bool.{cases_Bool, true≢false}
use Rattle.mm_text.specs.Faults.{or_else}
use Rattle.cht_script.specs.Newest.{newest}
use Rattle.cht_script.specs.Meaning.{Known, is_named, without_name}
use Rattle.cht_session.specs.declared.held.Binding.{Binding}
use Rattle.cht_ids.specs.declared.refs.Ref.TheVariants.{Null}
use Rattle.cht_session.specs.declared.held.Held.{Held}
use Rattle.cht_session.specs.Bindings.{found_in, Puts, EndsAs, IsEnded}
use Rattle.cht_session.specs.Program.{Bound, known_in, is_bound_as, left_without}
use Rattle.cht_session.specs.Held.{IsOf, Finds}

-- ---- Names

pub bytes_same : (a b : List ℕ) → bytes_eq a b ≡ true → a ≡ b
bytes_same a b e = (bytes_decides a b).0 e

pub bytes_self : (a : List ℕ) → bytes_eq a a ≡ true
bytes_self a = (bytes_decides a a).1 refl

pub bytes_back : (a b : List ℕ) → bytes_eq a b ≡ false → bytes_eq b a ≡ false
bytes_back a b e =
    elim (cases_Bool (bytes_eq b a)) [
      | inl same ↦ absurd (true≢false (sym (ap (bytes_eq a) (bytes_same b a same) ∙ bytes_self a) ∙ e))
      | inr other ↦ other
    ]

-- ---- The newest of names

pub known_newest : (name : List ℕ) (env : List Bound) → newest (is_named name) (known_in env) ≡ option_map (λ (one : Bound). one.known) (newest (is_bound_as name) env)
known_newest name [] = refl
known_newest name (x ∷ env) =
    ap (λ o. or_else o (cond (is_bound_as name x) (Some x.known) None)) (known_newest name env)
    ∙ case (newest (is_bound_as name) env) (is_bound_as name x) x
  where
    case : (o : Option Bound) (b : Bool) (x : Bound)
        → or_else (option_map (λ (one : Bound). one.known) o) (cond b (Some x.known) None) ≡ option_map (λ (one : Bound). one.known) (or_else o (cond b (Some x) None))
    case None true x = refl
    case None false x = refl
    case (Some y) b x = refl

-- the first is not the newest where it is another
pub newest_behind : {A : Type 0} (fits : A → Bool) (x : A) (xs : List A) → fits x ≡ false → newest fits (x ∷ xs) ≡ newest fits xs
newest_behind fits x xs other = ap (λ b. or_else (newest fits xs) (cond b (Some x) None)) other ∙ or_none (newest fits xs)
  where
    or_none : {A : Type 0} (o : Option A) → or_else o None ≡ o
    or_none None = refl
    or_none (Some y) = refl

-- it is where none behind it fits
pub newest_first : {A : Type 0} (fits : A → Bool) (x : A) (xs : List A) → fits x ≡ true → newest fits xs ≡ None → newest fits (x ∷ xs) ≡ Some x
newest_first fits x xs here none = ap₂ (λ o b. or_else o (cond b (Some x) None)) none here

-- where none fits, neither does the first
pub none_first : {A : Type 0} (fits : A → Bool) (x : A) (xs : List A) → newest fits (x ∷ xs) ≡ None → (fits x ≡ false) × (newest fits xs ≡ None)
none_first {A} fits x xs e = case (newest fits xs) (fits x) x e
  where
    case : {A : Type 0} (o : Option A) (b : Bool) (x : A) → or_else o (cond b (Some x) None) ≡ None → (b ≡ false) × (o ≡ None)
    case None true x e = absurd (let clash : Some x ≡ None = e in cc)
    case None false x e = (refl, refl)
    case (Some y) b x e = absurd (let clash : Some y ≡ None = e in cc)

-- where none has a name, nothing is left out
pub left_all : (name : List ℕ) (env : List Bound) → newest (is_bound_as name) env ≡ None → left_without name env ≡ env
left_all name [] none = refl
left_all name (x ∷ env) none =
    let first = none_first (is_bound_as name) x env none in
    ap (λ b. cond (not b) (x ∷ left_without name env) (left_without name env)) first.0 ∙ ap (λ (e : List Bound). x ∷ e) (left_all name env first.1)

gone_case : (d f : Bool) (x : Bound) (n : Option Bound) → d ≡ f → cond d None n ≡ cond d None (or_else n (cond f (Some x) None))
gone_case true f x n e = refl
gone_case false f x None e = rw (← e) refl
gone_case false f x (Some y) e = refl

kept_case : (d f : Bool) (x : Bound) (n : Option Bound) → (d ≡ true → f ≡ false)
    → or_else (cond d None n) (cond f (Some x) None) ≡ cond d None (or_else n (cond f (Some x) None))
kept_case true f x n h = ap (λ b. cond b (Some x) None) (h refl)
kept_case false f x n h = refl

none_case : (b : Bool) → None ≡ cond b None (let none : Option Bound = None in none)
none_case true = refl
none_case false = refl

-- the newest of a name, where one name is left out
pub newest_left : (env : List Bound) (name other : List ℕ)
    → newest (is_bound_as other) (left_without name env) ≡ cond (bytes_eq name other) None (newest (is_bound_as other) env)
newest_left [] name other = none_case (bytes_eq name other)
newest_left (x ∷ xs) name other =
    let rest = newest_left xs name other in
    let step : Bool → Option Bound = λ b. newest (is_bound_as other) (cond (not b) (x ∷ left_without name xs) (left_without name xs)) in
    elim (cases_Bool (bytes_eq x.known.name name)) [
      | inl gone ↦
          ap step gone ∙ rest
          ∙ gone_case (bytes_eq name other) (bytes_eq x.known.name other) x (newest (is_bound_as other) xs)
          (ap (λ n. bytes_eq n other) (sym (bytes_same x.known.name name gone)))
      | inr kept ↦
          ap step kept
          ∙ ap (λ o. or_else o (cond (bytes_eq x.known.name other) (Some x) None)) rest
          ∙ kept_case (bytes_eq name other) (bytes_eq x.known.name other) x (newest (is_bound_as other) xs)
          (λ e. ap (bytes_eq x.known.name) (sym (bytes_same name other e)) ∙ kept)
    ]

-- ---- The environment of the meaning

pub known_append : (xs ys : List Bound) → known_in (xs ++ ys) ≡ known_in xs ++ known_in ys
known_append [] ys = refl
known_append (x ∷ xs) ys = ap (λ (ks : List Known). x.known ∷ ks) (known_append xs ys)

known_kept : (b : Bool) (x : Bound) (xs : List Bound) → known_in (cond b (x ∷ xs) xs) ≡ cond b (x.known ∷ known_in xs) (known_in xs)
known_kept true x xs = refl
known_kept false x xs = refl

pub known_left : (name : List ℕ) (env : List Bound) → known_in (left_without name env) ≡ without_name (known_in env) name
known_left name [] = refl
known_left name (x ∷ env) =
    known_kept (not (is_bound_as name x)) x (left_without name env)
    ∙ ap (λ (ks : List Known). cond (not (is_bound_as name x)) (x.known ∷ ks) ks) (known_left name env)

-- ---- What is found

pub finds_case : (b : Bool) (one : Binding) (bound : Bound) (o : Option Binding) (n : Option Bound) → IsOf one bound → Finds o n → Finds (cond b (Some one) o) (cond b (Some bound) n)
finds_case true one bound o n is finds = is
finds_case false one bound o n is finds = finds

pub finds_none : (b : Bool) (o : Option Binding) (n : Option Bound) → Finds o n → Finds (cond b None o) (cond b None n)
finds_none true o n finds = tt
finds_none false o n finds = finds

-- what is found is bound
pub finds_some : (o : Option Binding) (n : Option Bound) (one : Binding) → o ≡ Some one → Finds o n → (bound : Bound) × (n ≡ Some bound) × IsOf one bound
finds_some None n one e finds = absurd (let clash : None ≡ Some one = e in cc)
finds_some (Some x) None one e finds = absurd finds
finds_some (Some x) (Some bound) one e finds = (bound, refl, subst (λ x. IsOf x bound) (let same : x ≡ one = cc in same) finds)

-- and what is not found is not
pub finds_nothing : (o : Option Binding) (n : Option Bound) → o ≡ None → Finds o n → n ≡ None
finds_nothing None None e finds = refl
finds_nothing None (Some bound) e finds = absurd finds
finds_nothing (Some x) n e finds = absurd (let clash : Some x ≡ None = e in cc)

-- ---- Changes

pub ended_none : (held later : Held) (name : List ℕ) → found_in held name ≡ None → later.order.items ≡ held.order.items → Puts held name None later
    → IsEnded held name Null later
ended_none held later name found order puts = subst (λ o. EndsAs o held name Null later) (sym found) (refl, order, puts)

pub ended_some : (held later : Held) (name : List ℕ) (one : Binding) → found_in held name ≡ Some one
    → later.order.items ≡ slice_set held.order.items one.number Null → Puts held name None later → IsEnded held name one.at later
ended_some held later name one found order puts = subst (λ o. EndsAs o held name one.at later) (sym found) (refl, order, puts)
