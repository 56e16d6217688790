-- The order of references, as one comes at its end or goes.
use Rattle.std.proofs.Common.{◌≡◌, ℕ, zero, suc, Bool, true, false, cond, ◌⊎◌, inl, inr, List, [], ◌∷◌, ◌++◌, length, Option, Some, None, nat_eq, refl, sym, ap, ◌∙◌, subst, arith}
use Rattle.std.specs.Prelude.{slice_get, slice_set, if◌then◌else◌}
use Rattle.std.specs.Str.{bytes_eq}
use Rattle.std.proofs.lemmas.Bool.{true≢false}
use Rattle.std.proofs.lemmas.Option.{slice_get_within}
use Rattle.name_states.proofs.Basics.{test_same, test_apart, same_some}
use Rattle.cht_ids.specs.declared.refs.Ref.{Ref}
use Rattle.cht_ids.specs.declared.refs.Id.{Id}
use Rattle.cht_ids.specs.declared.refs.Ref.TheVariants.{Null, Id as HeldId}
use Rattle.cht_script.specs.declared.checked.Shape.{Shape}
use Rattle.cht_session.specs.declared.held.Binding.{Binding}
use Rattle.cht_session.specs.declared.held.Held.{Held}
use Rattle.cht_session.specs.Bindings.{found_in, Puts, IsAdded, IsOrdered}
use Rattle.cht_session.specs.Program.{Bound, references, identifiers}
use Rattle.cht_session.proofs.Bindings.{bytes_same, bytes_self}

-- ---- Lists

pub identifiers_append : (xs ys : List Ref) → identifiers (xs ++ ys) ≡ identifiers xs ++ identifiers ys
identifiers_append [] ys = refl
identifiers_append (Null ∷ xs) ys = identifiers_append xs ys
identifiers_append (HeldId id ∷ xs) ys = ap (λ (ids : List Id). id ∷ ids) (identifiers_append xs ys)

pub references_append : (xs ys : List Bound) → references (xs ++ ys) ≡ references xs ++ references ys
references_append [] ys = refl
references_append (x ∷ xs) ys = ap (λ (refs : List Ref). x.at ∷ refs) (references_append xs ys)

pub get_last : {A : Type 0} (xs : List A) (y : A) → slice_get (xs ++ y ∷ []) (length xs) ≡ Some y
get_last [] y = refl
get_last (x ∷ xs) y = get_last xs y

pub get_front : {A : Type 0} (xs ys : List A) (i : ℕ) (x : A) → slice_get xs i ≡ Some x → slice_get (xs ++ ys) i ≡ Some x
get_front [] ys i x e = absurd (let clash : None ≡ Some x = e in cc)
get_front (y ∷ xs) ys zero x e = e
get_front (y ∷ xs) ys (suc i) x e = get_front xs ys i x e

pub get_set_other : {A : Type 0} (xs : List A) (i j : ℕ) (y : A) → (j ≡ i → ⊥) → slice_get (slice_set xs i y) j ≡ slice_get xs j
get_set_other [] i j y apart = refl
get_set_other (x ∷ xs) zero zero y apart = absurd (apart refl)
get_set_other (x ∷ xs) zero (suc j) y apart = refl
get_set_other (x ∷ xs) (suc i) zero y apart = refl
get_set_other (x ∷ xs) (suc i) (suc j) y apart = get_set_other xs i j y (λ same. apart (ap suc same))

-- ---- One that goes

-- the identifiers but the first with a number
abbrev pub strike : ℕ → List Id → List Id
strike n [] = []
strike n (id ∷ ids) = if nat_eq id.number n then ids else id ∷ strike n ids

-- a reference is struck, where it is not null
abbrev pub strike_ref : Ref → List Id → List Id
strike_ref Null ids = ids
strike_ref (HeldId k) ids = strike k.number ids

pub struck_here : (id k : Id) (ids : List Id) → id.number ≡ k.number → strike k.number (id ∷ ids) ≡ ids
struck_here id k ids same = ap (λ b. cond b ids (id ∷ strike k.number ids)) (ap (λ n. nat_eq n k.number) same ∙ test_same k.number)

pub struck_later : (id k : Id) (ids : List Id) → (id.number ≡ k.number → ⊥) → strike k.number (id ∷ ids) ≡ id ∷ strike k.number ids
struck_later id k ids apart = ap (λ b. cond b ids (id ∷ strike k.number ids)) (test_apart id.number k.number apart)

-- ---- Numbers in the order

module _ (held later : Held) (name : List ℕ) where
  found_case : (b : Bool) (one other : Binding) (o : Option Binding) → cond b (Some one) o ≡ Some other → ((b ≡ true) × (one ≡ other)) ⊎ ((b ≡ false) × (o ≡ Some other))
  found_case true one other o e = inl (refl, same_some one other e)
  found_case false one other o e = inr (refl, e)

  none_case : (b : Bool) (other : Binding) (o : Option Binding) → cond b None o ≡ Some other → (b ≡ false) × (o ≡ Some other)
  none_case true other o e = absurd (let clash : None ≡ Some other = e in cc)
  none_case false other o e = (refl, e)

  -- one more name
  pub ordered_added : (shape : Shape) (at : Ref) → IsOrdered held → IsAdded held name shape at later → later.order.items ≡ held.order.items ++ at ∷ [] → IsOrdered later
  ordered_added shape at ordered added order =
      let n = length held.order.items in
      let one : Binding = record { shape = shape; at = at; number = n } in
      let was = λ (other : List ℕ) (x : Binding) (e : found_in later other ≡ Some x).
      found_case (bytes_eq name other) one x (found_in held other) (sym (added other) ∙ e) in
      record {
        stands = λ other x e.
            ap (λ (refs : List Ref). slice_get refs x.number) order
            ∙ elim (was other x e) [
              | inl here ↦ subst (λ (x : Binding). slice_get (held.order.items ++ at ∷ []) x.number ≡ Some x.at) here.1 (get_last held.order.items at)
              | inr there ↦ get_front held.order.items (at ∷ []) x.number x.at (ordered.stands other x there.1)
            ];
        apart = λ a b x y e f same.
            elim (was a x e) [
              | inl here ↦ elim (was b y f) [
                | inl too ↦ sym (bytes_same name a here.0) ∙ bytes_same name b too.0
                | inr there ↦
                    let within = slice_get_within held.order.items y.number y.at (ordered.stands b y there.1) in
                    let last : n ≡ x.number = ap (λ (x : Binding). x.number) here.1 in
                    absurd (omega arith)
              ]
              | inr there ↦ elim (was b y f) [
                | inl here ↦
                    let within = slice_get_within held.order.items x.number x.at (ordered.stands a x there.1) in
                    let last : n ≡ y.number = ap (λ (x : Binding). x.number) here.1 in
                    absurd (omega arith)
                | inr too ↦ ordered.apart a b x y there.1 too.1 same
              ]
            ];
      }

  -- one name less
  pub ordered_ended : (one : Binding) → IsOrdered held → found_in held name ≡ Some one → Puts held name None later
      → later.order.items ≡ slice_set held.order.items one.number Null → IsOrdered later
  ordered_ended one ordered found puts order =
      let was = λ (other : List ℕ) (x : Binding) (e : found_in later other ≡ Some x).
      none_case (bytes_eq name other) x (found_in held other) (sym (puts other) ∙ e) in
      record {
        stands = λ other x e.
            let w = was other x e in
            ap (λ (refs : List Ref). slice_get refs x.number) order
            ∙ get_set_other held.order.items one.number x.number Null (λ same.
            true≢false (sym (ap (bytes_eq name) (ordered.apart other name x one w.1 found same) ∙ bytes_self name) ∙ w.0))
            ∙ ordered.stands other x w.1;
        apart = λ a b x y e f same. ordered.apart a b x y (was a x e).1 (was b y f).1 same;
      }
