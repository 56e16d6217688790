-- What the heap says of the numbers in it.
use Rattle.std.proofs.Common.{◌≡◌, ℕ, ◌≤◌, ◌<◌, Bool, true, false, ◌||◌, List, [], ◌∷◌, length, Option, Some, None, nat_eq, refl, sym, ap, ◌∙◌, inl, inr, arith, get_or}
use Rattle.std.specs.List.{list_any}
use Rattle.std.specs.List.Sorted.{IsPermutation}
use Rattle.std.specs.Ordering.{nat_cmp, is_lt, MatchOrdering}
use Rattle.std.specs.Cmp.{ranks}
use Rattle.std.specs.declared.cmp.Ordering.TheVariants.{Less, Equal, Greater}
use Rattle.std.specs.Option.{IfSome, IfNone}
use Rattle.std.specs.BinaryHeap.{IsUpperBound, PopsGreatest, IsHeap}
use Rattle.std.specs.declared.cmp.Reverse.{Reverse}
use Rattle.std.proofs.lemmas.List.Sorted.{list_any-IsPermutation}
use Rattle.task_states.proofs.Maps.{same_or_not, test_same, test_apart}
use Rattle.task_links.specs.Queue.{by_falling}

pub has : ℕ → Reverse ℕ → Bool
has q item = nat_eq q item.0

pub queued_put : (items new : List (Reverse ℕ)) (x : Reverse ℕ) → IsPermutation (x ∷ items) new → (q : ℕ) → list_any (λ (item : Reverse ℕ). nat_eq q item.0) new ≡ (nat_eq q x.0 || list_any (λ (item : Reverse ℕ). nat_eq q item.0) items)
queued_put items new x perm q = sym (list_any-IsPermutation (λ (item : Reverse ℕ). nat_eq q item.0) (x ∷ items) new perm)

not_less : (a b : ℕ) → is_lt (nat_cmp a b) ≡ false → b ≤ a
not_less a b is = elim (nat_cmp a b) as (λ r. MatchOrdering r (a < b) (a ≡ b) (b < a) → is_lt r ≡ false → b ≤ a) [
  | Less ↦ λ m none. absurd (cc)
  | Equal ↦ λ m none. omega arith
  | Greater ↦ λ m none. omega arith
] (ranks a b) is

pub bound_of : (items : List (Reverse ℕ)) (x : Reverse ℕ) → IsUpperBound by_falling x items → (q : ℕ) → list_any (λ (item : Reverse ℕ). nat_eq q item.0) items ≡ true → x.0 ≤ q
bound_of [] x bound q is = absurd (cc)
bound_of (y ∷ items) x bound q is =
    let low : x.0 ≤ y.0 = not_less y.0 x.0 bound.0 in
    elim (same_or_not q y.0) [
      | inl same ↦ omega arith
      | inr apart ↦ bound_of items x bound.1 q (sym (ap (λ b. b || list_any (λ (item : Reverse ℕ). nat_eq q item.0) items) (test_apart q y.0 apart)) ∙ is)
    ]

pub first_queued : (items : List (Reverse ℕ)) (x d : Reverse ℕ) → 0 < length items → x ≡ get_or items 0 d → list_any (λ (item : Reverse ℕ). nat_eq x.0 item.0) items ≡ true
first_queued [] x d some is = absurd (omega arith)
first_queued (y ∷ items) x d some is = ap (λ (z : Reverse ℕ). nat_eq x.0 z.0 || list_any (λ (item : Reverse ℕ). nat_eq x.0 item.0) items) (sym is) ∙ ap (λ b. b || list_any (λ (item : Reverse ℕ). nat_eq x.0 item.0) items) (test_same x.0)

no_items : (items : List (Reverse ℕ)) → length items ≡ 0 → (q : ℕ) → list_any (λ (item : Reverse ℕ). nat_eq q item.0) items ≡ false
no_items [] none q = refl
no_items (x ∷ items) none q = absurd (omega arith)

-- what is left once the least is taken out
pub rest_of : (items new : List (Reverse ℕ)) (o : Option (Reverse ℕ)) → IsHeap by_falling items → IfSome o (λ x. IsPermutation items (x ∷ new)) → IfSome o (λ x. PopsGreatest by_falling items x new) → IfNone o (length items ≡ 0)
    → (least : ℕ) → list_any (λ (item : Reverse ℕ). nat_eq least item.0) items ≡ true → ((q : ℕ) → list_any (λ (item : Reverse ℕ). nat_eq q item.0) items ≡ true → least ≤ q)
    → (q : ℕ) → list_any (λ (item : Reverse ℕ). nat_eq q item.0) items ≡ (nat_eq q least || list_any (λ (item : Reverse ℕ). nat_eq q item.0) new)
rest_of items new None heap perm pops none least there low q = absurd (let e = sym there ∙ no_items items none least in cc)
rest_of items new (Some x) heap perm pops none least there low q =
    let kept = list_any-IsPermutation (λ (item : Reverse ℕ). nat_eq x.0 item.0) items (x ∷ new) perm in
    let queued : list_any (λ (item : Reverse ℕ). nat_eq x.0 item.0) items ≡ true = kept ∙ ap (λ b. b || list_any (λ (item : Reverse ℕ). nat_eq x.0 item.0) new) (test_same x.0) in
    let one : least ≤ x.0 = low x.0 queued in
    let two : x.0 ≤ least = bound_of items x (pops heap).1 least there in
    let same : x.0 ≡ least = omega arith in
    list_any-IsPermutation (λ (item : Reverse ℕ). nat_eq q item.0) items (x ∷ new) perm ∙ ap (λ n. nat_eq q n || list_any (λ (item : Reverse ℕ). nat_eq q item.0) new) same

pub empty_from_len : (o : Option (Reverse ℕ)) (items : List (Reverse ℕ)) (len : ℕ) → len ≡ length items → IfNone o (len ≡ 0) → IfNone o (length items ≡ 0)
empty_from_len None items len is none = sym is ∙ none
empty_from_len (Some x) items len is none = tt
