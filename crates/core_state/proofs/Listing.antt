-- The sets of tasks of callers.
use Rattle.std.proofs.Common.{◌≡◌, ℕ, zero, suc, ◌-◌, ◌<◌, Bool, true, false, ◌&&◌, ◌||◌, cond, nat_eq, List, [], ◌∷◌, ◌++◌, length, slice_set, Option, Some, None, inl, inr, refl, sym, ap, ◌∙◌, arith}
use Rattle.std.specs.Prelude.{slice_get, IfSome, IfNone}
use Rattle.std.specs.List.{list_any}
use Rattle.std.specs.HashSet.{HashSet, spare}
use Rattle.chunk_refs.proofs.Stores.{get-set_here, get-set_other}
use Rattle.name_states.proofs.Basics.{none_not_some, same_some, same_or_not, test_same, test_apart}
use Rattle.core_state.specs.AskTable.{room_at}
use Rattle.core_state.specs.Lists.{items_of, rooms_of, is_listed}

or_behind : (a b : Bool) → b ≡ true → (a || b) ≡ true
or_behind true b is = refl
or_behind false b is = is

item_listed : (keys : List ℕ) (i q : ℕ) → slice_get keys i ≡ Some q → list_any (nat_eq q) keys ≡ true
item_listed [] i q is = absurd (none_not_some refl is)
item_listed (k ∷ keys) zero q is = ap (λ t. t || list_any (nat_eq q) keys) (ap (nat_eq q) (same_some k q is) ∙ test_same q)
item_listed (k ∷ keys) (suc i) q is = or_behind (nat_eq q k) (list_any (nat_eq q) keys) (item_listed keys i q is)

some_at : (k : ℕ) (keys : List ℕ) → (x : ℕ) × (slice_get (k ∷ keys) (length keys) ≡ Some x)
some_at k [] = (k, refl)
some_at k (j ∷ keys) = some_at j keys

none_last : (keys : List ℕ) → None ≡ slice_get keys (length keys - 1) → (q : ℕ) → list_any (nat_eq q) keys ≡ false
none_last [] is q = refl
none_last (k ∷ keys) is q =
    let at = some_at k keys in
    let last : length (k ∷ keys) - 1 ≡ length keys = omega arith in
    absurd (none_not_some (sym is) (ap (slice_get (k ∷ keys)) last ∙ at.1))

-- a caller with a task in its list is one of them
pub listed_within : (lists : List (List ℕ)) (c q : ℕ) → is_listed lists c q ≡ true → c < length lists
listed_within [] c q is = absurd (let clash : false ≡ true = is in cc)
listed_within (l ∷ lists) zero q is = omega arith
listed_within (l ∷ lists) (suc c) q is = let rest = listed_within lists c q is in omega arith

module _ {S : Type 0} where
  abbrev in_row : ℕ → Option (HashSet ℕ S) → Bool
  in_row q None = false
  in_row q (Some row) = list_any (nat_eq q) row.keys

  listed_row : (rows : List (HashSet ℕ S)) (caller q : ℕ) → is_listed (items_of rows) caller q ≡ in_row q (slice_get rows caller)
  listed_row [] caller q = refl
  listed_row (row ∷ rows) zero q = refl
  listed_row (row ∷ rows) (suc caller) q = listed_row rows caller q

  pub length_items : (rows : List (HashSet ℕ S)) → length (items_of rows) ≡ length rows
  length_items [] = refl
  length_items (row ∷ rows) = ap suc (length_items rows)

  pub length_rooms : (rows : List (HashSet ℕ S)) → length (rooms_of rows) ≡ length rows
  length_rooms [] = refl
  length_rooms (row ∷ rows) = ap suc (length_rooms rows)

  -- the room of a set
  pub room_row : (rows : List (HashSet ℕ S)) (c : ℕ) (row : HashSet ℕ S) → slice_get rows c ≡ Some row → room_at (rooms_of rows) c ≡ spare row
  room_row [] c row is = absurd (none_not_some refl is)
  room_row (first ∷ rows) zero row is = ap (λ (r : HashSet ℕ S). spare r) (same_some first row is)
  room_row (first ∷ rows) (suc c) row is = room_row rows c row is

  pub room_set : (rows : List (HashSet ℕ S)) (c : ℕ) (old new : HashSet ℕ S) → slice_get rows c ≡ Some old → room_at (rooms_of (slice_set rows c new)) c ≡ spare new
  room_set rows c old new is = room_row (slice_set rows c new) c new (get-set_here rows c new old is)

  -- one more set without tasks
  pub rows_more : (rows : List (HashSet ℕ S)) (row : HashSet ℕ S) → ((caller task : ℕ) → is_listed (items_of rows) caller task ≡ false) → row.keys ≡ []
      → (caller task : ℕ) → is_listed (items_of (rows ++ row ∷ [])) caller task ≡ false
  rows_more [] row none is zero task = ap (list_any (nat_eq task)) is
  rows_more [] row none is (suc caller) task = refl
  rows_more (first ∷ rows) row none is zero task = none zero task
  rows_more (first ∷ rows) row none is (suc caller) task = rows_more rows row (λ c q. none (suc c) q) is caller task

  -- another set with the same tasks
  pub items_same : (rows : List (HashSet ℕ S)) (c : ℕ) (old new : HashSet ℕ S) → slice_get rows c ≡ Some old → new.keys ≡ old.keys
      → items_of (slice_set rows c new) ≡ items_of rows
  items_same [] c old new is same = refl
  items_same (row ∷ rows) zero old new is same = ap (λ ks. ks ∷ items_of rows) (same ∙ ap (λ (r : HashSet ℕ S). r.keys) (sym (same_some row old is)))
  items_same (row ∷ rows) (suc c) old new is same = ap (λ xs. row.keys ∷ xs) (items_same rows c old new is same)

  -- a set with one task more, or one less
  pub listed_set : (rows : List (HashSet ℕ S)) (c task : ℕ) (old new : HashSet ℕ S) (b : Bool) → slice_get rows c ≡ Some old
      → ((q : ℕ) → list_any (nat_eq q) new.keys ≡ cond (nat_eq task q) b (list_any (nat_eq q) old.keys))
      → (caller q : ℕ) → is_listed (items_of (slice_set rows c new)) caller q ≡ cond (nat_eq c caller && nat_eq task q) b (is_listed (items_of rows) caller q)
  listed_set rows c task old new b is step caller q =
      elim (same_or_not caller c) [
        | inl same ↦
            listed_row (slice_set rows c new) caller q
            ∙ ap (in_row q) (ap (slice_get (slice_set rows c new)) same ∙ get-set_here rows c new old is)
            ∙ step q
            ∙ ap (cond (nat_eq task q) b) (sym (listed_row rows caller q ∙ ap (in_row q) (ap (slice_get rows) same ∙ is)))
            ∙ ap (λ t. cond (t && nat_eq task q) b (is_listed (items_of rows) caller q)) (sym (ap (nat_eq c) same ∙ test_same c))
        | inr apart ↦
            listed_row (slice_set rows c new) caller q
            ∙ ap (in_row q) (get-set_other rows c caller new apart)
            ∙ sym (listed_row rows caller q)
            ∙ ap (λ t. cond (t && nat_eq task q) b (is_listed (items_of rows) caller q)) (sym (test_apart c caller (λ e. apart (sym e))))
      ]

  -- the last task of a set
  pub last_listed : (rows : List (HashSet ℕ S)) (c : ℕ) (row : HashSet ℕ S) (found : Option ℕ) → slice_get rows c ≡ Some row
      → found ≡ slice_get row.keys (length row.keys - 1) → IfSome found (λ q. is_listed (items_of rows) c q ≡ true)
  last_listed rows c row None is last = tt
  last_listed rows c row (Some q) is last = listed_row rows c q ∙ ap (in_row q) is ∙ item_listed row.keys (length row.keys - 1) q (sym last)

  pub last_none : (rows : List (HashSet ℕ S)) (c : ℕ) (row : HashSet ℕ S) (found : Option ℕ) → slice_get rows c ≡ Some row
      → found ≡ slice_get row.keys (length row.keys - 1) → IfNone found ((q : ℕ) → is_listed (items_of rows) c q ≡ false)
  last_none rows c row None is last = λ q. listed_row rows c q ∙ ap (in_row q) is ∙ none_last row.keys last q
  last_none rows c row (Some q) is last = tt
