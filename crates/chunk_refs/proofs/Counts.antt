-- How many identifiers name a body.
use Rattle.std.proofs.Common.{◌≡◌, ℕ, ◌+◌, ◌-◌, ◌<◌, ◌≤◌, ◌==◌, Bool, true, false, cond, List, [], ◌∷◌, length, Some, None, count_by, nat_eq, refl, sym, ap, arith}
use Rattle.std.specs.Option.{option_map, unwrap_or}
use Rattle.std.specs.List.{IsDistinct}
use Rattle.std.specs.List.Sorted.{IsPermutation}
use Rattle.std.specs.Map.{lookup, keys_of, values_of, remove_entry}
use Rattle.std.specs.HashMap.{HashMap, PutsEntry}
use Rattle.std.specs.Ordering.{nat_cmp}
use Rattle.std.specs.Cmp.{nat_cmp_total, nat_eq_equiv}
use Rattle.std.specs.FinMap as map
use Rattle.std.proofs.lemmas.List.Sums.{sum_by-cons, count_by-le-length}
use Rattle.std.proofs.lemmas.Map.{lookup-none}
use Rattle.std.proofs.lemmas.Map.Keys.{IsDistinct-tail}
use Rattle.std.proofs.lemmas.Map.Entries.{none_past_head, sum_by_puts_entry, sum_by-remove_entry, sum_by_values_permutation, length-values_of}
use Rattle.chunk_refs.specs.declared.parts.StoredId.{StoredId}
use Rattle.chunk_refs.specs.Inside.{names_of_body}
use Rattle.name_states.proofs.Basics.{same_from_test, same_options, test_same, test_apart, none_not_some, removed_from}

-- an identifier counts where it names the body
abbrev pub counts_for : ℕ → StoredId → ℕ
counts_for body name = cond (name.body == body) 1 0

-- where an identifier is put at a number that named nothing
pub names-put : {S : Type 0} (m n : HashMap ℕ StoredId S) (number : ℕ) (name : StoredId) (body : ℕ) → lookup (nat_eq number) m.entries ≡ None → PutsEntry nat_eq m n number name None
    → names_of_body body n.entries ≡ names_of_body body m.entries + counts_for body name
names-put m n number name body free puts =
    omega (arith, sum_by_puts_entry (counts_for body) nat_eq m n number name None (sym free) puts)

-- where one is taken out
pub names-taken : (es fs : List (ℕ × StoredId)) (number : ℕ) (name : StoredId) (body : ℕ) → lookup (nat_eq number) es ≡ Some name → IsPermutation (remove_entry (nat_eq number) es) fs
    → names_of_body body fs + counts_for body name ≡ names_of_body body es
names-taken es fs number name body is taken =
    let value : unwrap_or (option_map (counts_for body) (lookup (nat_eq number) es)) 0 ≡ counts_for body name = ap (λ o. unwrap_or (option_map (counts_for body) o) 0) is in
    omega (arith, value, sum_by-remove_entry (counts_for body) (nat_eq number) es, sum_by_values_permutation (counts_for body) (remove_entry (nat_eq number) es) fs taken)

-- the same in another order
pub names-reordered : (es fs : List (ℕ × StoredId)) (body : ℕ) → IsPermutation es fs → names_of_body body fs ≡ names_of_body body es
names-reordered es fs body same = sum_by_values_permutation (counts_for body) es fs same

-- a body that an identifier names has a name
pub named-counts : (es : List (ℕ × StoredId)) (number : ℕ) (name : StoredId) → lookup (nat_eq number) es ≡ Some name → 0 < names_of_body name.body es
named-counts es number name is =
    let one : counts_for name.body name ≡ 1 = ap (λ b. cond b 1 0) (test_same name.body) in
    let value : unwrap_or (option_map (counts_for name.body) (lookup (nat_eq number) es)) 0 ≡ counts_for name.body name = ap (λ o. unwrap_or (option_map (counts_for name.body) o) 0) is in
    omega (arith, one, value, sum_by-remove_entry (counts_for name.body) (nat_eq number) es)

-- an entry behind the first has another number
lookup_later : (e : ℕ × StoredId) (es : List (ℕ × StoredId)) (number : ℕ) (name : StoredId) → IsDistinct nat_eq (keys_of (e ∷ es)) → lookup (nat_eq number) es ≡ Some name → lookup (nat_eq number) (e ∷ es) ≡ Some name
lookup_later e es number name distinct is =
    elim (nat_eq number e.0) as (λ t. nat_eq number e.0 ≡ t → cond t (Some e.1) (lookup (nat_eq number) es) ≡ Some name) [
      | true ↦ λ same. absurd (none_not_some (lookup-none (nat_eq number) es (none_past_head nat_eq_equiv number e es distinct same)) is)
      | false ↦ λ apart. is
    ] refl

-- and the other way round
pub counted-name : (es : List (ℕ × StoredId)) (body : ℕ) → IsDistinct nat_eq (keys_of es) → 0 < names_of_body body es → (number : ℕ) × (name : StoredId) × (lookup (nat_eq number) es ≡ Some name) × (name.body ≡ body)
counted-name [] body distinct counts = absurd (omega arith)
counted-name (e ∷ es) body distinct counts =
    elim (nat_eq e.1.body body) as (λ t. nat_eq e.1.body body ≡ t → (number : ℕ) × (name : StoredId) × (lookup (nat_eq number) (e ∷ es) ≡ Some name) × (name.body ≡ body)) [
      | true ↦ λ here. (e.0, e.1, ap (λ b. cond b (Some e.1) (lookup (nat_eq e.0) es)) (test_same e.0), same_from_test e.1.body body here)
      | false ↦ λ not_here.
          let less : counts_for body e.1 ≡ 0 = ap (λ b. cond b 1 0) not_here in
          let later = counted-name es body (IsDistinct-tail nat_eq e.0 (keys_of es) distinct) (omega (arith, less, counts, sum_by-cons (counts_for body) e.1 (values_of es))) in
          (later.0, later.1, lookup_later e es later.0 later.1 distinct later.2, later.3)
    ] refl

-- no more names than entries
pub names-le-length : (es : List (ℕ × StoredId)) (body : ℕ) → names_of_body body es ≤ length es
names-le-length es body = omega (arith, count_by-le-length (λ (name : StoredId). name.body == body) (values_of es), length-values_of es)

one_at_most : (b : Bool) (n m : ℕ) → m ≡ cond b (n - 1) n → n ≤ m + 1
one_at_most true n m is = omega arith
one_at_most false n m is = omega arith

-- a map whose keys are bodies that names name has no more keys than there are names
pub no_more_keys : {X : Type 0} (names : List StoredId) (m : map.FinMap nat_cmp X) → ((key : ℕ) (x : X) → map.get m key ≡ Some x → 0 < count_by (λ name. name.body == key) names) → map.len m ≤ length names
no_more_keys {X} [] m among =
    let none : m ≡ map.empty = map.same_map nat_cmp_total map.nat_cmp-IsAntisymmetric m map.empty (λ key.
    same_options (map.get m key) (map.get map.empty key) (λ x is. absurd (omega (arith, among key x is))) (λ x is. absurd (none_not_some (map.get-empty nat_cmp key) is))) in
    omega (arith, ap (λ n. map.len n) none, map.len-empty nat_cmp X)
no_more_keys {X} (name ∷ names) m among =
    let rest = no_more_keys names (map.remove m name.body) (λ key x is.
    let was = removed_from m name.body key x is in
    let other : counts_for key name ≡ 0 = ap (λ b. cond b 1 0) (test_apart name.body key (λ same. was.0 (sym same))) in
    omega (arith, other, among key x was.1, sum_by-cons (counts_for key) name names)) in
    let gone = map.len-remove nat_cmp_total m name.body in
    omega (arith, rest, one_at_most (map.contains_key m name.body) (map.len m) (map.len (map.remove m name.body)) gone)
