-- The live identifiers of a hash map: what they are at each number, and what a change of the map makes of them.
use Rattle.std.proofs.Common.{◌≡◌, ℕ, ◌+◌, Bool, true, false, cond, List, [], ◌∷◌, length, Option, Some, None, is_some, nat_eq, refl, sym, ap, ◌∙◌, arith}
use Rattle.std.specs.Prelude.{map as each}
use Rattle.std.specs.Option.{option_map}
use Rattle.std.specs.List.{IsDistinct}
use Rattle.std.specs.Map.{lookup, keys_of}
use Rattle.std.specs.Ordering.{nat_cmp, eq_by_cmp}
use Rattle.std.specs.Cmp.{nat_cmp_total, nat_eq_equiv, unsigned_tied, unsigned_ties}
use Rattle.std.specs.FinMap as map
use Rattle.std.proofs.lemmas.Bool.Decides.{nat_tests}
use Rattle.std.proofs.lemmas.Map.{lookup-none}
use Rattle.std.proofs.lemmas.Map.Keys.{IsDistinct-tail}
use Rattle.std.proofs.lemmas.Map.Entries.{none_past_head}
use Rattle.chunk_refs.specs.declared.parts.StoredId.{StoredId}
use Rattle.name_states.specs.States.{IdRecord}
use Rattle.chunk_refs.specs.Inside.{ids_of, shown_id}
use Rattle.name_states.proofs.Basics.{same_some}

map_cond : {A B : Type 0} (f : A → B) (b : Bool) (x y : Option A) → cond b (option_map f x) (option_map f y) ≡ option_map f (cond b x y)
map_cond f true x y = refl
map_cond f false x y = refl

eqb_flip : (a b : ℕ) → nat_eq a b ≡ nat_eq b a
eqb_flip a b = grind (arith, nat_tests)

-- how the map's order and the hash map's equality say that two numbers are the same
tied_flip : (a b : ℕ) → nat_eq a b ≡ eq_by_cmp nat_cmp b a
tied_flip a b = eqb_flip a b ∙ unsigned_ties b a

find-shown : (es : List (ℕ × StoredId)) (number : ℕ) → map.find nat_cmp number (each (λ e. (e.0, shown_id e.1)) es) ≡ option_map shown_id (lookup (nat_eq number) es)
find-shown [] number = refl
find-shown (e ∷ es) number =
    ap (λ b. cond b (Some (shown_id e.1)) (map.find nat_cmp number (each (λ x. (x.0, shown_id x.1)) es))) (unsigned_tied number e.0)
    ∙ ap (cond (nat_eq number e.0) (Some (shown_id e.1))) (find-shown es number)
    ∙ map_cond shown_id (nat_eq number e.0) (Some e.1) (lookup (nat_eq number) es)

behind : (found : Option StoredId) (naming : IdRecord) → option_map shown_id found ≡ Some naming → (name : StoredId) × (found ≡ Some name) × (shown_id name ≡ naming)
behind None naming is = absurd (cc)
behind (Some name) naming is = (name, refl, same_some (shown_id name) naming is)

-- what is named by a number
pub get-ids_of : (es : List (ℕ × StoredId)) (number : ℕ) → map.get (ids_of es) number ≡ option_map shown_id (lookup (nat_eq number) es)
unfolding ids_of
get-ids_of es number = map.get-from_entries nat_cmp_total (each (λ e. (e.0, shown_id e.1)) es) number ∙ find-shown es number

-- a change at one number
ids_of-update : (es fs : List (ℕ × StoredId)) (number : ℕ) (new : Option StoredId)
    → ((q : ℕ) → lookup (nat_eq q) fs ≡ cond (nat_eq number q) new (lookup (nat_eq q) es))
    → (q : ℕ) → map.get (ids_of fs) q ≡ cond (eq_by_cmp nat_cmp q number) (option_map shown_id new) (map.get (ids_of es) q)
ids_of-update es fs number new update q =
    get-ids_of fs q
    ∙ ap (option_map shown_id) (update q)
    ∙ sym (map_cond shown_id (nat_eq number q) new (lookup (nat_eq q) es))
    ∙ ap (λ b. cond b (option_map shown_id new) (option_map shown_id (lookup (nat_eq q) es))) (tied_flip number q)
    ∙ ap (cond (eq_by_cmp nat_cmp q number) (option_map shown_id new)) (sym (get-ids_of es q))

-- a name that is put at a number
pub ids_of-insert : (es fs : List (ℕ × StoredId)) (number : ℕ) (name : StoredId)
    → ((q : ℕ) → lookup (nat_eq q) fs ≡ cond (nat_eq number q) (Some name) (lookup (nat_eq q) es))
    → ids_of fs ≡ map.insert (ids_of es) number (shown_id name)
ids_of-insert es fs number name puts =
    map.same_map nat_cmp_total map.nat_cmp-IsAntisymmetric _ _ (λ q.
    ids_of-update es fs number (Some name) puts q ∙ sym (map.get-insert nat_cmp_total (ids_of es) number (shown_id name) q))

-- a number that names nothing any more
pub ids_of-remove : (es fs : List (ℕ × StoredId)) (number : ℕ)
    → ((q : ℕ) → lookup (nat_eq q) fs ≡ cond (nat_eq number q) None (lookup (nat_eq q) es))
    → ids_of fs ≡ map.remove (ids_of es) number
ids_of-remove es fs number takes =
    map.same_map nat_cmp_total map.nat_cmp-IsAntisymmetric _ _ (λ q.
    ids_of-update es fs number None takes q ∙ sym (map.get-remove nat_cmp_total (ids_of es) number q))

-- the same names in another order
pub ids_of-same : (es fs : List (ℕ × StoredId)) → ((q : ℕ) → lookup (nat_eq q) fs ≡ lookup (nat_eq q) es) → ids_of fs ≡ ids_of es
ids_of-same es fs same =
    map.same_map nat_cmp_total map.nat_cmp-IsAntisymmetric _ _ (λ q.
    get-ids_of fs q ∙ ap (option_map shown_id) (same q) ∙ sym (get-ids_of es q))

len-shown : (es : List (ℕ × StoredId)) → IsDistinct nat_eq (keys_of es) → map.len (map.from_entries {R = nat_cmp} (each (λ e. (e.0, shown_id e.1)) es)) ≡ length es
len-shown [] distinct = map.len-empty nat_cmp IdRecord
len-shown (e ∷ es) distinct =
    let rest : map.FinMap nat_cmp IdRecord = map.from_entries (each (λ x. (x.0, shown_id x.1)) es) in
    let absent : map.get rest e.0 ≡ None =
    map.get-from_entries nat_cmp_total (each (λ x. (x.0, shown_id x.1)) es) e.0
    ∙ find-shown es e.0
    ∙ ap (option_map shown_id) (lookup-none (nat_eq e.0) es (none_past_head nat_eq_equiv e.0 e es distinct (grind (arith, nat_tests)))) in
    let one_more : map.len (map.insert rest e.0 (shown_id e.1)) ≡ map.len rest + 1 =
    map.len-insert nat_cmp_total rest e.0 (shown_id e.1)
    ∙ ap (λ o. cond (is_some o) (map.len rest) (map.len rest + 1)) absent in
    omega (arith, one_more, len-shown es (IsDistinct-tail nat_eq e.0 (keys_of es) distinct))

-- as many as the entries
pub len-ids_of : (es : List (ℕ × StoredId)) → IsDistinct nat_eq (keys_of es) → map.len (ids_of es) ≡ length es
unfolding ids_of
len-ids_of es distinct = len-shown es distinct

-- the stored name behind a naming
pub name_behind : (es : List (ℕ × StoredId)) (number : ℕ) (naming : IdRecord) → map.get (ids_of es) number ≡ Some naming → (name : StoredId) × (lookup (nat_eq number) es ≡ Some name) × (shown_id name ≡ naming)
name_behind es number naming is = behind (lookup (nat_eq number) es) naming (sym (get-ids_of es number) ∙ is)
