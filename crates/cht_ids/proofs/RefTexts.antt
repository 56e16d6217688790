-- The text of an identifier, and how it comes apart at its colon.
use Rattle.std.proofs.Common.{◌≡◌, ℕ, ◌+◌, ◌^◌, ◌<◌, true, false, List, [], ◌∷◌, ◌++◌, length, get_or, take, drop, Some, None, refl, sym, ap, ◌∙◌, subst, arith, pos, length-append, add-one, drop-cons}
use Rattle.std.specs.List.{list_all, position, position_or_len}
use Rattle.std.specs.Fmt.{decimal}
use Rattle.std.proofs.Math.Seq.{take-append_seam, drop-append-add}
use Rattle.std.proofs.lemmas.List.{take-append-drop}
use Rattle.std.proofs.lemmas.List.Quantifiers.{position-Some}
use Rattle.std.proofs.lemmas.Bool.Decides.{nat_tests}
use Rattle.cht_ids.specs.Numeral.{is_digit, digits_value, are_digits, starts_plainly, plain_below, number_text}
use Rattle.cht_ids.specs.Refs.{IsId, IsRef, is_colon, id_text, ref_text}
use Rattle.cht_ids.specs.declared.refs.Id.{Id}
use Rattle.cht_ids.specs.declared.refs.Ref.{Ref}
use Rattle.cht_ids.specs.declared.refs.Ref.TheVariants.{Null, Id as Held}
use Rattle.cht_ids.proofs.Digits.{all_digits-parts}
use Rattle.cht_ids.proofs.Spells.{Spells, Spells-decimal, Spells-same, Spells-plain}

-- the first colon after digits
colon_after : (xs ys : List ℕ) → list_all is_digit xs ≡ true → position_or_len is_colon (xs ++ 58 ∷ ys) ≡ length xs
colon_after [] ys all = refl
colon_after (x ∷ xs) ys all =
    let parts = all_digits-parts x xs all in
    let other : is_colon x ≡ false = grind (arith, nat_tests) in
    rw other (omega (arith, colon_after xs ys parts.2))

position_at : (xs : List ℕ) (k : ℕ) → position_or_len is_colon xs ≡ k → k < length xs → position is_colon xs ≡ Some k
position_at xs k e lt = grind (arith, nat_tests)

-- the place of the colon of an identifier's text
id_colon : (id : Id) → IsId id → position is_colon (id_text id) ≡ Some (length (decimal id.owner))
id_colon id fits =
    let owner = Spells-decimal id.owner (omega arith) in
    position_at (id_text id) (length (decimal id.owner)) (colon_after (decimal id.owner) (decimal id.number) owner.digits) (omega (arith, length-append (decimal id.owner) (58 ∷ decimal id.number)))

-- plain digits of a number that is low enough
plain_below-Some : (bound n : ℕ) (ds : List ℕ) → plain_below bound ds ≡ Some n → Spells n ds × (n < bound)
plain_below-Some bound n ds e =
    let plain : starts_plainly ds ≡ true = grind (arith, nat_tests) in
    let digits : are_digits ds ≡ true = grind (arith, nat_tests) in
    let value : digits_value ds ≡ n = grind (arith, nat_tests) in
    let low : digits_value ds < bound = grind (arith, nat_tests) in
    let P : ℕ → Type 0 = λ m. Spells m ds in
    (subst P value (Spells-plain ds digits plain), omega arith)

plain_below-Spells : (bound n : ℕ) (ds : List ℕ) → n < bound → Spells n ds → plain_below bound ds ≡ Some n
plain_below-Spells bound n [] low s = absurd (omega (arith, s.some))
plain_below-Spells bound n (d ∷ ds) low s = grind (arith, nat_tests, s.digits, s.value, s.plain, s.zero)

-- where the text of an identifier comes apart
id_place : (id : Id) (word : List ℕ) (k : ℕ) → IsId id → id_text id ≡ word → position is_colon word ≡ Some k → k ≡ length (decimal id.owner)
id_place id word k fits e at =
    let colon = ap (position is_colon) (sym e) ∙ id_colon id fits in
    cc

id_front : (id : Id) (word : List ℕ) (k : ℕ) → id_text id ≡ word → k ≡ length (decimal id.owner) → take k word ≡ decimal id.owner
id_front id word k e place =
    ap (take k) (sym e) ∙ (ap (λ i. take i (id_text id)) place ∙ take-append_seam (decimal id.owner) (58 ∷ decimal id.number))

id_back : (id : Id) (word : List ℕ) (k : ℕ) → id_text id ≡ word → k ≡ length (decimal id.owner) → drop (k + 1) word ≡ decimal id.number
id_back id word k e place =
    ap (drop (k + 1)) (sym e) ∙ (ap (λ i. drop (i + 1) (id_text id)) place ∙ drop-append-add (decimal id.owner) (58 ∷ decimal id.number) 1)

-- the parts of a text that some identifier has
pub id_owner : (id : Id) (word : List ℕ) (k : ℕ) → IsId id → id_text id ≡ word → position is_colon word ≡ Some k → plain_below (2 ^ 32) (take k word) ≡ Some id.owner
id_owner id word k fits e at =
    ap (plain_below (2 ^ 32)) (id_front id word k e (id_place id word k fits e at)) ∙ plain_below-Spells (2 ^ 32) id.owner (decimal id.owner) (omega arith) (Spells-decimal id.owner (omega arith))

pub id_number : (id : Id) (word : List ℕ) (k : ℕ) → IsId id → id_text id ≡ word → position is_colon word ≡ Some k → plain_below (2 ^ 128) (drop (k + 1) word) ≡ Some id.number
id_number id word k fits e at =
    ap (plain_below (2 ^ 128)) (id_back id word k e (id_place id word k fits e at)) ∙ plain_below-Spells (2 ^ 128) id.number (decimal id.number) (omega arith) (Spells-decimal id.number (omega arith))

-- such a text has a colon
pub id_has_colon : (id : Id) (word : List ℕ) → IsId id → id_text id ≡ word → position is_colon word ≡ None → ⊥
id_has_colon id word fits e none =
    let colon = ap (position is_colon) (sym e) ∙ id_colon id fits in
    cc

-- the parts of a list before and after a colon
joined : (word : List ℕ) (k : ℕ) (xs ys : List ℕ) → k < length word → get_or word k 0 ≡ 58 → xs ≡ take k word → ys ≡ drop (k + 1) word → xs ++ 58 ∷ ys ≡ word
joined word k xs ys lt colon first last =
    let from_colon : drop k word ≡ get_or word k 0 ∷ drop (k + 1) word = rw add-one (drop-cons word k 0 lt) in
    let whole = take-append-drop k word in
    cc

-- a text that comes apart into two plain numbers is that of the identifier of them
pub id_whole : (word : List ℕ) (k owner number : ℕ) → position is_colon word ≡ Some k → plain_below (2 ^ 32) (take k word) ≡ Some owner → plain_below (2 ^ 128) (drop (k + 1) word) ≡ Some number → number_text (pos owner) ++ 58 ∷ number_text (pos number) ≡ word
id_whole word k owner number at front back =
    let found = position-Some is_colon word k 0 at in
    let colon : get_or word k 0 ≡ 58 = grind (arith, nat_tests, found.1) in
    let f = plain_below-Some (2 ^ 32) owner (take k word) front in
    let b = plain_below-Some (2 ^ 128) number (drop (k + 1) word) back in
    let first = Spells-same owner (decimal owner) (take k word) (Spells-decimal owner (omega (arith, f.1))) f.0 in
    let last = Spells-same number (decimal number) (drop (k + 1) word) (Spells-decimal number (omega (arith, b.1))) b.0 in
    joined word k (decimal owner) (decimal number) found.0 colon first last

-- no two identifiers have one text, and no two references
same_id : (a b c d : ℕ) → a ≡ c → b ≡ d → Path Id (record { owner = a; number = b }) (record { owner = c; number = d })
same_id a b c d p q = λ i. record { owner = p i; number = q i }

id_text-injective : (i j : Id) → IsId i → IsId j → id_text i ≡ id_text j → i ≡ j
id_text-injective i j p q e =
    let at = id_colon j q in
    let k = length (decimal j.owner) in
    let owner : i.owner ≡ j.owner = cc (id_owner i (id_text j) k p e at, id_owner j (id_text j) k q refl at) in
    let number : i.number ≡ j.number = cc (id_number i (id_text j) k p e at, id_number j (id_text j) k q refl at) in
    same_id i.owner i.number j.owner j.number owner number

-- the text of null is too short for an identifier
not_null : (id : Id) → IsId id → 45 ∷ [] ≡ id_text id → ⊥
not_null id fits e =
    let owner = Spells-decimal id.owner (omega arith) in
    omega (arith, owner.some, ap length e, length-append (decimal id.owner) (58 ∷ decimal id.number))

pub ref_text-injective : (r s : Ref) → IsRef r → IsRef s → ref_text r ≡ ref_text s → r ≡ s
ref_text-injective Null Null p q e = refl
ref_text-injective Null (Held j) p q e = absurd (not_null j q e)
ref_text-injective (Held i) Null p q e = absurd (not_null i p (sym e))
ref_text-injective (Held i) (Held j) p q e = ap Held (id_text-injective i j p q e)
