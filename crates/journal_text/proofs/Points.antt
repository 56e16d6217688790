-- The words of places: where a point stands in them.
use Rattle.std.proofs.Common.{◌≡◌, ℕ, ◌+◌, ◌-◌, ◌<◌, true, false, suc, List, [], ◌∷◌, ◌++◌, length, get_or, take, drop, Some, refl, sym, ap, ◌∙◌, arith, add-one, drop-cons, length-append}
use Rattle.std.specs.List.{list_all, position, position_or_len}
use Rattle.std.specs.Fmt.{decimal}
use Rattle.std.proofs.Math.Seq.{take-append_seam, drop-append-add}
use Rattle.std.proofs.lemmas.List.{take-append-drop, take_all, length-drop}
use Rattle.std.proofs.lemmas.List.Quantifiers.{position-Some}
use Rattle.std.proofs.lemmas.Bool.Decides.{nat_tests}
use Rattle.cht_ids.specs.Numeral.{is_digit}
use Rattle.cht_ids.specs.declared.refs.Ref.{Ref}
use Rattle.cht_ids.specs.declared.refs.Ref.TheVariants.{Null, Id as Held}
use Rattle.cht_ids.specs.Refs.{IsRef, ref_text}
use Rattle.cht_ids.proofs.RefTexts.{ref_text-injective}
use Rattle.cht_ids.proofs.Spells.{Spells-decimal}
use Rattle.journal_text.specs.Text.{number}
use Rattle.journal_text.specs.Bounds.{IsMention}
use Rattle.journal_text.specs.Fields.{is_point, IsBelow}

-- the first point after digits
point_after : (xs ys : List ℕ) → list_all is_digit xs ≡ true → position_or_len is_point (xs ++ 46 ∷ ys) ≡ length xs
point_after [] ys all = refl
point_after (x ∷ xs) ys all =
    let first : is_digit x ≡ true = grind (arith, nat_tests) in
    let others : list_all is_digit xs ≡ true = grind (arith, nat_tests) in
    let other : is_point x ≡ false = grind (arith, nat_tests) in
    rw other (omega (arith, point_after xs ys others))

position_at : (xs : List ℕ) (k : ℕ) → position_or_len is_point xs ≡ k → k < length xs → position is_point xs ≡ Some k
position_at xs k e lt = grind (arith, nat_tests)

-- the point of a child's place
pub child_point : (i j : ℕ) → i < 256 → position is_point (number i ++ 46 ∷ number j) ≡ Some (length (number i))
child_point i j low =
    let spelled = Spells-decimal i (omega arith) in
    position_at (number i ++ 46 ∷ number j) (length (number i)) (point_after (decimal i) (number j) spelled.digits) (omega (arith, length-append (number i) (46 ∷ number j)))

-- where the word of a child's place comes apart
pub child_place : (i j : ℕ) (word : List ℕ) (k : ℕ) → i < 256 → number i ++ 46 ∷ number j ≡ word → Some k ≡ position is_point word → k ≡ length (number i)
child_place i j word k low e at =
    let point = ap (position is_point) (sym e) ∙ child_point i j low in
    cc

pub child_front : (i j : ℕ) (word : List ℕ) (k : ℕ) → number i ++ 46 ∷ number j ≡ word → k ≡ length (number i) → number i ≡ take k word
child_front i j word k e place =
    sym (ap (take k) (sym e) ∙ (ap (λ n. take n (number i ++ 46 ∷ number j)) place ∙ take-append_seam (number i) (46 ∷ number j)))

pub child_back : (i j : ℕ) (word : List ℕ) (k : ℕ) → number i ++ 46 ∷ number j ≡ word → k ≡ length (number i) → number j ≡ drop (k + 1) word
child_back i j word k e place =
    sym (ap (drop (k + 1)) (sym e) ∙ (ap (λ n. drop (n + 1) (number i ++ 46 ∷ number j)) place ∙ drop-append-add (number i) (46 ∷ number j) 1))

-- what stands behind a place, as a slice gives it
pub slice_rest : (word : List ℕ) (n : ℕ) → take (length word - n) (drop n word) ≡ drop n word
slice_rest word n = take_all (length word - n) (drop n word) (omega (arith, length-drop n word))

-- a word with a point is put together again
pub child_whole : (word : List ℕ) (k i j : ℕ) → Some k ≡ position is_point word → number i ≡ take k word → number j ≡ drop (k + 1) word → number i ++ 46 ∷ number j ≡ word
child_whole word k i j at front back =
    let found = position-Some is_point word k 0 (sym at) in
    let point : get_or word k 0 ≡ 46 = grind (arith, nat_tests, found.1) in
    let behind : drop k word ≡ 46 ∷ drop (k + 1) word = rw add-one (drop-cons word k 0 found.0 ∙ ap (λ x. x ∷ drop (suc k) word) point) in
    ap (λ xs. xs ++ 46 ∷ number j) front ∙ ap (λ xs. take k word ++ 46 ∷ xs) back ∙ ap (λ xs. take k word ++ xs) (sym behind) ∙ take-append-drop k word

-- a reference within the journal's bounds is one within those of references
mention_fits : (r : Ref) → IsMention r → IsRef r
mention_fits Null within = tt
mention_fits (Held id) within = (omega (arith, within.0), within.1.1)

-- and the one with its text
pub same_mention : (r s : Ref) (word : List ℕ) → IsRef r → ref_text r ≡ word → IsMention s → ref_text s ≡ word → r ≡ s
same_mention r s word fits e within f = ref_text-injective r s fits (mention_fits s within) (e ∙ sym f)

pub mention_below : (r : Ref) → IsMention r → IsBelow r
mention_below Null within = tt
mention_below (Held id) within = (within.0, omega (arith, within.1.0))
