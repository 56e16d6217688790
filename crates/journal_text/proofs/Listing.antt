-- Words that are read as the texts of a list, one item after another.
use Rattle.std.proofs.Common.{◌≡◌, ℕ, ◌+◌, ◌<◌, ◌≤◌, List, [], ◌∷◌, ◌++◌, length, refl, sym, ap, ◌∙◌, arith, length-append}
use Rattle.std.specs.Prelude.{map, Bool, true, false, ◌==◌}
use Rattle.std.specs.List.{AllByRecursion}
use Rattle.std.proofs.lemmas.List.{append_assoc, append-nil, map-append}
use Rattle.std.proofs.lemmas.Bool.{cond_both}
use Rattle.cht_ids.specs.Lines.{pieces_of, onto_first}
use Rattle.journal_text.specs.Heads.{words_left}

-- a line has a piece, if it is an empty one
abbrev IsSome : List (List ℕ) → Type 0
IsSome words = (word : List ℕ) × (others : List (List ℕ)) × (words ≡ word ∷ others)

onto_some : (byte : ℕ) (pieces : List (List ℕ)) → IsSome pieces → IsSome (onto_first byte pieces)
onto_some byte [] some = some
onto_some byte (piece ∷ pieces) some = (byte ∷ piece, pieces, refl)

pub pieces_some : (line : List ℕ) → (word : List ℕ) × (others : List (List ℕ)) × (pieces_of line ≡ word ∷ others)
pieces_some [] = ([], [], refl)
pieces_some (byte ∷ rest) = cond_both (byte == 32) ([] ∷ pieces_of rest) (onto_first byte (pieces_of rest)) IsSome (λ _. ([], pieces_of rest, refl)) (λ _. onto_some byte (pieces_of rest) (pieces_some rest))

-- and so have the words that are left, where there are more
pub left_some : (more : Bool) (rest : List ℕ) → more ≡ true → (word : List ℕ) × (others : List (List ℕ)) × (words_left more rest ≡ word ∷ others)
left_some true rest e = pieces_some rest
left_some false rest e = absurd cc

pub left_none : (more : Bool) (rest : List ℕ) → more ≡ false → words_left more rest ≡ []
left_none true rest e = absurd cc
left_none false rest e = refl

module _ {X : Type 0} (text : X → List ℕ) (Is : X → Type 0) where
  pub all_join : (xs ys : List X) → AllByRecursion Is xs → AllByRecursion Is ys → AllByRecursion Is (xs ++ ys)
  all_join [] ys one other = other
  all_join (x ∷ xs) ys one other = (one.0, all_join xs ys one.1 other)

  -- So far the words are the texts of these items, at most four, and other words are left. Any items whose texts the words are begin with
  -- these, and go on with some whose texts are left.
  pub record IsListed (all : List (List ℕ)) (got : List X) (left : List (List ℕ)) : Type 0 where
    pub shown : map text got ++ left ≡ all
    pub within : AllByRecursion Is got
    pub few : length got ≤ 4
    pub every : (xs : List X) → AllByRecursion Is xs → map text xs ≡ all → (ys : List X) × (xs ≡ got ++ ys) × (map text ys ≡ left) × AllByRecursion Is ys

  pub listed_start : (all : List (List ℕ)) → IsListed all [] all
  listed_start all = record { shown = refl; within = tt; few = omega arith; every = λ xs within e. (xs, refl, e, within) }

  -- items whose texts begin with this word
  abbrev Begins : X → List (List ℕ) → List X → List X → Type 0
  Begins x behind got xs = (ys : List X) × (xs ≡ (got ++ x ∷ []) ++ ys) × (map text ys ≡ behind) × AllByRecursion Is ys

  begin : (x : X) (behind left : List (List ℕ)) (got xs ys : List X) → left ≡ text x ∷ behind → ((y : X) (rest : List (List ℕ)) → Is y → left ≡ text y ∷ rest → x ≡ y)
      → xs ≡ got ++ ys → map text ys ≡ left → AllByRecursion Is ys → Begins x behind got xs
  begin x behind left got xs [] e unique split shown within = absurd (cc (e, shown))
  begin x behind left got xs (y ∷ ys) e unique split shown within =
      let same : x ≡ y = unique y (map text ys) within.0 (sym shown) in
      let rest : map text ys ≡ behind = cc (e, shown) in
      (ys, split ∙ ap (λ z. got ++ z ∷ ys) (sym same) ∙ sym (append_assoc got (x ∷ []) ys), rest, within.1)

  pub listed_more : (all : List (List ℕ)) (got : List X) (left : List (List ℕ)) (x : X) (behind : List (List ℕ)) → IsListed all got left → left ≡ text x ∷ behind → Is x
      → ((y : X) (rest : List (List ℕ)) → Is y → left ≡ text y ∷ rest → x ≡ y) → length got < 4 → IsListed all (got ++ x ∷ []) behind
  listed_more all got left x behind one e is unique room = record {
    shown = ap (λ texts. texts ++ behind) (map-append text got (x ∷ [])) ∙ append_assoc (map text got) (text x ∷ []) behind ∙ ap (λ rest. map text got ++ rest) (sym e) ∙ one.shown;
    within = all_join got (x ∷ []) one.within (is, tt);
    few = omega (arith, length-append got (x ∷ []));
    every = λ xs within shown.
        let rest = one.every xs within shown in
        begin x behind left got xs rest.0 e unique rest.1 rest.2 rest.3;
  }

  -- what is wrong with the words that are left is wrong with all
  none_left : (left : List (List ℕ)) (ys : List X) → ((y : X) (rest : List (List ℕ)) → Is y → left ≡ text y ∷ rest → ⊥) → (word : List ℕ) (others : List (List ℕ)) → left ≡ word ∷ others
      → map text ys ≡ left → AllByRecursion Is ys → ⊥
  none_left left [] none word others some shown within = absurd (cc (some, shown))
  none_left left (y ∷ ys) none word others some shown within = none y (map text ys) within.0 (sym shown)

  pub listed_wrong : (all : List (List ℕ)) (got : List X) (left : List (List ℕ)) → IsListed all got left → ((y : X) (rest : List (List ℕ)) → Is y → left ≡ text y ∷ rest → ⊥)
      → (word : List ℕ) (others : List (List ℕ)) → left ≡ word ∷ others → (xs : List X) → AllByRecursion Is xs → map text xs ≡ all → ⊥
  listed_wrong all got left one none word others some xs within shown =
      let rest = one.every xs within shown in
      none_left left rest.0 none word others some rest.2 rest.3

  longer : (got ys : List X) (word : List ℕ) (others : List (List ℕ)) → map text ys ≡ word ∷ others → length got + 1 ≤ length (got ++ ys)
  longer got [] word others e = absurd cc
  longer got (y ∷ ys) word others e = omega (arith, length-append got (y ∷ ys))

  -- more words than four items have
  pub listed_many : (all : List (List ℕ)) (got : List X) (left : List (List ℕ)) → IsListed all got left → length got ≡ 4
      → (word : List ℕ) (others : List (List ℕ)) → left ≡ word ∷ others → (xs : List X) → length xs ≤ 4 → AllByRecursion Is xs → map text xs ≡ all → ⊥
  listed_many all got left one full word others some xs few within shown =
      let rest = one.every xs within shown in
      let long = longer got rest.0 word others (rest.2 ∙ some) in
      omega (arith, ap length rest.1, long)

  -- no words are left
  pub listed_all : (all : List (List ℕ)) (got : List X) (left : List (List ℕ)) → IsListed all got left → left ≡ [] → map text got ≡ all
  listed_all all got left one none = sym (append-nil (map text got)) ∙ ap (λ rest. map text got ++ rest) (sym none) ∙ one.shown

  no_more : (got xs ys : List X) (left : List (List ℕ)) → left ≡ [] → xs ≡ got ++ ys → map text ys ≡ left → xs ≡ got
  no_more got xs [] left none split shown = split ∙ append-nil got
  no_more got xs (y ∷ ys) left none split shown = absurd (cc (none, shown))

  pub listed_only : (all : List (List ℕ)) (got : List X) (left : List (List ℕ)) → IsListed all got left → left ≡ [] → (xs : List X) → AllByRecursion Is xs → map text xs ≡ all → got ≡ xs
  listed_only all got left one none xs within shown =
      let rest = one.every xs within shown in
      sym (no_more got xs rest.0 left none rest.1 rest.2)
