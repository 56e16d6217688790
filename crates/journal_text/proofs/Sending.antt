-- Text that goes to a sink in pieces, one part after another.
use Rattle.std.proofs.Common.{slice_get, Some, None, zero, suc, ◌≡◌, ℕ, ◌+◌, ◌<◌, List, [], ◌∷◌, ◌++◌, length, get_or, take, drop, Option, sym, ap, ◌∙◌, subst, arith}
use Rattle.std.specs.List.{flat_map}
use Rattle.std.proofs.lemmas.List.{append_assoc, append-nil, take-append-drop, take_more, take_all}
use Rattle.std.proofs.lemmas.List.Concat.{flat_map-append}
use Rattle.std.proofs.lemmas.Option.{get_or_from_slice_get}
use Rattle.cht_io.specs.Bytes.{Adds, AddsFront}
use Rattle.cht_io.proofs.Adds.{Adds_nil, Adds_then, AddsFront_then, AddsFront_more}
use Rattle.journal_text.specs.Sending.{IsSent}

-- nothing came
pub sent_none : (before : Option (List ℕ)) (held : List ℕ) → IsSent before held [] before held
sent_none before held = record { front = []; whole = sym (append-nil held); taken = Adds_nil before }

-- room was made, and then a text was held
pub sent_held : (before now : Option (List ℕ)) (held text between left front : List ℕ) → front ++ between ≡ held → Adds before front now → left ≡ between ++ text
    → IsSent before held text now left
sent_held before now held text between left front split taken e = record {
  front = front;
  whole = ap (λ xs. front ++ xs) e ∙ sym (append_assoc front between text) ∙ ap (λ xs. xs ++ text) split;
  taken = taken;
}

-- one text and then another
pub sent_then : (before between after : Option (List ℕ)) (held first second middle left : List ℕ) → IsSent before held first between middle → IsSent between middle second after left
    → IsSent before held (first ++ second) after left
sent_then before between after held first second middle left one other = record {
  front = one.front ++ other.front;
  whole = append_assoc one.front other.front left ∙ ap (λ xs. one.front ++ xs) other.whole ∙ sym (append_assoc one.front middle second)
      ∙ ap (λ xs. xs ++ second) one.whole ∙ append_assoc held first second;
  taken = Adds_then before between after one.front other.front one.taken other.taken;
}

-- a fault behind a text leaves a front of both
pub sent_failed : (before between after : Option (List ℕ)) (held first second middle : List ℕ) → IsSent before held first between middle → AddsFront between (middle ++ second) after
    → AddsFront before (held ++ (first ++ second)) after
sent_failed before between after held first second middle one fault =
    let P : List ℕ → Type 0 = λ all. AddsFront before all after in
    subst P (sym (append_assoc one.front middle second) ∙ ap (λ xs. xs ++ second) one.whole ∙ append_assoc held first second)
    (AddsFront_then before between after one.front (middle ++ second) one.taken fault)

-- a fault in a text is one in it with more behind
pub failed_more : (before after : Option (List ℕ)) (held text more : List ℕ) → AddsFront before (held ++ text) after → AddsFront before (held ++ (text ++ more)) after
failed_more before after held text more fault =
    let P : List ℕ → Type 0 = λ all. AddsFront before all after in
    subst P (append_assoc held text more) (AddsFront_more before after (held ++ text) more fault)

-- and so where nothing but what was held was on its way
pub failed_before : (before after : Option (List ℕ)) (held text : List ℕ) → AddsFront before held after → AddsFront before (held ++ text) after
failed_before before after held text fault = AddsFront_more before after held text fault

module _ {X : Type 0} (f : X → List ℕ) where
  -- the texts of the items up to a place, and one more
  one_more : (xs : List X) (i : ℕ) (d : X) → i < length xs → flat_map f (take (i + 1) xs) ≡ flat_map f (take i xs) ++ f (get_or xs i d)
  one_more xs i d lt =
      ap (flat_map f) (take_more xs i d lt) ∙ flat_map-append f (take i xs) (get_or xs i d ∷ []) ∙ ap (λ last. flat_map f (take i xs) ++ last) (append-nil (f (get_or xs i d)))

  pub loop_more : (before between after : Option (List ℕ)) (held middle left : List ℕ) (xs : List X) (i : ℕ) (x d : X) → i < length xs → x ≡ get_or xs i d
      → IsSent before held (flat_map f (take i xs)) between middle → IsSent between middle (f x) after left
      → IsSent before held (flat_map f (take (i + 1) xs)) after left
  loop_more before between after held middle left xs i x d lt e one other =
      let P : List ℕ → Type 0 = λ text. IsSent before held text after left in
      subst P (ap (λ y. flat_map f (take i xs) ++ f y) e ∙ sym (one_more xs i d lt)) (sent_then before between after held (flat_map f (take i xs)) (f x) middle left one other)

  -- the texts of all items, cut behind a place
  cut_at : (xs : List X) (i : ℕ) → flat_map f xs ≡ flat_map f (take i xs) ++ flat_map f (drop i xs)
  cut_at xs i = ap (flat_map f) (sym (take-append-drop i xs)) ∙ flat_map-append f (take i xs) (drop i xs)

  pub loop_failed : (before between after : Option (List ℕ)) (held middle : List ℕ) (xs : List X) (i : ℕ) (x d : X) → i < length xs → x ≡ get_or xs i d
      → IsSent before held (flat_map f (take i xs)) between middle → AddsFront between (middle ++ f x) after
      → AddsFront before (held ++ flat_map f xs) after
  loop_failed before between after held middle xs i x d lt e one fault =
      let P : List ℕ → Type 0 = λ text. AddsFront before (held ++ text) after in
      let so_far : AddsFront before (held ++ (flat_map f (take i xs) ++ f x)) after = sent_failed before between after held (flat_map f (take i xs)) (f x) middle one fault in
      let here : flat_map f (take i xs) ++ f x ≡ flat_map f (take (i + 1) xs) = ap (λ y. flat_map f (take i xs) ++ f y) e ∙ sym (one_more xs i d lt) in
      subst P (sym (cut_at xs (i + 1))) (failed_more before after held (flat_map f (take (i + 1) xs)) (flat_map f (drop (i + 1) xs)) (subst P here so_far))

  pub loop_all : (before now : Option (List ℕ)) (held left : List ℕ) (xs : List X) (i : ℕ) → i ≡ length xs
      → IsSent before held (flat_map f (take i xs)) now left → IsSent before held (flat_map f xs) now left
  loop_all before now held left xs i e one =
      let P : List ℕ → Type 0 = λ text. IsSent before held text now left in
      let whole : take i xs ≡ xs = take_all i xs (omega arith) in
      subst P (ap (flat_map f) whole) one

-- an item that was got
pub got_or : {X : Type 0} (xs : List X) (i : ℕ) (x : X) → Some x ≡ slice_get xs i → x ≡ get_or xs i x
got_or xs i x e = sym (get_or_from_slice_get xs i x x (sym e))

-- within a list there is an item
pub none_within : {X : Type 0} (xs : List X) (i : ℕ) → slice_get xs i ≡ None → i < length xs → ⊥
none_within [] i e lt = omega arith
none_within (y ∷ ys) zero e lt = cc
none_within (y ∷ ys) (suc i) e lt = none_within ys i e (omega arith)

-- a text that is held alone
pub sent_start : (told : Option (List ℕ)) (held text : List ℕ) → held ≡ text → IsSent told [] text told held
sent_start told held text e = record { front = []; whole = e; taken = Adds_nil told }

-- and then all that is held is taken
pub sent_whole : (before now after : Option (List ℕ)) (text held : List ℕ) → IsSent before [] text now held → Adds now held after → Adds before text after
sent_whole before now after text held one taken =
    let P : List ℕ → Type 0 = λ all. Adds before all after in
    subst P one.whole (Adds_then before now after one.front held one.taken taken)

-- or a front of it
pub failed_last : (before now after : Option (List ℕ)) (text held : List ℕ) → IsSent before [] text now held → AddsFront now held after → AddsFront before text after
failed_last before now after text held one fault =
    let P : List ℕ → Type 0 = λ all. AddsFront before all after in
    subst P one.whole (AddsFront_then before now after one.front held one.taken fault)
