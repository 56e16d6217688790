-- Bytes that a sink takes in several calls.
use Rattle.std.proofs.Common.{◌≡◌, ℕ, ◌+◌, ◌≤◌, List, [], ◌++◌, length, take, drop, Option, None, Some, refl, sym, ap, ◌∙◌, subst, arith}
use Rattle.std.proofs.lemmas.List.{append-nil, append_assoc, length-take, take_at, take_min, take-append-le, take-append-drop, nil_from_length}
use Rattle.std.proofs.Math.Seq.{take-length, take-append-add}
use Rattle.cht_io.specs.Bytes.{Adds, AddsFront}

-- no bytes leave what it took
pub Adds_nil : (told : Option (List ℕ)) → Adds told [] told
Adds_nil None = refl
Adds_nil (Some taken) = ap Some (sym (append-nil taken))

-- one piece and then another are the two joined
pub Adds_then : (before between after : Option (List ℕ)) (first second : List ℕ) → Adds before first between → Adds between second after → Adds before (first ++ second) after
Adds_then None between after first second h k =
    let P : Option (List ℕ) → Type 0 = λ told. Adds told second after in subst P h k
Adds_then (Some taken) between after first second h k =
    let P : Option (List ℕ) → Type 0 = λ told. Adds told second after in
    let e : after ≡ Some (taken ++ first ++ second) = subst P h k in
    e ∙ ap Some (append_assoc taken first second)

-- a whole is a front
pub AddsFront_whole : (before after : Option (List ℕ)) (bytes : List ℕ) → Adds before bytes after → AddsFront before bytes after
AddsFront_whole before after bytes h =
    let P : List ℕ → Type 0 = λ front. Adds before front after in
    (length bytes, subst P (sym (take-length bytes)) h)

-- and so is nothing
pub AddsFront_none : (told : Option (List ℕ)) (bytes : List ℕ) → AddsFront told bytes told
AddsFront_none told bytes = (0, Adds_nil told)

-- one piece and then a front of another are a front of the two joined
pub AddsFront_then : (before between after : Option (List ℕ)) (first second : List ℕ) → Adds before first between → AddsFront between second after → AddsFront before (first ++ second) after
AddsFront_then before between after first second h (n, k) =
    let P : List ℕ → Type 0 = λ front. Adds before front after in
    (length first + n, subst P (sym (take-append-add first second n)) (Adds_then before between after first (take n second) h k))

-- a front of the first piece is a front of the two joined
pub AddsFront_more : (before after : Option (List ℕ)) (first second : List ℕ) → AddsFront before first after → AddsFront before (first ++ second) after
AddsFront_more before after first second (n, k) =
    let P : List ℕ → Type 0 = λ front. Adds before front after in
    let short : length (take n first) ≤ length first = rw length-take (omega arith) in
    let e : take (length (take n first)) (first ++ second) ≡ take n first =
    take-append-le (length (take n first)) first second short ∙ ap (λ m. take m first) (length-take n first) ∙ take_min n first in
    (length (take n first), subst P (sym e) k)

-- a piece in mid-stream: a front of it was taken, and the rest is still to come
pub record IsCut (before : Option (List ℕ)) (piece rest : List ℕ) (now : Option (List ℕ)) : Type 0 where
  pub front : List ℕ
  pub whole : front ++ rest ≡ piece
  pub taken : Adds before front now

-- at the start nothing was taken
pub IsCut_start : (told : Option (List ℕ)) (piece : List ℕ) → IsCut told piece piece told
IsCut_start told piece = record { front = []; whole = refl; taken = Adds_nil told }

-- a front of the rest is taken
pub IsCut_more : (before between after : Option (List ℕ)) (piece rest : List ℕ) (n : ℕ) → IsCut before piece rest between → Adds between (take n rest) after → IsCut before piece (drop n rest) after
IsCut_more before between after piece rest n cut h = record {
  front = cut.front ++ take n rest;
  whole = append_assoc cut.front (take n rest) (drop n rest) ∙ ap (λ ys. cut.front ++ ys) (take-append-drop n rest) ∙ cut.whole;
  taken = Adds_then before between after cut.front (take n rest) cut.taken h;
}

-- at the end all of it was taken
pub IsCut_end : (before after : Option (List ℕ)) (piece rest : List ℕ) → length rest ≡ 0 → IsCut before piece rest after → Adds before piece after
IsCut_end before after piece rest none cut =
    let e : cut.front ≡ piece = sym (append-nil cut.front) ∙ ap (λ ys. cut.front ++ ys) (sym (nil_from_length rest none)) ∙ cut.whole in
    let P : List ℕ → Type 0 = λ front. Adds before front after in
    subst P e cut.taken

-- at any time a front of it was taken
pub IsCut_front : (before after : Option (List ℕ)) (piece rest : List ℕ) → IsCut before piece rest after → AddsFront before piece after
IsCut_front before after piece rest cut =
    let P : List ℕ → Type 0 = λ front. Adds before front after in
    let e : take (length cut.front) piece ≡ cut.front = ap (take (length cut.front)) (sym cut.whole) ∙ take_at cut.front rest (length cut.front) refl in
    (length cut.front, subst P (sym e) cut.taken)
