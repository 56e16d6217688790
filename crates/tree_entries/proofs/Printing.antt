-- The text of a matrix that is written row by row.
use Rattle.std.proofs.Common.{◌≡◌, ℕ, ◌+◌, ◌-◌, ◌<◌, ◌≤◌, List, [], ◌++◌, length, Option, refl, sym, ap, ◌∙◌, subst, arith, append_assoc, append-nil}
use Rattle.std.specs.List.{flat_map}
use Rattle.std.proofs.lemmas.List.{length-append}
use Rattle.std.proofs.lemmas.List.Concat.{flat_map-append}
use Rattle.cht_io.specs.Bytes.{AddsFront}
use Rattle.cht_io.proofs.Adds.{Adds_nil, AddsFront_none, AddsFront_more}
use Rattle.mm_text.specs.declared.market.Cell.{Cell}
use Rattle.mm_text.specs.Written.{cell_line, IsOnItsWay}
use Rattle.mm_text.proofs.OnItsWay.{way_on, way_fails}
use Rattle.tree_entries.specs.Strips.{lists_below}
use Rattle.tree_entries.proofs.CellLists.{lists_add, lists_more, front_length}

-- ---- The text with the lines of some rows

-- the text with the lines of the first n rows
abbrev pub text_at : List ℕ → (ℕ → List Cell) → ℕ → List ℕ
text_at opening f n = opening ++ flat_map cell_line (lists_below n f)

-- one row more
pub text_more : (opening : List ℕ) (f : ℕ → List Cell) (n : ℕ) → text_at opening f n ++ flat_map cell_line (f n) ≡ text_at opening f (n + 1)
text_more opening f n =
    append_assoc opening (flat_map cell_line (lists_below n f)) (flat_map cell_line (f n))
    ∙ ap (λ lines. opening ++ lines) (sym (flat_map-append cell_line (lists_below n f) (f n)) ∙ ap (flat_map cell_line) (sym (lists_more n f)))

-- and then the others
text_rest : (opening : List ℕ) (f : ℕ → List Cell) (n total : ℕ) → n ≤ total
    → text_at opening f n ++ flat_map cell_line (lists_below (total - n) (λ i. f (n + i))) ≡ text_at opening f total
text_rest opening f n total le =
    let e : n + (total - n) ≡ total = omega (arith, le) in
    let rest = lists_below (total - n) (λ i. f (n + i)) in
    append_assoc opening (flat_map cell_line (lists_below n f)) (flat_map cell_line rest)
    ∙ ap (λ lines. opening ++ lines)
    (sym (flat_map-append cell_line (lists_below n f) rest)
    ∙ ap (flat_map cell_line) (sym (lists_add n (total - n) f) ∙ ap (λ k. lists_below k f) e))

-- a front of the text so far is a front of the whole text
front_of_all : (before after : Option (List ℕ)) (opening : List ℕ) (f : ℕ → List Cell) (n total : ℕ) → n ≤ total → AddsFront before (text_at opening f n) after
    → AddsFront before (text_at opening f total) after
front_of_all before after opening f n total le front =
    let P : List ℕ → Type 0 = λ text. AddsFront before text after in
    subst P (text_rest opening f n total le)
    (AddsFront_more before after (text_at opening f n) (flat_map cell_line (lists_below (total - n) (λ i. f (n + i)))) front)

-- ---- On its way

-- before the first row
pub rows_begin : (now : Option (List ℕ)) (opening : List ℕ) (f : ℕ → List Cell) → IsOnItsWay now (text_at opening f 0) opening now
rows_begin now opening f = ([], sym (append-nil opening), Adds_nil now)

-- a row more
pub rows_on : (before between after : Option (List ℕ)) (opening : List ℕ) (f : ℕ → List Cell) (n : ℕ) (cells : List Cell) (held left : List ℕ)
    → IsOnItsWay before (text_at opening f n) held between → cells ≡ f n → IsOnItsWay between (held ++ flat_map cell_line cells) left after
    → IsOnItsWay before (text_at opening f (n + 1)) left after
rows_on before between after opening f n cells held left so_far same next =
    let P : List ℕ → Type 0 = λ text. IsOnItsWay before text left after in
    let Q : List Cell → Type 0 = λ cs. IsOnItsWay between (held ++ flat_map cell_line cs) left after in
    subst P (text_more opening f n) (way_on before between after (text_at opening f n) held (flat_map cell_line (f n)) left so_far (subst Q same next))

-- where no more is written, a front of the whole text was
pub rows_stop : (before after : Option (List ℕ)) (opening : List ℕ) (f : ℕ → List Cell) (n total : ℕ) (held : List ℕ) → n ≤ total
    → IsOnItsWay before (text_at opening f n) held after → AddsFront before (text_at opening f total) after
rows_stop before after opening f n total held le so_far =
    front_of_all before after opening f n total le (way_fails before after after (text_at opening f n) held so_far (AddsFront_none after held))

-- and where a row fails
pub rows_fail : (before between after : Option (List ℕ)) (opening : List ℕ) (f : ℕ → List Cell) (n total : ℕ) (cells : List Cell) (held : List ℕ) → n < total
    → IsOnItsWay before (text_at opening f n) held between → cells ≡ f n → AddsFront between (held ++ flat_map cell_line cells) after
    → AddsFront before (text_at opening f total) after
rows_fail before between after opening f n total cells held lt so_far same front =
    let lines = flat_map cell_line (f n) in
    let Q : List Cell → Type 0 = λ cs. AddsFront between (held ++ flat_map cell_line cs) after in
    let R : List ℕ → Type 0 = λ text. AddsFront before text after in
    let more : IsOnItsWay before (text_at opening f n ++ lines) (held ++ lines) between =
    (so_far.0, sym (append_assoc so_far.0 held lines) ∙ ap (λ text. text ++ lines) so_far.1, so_far.2) in
    front_of_all before after opening f (n + 1) total (omega (arith, lt))
    (subst R (text_more opening f n) (way_fails before between after (text_at opening f n ++ lines) (held ++ lines) more (subst Q same front)))

-- and where the last piece of the text fails
pub rows_fail_last : (before between after : Option (List ℕ)) (opening : List ℕ) (f : ℕ → List Cell) (n total : ℕ) (held : List ℕ) → n ≤ total
    → IsOnItsWay before (text_at opening f n) held between → AddsFront between held after → AddsFront before (text_at opening f total) after
rows_fail_last before between after opening f n total held le so_far front =
    front_of_all before after opening f n total le (way_fails before between after (text_at opening f n) held so_far front)

-- ---- Counting

-- a row more
pub counted_more : (n : ℕ) (f : ℕ → List Cell) (count now : ℕ) (cells : List Cell) → count ≡ length (lists_below n f) → cells ≡ f n → now ≡ count + length cells
    → now ≡ length (lists_below (n + 1) f)
counted_more n f count now cells so_far same more =
    more ∙ ap (λ k. k + length cells) so_far ∙ ap (λ cs. length (lists_below n f) + length cs) same
    ∙ sym (ap length (lists_more n f) ∙ length-append (lists_below n f) (f n))

-- the count stays small
pub counted_small : (n total : ℕ) (f : ℕ → List Cell) (count most : ℕ) (cells : List Cell) → count ≡ length (lists_below n f) → cells ≡ f n → n < total
    → length (lists_below total f) < most → count + length cells < most
counted_small n total f count most cells so_far same lt few =
    let now = counted_more n f count (count + length cells) cells so_far same refl in
    omega (arith, now, front_length (n + 1) total f (omega (arith, lt)), few)
