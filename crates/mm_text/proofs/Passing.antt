-- Text that goes to a sink in pieces: a front of it was taken, and the rest is held.
use Rattle.std.proofs.Common.{◌≡◌, ℕ, ◌+◌, ◌<◌, List, [], ◌∷◌, ◌++◌, length, get_or, take, drop, Option, sym, ap, ◌∙◌, subst}
use Rattle.std.proofs.Math.Seq.{take-length}
use Rattle.std.proofs.lemmas.List.{append_assoc, append-nil, take-append-drop, flat_map_more, take_more}
use Rattle.std.proofs.lemmas.List.Concat.{flat_map-append}
use Rattle.std.specs.List.{flat_map}
use Rattle.cht_io.specs.Bytes.{Adds, AddsFront}
use Rattle.cht_io.proofs.Adds.{Adds_nil, Adds_then, AddsFront_then, AddsFront_more, IsCut}
use Rattle.mm_text.specs.declared.market.Cell.{Cell}
use Rattle.mm_text.specs.Written.{cell_line, IsOnItsWay}

-- more text is held
pub IsCut_held : (before now : Option (List ℕ)) (text held more : List ℕ) → IsCut before text held now → IsCut before (text ++ more) (held ++ more) now
IsCut_held before now text held more cut = record {
  front = cut.front;
  whole = sym (append_assoc cut.front held more) ∙ ap (λ xs. xs ++ more) cut.whole;
  taken = cut.taken;
}

-- a front of what is held is taken
pub IsCut_taken : (before between after : Option (List ℕ)) (text held gone left : List ℕ) → IsCut before text held between → gone ++ left ≡ held → Adds between gone after → IsCut before text left after
IsCut_taken before between after text held gone left cut split taken = record {
  front = cut.front ++ gone;
  whole = append_assoc cut.front gone left ∙ (ap (λ xs. cut.front ++ xs) split ∙ cut.whole);
  taken = Adds_then before between after cut.front gone cut.taken taken;
}

-- a fault in mid-stream leaves a front of all the text
pub IsCut_fault : (before between after : Option (List ℕ)) (text held more : List ℕ) → IsCut before text held between → AddsFront between held after → AddsFront before (text ++ more) after
IsCut_fault before between after text held more cut front =
    let P : List ℕ → Type 0 = λ all. AddsFront before all after in
    AddsFront_more before after text more (subst P cut.whole (AddsFront_then before between after cut.front held cut.taken front))

-- ---- The lines of cells, one after another

-- the text with the lines of the first n cells
abbrev pub text_so_far : List ℕ → List Cell → ℕ → List ℕ
text_so_far text cells n = text ++ flat_map cell_line (take n cells)

-- one more cell
pub text_so_far_more : (text : List ℕ) (cells : List Cell) (n : ℕ) (d : Cell) → n < length cells
    → text_so_far text cells n ++ cell_line (get_or cells n d) ≡ text_so_far text cells (n + 1)
text_so_far_more text cells n d lt =
    flat_map_more cell_line text (take n cells) (get_or cells n d) ∙ ap (λ some. text ++ flat_map cell_line some) (sym (take_more cells n d lt))

-- and then the others
pub text_so_far_rest : (text : List ℕ) (cells : List Cell) (n : ℕ) → text_so_far text cells n ++ flat_map cell_line (drop n cells) ≡ text ++ flat_map cell_line cells
text_so_far_rest text cells n =
    append_assoc text (flat_map cell_line (take n cells)) (flat_map cell_line (drop n cells))
    ∙ ap (λ some. text ++ some) (sym (flat_map-append cell_line (take n cells) (drop n cells)) ∙ ap (flat_map cell_line) (take-append-drop n cells))

-- before the first cell
pub IsCut_begin : (now : Option (List ℕ)) (text : List ℕ) (cells : List Cell) → IsCut now (text_so_far text cells 0) text now
IsCut_begin now text cells = record { front = []; whole = sym (append-nil text); taken = Adds_nil now }

-- a line of a cell after what is held passed on
pub IsCut_more : (before between after : Option (List ℕ)) (text : List ℕ) (cells : List Cell) (n : ℕ) (d : Cell) (held gone left more : List ℕ)
    → n < length cells → IsCut before (text_so_far text cells n) held between → gone ++ left ≡ held → Adds between gone after → more ≡ left ++ cell_line (get_or cells n d)
    → IsCut before (text_so_far text cells (n + 1)) more after
IsCut_more before between after text cells n d held gone left more lt cut split taken line =
    let so_far = text_so_far text cells n in
    let P : List ℕ → Type 0 = λ all. IsCut before all more after in
    let Q : List ℕ → Type 0 = λ now. IsCut before (so_far ++ cell_line (get_or cells n d)) now after in
    let passed = IsCut_taken before between after so_far held gone left cut split taken in
    subst P (text_so_far_more text cells n d lt) (subst Q (sym line) (IsCut_held before after so_far left (cell_line (get_or cells n d)) passed))

-- a fault after some of the cells leaves a front of the text with all of them
pub IsCut_failed : (before between after : Option (List ℕ)) (text : List ℕ) (cells : List Cell) (n : ℕ) (held : List ℕ)
    → IsCut before (text_so_far text cells n) held between → AddsFront between held after → AddsFront before (text ++ flat_map cell_line cells) after
IsCut_failed before between after text cells n held cut front =
    let P : List ℕ → Type 0 = λ all. AddsFront before all after in
    subst P (text_so_far_rest text cells n) (IsCut_fault before between after (text_so_far text cells n) held (flat_map cell_line (drop n cells)) cut front)

-- after the last cell the text with all of them is on its way
pub all_on_the_way : (before after : Option (List ℕ)) (text : List ℕ) (cells : List Cell) (n : ℕ) (held : List ℕ) → n ≡ length cells
    → IsCut before (text_so_far text cells n) held after → IsOnItsWay before (text ++ flat_map cell_line cells) held after
all_on_the_way before after text cells n held all cut =
    let e : take n cells ≡ cells = ap (λ k. take k cells) all ∙ take-length cells in
    (cut.front, cut.whole ∙ ap (λ some. text ++ flat_map cell_line some) e, cut.taken)
