-- A source that is read piece by piece.
use Rattle.std.proofs.Common.{◌≡◌, ℕ, ◌+◌, ◌^◌, ◌≤◌, ◌<◌, List, [], ◌++◌, length, take, drop, Option, Some, refl, sym, ap, ◌∙◌, subst, arith, take-add}
use Rattle.std.proofs.lemmas.List.{length-append, length-take, drop-drop, length-drop, take_all, nil_from_length}
use Rattle.cht_io.specs.Bytes.{Reads, ReadsFront}
use Rattle.std.specs.Prelude.{Bool, true, false, Ok, Err}
use Rattle.cht_run.specs.declared.reading.ReadStop.{ReadStop}
use Rattle.cht_run.specs.declared.reading.ReadStop.TheVariants.{Failed, Memory}
use Rattle.cht_run.specs.Reading.{IsReading, Turns, Ends, Stopped}

-- what a read of n bytes into a buffer gives goes on with the text
pub reads_on : (input text buffer given : List ℕ) (n : ℕ) (left after : Option (List ℕ)) → IsReading input text left → Reads left buffer n after → given ≡ take n buffer
    → IsReading input (text ++ given) after
reads_on input text buffer given n left after reading reads is =
    let k = length text in
    let r : ReadsFront (drop k input) buffer n after = subst (λ (o : Option (List ℕ)). Reads o buffer n after) reading.rest reads in
    let piece : given ≡ take n (drop k input) = is ∙ r.given in
    let len : length given ≡ n = ap length piece ∙ omega (arith, length-take n (drop k input), r.in_stock) in
    let total : length (text ++ given) ≡ k + n = omega (arith, length-append text given, len) in
    let front : text ++ given ≡ take (k + n) input =
    ap (λ (t : List ℕ). t ++ given) reading.front ∙ ap (λ (g : List ℕ). take k input ++ g) piece ∙ sym (take-add k n input) in
    record { front = rw total front; rest = r.rest ∙ ap (λ (l : List ℕ). Some l) (drop-drop n k input) ∙ ap (λ (m : ℕ). Some (drop m input)) (sym total) }

-- The whole text, once a turn has reached the end, or one byte too many has been read.
abbrev pub IsRead : List ℕ → List ℕ → Option (List ℕ) → Type 0
IsRead input text left = (text ≡ take (2 ^ 26 + 1) input) × (left ≡ Some (drop (2 ^ 26 + 1) input))

pub read_full : (input text : List ℕ) (left : Option (List ℕ)) → IsReading input text left → length text ≤ 2 ^ 26 + 1 → 2 ^ 26 < length text → IsRead input text left
read_full input text left reading most more =
    let k : length text ≡ 2 ^ 26 + 1 = omega arith in
    (reading.front ∙ ap (λ (n : ℕ). take n input) k, reading.rest ∙ ap (λ (n : ℕ). Some (drop n input)) k)

pub read_ended : (input text : List ℕ) (left : Option (List ℕ)) → IsReading input text left → left ≡ Some [] → length text ≤ 2 ^ 26 → IsRead input text left
read_ended input text left reading ended most =
    let nothing : drop (length text) input ≡ [] = cc (reading.rest, ended) in
    let short : length input ≤ length text = omega (arith, length-drop (length text) input, ap length nothing) in
    let all : take (length text) input ≡ input = take_all (length text) input short in
    let all_too : take (2 ^ 26 + 1) input ≡ input = take_all (2 ^ 26 + 1) input (omega arith) in
    let none_too : drop (2 ^ 26 + 1) input ≡ [] = nil_from_length (drop (2 ^ 26 + 1) input) (omega (arith, length-drop (2 ^ 26 + 1) input)) in
    (reading.front ∙ all ∙ sym all_too, ended ∙ ap (λ (l : List ℕ). Some l) (sym none_too))

-- before the first turn
pub reading_begins : (input text : List ℕ) (left : Option (List ℕ)) → text ≡ [] → left ≡ Some input → IsReading input text left
reading_begins input text left none told = rw none (record { front = refl; rest = told })

pub ended_turn : (input before after : List ℕ) (left : Option (List ℕ)) (more : Bool) → more ≡ false → Turns input (Ok more) before after left → length before ≤ 2 ^ 26
    → IsRead input after left
ended_turn input before after left true is turn most = absurd cc
ended_turn input before after left false is turn most = read_ended input after left turn.0 turn.1 (omega (arith, ap length turn.2))

-- a reading that stopped
pub stopped : (input text : List ℕ) (left : Option (List ℕ)) (stop : ReadStop) → Ends input (Err stop) text left → Stopped input (Err stop) left
stopped input text left Failed h = h
stopped input text left Memory h = h
