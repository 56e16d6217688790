-- From line to line, up to the first that breaks a rule or to the end.
use Rattle.std.proofs.Common.{◌≡◌, ℕ, suc, ◌+◌, ◌^◌, ◌≤◌, true, false, cond, List, [], ◌∷◌, ◌++◌, length, map, Option, None, Some, refl, sym, ap, ◌∙◌, append_assoc, length-append, arith, Bor}
use Rattle.std.specs.Prelude.{◌==◌, is_none, Result, Ok, Err, IfOk, option_and_then}
use Rattle.cht_ids.specs.declared.memory.Memory.{Memory}
use Rattle.std.specs.List.{flat_map, list_all}
use Rattle.std.proofs.lemmas.Bool.{and_parts, true≢false}
use Rattle.std.proofs.lemmas.List.{map-append, append-nil, length-map}
use Rattle.std.proofs.lemmas.List.Folds.{list_all-append}
use Rattle.std.proofs.lemmas.Grind.{flat_map-append}
use Rattle.mm_text.specs.Lines.{cut_lines, lines_of, onto_line, without_return}
use Rattle.cht_script.specs.declared.heading.Heading as front
use Rattle.cht_script.specs.declared.reader.Reader.{Reader}
use Rattle.cht_script.specs.declared.reader.Stop.{Stop}
use Rattle.cht_script.specs.declared.script.Fault.{Fault}
use Rattle.cht_script.specs.declared.script.Statement.{Statement}
use Rattle.cht_script.specs.Words.{is_skipped}
use Rattle.cht_script.specs.Items.{Item, item_of, items_in, lines_taken}
use Rattle.cht_script.specs.Meaning.{deeds_in}
use Rattle.cht_script.specs.Reading.{deed_of, IsFormed, AreFormed}
use Rattle.cht_script.specs.Parsing.{line_fault, items_read, item_stopped, begun_in}
use Rattle.cht_script.specs.Progress.{item_at, IsTaken, IsStopOf, IsStopped, Reads, HasPlace, is_clean, IsReadTo, IsReadOf, HasPassed, items_after}

-- ---- Items without a fault, and behind them one that has one

clean_read : (before rest : List Item) → list_all is_clean before ≡ true → items_read (before ++ rest) ≡ before ++ items_read rest
clean_read [] rest h = refl
clean_read (item ∷ before) rest h =
    let p = and_parts (is_clean item) (list_all is_clean before) h in
    ap (λ b. cond b (item ∷ items_read (before ++ rest)) []) p.0 ∙ ap (λ xs. item ∷ xs) (clean_read before rest p.1)

clean_stopped : (before rest : List Item) → list_all is_clean before ≡ true → item_stopped (before ++ rest) ≡ item_stopped rest
clean_stopped [] rest h = refl
clean_stopped (item ∷ before) rest h =
    let p = and_parts (is_clean item) (list_all is_clean before) h in
    ap (λ b. cond b (item_stopped (before ++ rest)) (Some item)) p.0 ∙ clean_stopped before rest p.1

formed_more : (grid : ℕ) (xs : List Statement) (x : Statement) → AreFormed grid xs → IsFormed grid x → AreFormed grid (xs ++ x ∷ [])
formed_more grid [] x all one = (one, tt)
formed_more grid (y ∷ xs) x all one = (all.0, formed_more grid xs x all.1 one)

-- ---- One line

-- the reader behind a line that was counted
abbrev pub counted : Reader → Bor (List ℕ) → Reader
counted old behind = record old { rest = behind; lines = old.lines + 1 }

-- the items of lines, where the first is not skipped
first_kept : (grid n : ℕ) (line : List ℕ) (lines : List (List ℕ)) → is_skipped line ≡ false
    → items_in grid n 0 (line ∷ lines) ≡ item_of grid n line lines ∷ items_in grid (suc n) (lines_taken (length lines) (item_of grid n line lines)) lines
first_kept grid n line lines kept = rw kept refl

next_line : (old : Reader) → suc old.lines ≡ old.lines + 1
next_line old = omega arith

-- the items of the lines that are left
left_item : (old : Reader) (line : List ℕ) (behind : Bor (List ℕ)) → lines_of old.rest.now ≡ line ∷ lines_of behind.now → is_skipped line ≡ false
    → items_in old.grid (suc old.lines) 0 (lines_of old.rest.now)
    ≡ item_at line (counted old behind)
    ∷ items_in old.grid (suc (old.lines + 1)) (lines_taken (length (lines_of behind.now)) (item_at line (counted old behind))) (lines_of behind.now)
left_item old line behind cut kept =
    ap (items_in old.grid (suc old.lines) 0) cut
    ∙ (ap (λ n. items_in old.grid n 0 (line ∷ lines_of behind.now)) (next_line old) ∙ first_kept old.grid (old.lines + 1) line (lines_of behind.now) kept)

line_taken : (items : List Item) (old new : Reader) (line : List ℕ) (behind : Bor (List ℕ)) → lines_of old.rest.now ≡ line ∷ lines_of behind.now → is_skipped line ≡ false
    → IsTaken line (counted old behind) new → IsReadTo items old → IsReadTo items new
line_taken items old new line behind cut kept taken read =
    let item = item_at line (counted old behind) in
    let left = ap (λ g. items_in g (suc new.lines) 0 (lines_of new.rest.now)) (sym taken.grid) in
    record {
      before = read.before ++ item ∷ [];
      left = read.left
          ∙ (ap (λ more. read.before ++ more) (left_item old line behind cut kept ∙ ap (λ more. item ∷ more) (taken.behind ∙ left))
          ∙ sym (append_assoc read.before (item ∷ []) (items_in new.grid (suc new.lines) 0 (lines_of new.rest.now))));
      clean = list_all-append is_clean read.before (item ∷ []) ∙ rw (read.clean, taken.clean) refl;
      deeds = ap (map deed_of) taken.statements
          ∙ (map-append deed_of old.statements (taken.statement ∷ [])
          ∙ (ap (λ xs. xs ++ deed_of taken.statement ∷ []) read.deeds
          ∙ (ap (λ ys. flat_map deeds_in read.before ++ ys) (sym taken.deed ∙ sym (append-nil (deeds_in item)))
          ∙ sym (flat_map-append deeds_in read.before (item ∷ [])))));
      formed = rw (taken.grid, taken.statements) (formed_more old.grid old.statements taken.statement read.formed taken.formed);
    }

-- ---- Where a reader stops

not_clean : (item : Item) (fault : Fault) → line_fault item ≡ Some fault → is_clean item ≡ false
not_clean item fault h = ap is_none h

stops_at : (items before rest : List Item) (item : Item) (stop : Stop) (said : List Statement) (grid : ℕ) → items ≡ before ++ item ∷ rest → list_all is_clean before ≡ true
    → map deed_of said ≡ flat_map deeds_in before → AreFormed grid said → IsStopOf item stop → IsReadOf grid items said (Some stop)
stops_at items before rest item stop said grid left clean deeds formed is =
    let never = not_clean item stop.fault is.fault in
    let read : items_read items ≡ before =
    ap items_read left ∙ (clean_read before (item ∷ rest) clean ∙ (ap (λ b. before ++ cond b (item ∷ items_read rest) []) never ∙ append-nil before)) in
    let stopped : item_stopped items ≡ Some item =
    ap item_stopped left ∙ (clean_stopped before (item ∷ rest) clean ∙ ap (λ b. cond b (item_stopped rest) (Some item)) never) in
    record {
      deeds = deeds ∙ ap (flat_map deeds_in) (sym read);
      formed = formed;
      fault = sym is.fault ∙ ap (option_and_then line_fault) (sym stopped);
      begun = sym is.begun ∙ ap (option_and_then begun_in) (sym stopped);
    }

line_stopped : (items : List Item) (old new : Reader) (line : List ℕ) (behind : Bor (List ℕ)) (stop : Stop) → lines_of old.rest.now ≡ line ∷ lines_of behind.now → is_skipped line ≡ false
    → IsStopped line (counted old behind) new stop → IsReadTo items old → IsReadOf new.grid items new.statements (Some stop)
line_stopped items old new line behind stop cut kept stopped read =
    rw (stopped.grid, stopped.statements)
    (stops_at items read.before _ (item_at line (counted old behind)) stop old.statements old.grid
    (read.left ∙ ap (λ more. read.before ++ more) (left_item old line behind cut kept)) read.clean read.deeds read.formed stopped.here)

-- what the read of a line says of all items
line_passed : (old new : Reader) (line : List ℕ) (behind : Bor (List ℕ)) (stop : Option Stop) → lines_of old.rest.now ≡ line ∷ lines_of behind.now → is_skipped line ≡ false
    → Reads line (counted old behind) new stop → (items : List Item) → IsReadTo items old → HasPassed items new stop
line_passed old new line behind None cut kept taken items read = line_taken items old new line behind cut kept taken read
line_passed old new line behind (Some stop) cut kept stopped items read = line_stopped items old new line behind stop cut kept stopped read

-- there is still room behind it
place_kept : (old new : Reader) (line : List ℕ) (behind : Bor (List ℕ)) → lines_of old.rest.now ≡ line ∷ lines_of behind.now → HasPlace old → IsTaken line (counted old behind) new → HasPlace new
place_kept old new line behind cut place taken = record {
  lines = omega (arith, ap length cut, place.lines, taken.room);
  few = omega (arith, ap length taken.statements, length-append old.statements (taken.statement ∷ []), taken.later, place.few);
}

-- what a line read gives, as the reader tells it
pub record IsPast (old new : Reader) (behind : Bor (List ℕ)) (r : Result (Option Stop) Memory) : Type 0 where
  pub passed : IfOk r (λ stop. (items : List Item) → IsReadTo items old → HasPassed items new stop)
  pub grid : IfOk r (λ stop. new.grid ≡ old.grid)
  pub few : IfOk r (λ stop. length new.statements ≤ 2 ^ 26)
  pub place : IfOk r (λ stop. stop ≡ None → HasPlace new)
  pub shorter : IfOk r (λ stop. stop ≡ None → length new.rest.now ≤ length behind.now)

some_none : (stop : Stop) → Some stop ≡ None → ⊥
some_none stop e = cc

pub read_passed : (old new : Reader) (line : List ℕ) (behind : Bor (List ℕ)) (r : Result (Option Stop) Memory) → lines_of old.rest.now ≡ line ∷ lines_of behind.now → HasPlace old → is_skipped line ≡ false
    → IfOk r (Reads line (counted old behind) new) → IsPast old new behind r
read_passed old new line behind (Ok None) cut place kept h =
    let next = place_kept old new line behind cut place h in
    record {
      passed = line_passed old new line behind None cut kept h;
      grid = h.grid;
      few = omega (arith, next.few, next.lines);
      place = λ _. next;
      shorter = λ _. h.shorter;
    }
read_passed old new line behind (Ok (Some stop)) cut place kept h = record {
  passed = line_passed old new line behind (Some stop) cut kept h;
  grid = h.grid;
  few = omega (arith, ap length h.statements, place.few, place.lines);
  place = λ never. absurd (some_none stop never);
  shorter = λ never. absurd (some_none stop never);
}
read_passed old new line behind (Err memory) cut place kept h = record { passed = tt; grid = tt; few = tt; place = tt; shorter = tt }

-- ---- The start

onto_few : (byte most : ℕ) (lines : List (List ℕ)) → length lines ≤ most → length (onto_line byte lines) ≤ suc most
onto_few byte most [] le = omega arith
onto_few byte most (line ∷ lines) le = omega arith

cut_few : (text : List ℕ) → length (cut_lines text) ≤ length text
cut_few [] = omega arith
cut_few (byte ∷ text) =
    let few = cut_few text in
    elim (byte == 10) as (λ b. length (cond b ([] ∷ cut_lines text) (onto_line byte (cut_lines text))) ≤ length (byte ∷ text)) [
      | true ↦ omega arith
      | false ↦ onto_few byte (length text) (cut_lines text) few
    ]

-- a text has no more lines than bytes
lines_few : (text : List ℕ) → length (lines_of text) ≤ length text
lines_few text = omega (arith, length-map (cut_lines text) without_return, cut_few text)

pub start_read : (heading : front.Heading) (reader : Reader) → reader.grid ≡ heading.grid → reader.rest.now ≡ heading.rest.now → reader.lines ≡ heading.line → reader.statements ≡ []
    → IsReadTo (items_after heading) reader
start_read heading reader grid rest lines said = record {
  before = [];
  left = rw (grid, rest, lines) refl;
  clean = refl;
  deeds = ap (map deed_of) said;
  formed = rw said tt;
}

pub start_place : (reader : Reader) → reader.lines + length reader.rest.now ≤ 2 ^ 26 → reader.statements ≡ [] → HasPlace reader
start_place reader room said = record { lines = omega (arith, lines_few reader.rest.now); few = rw said (omega arith) }

-- ---- The end

pub none_passed : (new : Reader) (items : List Item) (stop : Option Stop) → stop ≡ None → HasPassed items new stop → IsReadTo items new
none_passed new items None none h = h
none_passed new items (Some stop) none h = absurd (some_none stop none)

pub some_passed : (new : Reader) (items : List Item) (grid : ℕ) (stop : Option Stop) → is_none stop ≡ false → new.grid ≡ grid → HasPassed items new stop → IsReadOf grid items new.statements stop
some_passed new items grid None some same h = absurd (true≢false some)
some_passed new items grid (Some stop) some same h = rw (← same) h

pub all_read : (heading : front.Heading) (reader : Reader) → reader.grid ≡ heading.grid → reader.rest.now ≡ [] → IsReadTo (items_after heading) reader
    → IsReadOf heading.grid (items_after heading) reader.statements None
all_read heading reader grid end read =
    let all : items_after heading ≡ read.before =
    read.left ∙ (ap (λ text. read.before ++ items_in reader.grid (suc reader.lines) 0 (lines_of text)) end ∙ append-nil read.before) in
    let every : items_read (items_after heading) ≡ read.before =
    ap items_read (all ∙ sym (append-nil read.before)) ∙ (clean_read read.before [] read.clean ∙ append-nil read.before) in
    let stopped : item_stopped (items_after heading) ≡ None =
    ap item_stopped (all ∙ sym (append-nil read.before)) ∙ clean_stopped read.before [] read.clean in
    record {
      deeds = read.deeds ∙ ap (flat_map deeds_in) (sym every);
      formed = rw (← grid) read.formed;
      fault = ap (option_and_then line_fault) (sym stopped);
      begun = ap (option_and_then begun_in) (sym stopped);
    }
