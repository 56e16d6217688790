-- What the parts of the reader answer.
use Rattle.std.specs.Prelude.{◌≡◌, ◌≢◌, ℕ, ◌+◌, ◌≤◌, ◌==◌, true, if◌then◌else◌, List, [], ◌∷◌, length, Option, None, Some, Result, Ok, Err}
use Rattle.std.specs.List.{list_all}
use Rattle.mm_text.specs.Lines.{lines_of, is_text}
use Rattle.cht_script.specs.declared.statement.Words.{Words}
use Rattle.cht_script.specs.declared.statement.Words.TheVariants.{One, Two, Three}
use Rattle.cht_script.specs.declared.statement.Said as spoken
use Rattle.cht_script.specs.declared.statement.Said.TheVariants as saids
use Rattle.cht_script.specs.declared.heading.Heading as front
use Rattle.cht_script.specs.declared.script.Fault.{Fault}
use Rattle.cht_script.specs.declared.script.Names.{Names}
use Rattle.cht_script.specs.Words.{is_name}
use Rattle.cht_script.specs.Statements.{Said, Market, Act}
use Rattle.cht_script.specs.Items.{Heading, heading_in, heading_of}
use Rattle.cht_script.specs.Limits.{AreLimits}
use Rattle.cht_script.specs.Reading.{names_of, RepeatFirst}

-- ---- What a line says

-- words that were read, as a list
abbrev pub words_told : Words → List (List ℕ)
words_told (One a) = a.now ∷ []
words_told (Two a b) = a.now ∷ b.now ∷ []
words_told (Three a b c) = a.now ∷ b.now ∷ c.now ∷ []

-- neither one nor two nor three words
abbrev pub IsOtherCount : List (List ℕ) → Type 0
IsOtherCount words = (length words ≢ 1) × (length words ≢ 2) × (length words ≢ 3)

-- what a line says, as it was read
abbrev pub said_told : spoken.Said → Said
said_told (saids.Market name) = Market (name.now ∷ [])
said_told (saids.Act verb words) = Act verb (words_told words)

-- what `market` says with these words behind it
abbrev pub market_with : List (List ℕ) → Option Said
market_with words = if length words == 1 then Some (Market words) else None

-- all of these words are names, and these are the names
pub record AreNamesOf (words : List (List ℕ)) (names : Names) : Type 0 where
  pub spelled : list_all is_name words ≡ true
  pub bytes : names_of names ≡ words
  pub count : names.count ≡ length words
  pub repeated : RepeatFirst names

-- the code of a line that breaks the rule with this one: 2 where it has other bytes than text
abbrev pub code_for : List ℕ → ℕ → ℕ
code_for line code = if is_text line then code else 2

-- ---- The heading

-- a heading, as it was read
abbrev pub heading_told : front.Heading → Heading
heading_told heading = record {
  grid = heading.grid;
  leaf = heading.leaf;
  number = heading.line;
  behind = lines_of heading.rest.now;
}

-- line n, which is not skipped, is a grid line, and this is the heading that it gives
pub record IsHeadingAt (n : ℕ) (line rest : List ℕ) (heading : front.Heading) : Type 0 where
  pub found : heading_in n (line ∷ lines_of rest) ≡ Ok (heading_told heading)
  pub within : AreLimits (heading.grid, heading.leaf)
  pub number : heading.line ≡ n
  pub behind : heading.rest.now ≡ rest

-- what line n, which is not skipped, gives as a grid line, whatever follows it
abbrev pub HeadsAt : ℕ → List ℕ → List ℕ → Result front.Heading Fault → Type 0
HeadsAt n line rest (Ok heading) = IsHeadingAt n line rest heading
HeadsAt n line rest (Err fault) = (lines : List (List ℕ)) → heading_in n (line ∷ lines) ≡ Err fault

-- a text has this heading; the lines so far and the bytes behind them are together no more than the bytes of the text
pub record IsHeadingOf (text : List ℕ) (heading : front.Heading) : Type 0 where
  pub found : heading_of text ≡ Ok (heading_told heading)
  pub within : AreLimits (heading.grid, heading.leaf)
  pub room : heading.line + length heading.rest.now ≤ length text

-- the heading of a text, or the fault that it has in its place
abbrev pub Heads : List ℕ → Result front.Heading Fault → Type 0
Heads text (Ok heading) = IsHeadingOf text heading
Heads text (Err fault) = heading_of text ≡ Err fault
