-- Sources over memory, and what one read does to them.
use Rattle.std.specs.Prelude.{ℕ, List, length, drop, min, if◌then◌else◌}
use Rattle.cht_io.specs.Calls.{next_call, fails_next}
use Rattle.cht_io.specs.Faults.{risen}

-- a source: the bytes that are left, and the most that one read gives
pub record SourceState : Type 0 where
  pub left : List ℕ
  pub piece : ℕ

-- how many bytes a read gives into a buffer of this length
abbrev pub read_count : SourceState → ℕ → ℕ
read_count source buffer = min (min (length source.left) buffer) source.piece

-- the source after that read
abbrev pub read_step : SourceState → ℕ → SourceState
read_step source buffer = record source { left = drop (read_count source buffer) source.left }

-- a source some of whose calls fail: the number of the last call, 0 before the first, the numbers that fail, and
-- how often it failed
pub record TroubledSourceState : Type 0 where
  pub source : SourceState
  pub calls : ℕ
  pub fails : List ℕ
  pub faults : ℕ

-- it after a read into a buffer of this length: the call is numbered, and either fails or reads
abbrev pub troubled_read_step : TroubledSourceState → ℕ → TroubledSourceState
troubled_read_step troubled buffer =
    if fails_next troubled.fails troubled.calls then
    record troubled { calls = next_call troubled.calls; faults = risen troubled.faults } else
    record troubled { calls = next_call troubled.calls; source = read_step troubled.source buffer }
