-- Sinks over memory, and what one write does to them.
use Rattle.std.specs.Prelude.{ℕ, ◌-◌, List, ◌++◌, length, take, min, Bool, ◌&&◌, ◌==◌, nat_lt, if◌then◌else◌}
use Rattle.cht_io.specs.Calls.{next_call, fails_next}
use Rattle.cht_io.specs.Faults.{risen}

-- a sink: the bytes that it took, the most that it ever takes, and how often it failed
pub record SinkState : Type 0 where
  pub taken : List ℕ
  pub room : ℕ
  pub faults : ℕ

-- how many bytes it still takes
abbrev pub room_left : SinkState → ℕ
room_left sink = sink.room - length sink.taken

-- whether a write fails: the piece has a byte, and no byte of the room is left
abbrev pub refuses : SinkState → List ℕ → Bool
refuses sink piece = nat_lt 0 (length piece) && (room_left sink == 0)

-- how many bytes of a piece it takes: as many as fit
abbrev pub write_count : SinkState → List ℕ → ℕ
write_count sink piece = min (length piece) (room_left sink)

-- the sink after a write that failed
abbrev pub after_fault : SinkState → SinkState
after_fault sink = record sink { faults = risen sink.faults }

-- the sink after a write of a piece
abbrev pub write_step : SinkState → List ℕ → SinkState
write_step sink piece =
    if refuses sink piece then after_fault sink else
    record sink { taken = sink.taken ++ take (write_count sink piece) piece }

-- a sink some of whose calls fail whatever they bring: the number of the last call, 0 before the first, and the
-- numbers that fail
pub record TroubledSinkState : Type 0 where
  pub sink : SinkState
  pub calls : ℕ
  pub fails : List ℕ

-- it after a write of a piece: the call is numbered, and either fails or writes
abbrev pub troubled_write_step : TroubledSinkState → List ℕ → TroubledSinkState
troubled_write_step troubled piece =
    if fails_next troubled.fails troubled.calls then
    record troubled { calls = next_call troubled.calls; sink = after_fault troubled.sink } else
    record troubled { calls = next_call troubled.calls; sink = write_step troubled.sink piece }
