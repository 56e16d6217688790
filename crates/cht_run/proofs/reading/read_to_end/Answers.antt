use Rattle.std.proofs.Common.{◌≤◌, ◌<◌, ◌^◌, length, arith}
use Rattle.cht_run.proofs.Pieces.{read_full, ended_turn}
use Rattle.cht_run.proofs.reading.read_to_end.Goals as goal

pub returns-in-Ok-false-clause-told : goal.returns-in-Ok-false-clause-told
returns-in-Ok-false-clause-told g c = λ input reading.
    let most : length c.loop-source.text.items ≤ 2 ^ 26 = omega (arith, c.loop-source-test.true, c.len.ensures) in
    ended_turn input c.loop-source.text.items c.read_piece.new.text.items (g.S.Source.left c.read_piece.new.source) c.in-Ok-false.field-0 c.in-Ok-false.field-0-test (c.in-Ok-false.ensures.told input (c.loop-source.invariant.told input reading)) most

pub returns-clause-told : goal.returns-clause-told
returns-clause-told g c = λ input reading.
    let more : 2 ^ 26 < length c.loop-source.text.items = omega (arith, c.loop-source-test.false, c.len.ensures) in
    read_full input c.loop-source.text.items (g.S.Source.left c.loop-source.source) (c.loop-source.invariant.told input reading) c.loop-source.invariant.within more
