use Rattle.std.proofs.Common.{◌≤◌, length, arith}
use Rattle.std.proofs.lemmas.List.{take-append-le}
use Rattle.cht_run.proofs.Pieces.{reads_on}
use Rattle.cht_run.proofs.reading.read_piece.Goals as goal

pub returns-clause-told : goal.returns-clause-told
returns-clause-told g c = λ input reading.
    let within : c.in-Ok.n ≤ length c.read.new.buf = omega (arith, c.in-Ok.ensures.fits, c.read.auto.buf) in
    rw c.in_ok-extend_from_slice.ensures.items
    (reads_on input c.args.text.now.items c.read.new.buf _ c.in-Ok.n (g.S.Source.left c.args.source.now) (g.S.Source.left c.read.new.self) reading c.in-Ok.ensures.given (take-append-le c.in-Ok.n c.read.new.buf _ within))
