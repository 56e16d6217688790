use Rattle.std.proofs.Common.{arith}
use Rattle.cht_ids.proofs.Cutting.{pieces_none, pieces_cut_slice}
use Rattle.cht_ids.proofs.lines.cut_word.Goals as goal

pub returns-in-None : goal.returns-in-None
returns-in-None c = pieces_none c.args.line.now (λ k lt. c.in-None.ensures k (omega arith) lt)

pub returns-in-Some : goal.returns-in-Some
returns-in-Some c =
    let first = c.in-Some.ensures in
    pieces_cut_slice c.args.line.now c.in-Some.end first.0.high (λ k lt. first.0.before k (omega arith) lt) first.1
