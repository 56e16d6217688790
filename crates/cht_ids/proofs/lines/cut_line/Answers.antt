use Rattle.std.proofs.Common.{arith}
use Rattle.cht_ids.proofs.Cutting.{lines_none, lines_cut_slice}
use Rattle.cht_ids.proofs.lines.cut_line.Goals as goal

pub returns-in_err-end-clause-none : goal.returns-in_err-end-clause-none
returns-in_err-end-clause-none c = rw c.from_residual.ensures (lines_none c.args.text.now (λ k lt. c.in_err-end.ensures k (omega arith) lt))

pub returns-clause-lines : goal.returns-clause-lines
returns-clause-lines c =
    let first = c.in_ok-end.ensures in
    lines_cut_slice c.args.text.now c.in_ok-end.end first.0.high (λ k lt. first.0.before k (omega arith) lt) first.1
