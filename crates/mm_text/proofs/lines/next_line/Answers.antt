use Rattle.std.proofs.Common.{ap, sym, ◌∙◌, map, ◌∷◌, ◌-◌, ◌+◌, length, take, drop, arith}
use Rattle.mm_text.specs.Lines.{cut_lines, without_return}
use Rattle.mm_text.proofs.Cutting.{first_line, only_line}
use Rattle.mm_text.proofs.lines.next_line.Goals as goal

pub returns-in-Some-clause-line : goal.returns-in-Some-clause-line
returns-in-Some-clause-line c =
    let first = c.in-Some.ensures in
    let cut = first_line c.args.text.now c.in-Some.end first.0.high (λ k lt. first.0.before k (omega arith) lt) first.1 in
    ap (map without_return) cut ∙ ap (λ line. line ∷ map without_return (cut_lines (take (length c.args.text.now - (c.in-Some.end + 1)) (drop (c.in-Some.end + 1) c.args.text.now)))) (sym c.without_return.ensures)

pub returns-in-Some-clause-behind : goal.returns-in-Some-clause-behind
returns-in-Some-clause-behind c =
    let first = c.in-Some.ensures in
    let cut = first_line c.args.text.now c.in-Some.end first.0.high (λ k lt. first.0.before k (omega arith) lt) first.1 in
    sym (ap (drop 1) cut)

pub returns-in-None-clause-line : goal.returns-in-None-clause-line
returns-in-None-clause-line c =
    let text = c.args.text.now in
    let cut = only_line text (sym c.if-is_empty.ensures) (λ k lt. c.in-None.ensures k (omega arith) lt) in
    ap (map without_return) cut ∙ ap (λ line. line ∷ map without_return (cut_lines (take (length text - length text) (drop (length text) text)))) (sym c.without_return-in-None.ensures)

pub returns-in-None-clause-behind : goal.returns-in-None-clause-behind
returns-in-None-clause-behind c = sym (ap (drop 1) (only_line c.args.text.now (sym c.if-is_empty.ensures) (λ k lt. c.in-None.ensures k (omega arith) lt)))
