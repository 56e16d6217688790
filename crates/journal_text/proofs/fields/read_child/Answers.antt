use Rattle.std.proofs.Common.{rules, ◌+◌, ◌∷◌, ap, sym, ◌∙◌}
use Rattle.journal_text.proofs.Points.{child_point, child_place, child_front, child_back, child_whole, slice_rest}
use Rattle.journal_text.proofs.fields.read_child.Goals as goal

pub returns-in_err-point-clause-every : goal.returns-in_err-point-clause-every
returns-in_err-point-clause-every c = λ i j low high e. absurd (cc (c.in_err-point.ensures, e, child_point i j low))

pub returns-in_err-input-clause-every : goal.returns-in_err-input-clause-every
returns-in_err-input-clause-every c = λ i j low high e.
    let place = child_place i j c.args.word.now c.in_ok-point.point low e c.in_ok-point.ensures in
    absurd (cc (c.in_err-input.ensures.every i low (child_front i j c.args.word.now c.in_ok-point.point e place)))

pub returns-in_err-child-clause-every : goal.returns-in_err-child-clause-every
returns-in_err-child-clause-every c = λ i j low high e.
    let place = child_place i j c.args.word.now c.in_ok-point.point low e c.in_ok-point.ensures in
    let back = child_back i j c.args.word.now c.in_ok-point.point e place ∙ sym (slice_rest c.args.word.now (c.in_ok-point.point + 1)) in
    absurd (cc (c.in_err-child.ensures.every j high back))

pub returns-clause-read : goal.returns-clause-read
returns-clause-read c =
    let whole = child_whole c.args.word.now c.in_ok-point.point c.in_ok-input.input c.in_ok-child.child c.in_ok-point.ensures c.in_ok-input.ensures.read
    (c.in_ok-child.ensures.read ∙ slice_rest c.args.word.now (c.in_ok-point.point + 1)) in
    (ap (λ word. 99 ∷ word) whole, (search rules, search rules))

pub returns-clause-every : goal.returns-clause-every
returns-clause-every c = λ i j low high e.
    let place = child_place i j c.args.word.now c.in_ok-point.point low e c.in_ok-point.ensures in
    let back = child_back i j c.args.word.now c.in_ok-point.point e place ∙ sym (slice_rest c.args.word.now (c.in_ok-point.point + 1)) in
    let first = c.in_ok-input.ensures.every i low (child_front i j c.args.word.now c.in_ok-point.point e place) in
    let second = c.in_ok-child.ensures.every j high back in
    cc
