use Rattle.mm_text.proofs.Cursors.{Passes-one}
use Rattle.mm_text.proofs.cursor.cut_line.Goals as goal

pub returns-clause-passes : goal.returns-clause-passes
returns-clause-passes c =
    Passes-one c.args.at.passed c.args.at.rest.now c.in_ok-line.rest.now c.in_ok-line.ensures.rest c.in_ok-line.ensures.shorter c.in_ok-line.ensures.behind
