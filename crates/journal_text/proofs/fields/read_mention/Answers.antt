use Rattle.std.proofs.Common.{◌≡◌, ap, subst, sym}
use Rattle.std.proofs.Common.{Some}
use Rattle.journal_text.specs.Fields.{IsBelow}
use Rattle.journal_text.proofs.Points.{same_mention, mention_below}
use Rattle.journal_text.proofs.fields.read_mention.Goals as goal

pub returns-then-is_mention-clause-every : goal.returns-then-is_mention-clause-every
returns-then-is_mention-clause-every c = λ r within e. ap Some (same_mention c.in_ok-r.r r c.args.word.now c.in_ok-r.ensures.fits c.in_ok-r.ensures.read within e)

pub returns-else-is_mention-clause-every : goal.returns-else-is_mention-clause-every
returns-else-is_mention-clause-every c = λ r within e.
    let same : c.in_ok-r.r ≡ r = same_mention c.in_ok-r.r r c.args.word.now c.in_ok-r.ensures.fits c.in_ok-r.ensures.read within e in
    let below : IsBelow c.in_ok-r.r = subst IsBelow (sym same) (mention_below r within) in
    absurd (cc (c.if-is_mention.ensures.1 below))
