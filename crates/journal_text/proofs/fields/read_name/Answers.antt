use Rattle.cht_ids.specs.declared.refs.Ref.TheVariants.{Id as Held}
use Rattle.journal_text.proofs.fields.read_name.Goals as goal

pub returns-in_err-read_mention-clause-every : goal.returns-in_err-read_mention-clause-every
returns-in_err-read_mention-clause-every c = λ id within e. absurd (cc (c.in_err-read_mention.ensures.every (Held id) within e))

pub returns-in-Id-clause-every : goal.returns-in-Id-clause-every
returns-in-Id-clause-every c = λ id within e. cc (c.in_ok-read_mention.ensures.every (Held id) within e)
