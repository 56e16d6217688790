use Rattle.mm_text.proofs.Cutting.{return_dropped, return_kept}
use Rattle.mm_text.proofs.lines.without_return.Goals as goal

pub returns-in-len1-up : goal.returns-in-len1-up
returns-in-len1-up c = return_dropped c.args.line.now c.in-len1-up.len_at_least c.if-last-eq13.true

pub returns-in_default-2 : goal.returns-in_default-2
returns-in_default-2 c = return_kept c.args.line.now c.in-len1-up.len_at_least c.if-last-eq13.false
