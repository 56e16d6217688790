use Rattle.std.proofs.Common.{sym, ◌∙◌}
use Rattle.mm_text.proofs.Repeats.{least_short}
use Rattle.mm_text.proofs.places.least_repeat.Goals as goal

pub returns : goal.returns
returns c = sym (c.loop-rest.invariant.same ∙ least_short c.loop-rest.found c.loop-rest.rest.now c.in_default.len_below)
