use Rattle.std.proofs.Common.{sym, ◌∙◌}
use Rattle.mm_text.proofs.Repeats.{rising_short}
use Rattle.mm_text.proofs.places.are_rising.Goals as goal

pub returns : goal.returns
returns c = sym (c.loop-rest.invariant.same ∙ rising_short c.loop-rest.rest.now c.in_default.len_below)
