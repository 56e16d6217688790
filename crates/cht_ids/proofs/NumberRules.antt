-- Lemmas on digits by names that an attribute can give.
use Rattle.cht_ids.proofs.Digits.{unsigned_below-short, plain_below-plain}

-- short digits lie below both bounds
pub ruleset bounds = (unsigned_below-short)

-- digits with no zero before others are plain
pub ruleset plain = (plain_below-plain)
