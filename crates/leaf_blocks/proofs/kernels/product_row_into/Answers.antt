use Rattle.std.proofs.Common.{arith}
use Rattle.leaf_blocks.proofs.kernels.product_row_into.Goals as goal

pub add_terms_unless_zero-requires-clause-fits : goal.add_terms_unless_zero-requires-clause-fits
add_terms_unless_zero-requires-clause-fits c = λ j h. rw c.loop-from.auto.row (c.requires.fits j (omega arith))

pub add_terms-requires-clause-fits : goal.add_terms-requires-clause-fits
add_terms-requires-clause-fits c = λ j h. rw c.loop-from.auto.row (c.requires.fits j (omega arith))
