use Rattle.quad_matrix.proofs.ForOthers.{peak_small}
use Rattle.matrix_tasks.proofs.ForOthers.{zero_told}
use Rattle.symm_tasks.proofs.outcomes.is_zero.Goals as goal

pub returns-clause-zero : goal.returns-clause-zero
returns-clause-zero c = zero_told c.args.block.now c.is_zero.result c.is_zero.ensures

pub returns-clause-small : goal.returns-clause-small
returns-clause-small c = peak_small c.side-side.result c.args.block.now c.side-side.ensures.square
