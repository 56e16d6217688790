use Rattle.std.proofs.Common.{arith}
use Rattle.quad_symm.proofs.Written.{upper_row_within}
use Rattle.quad_symm.proofs.kernels.row_start.Goals as goal

pub returns-clause-within : goal.returns-clause-within
returns-clause-within c =
    omega (arith, c.triangle_index.ensures, upper_row_within c.args.side c.args.row c.requires)
