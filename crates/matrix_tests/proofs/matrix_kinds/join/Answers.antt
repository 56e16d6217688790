use Rattle.std.proofs.Common.{arith, refl, ◌+◌}
use Rattle.matrix_tests.proofs.MatrixInputs.{join_has_goal}
use Rattle.matrix_tests.proofs.matrix_kinds.join.Goals as goal

pub run_general-requires-clause-defined : goal.run_general-requires-clause-defined
run_general-requires-clause-defined c =
    join_has_goal c.args.height (c.args.height + 1) (record { count = 4; first = c.args.first; second = c.args.second; third = c.args.third; fourth = c.args.fourth }) refl (omega arith) refl c.requires.first c.requires.second c.requires.third c.requires.fourth
