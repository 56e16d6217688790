use Rattle.std.proofs.Common.{arith, refl}
use Rattle.task_types.specs.declared.inputs.View.TheVariants as view
use Rattle.matrix_tests.proofs.MatrixInputs.{add_has_goal}
use Rattle.matrix_tests.proofs.matrix_kinds.add.Goals as goal

pub run_general-requires-clause-defined : goal.run_general-requires-clause-defined
run_general-requires-clause-defined c =
    add_has_goal c.args.height (record { count = 2; first = c.args.first; second = c.args.second; third = view.Nothing; fourth = view.Nothing }) (omega arith) refl c.requires.first c.requires.second
