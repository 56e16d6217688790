use Rattle.std.proofs.Common.{refl}
use Rattle.task_types.specs.declared.inputs.View.TheVariants as view
use Rattle.matrix_tests.proofs.MatrixInputs.{transpose_has_goal}
use Rattle.matrix_tests.proofs.matrix_kinds.transpose.Goals as goal

pub run_general-requires-clause-defined : goal.run_general-requires-clause-defined
run_general-requires-clause-defined c =
    transpose_has_goal c.args.height (record { count = 1; first = c.args.block; second = view.Nothing; third = view.Nothing; fourth = view.Nothing }) c.requires.low refl c.requires.block
