use Rattle.std.proofs.Common.{arith, refl}
use Rattle.task_types.specs.declared.inputs.View.TheVariants as view
use Rattle.matrix_tests.proofs.MatrixInputs.{trace_has_goal}
use Rattle.matrix_tests.proofs.matrix_kinds.trace.Goals as goal

pub run_general-requires-clause-defined : goal.run_general-requires-clause-defined
run_general-requires-clause-defined c =
    trace_has_goal c.args.height (record { count = 1; first = c.args.block; second = view.Nothing; third = view.Nothing; fourth = view.Nothing }) (omega arith) refl c.requires.block
