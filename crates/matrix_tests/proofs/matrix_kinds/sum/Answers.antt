use Rattle.std.proofs.Common.{refl}
use Rattle.task_types.specs.declared.inputs.View.TheVariants as view
use Rattle.matrix_tests.proofs.MatrixInputs.{sum_has_goal}
use Rattle.matrix_tests.proofs.matrix_kinds.sum.Goals as goal

pub run_general-requires-clause-defined : goal.run_general-requires-clause-defined
run_general-requires-clause-defined c =
    sum_has_goal (record { count = 2; first = c.in_ok-number.field-0; second = c.in_ok-number-2.field-0; third = view.Nothing; fourth = view.Nothing }) refl c.in_ok-number.ensures c.in_ok-number-2.ensures
