use Rattle.std.proofs.Common.{refl}
use Rattle.task_types.specs.declared.inputs.View.TheVariants as view
use Rattle.matrix_tests.proofs.MatrixInputs.{product_has_goal, is_served}
use Rattle.matrix_tests.proofs.matrix_kinds.product.Goals as goal

pub run_general-requires-clause-serves : goal.run_general-requires-clause-serves
run_general-requires-clause-serves c = is_served c.args.what c.requires.product

pub run_general-requires-clause-defined : goal.run_general-requires-clause-defined
run_general-requires-clause-defined c =
    product_has_goal c.args.what c.args.height (record { count = 2; first = c.args.first; second = c.args.second; third = view.Nothing; fourth = view.Nothing }) c.requires.product c.requires.low refl c.requires.first c.requires.second
