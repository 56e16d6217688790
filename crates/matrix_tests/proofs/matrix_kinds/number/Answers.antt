use Rattle.std.proofs.Common.{ap}
use Rattle.task_types.specs.declared.inputs.View.TheVariants as view
use Rattle.matrix_tests.proofs.MatrixInputs.{number_shows}
use Rattle.matrix_tests.proofs.matrix_kinds.number.Goals as goal

pub returns : goal.returns
returns c =
    number_shows _ (view.There c.in_ok-new.field-0 0) c.unsigned_abs-size.result (ap (λ content. view.There content 0) c.in_ok-new.ensures) c.unsigned_abs-size.ensures.value c.if-size-eq0.false c.if-size-gt-MOST.false
