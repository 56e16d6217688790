use Rattle.std.proofs.Common.{ap}
use Rattle.task_types.specs.declared.inputs.View.TheVariants as view
use Rattle.matrix_tests.proofs.MatrixInputs.{leaf_shows}
use Rattle.matrix_tests.proofs.matrix_kinds.shown_leaf.Goals as goal

pub returns : goal.returns
returns c =
    leaf_shows c.args.block (view.There c.in_ok-new.field-0 0) c.side-side.result c.peak-peak.result (ap (λ content. view.There content 0) c.in_ok-new.ensures) c.side-side.ensures c.if-side-ne1.false c.peak-peak.ensures.value c.if-peak-eq0.false c.if-peak-gt-MOST.false
