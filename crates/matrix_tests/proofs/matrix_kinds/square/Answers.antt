use Rattle.std.proofs.Common.{arith}
use Rattle.std.proofs.lemmas.Result.{IfOk-weaker}
use Rattle.matrix_tests.proofs.MatrixInputs.{over_shows}
use Rattle.matrix_tests.proofs.matrix_kinds.square.Goals as goal

pub returns : goal.returns
returns c =
    IfOk-weaker c.over.result _ _ (λ shown drawn. over_shows 0 1 (record { count = 4; first = c.in_ok-leaf.field-0; second = c.in_ok-leaf-2.field-0; third = c.in_ok-leaf-3.field-0; fourth = c.in_ok-leaf-4.field-0 }) shown drawn (omega arith) c.in_ok-leaf.ensures c.in_ok-leaf-2.ensures c.in_ok-leaf-3.ensures c.in_ok-leaf-4.ensures) c.over.ensures
