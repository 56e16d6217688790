use Rattle.dense_def.proofs.Operations.{IsSymmetric-times}
use Rattle.quad_symm.proofs.operations.sym_square.Goals as goal

pub symmetric_product-requires-clause-symmetric : goal.symmetric_product-requires-clause-symmetric
symmetric_product-requires-clause-symmetric c = IsSymmetric-times _ c.in_ok-whole.ensures.side.symmetric
