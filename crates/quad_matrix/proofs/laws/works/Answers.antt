use Rattle.quad_matrix.proofs.WorkLaws.{matrix_works_add_up}
use Rattle.quad_matrix.proofs.laws.works.Goals as goal

pub returns : goal.returns
returns c = matrix_works_add_up
