use Rattle.dense_def.proofs.Operations.{IsSymmetric-plus, IsSymmetric-times, IsSymmetric-rank}
use Rattle.dense_def.proofs.laws.symmetric_matrices.Goals as goal

pub returns : goal.returns
returns c =
    record {
      sum = IsSymmetric-plus;
      square = IsSymmetric-times;
      rank = IsSymmetric-rank;
    }
