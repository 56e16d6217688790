use Rattle.dense_def.proofs.Quadrants.{IsSymmetric-joined, symmetric_square, rank_by_rows, rank_by_columns}
use Rattle.dense_def.proofs.laws.symmetric_quadrants.Goals as goal

pub returns : goal.returns
returns c =
    record {
      join = IsSymmetric-joined;
      square = symmetric_square;
      by_rows = rank_by_rows;
      by_columns = rank_by_columns;
    }
