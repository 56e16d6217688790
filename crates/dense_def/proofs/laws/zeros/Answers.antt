use Rattle.dense_def.proofs.Zeros.{zero_is_zeros, plus-zeros, times-zeros, transposed-zeros, trace-zeros, joined-zeros}
use Rattle.dense_def.proofs.laws.zeros.Goals as goal

pub returns : goal.returns
returns c =
    record {
      shape = zero_is_zeros;
      sum = plus-zeros;
      product = times-zeros;
      transpose = transposed-zeros;
      trace = trace-zeros;
      join = joined-zeros;
    }
