use Rattle.dense_def.proofs.Quadrants.{plus-joined, transposed-joined, trace-joined, times-joined, tmul_of-joined, mult_of-joined}
use Rattle.dense_def.proofs.laws.quadrants.Goals as goal

pub returns : goal.returns
returns c =
    record {
      sum = plus-joined;
      transpose = transposed-joined;
      trace = trace-joined;
      product = times-joined;
      tmul = tmul_of-joined;
      mult = mult_of-joined;
    }
