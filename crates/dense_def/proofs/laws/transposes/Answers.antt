use Rattle.dense_def.proofs.Operations.{transposed_twice, transposed-times, tmul_is, mult_is}
use Rattle.dense_def.proofs.laws.transposes.Goals as goal

pub returns : goal.returns
returns c =
    record {
      twice = transposed_twice;
      product = transposed-times;
      first_factor = tmul_is;
      second_factor = mult_is;
    }
