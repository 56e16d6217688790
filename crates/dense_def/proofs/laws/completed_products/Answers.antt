use Rattle.dense_def.proofs.Completed.{times-completed, tmul_of-completed, mult_of-completed, product_fits-completed, tmul_fits-completed, mult_fits-completed}
use Rattle.dense_def.proofs.laws.completed_products.Goals as goal

pub returns : goal.returns
returns c =
    record {
      product = times-completed;
      tmul = tmul_of-completed;
      mult = mult_of-completed;
      product_fits = product_fits-completed;
      tmul_fits = tmul_fits-completed;
      mult_fits = mult_fits-completed;
    }
