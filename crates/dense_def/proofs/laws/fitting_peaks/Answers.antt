use Rattle.dense_def.proofs.Peaks.{sum_fits, product_fits, tmul_fits, mult_fits, trace_fits}
use Rattle.dense_def.proofs.laws.fitting_peaks.Goals as goal

pub returns : goal.returns
returns c =
    record {
      sum = sum_fits;
      product = product_fits;
      tmul = tmul_fits;
      mult = mult_fits;
      trace = trace_fits;
    }
