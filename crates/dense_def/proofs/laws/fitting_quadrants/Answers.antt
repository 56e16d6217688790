use Rattle.dense_def.proofs.Fits.{sum_fits_on_quadrants, product_fits_on_quadrants, trace_fits_on_quadrants, tmul_fits_is, mult_fits_is, tmul_fits_on_quadrants, mult_fits_on_quadrants}
use Rattle.dense_def.proofs.laws.fitting_quadrants.Goals as goal

pub returns : goal.returns
returns c =
    record {
      sum = sum_fits_on_quadrants;
      product = product_fits_on_quadrants;
      trace = trace_fits_on_quadrants;
      tmul = tmul_fits_is;
      mult = mult_fits_is;
      tmul_quadrants = tmul_fits_on_quadrants;
      mult_quadrants = mult_fits_on_quadrants;
    }
