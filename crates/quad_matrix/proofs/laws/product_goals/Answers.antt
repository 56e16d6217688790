use Rattle.quad_matrix.proofs.Products.{product_fits_by_peaks, product_goal_stands}
use Rattle.quad_matrix.proofs.laws.product_goals.Goals as goal

pub returns : goal.returns
returns c = record { fits = product_fits_by_peaks; stands = product_goal_stands }
