use Rattle.quad_matrix.proofs.Quadrants.{child_canonical, block_of_quadrants}
use Rattle.quad_matrix.proofs.Roots.{peak_of_root}
use Rattle.quad_matrix.proofs.laws.canonical_children.Goals as goal

pub returns : goal.returns
returns c =
    record {
      children = child_canonical;
      quadrants = block_of_quadrants;
      peak = peak_of_root;
    }
