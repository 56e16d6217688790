use Rattle.quad_matrix.proofs.Symmetric.{symmetric_children, block_of_symmetric_children, peak_of_symmetric_root}
use Rattle.quad_matrix.proofs.laws.symmetric_children.Goals as goal

pub returns : goal.returns
returns c =
    record {
      children = λ b h tree is. let four = symmetric_children b h tree is in (four.first, four.second, four.third, four.none);
      quadrants = block_of_symmetric_children;
      peak = peak_of_symmetric_root;
    }
