use Rattle.quad_matrix.proofs.Symmetric.{block_of_symmetric, symmetric_of_block, symmetric_is_only, nothing_is_symmetric}
use Rattle.quad_matrix.proofs.laws.symmetric_trees.Goals as goal

pub returns : goal.returns
returns c =
    record {
      stands = block_of_symmetric;
      canonical = symmetric_of_block;
      only = symmetric_is_only;
      nothing = nothing_is_symmetric;
    }
