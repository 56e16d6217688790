use Rattle.quad_matrix.proofs.Numbers.{number_of_tree}
use Rattle.quad_matrix.proofs.OnlyTrees.{number_is_only}
use Rattle.quad_matrix.proofs.laws.number_trees.Goals as goal

pub returns : goal.returns
returns c =
    record {
      stands = number_of_tree;
      only = number_is_only;
    }
