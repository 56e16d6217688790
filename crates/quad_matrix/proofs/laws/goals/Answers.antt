use Rattle.quad_matrix.proofs.Lists.{goal_is_canonical}
use Rattle.quad_matrix.proofs.AnySide.{goal_any}
use Rattle.quad_matrix.proofs.WorkLaws.{few_matrices}
use Rattle.quad_matrix.proofs.laws.goals.Goals as goal

pub returns : goal.returns
returns c =
    record {
      canonical = goal_is_canonical;
      no_side = goal_any;
      few_inputs = few_matrices;
    }
