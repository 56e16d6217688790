-- The meanings of the library of matrices.
use Rattle.task_types.specs.Meanings.{Meanings}
use Rattle.quad_matrix.specs.declared.chunk.MatChunk.{MatChunk}
use Rattle.quad_matrix.specs.declared.kind.MatKind.{MatKind}
use Rattle.quad_matrix.specs.Blocks.{MatValue, no_value, stands}
use Rattle.quad_matrix.specs.Goals.{IsDefined, goal_of, rank_of}
use Rattle.quad_matrix.specs.Plans.{shapes_of}
use Rattle.quad_matrix.specs.Works.{work_of}

-- blocks and numbers, the goals of dense values, and the plans
abbrev pub matrices : Meanings MatChunk MatKind
matrices = record {
  Value = MatValue;
  nothing = no_value;
  stands = stands;
  defined = IsDefined;
  goal = goal_of;
  plan = shapes_of;
  rank = rank_of;
  work = work_of;
}
