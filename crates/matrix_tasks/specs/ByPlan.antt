-- What kinds of height at least 1 answer by their plans.
use Rattle.std.specs.Prelude.{◌≤◌, Option, None, Some}
use Rattle.task_types.specs.declared.outcome.Outcome.{Outcome}
use Rattle.task_types.specs.declared.inputs.Inputs.{Inputs}
use Rattle.task_types.specs.Shown.{presences_in}
use Rattle.task_plans.specs.declared.portions.Portions.{Portions}
use Rattle.task_plans.specs.Portions.{no_portions, AreSound}
use Rattle.task_plans.specs.Sketches.{planned_outcome}
use Rattle.quad_matrix.specs.declared.chunk.MatChunk.{MatChunk}
use Rattle.quad_matrix.specs.declared.chunk.Entries.{Entries}
use Rattle.quad_matrix.specs.declared.kind.What.{What}
use Rattle.quad_matrix.specs.declared.kind.MatKind.{MatKind}
use Rattle.quad_matrix.specs.Chunks.{IsSoundChunk}
use Rattle.quad_matrix.specs.Goals.{kind_at}
use Rattle.quad_matrix.specs.Plans.{plan_of}
use Rattle.quad_matrix.specs.Portions.{portions_of}
use Rattle.matrix_tasks.specs.Answers.{entries_shown}

-- the portions of some entries that the parts of a plan take
abbrev pub portions_shown : What → Option Entries → Portions MatChunk
portions_shown what None = no_portions
portions_shown what (Some entries) = portions_of entries (plan_of what).parts

-- a list of entries that has portions
pub record CanSplit (what : What) (entries : Entries) : Type 0 where
  pub leaf : entries.leaf ≤ 64
  pub low : 1 ≤ entries.height
  pub high : entries.height ≤ 16
  pub sound : AreSound IsSoundChunk (portions_of entries (plan_of what).parts)

-- so has one that is shown, if one is
abbrev pub HasPortions : What → Option Entries → Type 0
HasPortions what None = Unit {0}
HasPortions what (Some entries) = CanSplit what entries

-- what a kind of height at least 1 answers where its inputs are there
abbrev pub planned_answer : MatKind → Inputs MatChunk → Outcome MatChunk MatKind
planned_answer kind inputs =
    planned_outcome kind_at kind.height (plan_of kind.what) (portions_shown kind.what (entries_shown inputs.first)) (presences_in inputs)
