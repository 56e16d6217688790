-- The works of the tasks of drafts and of shapes.
use Rattle.std.proofs.Common.{ℕ, List, sum_by}
use Rattle.task_types.specs.Tree.{Tree}
use Rattle.task_types.specs.Places.{Shape, TaskShape}
use Rattle.task_types.specs.Reading.{Call}
use Rattle.quad_matrix.specs.declared.chunk.MatChunk.{MatChunk}
use Rattle.quad_matrix.specs.declared.kind.MatKind.{MatKind}
use Rattle.quad_matrix.specs.Works.{work_of}
use Rattle.quad_matrix.specs.Matrices.{matrices}
use Rattle.task_plans.specs.Plans.{Draft}
use Rattle.task_plans.proofs.ForOthers as works

-- the work of a call
abbrev pub call_work : Call MatChunk MatKind → ℕ
call_work call = work_of call.kind call.inputs

-- the calls of some tasks
abbrev pub calls_of : List (Tree MatChunk) → List (Tree MatChunk) → List (TaskShape MatKind) → List (Call MatChunk MatKind)
calls_of trees chunks tasks = works.calls_of matrices trees chunks tasks

-- the works of a shape's tasks
abbrev pub total : List (Tree MatChunk) → List (Tree MatChunk) → Shape MatKind → ℕ
total trees chunks shape = sum_by call_work (calls_of trees chunks shape.tasks)

-- those of a draft's
abbrev pub draft_work : List (Tree MatChunk) → List (Tree MatChunk) → Draft MatKind → ℕ
draft_work trees chunks draft = works.draft_work matrices trees chunks draft
