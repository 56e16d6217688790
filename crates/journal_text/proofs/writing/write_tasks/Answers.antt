use Rattle.std.proofs.Common.{arith}
use Rattle.std.proofs.lemmas.Result.{err_from_is_err_and}
use Rattle.journal_text.specs.Openings.{task_line}
use Rattle.journal_text.proofs.Sending.{loop_more, loop_failed}
use Rattle.journal_text.proofs.writing.write_tasks.Goals as goal

pub loop-task-preserved : goal.loop-task-preserved
loop-task-preserved g c = record {
  later = omega (arith, c.loop-task.invariant.later, c.in_ok-write_task.ensures.later);
  sent = loop_more (task_line g.K.Kinds.name_of g.K.Kinds.height_of) _ _ _ _ _ _ c.args.tasks.now c.loop-task.task-index c.task-item.result c.task-item.result (omega arith) c.task-item.is c.loop-task.invariant.sent c.in_ok-write_task.ensures.whole;
}

pub returns-in_err-write_task-clause-front : goal.returns-in_err-write_task-clause-front
returns-in_err-write_task-clause-front g c =
    let p = err_from_is_err_and c.from_residual.result c.from_residual.ensures.1 in
    rw p.1 (loop_failed (task_line g.K.Kinds.name_of g.K.Kinds.height_of) _ _ _ _ _ c.args.tasks.now c.loop-task.task-index c.task-item.result c.task-item.result (omega arith) c.task-item.is c.loop-task.invariant.sent c.in_err-write_task.ensures.front)
