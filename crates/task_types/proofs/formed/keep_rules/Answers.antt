use Rattle.std.proofs.Common.{arith, rules}
use Rattle.task_types.proofs.formed.keep_rules.Goals as goal

pub returns : goal.returns
returns g c = (
  λ used. record {
    few_chunks = omega arith;
    few_tasks = omega arith;
    chunks_formed = c.are_chunks.ensures.0 c.if-not-are_chunks.false;
    tasks_formed = c.are_tasks.ensures.0 c.if-not-are_tasks.false;
    result_stands = search rules;
    chunks_used = (c.are_used.ensures.0 used).0;
    tasks_used = (c.are_used.ensures.0 used).1;
  },
  λ kept. c.are_used.ensures.1 (kept.chunks_used, kept.tasks_used),
)
