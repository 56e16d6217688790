use Rattle.std.proofs.Common.{subst, ◌∙◌}
use Rattle.core_state.proofs.TasksEnded.{TasksLeft, tasks_step, tasks_end}
use Rattle.core_state.proofs.abandoning.end_tasks.Goals as goal

pub loop-next-preserved : goal.loop-next-preserved
loop-next-preserved g c = record {
  left =
      tasks_step c.args.graph.now.graph g.C.Payload.arity c.args.names.now.names c.loop-next.names.names c.args.c c.rules.ensures.sound
      c.in-Some.task c.end_inputs.new.names.names c.next_of-next.result
      (subst (TasksLeft c.args.graph.now.graph c.args.names.now.names c.loop-next.names.names c.args.c) c.in-Some.is c.loop-next.invariant.left)
      c.next_of-next.ensures c.end_inputs.ensures.names;
  stores = c.end_inputs.ensures.stores ∙ c.loop-next.invariant.stores;
}

pub returns-clause-names : goal.returns-clause-names
returns-clause-names g c =
    tasks_end c.args.graph.now.graph g.C.Payload.arity c.args.names.now.names c.loop-next.names.names c.args.c c.rules-2.ensures.sound c.rules-2.ensures.reached
    (subst (TasksLeft c.args.graph.now.graph c.args.names.now.names c.loop-next.names.names c.args.c) c.in_default.is c.loop-next.invariant.left)
