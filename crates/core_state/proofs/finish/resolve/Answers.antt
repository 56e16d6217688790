use Rattle.std.proofs.Common.{sym, ◌∙◌}
use Rattle.core_state.proofs.Resolving.{named_apart, none_ready}
use Rattle.core_state.proofs.finish.resolve.Goals as goal

pub new_task-requires : goal.new_task-requires
new_task-requires g c = λ i is. (c.requires.forward i is).within

pub returns-in-Some-clause-ready : goal.returns-in-Some-clause-ready
returns-in-Some-clause-ready g c =
    none_ready c.args.graph.now.graph c.forward.new.self.graph c.args.task c.in-Some.to c.forward.ensures.graph
    (named_apart c.args.graph.now.graph c.args.task c.args.numbers.now c.args.place c.in-Some.to c.requires.forward (sym c.new_task.ensures ∙ c.in-Some.is)) c.args.ready.now.items
