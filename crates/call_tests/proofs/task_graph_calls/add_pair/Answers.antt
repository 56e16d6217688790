use Rattle.std.proofs.Common.{[], ◌∷◌, ◌+◌, arith}
use Rattle.task_states.specs.States.{Awaits}
use Rattle.call_tests.proofs.TaskGraphs.{small_none, small_awaits, below_added}
use Rattle.call_tests.proofs.task_graph_calls.add_pair.Goals as goal

pub returns : goal.returns
returns c =
    let task = c.args.task in
    let n = task + 2 in
    let one = Awaits c.args.b (task + 2) ∷ [] in
    below_added c.args.tasks.now.graph c.is_new.new.tasks.graph c.add.new.self.graph task n task c.args.caller 8 (Awaits c.args.a (task + 1) ∷ one) c.requires.below c.is_new.ensures.graph c.add.ensures.graph (omega arith)
    (small_awaits n c.args.a (task + 1) one (omega arith) (small_awaits n c.args.b (task + 2) [] (omega arith) (small_none n)))
