use Rattle.std.proofs.Common.{[], ◌∷◌, ◌+◌, arith}
use Rattle.cht_ids.specs.declared.refs.Ref.TheVariants.{Null}
use Rattle.task_states.specs.States.{Known}
use Rattle.call_tests.proofs.TaskGraphs.{small_none, small_known, below_added}
use Rattle.call_tests.proofs.task_graph_calls.add_known.Goals as goal

pub returns : goal.returns
returns c =
    let n = c.args.task + 2 in
    below_added c.args.tasks.now.graph c.is_new.new.tasks.graph c.add.new.self.graph c.args.task n c.args.task c.args.caller 7 (Known Null ∷ []) c.requires.below c.is_new.ensures.graph c.add.ensures.graph (omega arith)
    (small_known n Null [] (small_none n))
