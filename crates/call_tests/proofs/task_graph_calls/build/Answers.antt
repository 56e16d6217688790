use Rattle.call_tests.proofs.TaskGraphs.{below_none}
use Rattle.call_tests.proofs.task_graph_calls.build.Goals as goal

pub add_known-a-requires-clause-below : goal.add_known-a-requires-clause-below
add_known-a-requires-clause-below c = below_none c.args.tasks.now.graph 1 c.requires
