use Rattle.task_graph.proofs.Cleaning.{queued_but}
use Rattle.task_graph.specs.Graphs.{graph_of}
use Rattle.task_graph.proofs.Runs.{true_is, false_is}
use Rattle.task_graph.proofs.held.Held.requeue.Goals as goal

pub enqueue-requires-clause-runs : goal.enqueue-requires-clause-runs
enqueue-requires-clause-runs g c = c.if-is_runnable.ensures.0 true_is

pub returns-else-is_runnable-clause-held : goal.returns-else-is_runnable-clause-held
returns-else-is_runnable-clause-held g c = record {
  whole = c.requires.whole;
  queue = c.requires.queue;
  queued = queued_but (graph_of c.args.self.now.parts) c.args.self.now.ready c.args.task (λ runs. false_is (c.if-is_runnable.ensures.1 runs)) c.requires.queued;
  least = c.requires.least;
  room = c.requires.room;
}
