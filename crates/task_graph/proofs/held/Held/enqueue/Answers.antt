use Rattle.task_graph.proofs.Cleaning.{more_queued, least_more}
use Rattle.task_graph.specs.Graphs.{graph_of}
use Rattle.task_graph.proofs.Runs.{entry_runs}
use Rattle.std.proofs.Common.{arith}
use Rattle.task_graph.proofs.held.Held.enqueue.Goals as goal

pub clean-requires-clause-queued : goal.clean-requires-clause-queued
clean-requires-clause-queued g c = λ q runs. let e = entry_runs c.args.self.now.parts q runs in c.refill.ensures.queued q e.0 e.1 e.2

pub returns-else-is_full-clause-held : goal.returns-else-is_full-clause-held
returns-else-is_full-clause-held g c = record {
  whole = c.requires.whole;
  queue = c.push.ensures.queue;
  queued = more_queued (graph_of c.args.self.now.parts) c.args.self.now.ready c.push.new.self c.args.task c.push.ensures.queued c.requires.queued;
  least = least_more (graph_of c.args.self.now.parts) c.args.self.now.ready c.push.new.self c.args.task c.push.ensures.queued c.requires.runs c.requires.least;
  room = let numbers = c.requires.room.numbers in let more = c.push.ensures.capacity in record { entries = c.requires.room.entries; numbers = omega arith; few = c.requires.room.few };
}
