use Rattle.std.proofs.Common.{◌≡◌, subst, arith, inl, inr}
use Rattle.task_states.specs.Awaiters.{IsRunnable}
use Rattle.task_graph.specs.Graphs.{graph_of}
use Rattle.task_graph.proofs.Cleaning.{same_least, still_queued}
use Rattle.task_graph.proofs.held.Held.retire.Goals as goal

pub clean-requires-clause-queued : goal.clean-requires-clause-queued
clean-requires-clause-queued g c =
    let same : c.in-Some.least ≡ c.args.task = (let test = c.if-least-task.true in omega arith) in
    still_queued (graph_of c.args.self.now.parts) c.args.self.now.ready c.drop_least.new.self c.in-Some.least (λ runs. c.requires.never (subst (IsRunnable (graph_of c.args.self.now.parts)) same runs)) (c.drop_least.ensures.rest c.in-Some.least c.in-Some.ensures) c.requires.queued

pub returns-else-least-task-clause-held : goal.returns-else-least-task-clause-held
returns-else-least-task-clause-held g c = record {
  whole = c.requires.whole;
  queue = c.requires.queue;
  queued = c.requires.queued;
  least = λ q is. elim (c.requires.least q is) [
    | inl gone ↦ absurd (let one = same_least c.args.self.now.ready q c.in-Some.least is c.in-Some.ensures in let test = c.if-least-task.false in omega arith)
    | inr runs ↦ runs
  ];
  room = c.requires.room;
}
