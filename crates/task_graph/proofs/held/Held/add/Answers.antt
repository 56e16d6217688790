use Rattle.std.proofs.Common.{subst, sym, inl, inr, arith}
use Rattle.task_states.specs.Awaiters.{IsRunnable}
use Rattle.task_states.proofs.Runnables.{runs_added}
use Rattle.task_graph.specs.Contents.{inputs_given}
use Rattle.task_graph.specs.Graphs.{graph_of}
use Rattle.task_graph.proofs.Cleaning.{queued_but}
use Rattle.task_graph.proofs.Staying.{stays_added, runs_new, never_new}
use Rattle.task_graph.proofs.held.Held.add.Goals as goal

pub enqueue-requires-clause-queued : goal.enqueue-requires-clause-queued
enqueue-requires-clause-queued g c =
    λ q runs. elim (runs_added (graph_of c.args.self.now.parts) c.args.task c.args.caller c.args.kind (inputs_given c.args.inputs.now) q (subst (λ graph. IsRunnable graph q) c.add.ensures.graph runs)) [ inl same ↦ inl same | inr before ↦ inr (c.requires.held.queued q before) ]

pub enqueue-requires-clause-least : goal.enqueue-requires-clause-least
enqueue-requires-clause-least g c =
    λ q is. subst (λ graph. IsRunnable graph q) (sym c.add.ensures.graph) (stays_added (graph_of c.args.self.now.parts) c.args.task c.args.caller c.args.kind (inputs_given c.args.inputs.now) q c.requires.new (c.requires.held.least q is))

pub enqueue-requires-clause-runs : goal.enqueue-requires-clause-runs
enqueue-requires-clause-runs g c =
    subst (λ graph. IsRunnable graph c.args.task) (sym c.add.ensures.graph) (runs_new (graph_of c.args.self.now.parts) c.args.task c.args.caller c.args.kind (inputs_given c.args.inputs.now) c.if-runs.ensures)

pub returns-else-runs-clause-held : goal.returns-else-runs-clause-held
returns-else-runs-clause-held g c =
    let entries = c.requires.held.room.entries in
    let numbers = c.requires.held.room.numbers in
    let few = c.requires.held.room.few in
    let len = c.add.ensures.len in
    let room = c.add.ensures.room in
    let spare = c.requires.spare in
    record {
      whole = c.add.ensures.whole;
      queue = c.requires.held.queue;
      queued = queued_but (graph_of c.add.new.self) c.args.self.now.ready c.args.task
          (λ runs. never_new (graph_of c.args.self.now.parts) c.args.task c.args.caller c.args.kind (inputs_given c.args.inputs.now) c.if-runs.ensures (subst (λ graph. IsRunnable graph c.args.task) c.add.ensures.graph runs))
          (λ q runs. elim (runs_added (graph_of c.args.self.now.parts) c.args.task c.args.caller c.args.kind (inputs_given c.args.inputs.now) q (subst (λ graph. IsRunnable graph q) c.add.ensures.graph runs)) [ inl same ↦ inl same | inr before ↦ inr (c.requires.held.queued q before) ]);
      least = λ q is. subst (λ graph. IsRunnable graph q) (sym c.add.ensures.graph) (stays_added (graph_of c.args.self.now.parts) c.args.task c.args.caller c.args.kind (inputs_given c.args.inputs.now) q c.requires.new (c.requires.held.least q is));
      room = record { entries = omega arith; numbers = omega arith; few = omega arith };
    }
