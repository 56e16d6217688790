use Rattle.std.proofs.Common.{refl, subst, sym, ◌+◌, ◌≤◌}
use Rattle.task_states.specs.Awaiters.{IsRunnable}
use Rattle.task_graph.specs.Graphs.{graph_of, IsWhole}
use Rattle.std.specs.HashMap.{hash_map_len}
use Rattle.task_graph.proofs.Runs.{true_is, false_is}
use Rattle.task_graph.proofs.Cleaning.{same_least, no_least, still_queued}
use Rattle.task_graph.proofs.held.Held.clean.Goals as goal

pub loop-least-init : goal.loop-least-init
loop-least-init g c = (refl, refl, c.requires.queue, c.requires.queued, c.requires.room)

pub least-requires : goal.least-requires
least-requires g c = c.loop-least.invariant.2

pub is_runnable-requires : goal.is_runnable-requires
is_runnable-requires g c = subst IsWhole (sym c.loop-least.invariant.0) c.requires.whole

pub returns-then-is_runnable-clause-held : goal.returns-then-is_runnable-clause-held
returns-then-is_runnable-clause-held g c = record {
  whole = subst IsWhole (sym c.loop-least.invariant.0) c.requires.whole;
  queue = c.loop-least.invariant.2;
  queued = c.loop-least.invariant.3;
  least = λ task is. subst (IsRunnable (graph_of c.loop-least.self.parts)) (same_least c.loop-least.self.ready c.in-Some.least task c.in-Some.ensures is) (c.if-is_runnable.ensures.0 true_is);
  room = c.loop-least.invariant.4;
}

pub returns-then-is_runnable-clause-parts : goal.returns-then-is_runnable-clause-parts
returns-then-is_runnable-clause-parts g c = c.loop-least.invariant.0

pub returns-then-is_runnable-clause-spare : goal.returns-then-is_runnable-clause-spare
returns-then-is_runnable-clause-spare g c = c.loop-least.invariant.1

pub drop_least-requires : goal.drop_least-requires
drop_least-requires g c = record { queue = c.loop-least.invariant.2 }

pub loop-least-preserved : goal.loop-least-preserved
loop-least-preserved g c = (
  c.loop-least.invariant.0,
  c.loop-least.invariant.1,
  c.drop_least.ensures.queue,
  still_queued (graph_of c.loop-least.self.parts) c.loop-least.self.ready c.drop_least.new.self c.in-Some.least (λ runs. false_is (c.if-is_runnable.ensures.1 runs)) (c.drop_least.ensures.rest c.in-Some.least c.in-Some.ensures) c.loop-least.invariant.3,
  record { entries = c.loop-least.invariant.4.entries; numbers = subst (λ n. hash_map_len c.loop-least.self.parts.entries.tasks + c.loop-least.self.spare ≤ n) (sym c.drop_least.ensures.capacity) c.loop-least.invariant.4.numbers; few = c.loop-least.invariant.4.few },
)

pub returns-clause-held : goal.returns-clause-held
returns-clause-held g c = record {
  whole = subst IsWhole (sym c.loop-least.invariant.0) c.requires.whole;
  queue = c.loop-least.invariant.2;
  queued = c.loop-least.invariant.3;
  least = λ task is. absurd (no_least c.loop-least.self.ready task c.in_default.ensures is);
  room = c.loop-least.invariant.4;
}

pub returns-clause-parts : goal.returns-clause-parts
returns-clause-parts g c = c.loop-least.invariant.0

pub returns-clause-spare : goal.returns-clause-spare
returns-clause-spare g c = c.loop-least.invariant.1
