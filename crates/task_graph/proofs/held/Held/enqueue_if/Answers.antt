use Rattle.task_graph.proofs.held.Held.enqueue_if.Goals as goal

pub enqueue-requires-clause-runs : goal.enqueue-requires-clause-runs
enqueue-requires-clause-runs g c = c.requires.runs c.in-Some.task c.in-Some.is
