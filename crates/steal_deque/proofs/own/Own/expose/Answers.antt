use Rattle.crossbeam_deque.specs.Handles.{worker_port, worker_view}
use Rattle.std.proofs.Common.{[], ◌∷◌}
use Rattle.steal_deque.proofs.History
use Rattle.steal_deque.proofs.own.Own.expose.Goals as goal

pub push_as-requires-clause-pushes : goal.push_as-requires-clause-pushes
push_as-requires-clause-pushes c = let worker = c.args.self.now.worker in History.exposes (worker_port worker) (worker_view worker) (c.args.task ∷ []) c.args.self.now.owner.0 c.args.self.now.owner.1
