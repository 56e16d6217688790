use Rattle.crossbeam_deque.specs.Handles.{worker_port, worker_view}
use Rattle.steal_deque.proofs.History
use Rattle.steal_deque.proofs.own.Own.take.Goals as goal

pub pop_as-requires-clause-lifo : goal.pop_as-requires-clause-lifo
pop_as-requires-clause-lifo c lifo = let worker = c.args.self.now.worker in History.takes (worker_port worker) (worker_view worker) c.args.self.now.owner.0 c.args.self.now.owner.1
