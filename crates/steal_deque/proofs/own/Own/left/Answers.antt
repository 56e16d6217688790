use Rattle.crossbeam_deque.specs.Handles.{worker_port, worker_view}
use Rattle.steal_deque.proofs.History
use Rattle.steal_deque.proofs.own.Own.left.Goals as goal

pub len_as-requires : goal.len_as-requires
len_as-requires c = let worker = c.args.self.now.worker in History.learns (worker_port worker) (worker_view worker) c.args.self.now.owner.0 c.args.self.now.owner.1
