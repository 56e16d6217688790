use Rattle.crossbeam_deque.specs.Handles.{worker_port, worker_view}
use Rattle.steal_deque.proofs.History
use Rattle.steal_deque.proofs.own.Own.hire.Goals as goal

pub another-pass-requires : goal.another-pass-requires
another-pass-requires c = let worker = c.args.self.now.worker in History.forks (worker_port worker) (worker_view worker) c.args.self.now.owner.0 c.args.self.now.owner.1 c.requires
