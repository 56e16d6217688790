use Rattle.crossbeam_deque.specs.Handles.{worker_port, worker_view, view}
use Rattle.steal_deque.proofs.History
use Rattle.steal_deque.proofs.own.Own.take_back.Goals as goal

pub absorb-requires-clause-rule : goal.absorb-requires-clause-rule
absorb-requires-clause-rule c = let worker = c.args.self.now.worker in let pass = c.args.victim.pass in
    History.merges (worker_port worker) (worker_view worker) pass.id (view pass) c.args.self.now.owner.0 c.args.self.now.owner.1 c.args.victim.thief.0 c.args.victim.thief.1
