use Rattle.crossbeam_deque.specs.Handles.{view}
use Rattle.steal_deque.proofs.History
use Rattle.steal_deque.proofs.victim.Victim.look.Goals as goal

pub steal_as-requires-clause-takes : goal.steal_as-requires-clause-takes
steal_as-requires-clause-takes c = let victim = c.args.self.now in History.steals victim.pass.id (view victim.pass) victim.thief.0 victim.thief.1
