use Rattle.steal_deque.proofs.History
use Rattle.steal_deque.proofs.own.Own.open.Goals as goal

pub lifo_as-requires : goal.lifo_as-requires
lifo_as-requires c = History.begins
