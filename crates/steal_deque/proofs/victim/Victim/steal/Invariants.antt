use Rattle.std.proofs.Common.{◌≡◌}
use Rattle.steal_deque.specs.Ends.{victim_view, SameVictim}
use Rattle.steal_deque.proofs.victim.Victim.steal.Given as goal

abbrev pub invariant-loop : goal.invariant-loop
invariant-loop g l = SameVictim l.initial.self l.self × (victim_view l.self ≡ victim_view l.initial.self)
