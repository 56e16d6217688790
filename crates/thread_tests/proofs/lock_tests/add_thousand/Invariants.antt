use Rattle.std.proofs.Common.{◌≡◌, None}
use Rattle.seat_lock.specs.Seats.{IsSeatOf, number_of, turn_of}
use Rattle.thread_tests.proofs.lock_tests.add_thousand.Given as goal

abbrev pub invariant-loop : goal.invariant-loop
invariant-loop g l = IsSeatOf l.lock l.seat × (number_of l.seat ≡ number_of l.initial.seat) × (turn_of l.seat ≡ None)
