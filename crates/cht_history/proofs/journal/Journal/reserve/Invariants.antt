use Rattle.std.proofs.Common.{◌≡◌, ◌+◌, ◌*◌, ◌≤◌}
use Rattle.cht_history.specs.Pieces.{IsPieced, events_of, room_of}
use Rattle.cht_history.proofs.journal.Journal.reserve.Given as goal

abbrev pub invariant-loop : goal.invariant-loop
invariant-loop g l = record {
  pieced : IsPieced l.self-inside.pieces;
  events : events_of l.self-inside.pieces ≡ events_of l.initial.self-inside.pieces;
  room : room_of l.initial.self-inside.pieces + l.counter * 1024 ≤ room_of l.self-inside.pieces;
}
