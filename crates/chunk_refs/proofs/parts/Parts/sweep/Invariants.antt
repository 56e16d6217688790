-- The deletion so far takes out nothing that is reached, and the chain has what is still to go.
use Rattle.chunk_refs.specs.Room.{IsAtLeast}
use Rattle.chunk_refs.specs.Inside.{names_of, room_of, HasChain}
use Rattle.chunk_refs.specs.Deleting.{IsPartial}
use Rattle.chunk_refs.proofs.parts.Parts.sweep.Given as goal

abbrev pub invariant-loop-first : goal.invariant-loop-first
invariant-loop-first g l = record {
  chain : HasChain l.self l.first;
  partial : IsPartial g.C.Payload.arity (names_of l.fn.self) (names_of l.self);
  room : IsAtLeast (room_of l.fn.self) (room_of l.self);
}

abbrev pub decreases-loop-first : goal.decreases-loop-first
decreases-loop-first g l = l.self.bodies
