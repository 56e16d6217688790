use Rattle.cht_core.proofs.Calls.{new_stands, new_state}
use Rattle.cht_core.proofs.cores.Core.new.Goals as goal

pub invariant_of-result : goal.invariant_of-result
invariant_of-result g c = new_stands g.L.Library.meanings g.L.Chunk.Payload.arity g.L.Kind.Kinds.name_of g.L.Kind.Kinds.height_of g.met.L.Library.adds_up c.in_ok-new.field-0 c.in_ok-new.ensures.control c.in_ok-new.ensures.events

pub returns-clause-state : goal.returns-clause-state
returns-clause-state g c = new_state g.L.Library.meanings g.L.Chunk.Payload.arity g.L.Kind.Kinds.name_of g.L.Kind.Kinds.height_of g.met.L.Library.adds_up c.in_ok-new.field-0 c.in_ok-new.ensures.control
