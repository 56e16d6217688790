use Rattle.std.proofs.Common.{◌↔◌, IsTrue, subst}
use Rattle.name_machine.specs.Standing.{HoldsNothing}
use Rattle.name_machine.proofs.Empty.{empty_both_ways}
use Rattle.core_state.specs.Contents.{Contents}
use Rattle.cht_core.specs.Events.{state}
use Rattle.cht_core.proofs.Together.{hangs_together}
use Rattle.cht_core.proofs.cores.Core.is_empty.Goals as goal

pub is_empty-requires-after_bounds : goal.is_empty-requires-after_bounds
is_empty-requires-after_bounds g c κs within = hangs_together g.L.Library.meanings c.self.inside.kept.control c.self.invariant.facts

pub returns : goal.returns
returns g c =
    let both = empty_both_ways g.L.Library.meanings g.L.Chunk.Payload.arity c.self.inside.kept.control c.self.invariant.comes.ordered in
    subst (λ (core : Contents g.row.L-Chunk.Denot g.row.L-Kind.Denot). IsTrue c.is_empty.result ↔ HoldsNothing (state g.L.Library.meanings core)) c.self.view_is
    ((λ yes. both.0 (c.is_empty.ensures.0 yes)), λ nothing. c.is_empty.ensures.1 (both.1 nothing))
