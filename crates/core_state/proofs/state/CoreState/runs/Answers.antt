use Rattle.std.proofs.Common.{◌<◌, length, refl}
use Rattle.std.proofs.lemmas.Option.{slice_get_read}
use Rattle.core_state.proofs.Working.{runs_none}
use Rattle.core_state.proofs.state.CoreState.runs.Goals as goal

pub returns-clause-none : goal.returns-clause-none
returns-clause-none g c =
    let state = c.self.inside in
    let within : c.args.w < length state.running.items = rw (← c.self.view_is) at c.requires in
    rw (← c.self.view_is)
    (runs_none g.C.Payload.arity (record { drawn = state.counter; names = state.names.names; asks = state.asks.asks; graph = state.graph.graph }) state.running.items c.self.invariant.run c.args.w c.index.result.now
    (slice_get_read state.running.items (length state.running.items) c.args.w c.index.result.now refl within c.index.ensures))
