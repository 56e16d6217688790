use Rattle.std.proofs.Common.{sym, subst}
use Rattle.core_state.specs.Contents.{Contents}
use Rattle.core_steps.specs.Conditions.{HangsTogether}
use Rattle.core_state.proofs.Emptied.{empty_is}
use Rattle.core_state.proofs.state.CoreState.is_empty.Goals as goal

pub returns : goal.returns
returns g c =
    let state = c.self.inside in
    let together = subst (λ (v : Contents g.row.C.Denot g.row.K.Denot). HangsTogether v.control) (sym c.self.view_is) c.requires in
    rw (← c.self.view_is)
    (rw c.none_left.ensures
    (empty_is (record { drawn = state.counter; names = state.names.names; asks = state.asks.asks; graph = state.graph.graph }) together c.live_ids.result c.is_empty.result c.live_ids.ensures c.is_empty.ensures c.rules.ensures.no_bodies))
