use Rattle.std.proofs.Common.{subst}
use Rattle.chunk_refs.specs.Room.{Contents}
use Rattle.name_states.specs.Rules.{AreReached, IsSound}
use Rattle.chunk_refs.specs.Inside.{names_of}
use Rattle.chunk_refs.proofs.Ending.{all-named-once}
use Rattle.name_states.proofs.Reaching.{all-reached}
use Rattle.name_states.proofs.Sound.{nothing-left}
use Rattle.chunk_refs.proofs.Calls.{none-left, none-counted}
use Rattle.chunk_refs.proofs.refs.Refs.rules.Goals as goal

pub returns-clause-reached : goal.returns-clause-reached
returns-clause-reached g c =
    let parts = c.self.inside.parts in
    subst (λ (v : Contents g.row.C.Denot). AreReached v.names) c.self.view_is
    (all-reached g.C.Payload.arity (names_of parts) c.self.invariant.1 (all-named-once parts c.self.invariant.0))

pub returns-clause-empty : goal.returns-clause-empty
returns-clause-empty g c =
    let parts = c.self.inside.parts in
    let reached = subst (λ (v : Contents g.row.C.Denot). AreReached v.names) c.self.view_is (all-reached g.C.Payload.arity (names_of parts) c.self.invariant.1 (all-named-once parts c.self.invariant.0)) in
    let sound = subst (λ (v : Contents g.row.C.Denot). IsSound g.C.Payload.arity v.names) c.self.view_is c.self.invariant.1 in
    nothing-left g.C.Payload.arity c.args.self.now.names sound reached

pub returns-clause-none : goal.returns-clause-none
returns-clause-none g c =
    let parts = c.self.inside.parts in
    let reached = subst (λ (v : Contents g.row.C.Denot). AreReached v.names) c.self.view_is (all-reached g.C.Payload.arity (names_of parts) c.self.invariant.1 (all-named-once parts c.self.invariant.0)) in
    let sound = subst (λ (v : Contents g.row.C.Denot). IsSound g.C.Payload.arity v.names) c.self.view_is c.self.invariant.1 in
    (none-left g.C.Payload.arity c.args.self.now.names sound reached, λ none. (none-counted c.args.self.now.names none).0)

pub returns-clause-no_bodies : goal.returns-clause-no_bodies
returns-clause-no_bodies g c = λ none.
    let parts = c.self.inside.parts in
    let reached = subst (λ (v : Contents g.row.C.Denot). AreReached v.names) c.self.view_is (all-reached g.C.Payload.arity (names_of parts) c.self.invariant.1 (all-named-once parts c.self.invariant.0)) in
    let sound = subst (λ (v : Contents g.row.C.Denot). IsSound g.C.Payload.arity v.names) c.self.view_is c.self.invariant.1 in
    (none-counted c.args.self.now.names (none-left g.C.Payload.arity c.args.self.now.names sound reached none)).1
