use Rattle.std.proofs.Common.{sym, subst}
use Rattle.name_states.specs.States.{IsLiveRef}
use Rattle.chunk_refs.specs.Room.{Contents}
use Rattle.chunk_refs.specs.Inside.{names_of, shown_chunk}
use Rattle.chunk_refs.proofs.Fresh.{child-held}
use Rattle.chunk_refs.proofs.refs.Refs.nth_child.Goals as goal

pub returns-in-Some-clause-live : goal.returns-in-Some-clause-live
returns-in-Some-clause-live g c =
    let names = names_of c.self.inside.parts in
    subst (λ (v : Contents g.row.C.Denot). IsLiveRef v.names c.in-Some.child) c.self.view_is
    (child-held g.C.Payload.arity names c.args.id (shown_chunk c.args.id.owner c.chunk_of.result.now) c.args.j c.in-Some.child c.self.invariant.1 c.chunk_of.ensures.body (sym c.in-Some.ensures)).0
