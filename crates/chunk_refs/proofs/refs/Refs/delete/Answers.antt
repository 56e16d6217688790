use Rattle.name_states.specs.Steps.{without_id}
use Rattle.name_states.specs.Reached.{IsReached, swept}
use Rattle.std.proofs.Common.{◌≡◌, None, sym, subst, IsSome, ◌↔◌, ◌∙◌, ap}
use Rattle.chunk_refs.specs.Room.{Contents}
use Rattle.name_states.specs.States.{id_at, body_at}
use Rattle.chunk_refs.specs.Others.{AreOthersLive, AreRestAsBefore}
use Rattle.name_states.specs.Rules.{IsSound, AreWithin}
use Rattle.chunk_refs.specs.Inside.{names_of}
use Rattle.chunk_refs.proofs.Calls.{delete-gone, delete-others, delete-rest, delete-within, delete-bodies}
use Rattle.chunk_refs.proofs.Ending.{all-named-once}
use Rattle.name_states.proofs.Reaching.{all-reached}
use Rattle.chunk_refs.proofs.refs.Refs.delete.Goals as goal

pub returns-clause-gone : goal.returns-clause-gone
returns-clause-gone g c =
    subst (λ names. id_at names c.args.id.number ≡ None) (sym c.delete.ensures.names) (delete-gone (names_of c.self.inside.parts) c.args.id.number)

pub returns-clause-others : goal.returns-clause-others
returns-clause-others g c =
    subst (λ (v : Contents g.row.C.Denot). AreOthersLive v.names (names_of c.delete.new.self) c.args.id) c.self.view_is
    (subst (λ names. AreOthersLive (names_of c.self.inside.parts) names c.args.id) (sym c.delete.ensures.names) (delete-others (names_of c.self.inside.parts) c.args.id))

pub returns-clause-rest : goal.returns-clause-rest
returns-clause-rest g c =
    let sound = subst (λ names. IsSound g.C.Payload.arity names) c.delete.ensures.names c.delete.ensures.sound in
    subst (λ (v : Contents g.row.C.Denot). AreRestAsBefore v.names (names_of c.delete.new.self)) c.self.view_is
    (subst (λ names. AreRestAsBefore (names_of c.self.inside.parts) names) (sym c.delete.ensures.names) (delete-rest g.C.Payload.arity (names_of c.self.inside.parts) c.args.id.number sound))

pub returns-clause-reached : goal.returns-clause-reached
returns-clause-reached g c =
    all-reached g.C.Payload.arity (names_of c.delete.new.self) c.delete.ensures.sound (all-named-once c.delete.new.self c.delete.ensures.chain)

pub returns-clause-numbered : goal.returns-clause-numbered
returns-clause-numbered g c = λ bound within.
    subst (λ names. AreWithin names bound) (sym c.delete.ensures.names)
    (delete-within (names_of c.self.inside.parts) c.args.id.number bound (subst (λ (v : Contents g.row.C.Denot). AreWithin v.names bound) (sym c.self.view_is) within))

pub returns-clause-bodies : goal.returns-clause-bodies
returns-clause-bodies g c = λ number.
    let sound = subst (λ (v : Contents g.row.C.Denot). IsSound g.C.Payload.arity v.names) c.self.view_is c.self.invariant.1 in
    let made = c.delete.ensures.names ∙ ap (λ (v : Contents g.row.C.Denot). swept (without_id v.names c.args.id.number)) c.self.view_is in
    subst (λ names. IsSome (body_at names number) ↔ IsReached (without_id c.args.self.now.names c.args.id.number) number) (sym made)
    (delete-bodies g.C.Payload.arity c.args.self.now.names c.args.id number sound c.requires.live c.requires.holder)
