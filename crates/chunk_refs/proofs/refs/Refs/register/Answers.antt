use Rattle.std.proofs.Common.{◌≡◌, ◌+◌, true, false, ap, sym, subst, ◌∙◌, arith, Some}
use Rattle.cht_ids.specs.declared.refs.Id.{Id}
use Rattle.cht_ids.specs.declared.refs.Ref.TheVariants.{Id as Held}
use Rattle.chunk_refs.specs.Room.{Contents, spare_of}
use Rattle.name_states.specs.States.{AreLive, holder_of, body_of, children_of}
use Rattle.name_states.specs.Trees.{tree_of}
use Rattle.name_states.specs.Steps.{registered, present, numbered}
use Rattle.name_states.specs.Rules.{IsSound, AreWithin, AreReached}
use Rattle.chunk_refs.specs.Others.{AreAllAsBefore, IsOnlyNew}
use Rattle.chunk_refs.specs.Inside.{names_of, all_four, refs_of}
use Rattle.chunk_refs.proofs.Calls.{register-others, register-held, register-body, register-children}
use Rattle.name_states.proofs.TreeRegistered.{tree-registered}
use Rattle.name_states.proofs.Sound.{sound-registered, registered-within}
use Rattle.chunk_refs.proofs.Padded.{live-padded, present-padded}
use Rattle.chunk_refs.proofs.Ending.{all-named-once}
use Rattle.chunk_refs.proofs.Fresh.{register-only-new}
use Rattle.name_states.proofs.Reaching.{all-reached}
use Rattle.chunk_refs.proofs.refs.Refs.register.Goals as goal

-- what the call makes of the names
made : (g : _) (c : goal.After-register g) → names_of c.register.new.self ≡ registered c.args.self.now.names c.args.counter.now c.args.holder c.args.worker c.args.body c.args.children.now
made g c =
    c.register.ensures.names
    ∙ ap (λ names. registered names c.args.counter.now c.args.holder c.args.worker c.args.body (refs_of c.of-children.result)) (c.reserve.ensures.names ∙ ap (λ (v : Contents g.row.C.Denot). v.names) c.self.view_is)
    ∙ ap (registered c.args.self.now.names c.args.counter.now c.args.holder c.args.worker c.args.body) c.of-children.ensures.refs

-- the rules that held before
before : (g : _) (c : goal.After-register g) → IsSound g.C.Payload.arity c.args.self.now.names
before g c = subst (λ (v : Contents g.row.C.Denot). IsSound g.C.Payload.arity v.names) c.self.view_is c.self.invariant.1

pub returns-in_err-reserve-clause-succeeds : goal.returns-in_err-reserve-clause-succeeds
returns-in_err-reserve-clause-succeeds g c = λ a b.
    let bodies = ap (λ (v : Contents g.row.C.Denot). spare_of v c.args.worker) c.self.view_is in
    let ids = ap (λ (v : Contents g.row.C.Denot). v.room.ids) c.self.view_is in
    let clash : false ≡ true = c.in_err-reserve.ensures.succeeds (omega (arith, bodies, a))
    (omega (arith, ids, b, c.present.ensures.value, present-padded c.of-children.result.count (all_four c.of-children.result) c.of-children.ensures.padded, ap present c.of-children.ensures.refs)) in
    cc

pub register-requires-clause-live : goal.register-requires-clause-live
register-requires-clause-live g c = λ κs lives.
    let same = c.reserve.ensures.names ∙ ap (λ (v : Contents g.row.C.Denot). v.names) c.self.view_is in
    live-padded (names_of c.reserve.new.self) c.of-children.result.count (all_four c.of-children.result) c.of-children.ensures.padded
    (subst (λ names. AreLive names (refs_of c.of-children.result)) (sym same) (subst (λ refs. AreLive c.args.self.now.names refs) (sym c.of-children.ensures.refs) c.requires.live))

-- the rules that hold afterwards
after : (g : _) (c : goal.After-register g) → IsSound g.C.Payload.arity (names_of c.register.new.self)
after g c =
    subst (λ names. IsSound g.C.Payload.arity names) (sym (made g c))
    (sound-registered g.C.Payload.arity c.args.self.now.names c.args.counter.now c.args.holder c.args.worker c.args.body c.args.children.now (before g c) c.requires.numbered c.requires.holder c.requires.live c.requires.arity)

pub returns-clause-only : goal.returns-clause-only
returns-clause-only g c =
    subst (λ (id : Id). let names = names_of c.register.new.self in IsOnlyNew c.args.self.now.names names id) (sym c.register.ensures.id)
    (subst (λ names. let id : Id = record { owner = c.args.worker; number = c.args.counter.now + 2 } in IsOnlyNew c.args.self.now.names names id) (sym (made g c))
    (register-only-new c.args.self.now.names c.args.counter.now c.args.holder c.args.worker c.args.body c.args.children.now c.requires.numbered c.requires.live))

pub returns-clause-reached : goal.returns-clause-reached
returns-clause-reached g c =
    all-reached g.C.Payload.arity (names_of c.register.new.self) (after g c) (all-named-once c.register.new.self c.register.ensures.chain)

pub returns-in_err-reserve-clause-reached : goal.returns-in_err-reserve-clause-reached
returns-in_err-reserve-clause-reached g c =
    let parts = c.self.inside.parts in
    subst (λ names. AreReached names) (sym c.reserve.ensures.names) (all-reached g.C.Payload.arity (names_of parts) c.self.invariant.1 (all-named-once parts c.self.invariant.0))

pub invariant_of-self-2 : goal.invariant_of-self-2
invariant_of-self-2 g c = (
  c.register.ensures.chain,
  subst (λ names. IsSound g.C.Payload.arity names) (sym (made g c))
      (sound-registered g.C.Payload.arity c.args.self.now.names c.args.counter.now c.args.holder c.args.worker c.args.body c.args.children.now (before g c) c.requires.numbered c.requires.holder c.requires.live c.requires.arity),
)

pub returns-clause-tree : goal.returns-clause-tree
returns-clause-tree g c =
    ap (λ (id : Id). tree_of (names_of c.register.new.self) (Held id)) c.register.ensures.id
    ∙ ap (λ names. tree_of names (Held (record { owner = c.args.worker; number = c.args.counter.now + 2 }))) (made g c)
    ∙ tree-registered g.C.Payload.arity c.args.self.now.names c.args.counter.now c.args.holder c.args.worker c.args.body c.args.children.now (before g c) c.requires.numbered c.requires.live

pub returns-clause-others : goal.returns-clause-others
returns-clause-others g c =
    subst (λ names. AreAllAsBefore c.args.self.now.names names) (sym (made g c))
    (register-others g.C.Payload.arity c.args.self.now.names c.args.counter.now c.args.holder c.args.worker c.args.body c.args.children.now (before g c) c.requires.numbered)

pub returns-clause-numbered : goal.returns-clause-numbered
returns-clause-numbered g c =
    let drawn : c.register.new.counter ≡ c.args.counter.now + 2 + present c.args.children.now = c.register.ensures.drawn ∙ ap (λ refs. c.args.counter.now + 2 + present refs) c.of-children.ensures.refs in
    subst (λ names. AreWithin names c.register.new.counter) (sym (made g c))
    (subst (λ n. AreWithin (registered c.args.self.now.names c.args.counter.now c.args.holder c.args.worker c.args.body c.args.children.now) n) (sym drawn)
    (registered-within c.args.self.now.names c.args.counter.now c.args.holder c.args.worker c.args.body c.args.children.now c.requires.numbered))

pub returns-clause-held : goal.returns-clause-held
returns-clause-held g c =
    subst (λ (id : Id). let names = names_of c.register.new.self in holder_of names id ≡ Some c.args.holder) (sym c.register.ensures.id)
    (subst (λ names. let id : Id = record { owner = c.args.worker; number = c.args.counter.now + 2 } in holder_of names id ≡ Some c.args.holder) (sym (made g c))
    (register-held c.args.self.now.names c.args.counter.now c.args.holder c.args.worker c.args.body c.args.children.now c.requires.numbered))

pub returns-clause-body : goal.returns-clause-body
returns-clause-body g c =
    subst (λ (id : Id). let names = names_of c.register.new.self in body_of names id ≡ Some (c.args.counter.now + 1)) (sym c.register.ensures.id)
    (subst (λ names. let id : Id = record { owner = c.args.worker; number = c.args.counter.now + 2 } in body_of names id ≡ Some (c.args.counter.now + 1)) (sym (made g c))
    (register-body c.args.self.now.names c.args.counter.now c.args.holder c.args.worker c.args.body c.args.children.now c.requires.numbered))

pub returns-clause-children : goal.returns-clause-children
returns-clause-children g c =
    subst (λ (id : Id). let names = names_of c.register.new.self in children_of names id ≡ numbered (c.args.counter.now + 2) c.args.children.now) (sym c.register.ensures.id)
    (subst (λ names. let id : Id = record { owner = c.args.worker; number = c.args.counter.now + 2 } in children_of names id ≡ numbered (c.args.counter.now + 2) c.args.children.now) (sym (made g c))
    (register-children c.args.self.now.names c.args.counter.now c.args.holder c.args.worker c.args.body c.args.children.now c.requires.numbered))
