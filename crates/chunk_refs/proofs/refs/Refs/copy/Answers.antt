use Rattle.std.proofs.Common.{◌≡◌, Some, ap, sym, subst, ◌∙◌}
use Rattle.cht_ids.specs.declared.refs.Ref.TheVariants.{Id as Held}
use Rattle.chunk_refs.specs.Room.{Contents}
use Rattle.name_states.specs.States.{holder_of, body_of}
use Rattle.name_states.specs.Trees.{tree_of}
use Rattle.name_states.specs.Steps.{copied}
use Rattle.name_states.specs.Rules.{IsSound, AreWithin, AreReached}
use Rattle.chunk_refs.specs.Others.{AreAllAsBefore, IsOnlyNew}
use Rattle.chunk_refs.specs.Inside.{names_of}
use Rattle.chunk_refs.proofs.Calls.{copy-sound, copy-tree, copy-held, copy-others, copy-body}
use Rattle.name_states.proofs.Within.{within-copied}
use Rattle.chunk_refs.proofs.Ending.{all-named-once}
use Rattle.chunk_refs.proofs.Fresh.{copy-only-new}
use Rattle.name_states.proofs.Reaching.{all-reached}
use Rattle.chunk_refs.proofs.refs.Refs.copy.Goals as goal

-- what the call makes of the names
made : (g : _) (c : goal.After-add g) → names_of c.add.new.self ≡ copied c.args.self.now.names c.args.id.number c.args.number c.args.holder
made g c =
    c.add.ensures.names
    ∙ ap (λ names. copied names c.args.id.number c.args.number c.args.holder) (c.reserve_ids.ensures.names ∙ ap (λ (v : Contents g.row.C.Denot). v.names) c.self.view_is)

-- the rules that held before
before : (g : _) (c : goal.After-add g) → IsSound g.C.Payload.arity c.args.self.now.names
before g c = subst (λ (v : Contents g.row.C.Denot). IsSound g.C.Payload.arity v.names) c.self.view_is c.self.invariant.1

-- the rules that hold afterwards
after : (g : _) (c : goal.After-add g) → IsSound g.C.Payload.arity (names_of c.add.new.self)
after g c =
    subst (λ names. IsSound g.C.Payload.arity names) (sym (made g c)) (copy-sound g.C.Payload.arity c.args.self.now.names c.args.id c.args.number c.args.holder (before g c) c.requires.holder c.requires.live c.requires.free)

pub returns-clause-only : goal.returns-clause-only
returns-clause-only g c =
    subst (λ names. IsOnlyNew c.args.self.now.names names (record { owner = c.args.id.owner; number = c.args.number })) (sym (made g c))
    (copy-only-new c.args.self.now.names c.args.id c.args.number c.args.holder c.requires.live)

pub returns-clause-reached : goal.returns-clause-reached
returns-clause-reached g c =
    all-reached g.C.Payload.arity (names_of c.add.new.self) (after g c) (all-named-once c.add.new.self c.add.ensures.chain)

pub returns-in_err-reserve_ids-clause-reached : goal.returns-in_err-reserve_ids-clause-reached
returns-in_err-reserve_ids-clause-reached g c =
    let parts = c.self.inside.parts in
    subst (λ names. AreReached names) (sym c.reserve_ids.ensures.names) (all-reached g.C.Payload.arity (names_of parts) c.self.invariant.1 (all-named-once parts c.self.invariant.0))

pub invariant_of-self-2 : goal.invariant_of-self-2
invariant_of-self-2 g c = (
  c.add.ensures.chain,
  subst (λ names. IsSound g.C.Payload.arity names) (sym (made g c)) (copy-sound g.C.Payload.arity c.args.self.now.names c.args.id c.args.number c.args.holder (before g c) c.requires.holder c.requires.live c.requires.free),
)

pub returns-clause-tree : goal.returns-clause-tree
returns-clause-tree g c =
    subst (λ names. tree_of names (Held (record { owner = c.args.id.owner; number = c.args.number })) ≡ tree_of c.args.self.now.names (Held c.args.id)) (sym (made g c))
    (copy-tree g.C.Payload.arity c.args.self.now.names c.args.id c.args.number c.args.holder (before g c) c.requires.live c.requires.free)

pub returns-clause-held : goal.returns-clause-held
returns-clause-held g c =
    subst (λ names. holder_of names (record { owner = c.args.id.owner; number = c.args.number }) ≡ Some c.args.holder) (sym (made g c)) (copy-held c.args.self.now.names c.args.id c.args.number c.args.holder c.requires.live)

pub returns-clause-others : goal.returns-clause-others
returns-clause-others g c =
    subst (λ names. AreAllAsBefore c.args.self.now.names names) (sym (made g c)) (copy-others g.C.Payload.arity c.args.self.now.names c.args.id.number c.args.number c.args.holder (before g c) c.requires.free)

pub returns-clause-numbered : goal.returns-clause-numbered
returns-clause-numbered g c = λ bound within low.
    subst (λ names. AreWithin names bound) (sym (made g c)) (within-copied c.args.self.now.names c.args.id.number c.args.number c.args.holder bound within low)

pub returns-clause-body : goal.returns-clause-body
returns-clause-body g c =
    subst (λ names. body_of names (record { owner = c.args.id.owner; number = c.args.number }) ≡ body_of c.args.self.now.names c.args.id) (sym (made g c)) (copy-body c.args.self.now.names c.args.id c.args.number c.args.holder c.requires.live)
