use Rattle.std.proofs.Common.{◌≡◌, ◌<◌, sym, subst, arith}
use Rattle.std.specs.Option.{ForSome}
use Rattle.task_types.specs.Tree.{child}
use Rattle.cht_ids.specs.declared.refs.Ref.TheVariants.{Id as Held}
use Rattle.chunk_refs.specs.Room.{Contents}
use Rattle.name_states.specs.States.{content_of, IsLiveRef}
use Rattle.name_states.specs.Trees.{tree_of}
use Rattle.chunk_refs.specs.Inside.{names_of, shown_chunk}
use Rattle.chunk_refs.proofs.Calls.{child-within, child-tree, few-refs}
use Rattle.chunk_refs.specs.Others.{IsHeldByBodyOf}
use Rattle.chunk_refs.proofs.Fresh.{child-held}
use Rattle.chunk_refs.proofs.refs.Refs.child.Goals as goal

pub get-requires : goal.get-requires
get-requires g c =
    let names = names_of c.self.inside.parts in
    let within = subst (λ (v : Contents g.row.C.Denot). ForSome (content_of v.names c.args.id) (λ content. c.args.j < g.C.Payload.arity content)) (sym c.self.view_is) c.requires.within in
    child-within g.C.Payload.arity names c.args.id (shown_chunk c.args.id.owner c.chunk_of.result.now) c.args.j c.self.invariant.1 c.chunk_of.ensures.body within

pub returns-clause-tree : goal.returns-clause-tree
returns-clause-tree g c =
    let names = names_of c.self.inside.parts in
    let within = subst (λ (v : Contents g.row.C.Denot). ForSome (content_of v.names c.args.id) (λ content. c.args.j < g.C.Payload.arity content)) (sym c.self.view_is) c.requires.within in
    let few : c.args.j < 4 = omega (arith, few-refs c.chunk_of.result.now.children, child-within g.C.Payload.arity names c.args.id (shown_chunk c.args.id.owner c.chunk_of.result.now) c.args.j c.self.invariant.1 c.chunk_of.ensures.body within) in
    subst (λ (v : Contents g.row.C.Denot). tree_of v.names c.get.result ≡ child (tree_of v.names (Held c.args.id)) c.args.j) c.self.view_is
    (child-tree g.C.Payload.arity names c.args.id (shown_chunk c.args.id.owner c.chunk_of.result.now) c.args.j c.get.result c.self.invariant.1 c.chunk_of.ensures.body c.get.ensures few)

pub returns-clause-live : goal.returns-clause-live
returns-clause-live g c =
    let names = names_of c.self.inside.parts in
    subst (λ (v : Contents g.row.C.Denot). IsLiveRef v.names c.get.result) c.self.view_is
    (child-held g.C.Payload.arity names c.args.id (shown_chunk c.args.id.owner c.chunk_of.result.now) c.args.j c.get.result c.self.invariant.1 c.chunk_of.ensures.body c.get.ensures).0

pub returns-clause-held : goal.returns-clause-held
returns-clause-held g c =
    let names = names_of c.self.inside.parts in
    subst (λ (v : Contents g.row.C.Denot). IsHeldByBodyOf v.names c.args.id c.get.result) c.self.view_is
    (child-held g.C.Payload.arity names c.args.id (shown_chunk c.args.id.owner c.chunk_of.result.now) c.args.j c.get.result c.self.invariant.1 c.chunk_of.ensures.body c.get.ensures).1
