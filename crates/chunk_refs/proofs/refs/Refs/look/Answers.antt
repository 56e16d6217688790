use Rattle.std.proofs.Common.{◌≡◌, subst}
use Rattle.std.specs.Prelude.{map as each}
use Rattle.cht_ids.specs.declared.refs.Ref.TheVariants.{Id as Held}
use Rattle.task_types.specs.Tree.{rooted}
use Rattle.chunk_refs.specs.Room.{Contents}
use Rattle.name_states.specs.States.{children_of}
use Rattle.name_states.specs.Trees.{tree_of}
use Rattle.chunk_refs.specs.Inside.{names_of, shown_chunk}
use Rattle.chunk_refs.proofs.Calls.{look-tree}
use Rattle.chunk_refs.proofs.refs.Refs.look.Goals as goal

pub returns-clause-tree : goal.returns-clause-tree
returns-clause-tree g c =
    subst (λ (v : Contents g.row.C.Denot). tree_of v.names (Held c.args.id) ≡ rooted c.chunk_of.result.now.body (each (tree_of v.names) (children_of v.names c.args.id))) c.self.view_is
    (look-tree g.C.Payload.arity (names_of c.self.inside.parts) c.args.id (shown_chunk c.args.id.owner c.chunk_of.result.now) c.self.invariant.1 c.chunk_of.ensures.body)
