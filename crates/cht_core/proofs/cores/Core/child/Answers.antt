use Rattle.std.proofs.Common.{◌≡◌, ◌≤◌, subst, sym, ap, ◌∙◌, arith}
use Rattle.cht_ids.specs.declared.refs.Ref.TheVariants.{Id as Held}
use Rattle.task_types.specs.Tree.{Nothing, child}
use Rattle.name_states.specs.States.{IsLive}
use Rattle.name_states.specs.Trees.{tree_of}
use Rattle.core_state.specs.Contents.{Contents}
use Rattle.name_machine.specs.Paths.{root_content}
use Rattle.cht_core.proofs.Found.{child_found, child_missing}
use Rattle.cht_core.proofs.cores.Core.child.Goals as goal

pub returns-then-j-arity-clause-tree : goal.returns-then-j-arity-clause-tree
returns-then-j-arity-clause-tree g c =
    subst (λ (core : Contents g.row.L-Chunk.Denot g.row.L-Kind.Denot). tree_of core.control.names c.child.result ≡ child (tree_of core.control.names (Held c.args.id)) c.args.j) c.self.view_is
    (child_found g.L.Chunk.Payload.arity c.self.inside.kept.control.names c.self.invariant.comes.ordered.sound c.args.id c.look.result.now c.args.j c.child.result c.look.ensures.tree
    (let low = c.if-j-arity.true in let few = c.arity.ensures.few in omega arith) c.child.ensures)

pub returns-else-j-arity-clause-tree : goal.returns-else-j-arity-clause-tree
returns-else-j-arity-clause-tree g c =
    subst (λ (core : Contents g.row.L-Chunk.Denot g.row.L-Kind.Denot). Nothing ≡ child (tree_of core.control.names (Held c.args.id)) c.args.j) c.self.view_is
    (child_missing g.L.Chunk.Payload.arity c.self.inside.kept.control.names c.self.invariant.comes.ordered.sound c.args.id c.look.result.now c.args.j
    (subst (λ (core : Contents g.row.L-Chunk.Denot g.row.L-Kind.Denot). IsLive core.control.names c.args.id) (sym c.self.view_is) c.requires)
    c.look.ensures.tree (ap root_content c.look.ensures.tree)
    (subst (λ n. n ≤ c.args.j) (c.arity.ensures.value ∙ ap g.L.Chunk.Payload.arity c.content.ensures.whole) c.if-j-arity.false))
