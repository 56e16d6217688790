use Rattle.std.proofs.Common.{IfOk, sym, subst, ◌≡◌}
use Rattle.cht_ids.specs.declared.refs.Ref.TheVariants.{Id as Held}
use Rattle.task_types.specs.Tree.{Tree}
use Rattle.name_machine.specs.Paths.{content_at}
use Rattle.cht_plain.proofs.Mentions.{holds_so, reads_so}
use Rattle.cht_plain.proofs.calls.look.Goals as goal

pub look-requires-clause-held : goal.look-requires-clause-held
look-requires-clause-held g c κs within = holds_so g.L.Library.meanings c.args.core.now c.args.id c.requires.held

pub returns : goal.returns
returns g c =
    subst (λ (tree : Tree g.row.L-Chunk.Denot). IfOk c.look.result (λ found. found ≡ content_at tree c.args.path.now))
    (sym (reads_so g.L.Library.meanings c.args.core.now (Held c.args.id) c.requires.held)) c.look.ensures
