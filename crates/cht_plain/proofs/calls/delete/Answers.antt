use Rattle.std.proofs.Common.{sym, ap, subst, ◌∙◌}
use Rattle.cht_ids.specs.declared.refs.Ref.{Ref}
use Rattle.cht_engine.specs.Seen.{MayMention}
use Rattle.cht_engine.specs.Calls.{deleted}
use Rattle.cht_plain.specs.Alone.{seen_of}
use Rattle.cht_plain.proofs.Mentions.{holds_so}
use Rattle.cht_plain.proofs.Own.{delete_seen, delete_rests}
use Rattle.cht_plain.proofs.calls.delete.Goals as goal

pub delete-requires-clause-held : goal.delete-requires-clause-held
delete-requires-clause-held g c κs within =
    holds_so g.L.Library.meanings c.args.core.now c.in-Id.id (subst (λ (r : Ref). MayMention (seen_of g.L.Library.meanings c.args.core.now) r) c.in-Id.is c.requires.held)

pub returns-in-Id-clause-rest : goal.returns-in-Id-clause-rest
returns-in-Id-clause-rest g c =
    delete_rests g.L.Library.meanings g.L.Chunk.Payload.arity c.args.core.now c.delete.new.self c.in-Id.id c.requires.rest c.delete.ensures

pub returns-in-Id-clause-seen : goal.returns-in-Id-clause-seen
returns-in-Id-clause-seen g c =
    delete_seen g.L.Library.meanings g.L.Chunk.Payload.arity c.args.core.now c.delete.new.self c.in-Id.id c.delete.ensures
    ∙ ap (λ (r : Ref). deleted (seen_of g.L.Library.meanings c.args.core.now) r) (sym c.in-Id.is)
