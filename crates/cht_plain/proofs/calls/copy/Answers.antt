use Rattle.std.proofs.Common.{Ok, sym, subst}
use Rattle.cht_ids.specs.declared.refs.Ref.{Ref}
use Rattle.cht_ids.specs.declared.refs.Ref.TheVariants.{Id as Held}
use Rattle.cht_engine.specs.Seen.{MayMention}
use Rattle.cht_engine.specs.Calls.{IsCopied}
use Rattle.cht_plain.specs.Alone.{seen_of}
use Rattle.cht_plain.proofs.Mentions.{holds_so}
use Rattle.cht_plain.proofs.Own.{copy_seen, copy_rests}
use Rattle.cht_plain.proofs.calls.copy.Goals as goal

pub copy-requires-clause-held : goal.copy-requires-clause-held
copy-requires-clause-held g c κs within =
    holds_so g.L.Library.meanings c.args.core.now c.in-Id.id (subst (λ (r : Ref). MayMention (seen_of g.L.Library.meanings c.args.core.now) r) c.in-Id.is c.requires.held)

pub returns-in-Ok-clause-rest : goal.returns-in-Ok-clause-rest
returns-in-Ok-clause-rest g c =
    copy_rests g.L.Library.meanings g.L.Chunk.Payload.arity c.args.core.now c.copy.new.self c.in-Id.id c.in-Ok.new c.requires.rest c.in-Ok.ensures.event

pub returns-in-Ok-clause-seen : goal.returns-in-Ok-clause-seen
returns-in-Ok-clause-seen g c =
    subst (λ (r : Ref). IsCopied (seen_of g.L.Library.meanings c.args.core.now) (seen_of g.L.Library.meanings c.copy.new.self) r (Ok (Held c.in-Ok.new))) (sym c.in-Id.is)
    (copy_seen g.L.Library.meanings g.L.Chunk.Payload.arity c.args.core.now c.copy.new.self c.in-Id.id c.in-Ok.new c.stands.ensures.comes.run
    (subst (λ (r : Ref). MayMention (seen_of g.L.Library.meanings c.args.core.now) r) c.in-Id.is c.requires.held) c.in-Ok.ensures.event c.in-Ok.ensures.id)
