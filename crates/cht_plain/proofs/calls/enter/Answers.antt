use Rattle.std.proofs.Common.{subst}
use Rattle.cht_plain.proofs.Absent.{none_stopped}
use Rattle.cht_plain.proofs.Asked.{asked_waits, asked_seen}
use Rattle.cht_plain.proofs.Mentions.{mention_all_so, trees_so}
use Rattle.cht_plain.proofs.calls.enter.Goals as goal

pub ask-requires-clause-goes_on : goal.ask-requires-clause-goes_on
ask-requires-clause-goes_on g c κs within = none_stopped g.L.Library.meanings c.args.core.now c.requires.rest c.stands.ensures.facts 0

pub ask-requires-clause-held : goal.ask-requires-clause-held
ask-requires-clause-held g c κs within = mention_all_so g.L.Library.meanings c.args.core.now c.args.inputs.now c.requires.held

pub ask-requires-clause-defined : goal.ask-requires-clause-defined
ask-requires-clause-defined g c κs within =
    subst (g.L.Library.meanings.defined c.args.kind) (trees_so g.L.Library.meanings c.args.core.now c.args.inputs.now c.requires.held) c.requires.defined

pub returns-clause-waiting : goal.returns-clause-waiting
returns-clause-waiting g c =
    asked_waits g.L.Library.meanings g.L.Chunk.Payload.arity c.args.core.now c.ask.new.self c.requires.rest c.args.kind c.args.inputs.now c.ask.result c.stands.ensures.facts
    c.ask.ensures.event

pub returns-clause-seen : goal.returns-clause-seen
returns-clause-seen g c =
    asked_seen g.L.Library.meanings g.L.Chunk.Payload.arity c.args.core.now c.ask.new.self c.requires.rest c.args.kind c.args.inputs.now c.ask.result c.requires.held
    c.ask.ensures.event
