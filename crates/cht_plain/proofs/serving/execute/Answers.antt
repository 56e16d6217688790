use Rattle.std.proofs.Common.{refl}
use Rattle.cht_plain.proofs.Ended.{runs_now, given_back_waits, given_back_seen, done_waits, done_seen, done_less, sound_so}
use Rattle.cht_plain.proofs.serving.execute.Goals as goal

pub finish-requires-clause-sound : goal.finish-requires-clause-sound
finish-requires-clause-sound g c κs within =
    let x = c.requires in
    let runs = runs_now g.L.Library.meanings g.L.Chunk.Payload.arity c.args.core.now c.args.core.now c.args.core.now refl c.args.started x in
    (runs.0, x.unfinished, runs.1, x.busy.there, sound_so g.L.Library.meanings g.L.Chunk.Payload.arity c.args.core.now c.args.started x c.in-Ok.outcome c.in-Ok.ensures)

pub give_back-requires-clause-runs : goal.give_back-requires-clause-runs
give_back-requires-clause-runs g c κs within =
    runs_now g.L.Library.meanings g.L.Chunk.Payload.arity c.args.core.now c.finish.new.self c.finish.new.self c.in-Err-finish.ensures.unchanged c.args.started c.requires

pub give_back-requires-in-Err-clause-runs : goal.give_back-requires-in-Err-clause-runs
give_back-requires-in-Err-clause-runs g c κs within =
    runs_now g.L.Library.meanings g.L.Chunk.Payload.arity c.args.core.now c.args.core.now c.args.core.now refl c.args.started c.requires

pub returns-in-Ok-finish-clause-waiting : goal.returns-in-Ok-finish-clause-waiting
returns-in-Ok-finish-clause-waiting g c =
    done_waits g.L.Library.meanings g.L.Chunk.Payload.arity c.args.core.now c.finish.new.self c.args.started c.requires c.stands.ensures.comes.run c.stands.ensures.facts
    c.in-Ok.outcome c.in-Ok-finish.ensures.event

pub returns-in-Ok-finish-clause-seen : goal.returns-in-Ok-finish-clause-seen
returns-in-Ok-finish-clause-seen g c =
    done_seen g.L.Library.meanings g.L.Chunk.Payload.arity c.args.core.now c.finish.new.self c.args.started c.requires c.stands.ensures.comes.run c.stands.ensures.facts
    c.in-Ok.outcome c.in-Ok-finish.ensures.event

pub returns-in-Ok-finish-clause-less : goal.returns-in-Ok-finish-clause-less
returns-in-Ok-finish-clause-less g c =
    done_less g.L.Library.meanings g.L.Chunk.Payload.arity c.args.core.now c.finish.new.self c.args.started c.requires c.stands.ensures.comes.run c.stands.ensures.facts
    c.in-Ok.outcome c.in-Ok-finish.ensures.event

pub returns-in-Err-finish-clause-waiting : goal.returns-in-Err-finish-clause-waiting
returns-in-Err-finish-clause-waiting g c =
    given_back_waits g.L.Library.meanings g.L.Chunk.Payload.arity c.args.core.now c.finish.new.self c.give_back.new.self c.in-Err-finish.ensures.unchanged c.args.started c.requires
    c.give_back.ensures

pub returns-in-Err-finish-clause-seen : goal.returns-in-Err-finish-clause-seen
returns-in-Err-finish-clause-seen g c =
    given_back_seen g.L.Library.meanings g.L.Chunk.Payload.arity c.args.core.now c.finish.new.self c.give_back.new.self c.in-Err-finish.ensures.unchanged c.args.started c.requires
    c.give_back.ensures

pub returns-in-Err-clause-waiting : goal.returns-in-Err-clause-waiting
returns-in-Err-clause-waiting g c =
    given_back_waits g.L.Library.meanings g.L.Chunk.Payload.arity c.args.core.now c.args.core.now c.give_back-in-Err.new.self refl c.args.started c.requires c.give_back-in-Err.ensures

pub returns-in-Err-clause-seen : goal.returns-in-Err-clause-seen
returns-in-Err-clause-seen g c =
    given_back_seen g.L.Library.meanings g.L.Chunk.Payload.arity c.args.core.now c.args.core.now c.give_back-in-Err.new.self refl c.args.started c.requires c.give_back-in-Err.ensures
