use Rattle.std.proofs.Common.{sym, arith}
use Rattle.std.proofs.lemmas.Result.{err_from_is_err_and}
use Rattle.journal_text.specs.Openings.{event_text}
use Rattle.journal_text.proofs.Sending.{loop_more, loop_failed, got_or, none_within}
use Rattle.journal_text.proofs.writing.write_events.Goals as goal

pub returns-in-None-clause-whole : goal.returns-in-None-clause-whole
returns-in-None-clause-whole g c = absurd (none_within c.args.journal.now.events c.loop-i.i (sym c.in-None.ensures) (omega arith))

pub loop-i-preserved : goal.loop-i-preserved
loop-i-preserved g c = record {
  later = omega (arith, c.loop-i.invariant.later, c.in_ok-write_event-in-Some.ensures.later);
  sent = loop_more (event_text g.K.Kinds.name_of g.K.Kinds.height_of) _ _ _ _ _ _ c.args.journal.now.events c.loop-i.i c.in-Some.event.now c.in-Some.event.now (omega arith) (got_or c.args.journal.now.events c.loop-i.i c.in-Some.event.now c.in-Some.ensures) c.loop-i.invariant.sent c.in_ok-write_event-in-Some.ensures.whole;
}

pub returns-in_err-write_event-in-Some-clause-front : goal.returns-in_err-write_event-in-Some-clause-front
returns-in_err-write_event-in-Some-clause-front g c =
    let p = err_from_is_err_and c.from_residual.result c.from_residual.ensures.1 in
    rw p.1 (loop_failed (event_text g.K.Kinds.name_of g.K.Kinds.height_of) _ _ _ _ _ c.args.journal.now.events c.loop-i.i c.in-Some.event.now c.in-Some.event.now (omega arith) (got_or c.args.journal.now.events c.loop-i.i c.in-Some.event.now c.in-Some.ensures) c.loop-i.invariant.sent c.in_err-write_event-in-Some.ensures.front)
