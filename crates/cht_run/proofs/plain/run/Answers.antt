use Rattle.std.proofs.Common.{refl, inl}
use Rattle.cht_run.proofs.Statuses.{judged_input, read_failed, read_memory}
use Rattle.cht_run.proofs.Journals.{none_ends_empty, journaled_input}
use Rattle.cht_run.proofs.plain.run.Goals as goal

pub returns-in-Err-Failed-clause-told : goal.returns-in-Err-Failed-clause-told
returns-in-Err-Failed-clause-told g c = λ input told.
    (read_failed input (g.S.Source.left c.read_all.new.source) c.in-Err-Failed.field-0 c.in-Err-Failed.field-0-is (c.in-Err-Failed.ensures.told input told), refl)

pub returns-in-Err-Memory-clause-told : goal.returns-in-Err-Memory-clause-told
returns-in-Err-Memory-clause-told g c = λ input told.
    inl (read_memory input (g.S.Source.left c.read_all.new.source) c.in-Err-Memory.field-0 c.in-Err-Memory.field-0-is (c.in-Err-Memory.ensures.told input told), refl)

pub returns-in-Ok-clause-told : goal.returns-in-Ok-clause-told
returns-in-Ok-clause-told g c = λ input told.
    judged_input c.judge.result input c.in-Ok.text.items (g.S.Source.left c.read_all.new.source) (g.K.Sink.took c.args.out.now) (g.K.Sink.took c.judge.new.out)
    (c.in-Ok.ensures.told input told) c.judge.ensures.judged

pub returns-in-Ok-clause-journaled : goal.returns-in-Ok-clause-journaled
returns-in-Ok-clause-journaled g c = λ input told.
    journaled_input c.judge.result input c.in-Ok.text.items (g.S.Source.left c.read_all.new.source) (g.K.Sink.took c.args.out.now) (g.K.Sink.took c.judge.new.out)
    c.judge.new.journal (c.in-Ok.ensures.told input told) c.judge.ensures.judged
    c.judge.ensures.journaled

pub returns-in-Err-Failed-clause-ends_empty : goal.returns-in-Err-Failed-clause-ends_empty
returns-in-Err-Failed-clause-ends_empty g c = none_ends_empty c.args.journal.now c.requires.empty

pub returns-in-Err-Memory-clause-ends_empty : goal.returns-in-Err-Memory-clause-ends_empty
returns-in-Err-Memory-clause-ends_empty g c = none_ends_empty c.args.journal.now c.requires.empty
