use Rattle.cht_run.proofs.Pieces.{reading_begins, stopped}
use Rattle.cht_run.proofs.reading.read_all.Goals as goal

pub returns-in-Ok-clause-told : goal.returns-in-Ok-clause-told
returns-in-Ok-clause-told g c = λ input told.
    c.in-Ok.ensures.told input (reading_begins input c.new-text.result.items (g.S.Source.left c.args.source.now) c.new-text.ensures.items told)

pub returns-in-Err-clause-told : goal.returns-in-Err-clause-told
returns-in-Err-clause-told g c = λ input told.
    stopped input c.read_to_end.new.text.items (g.S.Source.left c.read_to_end.new.source) c.in-Err.stop
    (c.in-Err.ensures.told input (reading_begins input c.new-text.result.items (g.S.Source.left c.args.source.now) c.new-text.ensures.items told))
