use Rattle.cht_run.proofs.Statuses.{complete_answer}
use Rattle.cht_run.proofs.plain.plain_call.Goals as goal

pub returns-clause-complete : goal.returns-clause-complete
returns-clause-complete g c = λ input told source_well out_well.
    complete_answer c.run-status.result input (g.S.Source.left c.run-status.new.source) (g.K.Sink.took c.args.out.now) (g.K.Sink.took c.run-status.new.out)
    c.run-status.ensures.no_usage (c.run-status.ensures.told input told) c.run-status.ensures.read_fault c.run-status.ensures.write_fault source_well out_well
