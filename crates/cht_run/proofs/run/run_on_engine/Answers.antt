use Rattle.std.proofs.Common.{sym, ap, subst, ◌∙◌}
use Rattle.std.specs.Prelude.{map}
use Rattle.cht_engine.specs.Seen.{Seen, unseen}
use Rattle.quad_matrix.specs.declared.chunk.MatChunk.{MatChunk}
use Rattle.quad_matrix.specs.declared.kind.MatKind.{MatKind}
use Rattle.quad_matrix.specs.Matrices.{matrices}
use Rattle.cht_plain.specs.Alone.{seen_of}
use Rattle.cht_script.specs.Checking.{deed_in}
use Rattle.cht_session.specs.Running.{HasRun}
use Rattle.cht_run.specs.Judged.{Judges}
use Rattle.cht_run.specs.Journals.{Journals}
use Rattle.cht_run.proofs.Statuses.{few_levels, judged_run, judged_silent}
use Rattle.cht_run.proofs.Journals.{none_ends_empty, run_journaled}
use Rattle.cht_run.proofs.run.run_on_engine.Goals as goal

pub run_script-ended-requires-clause-height : goal.run_script-ended-requires-clause-height
run_script-ended-requires-clause-height g c =
    let is = c.requires.checked.1 in
    few_levels c.args.checked.now.grid c.args.checked.now.leaf c.args.checked.now.height is.within.2 is.within.1 is.levels

pub returns-in-Err-clause-ends_empty : goal.returns-in-Err-clause-ends_empty
returns-in-Err-clause-ends_empty g c = none_ends_empty c.args.journal.now c.requires.empty

pub returns-clause-journaled : goal.returns-clause-journaled
returns-clause-journaled g c = λ text is.
    let end = c.run_script-ended.result in
    let checked = c.args.checked.now in
    let after : Seen MatChunk MatKind = seen_of matrices c.run_script-ended.new.engine in
    let run : HasRun end checked.leaf checked.height (map deed_in checked.steps) (unseen 0) after =
    subst (λ (before : Seen MatChunk MatKind). HasRun end checked.leaf checked.height (map deed_in checked.steps) before after) c.in-Ok.ensures
    c.run_script-ended.ensures.program in
    subst (λ status. Journals status text c.close.result) (sym c.status_of.ensures)
    (run_journaled end text checked (g.K.Sink.took c.args.out.now) (g.K.Sink.took c.run_script-ended.new.out) after c.close.result is
    c.run_script-ended.ensures.ran run (c.run_script-ended.ensures.caller ∙ ap (λ (s : Seen MatChunk MatKind). s.caller) c.in-Ok.ensures) c.close.ensures)

pub returns-clause-judged : goal.returns-clause-judged
returns-clause-judged g c = λ text is.
    subst (λ status. Judges status text (g.K.Sink.took c.args.out.now) (g.K.Sink.took c.run_script-ended.new.out)) (sym c.status_of.ensures)
    (judged_run c.run_script-ended.result text c.args.checked.now (g.K.Sink.took c.args.out.now) (g.K.Sink.took c.run_script-ended.new.out) is c.run_script-ended.ensures.ran)

pub returns-clause-silent : goal.returns-clause-silent
returns-clause-silent g c =
    judged_silent c.status_of.result c.requires.checked.0 (g.K.Sink.took c.args.out.now) (g.K.Sink.took c.run_script-ended.new.out)
    (returns-clause-judged g c c.requires.checked.0 c.requires.checked.1)
