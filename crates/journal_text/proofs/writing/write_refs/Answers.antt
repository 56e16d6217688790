use Rattle.std.proofs.Common.{[], ◌∷◌}
use Rattle.std.specs.List.{flat_map}
use Rattle.journal_text.specs.Openings.{ref_part}
use Rattle.std.proofs.lemmas.Result.{err_from_is_err_and, on_ok_weaker, on_err_weaker}
use Rattle.journal_text.proofs.Sending.{sent_then, sent_failed, failed_more}
use Rattle.journal_text.proofs.writing.write_refs.Goals as goal

pub returns-in_err-write_each_ref-clause-front : goal.returns-in_err-write_each_ref-clause-front
returns-in_err-write_each_ref-clause-front g c =
    let p = err_from_is_err_and c.from_residual.result c.from_residual.ensures.1 in
    rw p.1 (failed_more _ _ _ (flat_map ref_part c.args.refs.now) (10 ∷ []) c.in_err-write_each_ref.ensures.front)

pub returns-clause-whole : goal.returns-clause-whole
returns-clause-whole g c = on_ok_weaker c.end_line.result (sent_then _ _ _ _ _ _ _ _ c.in_ok-write_each_ref.ensures.whole) c.end_line.ensures.whole

pub returns-clause-front : goal.returns-clause-front
returns-clause-front g c = on_err_weaker c.end_line.result (sent_failed _ _ _ _ _ _ _ c.in_ok-write_each_ref.ensures.whole) c.end_line.ensures.front
