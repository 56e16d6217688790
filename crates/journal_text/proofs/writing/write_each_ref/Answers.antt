use Rattle.std.proofs.Common.{refl, arith}
use Rattle.std.proofs.lemmas.Result.{err_from_is_err_and}
use Rattle.journal_text.specs.Openings.{ref_part}
use Rattle.journal_text.proofs.Sending.{loop_more, loop_failed}
use Rattle.journal_text.proofs.writing.write_each_ref.Goals as goal

pub loop-r-preserved : goal.loop-r-preserved
loop-r-preserved g c = record {
  later = omega (arith, c.loop-r.invariant.later, c.in_ok-write_ref.ensures.later);
  sent = loop_more ref_part _ _ _ _ _ _ _ _ _ _ (omega arith) refl c.loop-r.invariant.sent c.in_ok-write_ref.ensures.whole;
}

pub returns-in_err-write_ref-clause-front : goal.returns-in_err-write_ref-clause-front
returns-in_err-write_ref-clause-front g c =
    let p = err_from_is_err_and c.from_residual.result c.from_residual.ensures.1 in
    rw p.1 (loop_failed ref_part _ _ _ _ _ _ _ _ _ (omega arith) refl c.loop-r.invariant.sent c.in_err-write_ref.ensures.front)
