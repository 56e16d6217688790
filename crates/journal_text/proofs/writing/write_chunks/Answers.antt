use Rattle.std.proofs.Common.{refl, arith}
use Rattle.std.proofs.lemmas.Result.{err_from_is_err_and}
use Rattle.journal_text.specs.Openings.{chunk_line}
use Rattle.journal_text.proofs.Sending.{loop_more, loop_failed}
use Rattle.journal_text.proofs.writing.write_chunks.Goals as goal

pub loop-places-preserved : goal.loop-places-preserved
loop-places-preserved g c = record {
  later = omega (arith, c.loop-places.invariant.later, c.in_ok-write_chunk.ensures.later);
  sent = loop_more chunk_line _ _ _ _ _ _ _ _ _ _ (omega arith) refl c.loop-places.invariant.sent c.in_ok-write_chunk.ensures.whole;
}

pub returns-in_err-write_chunk-clause-front : goal.returns-in_err-write_chunk-clause-front
returns-in_err-write_chunk-clause-front g c =
    let p = err_from_is_err_and c.from_residual.result c.from_residual.ensures.1 in
    rw p.1 (loop_failed chunk_line _ _ _ _ _ _ _ _ _ (omega arith) refl c.loop-places.invariant.sent c.in_err-write_chunk.ensures.front)
