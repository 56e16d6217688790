use Rattle.std.proofs.Common.{arith}
use Rattle.std.proofs.lemmas.List.{take_rest}
use Rattle.std.proofs.lemmas.Result.{err_from_is_err_and}
use Rattle.cht_io.proofs.Adds.{IsCut_more, IsCut_front}
use Rattle.cht_io.proofs.pieces.write_all.Goals as goal

pub returns-in_err-n-clause-front : goal.returns-in_err-n-clause-front
returns-in_err-n-clause-front g c =
    let p = err_from_is_err_and c.from_residual.result c.from_residual.ensures.1 in
    rw (p.1, c.in_err-n.ensures.kept) (IsCut_front _ _ _ _ c.loop-rest.invariant.cut)

pub loop-rest-preserved : goal.loop-rest-preserved
loop-rest-preserved g c = record {
  later = omega (arith, c.loop-rest.invariant.later, c.in_ok-n.ensures.later);
  cut = rw take_rest (IsCut_more _ _ _ _ _ _ c.loop-rest.invariant.cut c.in_ok-n.ensures.added);
}
