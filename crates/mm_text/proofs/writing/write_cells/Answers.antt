use Rattle.std.proofs.Common.{arith}
use Rattle.std.proofs.lemmas.Result.{err_from_is_err_and}
use Rattle.mm_text.proofs.Passing.{IsCut_begin, IsCut_more, IsCut_failed, all_on_the_way}
use Rattle.mm_text.proofs.writing.write_cells.Goals as goal

pub returns-in_err-make_room-clause-front : goal.returns-in_err-make_room-clause-front
returns-in_err-make_room-clause-front g c =
    let p = err_from_is_err_and c.from_residual.result c.from_residual.ensures.1 in
    rw p.1 (IsCut_failed _ _ _ _ _ c.loop-cell.cell-index _ c.loop-cell.invariant.cut c.in_err-make_room.ensures.front)

pub loop-cell-preserved : goal.loop-cell-preserved
loop-cell-preserved g c =
    let passed = c.in_ok-make_room.ensures.whole in
    record {
      later = omega (arith, c.loop-cell.invariant.later, c.in_ok-make_room.ensures.later);
      cut = IsCut_more _ _ _ _ _ _ _ _ passed.0 _ _ (omega arith) c.loop-cell.invariant.cut passed.1 passed.2 c.push_cell.ensures;
    }
