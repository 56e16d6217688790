use Rattle.std.proofs.Common.{refl, ◌*◌, ◌<◌, ◌≤◌, length, arith}
use Rattle.std.proofs.lemmas.Result.{err_from_is_err_and}
use Rattle.tree_entries.specs.Strips.{row_listed}
use Rattle.tree_entries.proofs.CellLists.{pushed_alone}
use Rattle.tree_entries.proofs.Printing.{rows_on, rows_stop, rows_fail, rows_fail_last}
use Rattle.tree_entries.proofs.print.write_rows.Goals as goal

pub returns-in_err-push_row-clause-written : goal.returns-in_err-push_row-clause-written
returns-in_err-push_row-clause-written g c =
    let strips = c.args.strips.now in
    let total = length strips.strips.items * strips.side in
    let le : c.loop-row.row ≤ total = omega (arith, c.rows-row-end.ensures) in
    let p = err_from_is_err_and c.from_residual.result c.from_residual.ensures.1 in
    rw p.1
    (rows_stop (g.K.Sink.took c.args.out.now) (g.K.Sink.took c.loop-row.out) c.args.opening (row_listed strips.side strips.strips.items) c.loop-row.row total
    c.loop-row.text le c.loop-row.invariant.way)

pub returns-in_err-write_cells-clause-written : goal.returns-in_err-write_cells-clause-written
returns-in_err-write_cells-clause-written g c =
    let strips = c.args.strips.now in
    let total = length strips.strips.items * strips.side in
    let f = row_listed strips.side strips.strips.items in
    let lt : c.loop-row.row < total = omega (arith, c.rows-row-end.ensures) in
    let row =
    pushed_alone c.deref.result.now c.push_row.new.cells.items c.clear.new.self.items (f c.loop-row.row) c.deref.ensures.value c.in_ok-push_row.ensures
    c.clear.ensures.items in
    let p = err_from_is_err_and c.from_residual-in_err-write_cells.result c.from_residual-in_err-write_cells.ensures.1 in
    rw p.1
    (rows_fail (g.K.Sink.took c.args.out.now) (g.K.Sink.took c.loop-row.out) (g.K.Sink.took c.write_cells.new.sink) c.args.opening f c.loop-row.row total
    c.deref.result.now c.loop-row.text lt c.loop-row.invariant.way row c.in_err-write_cells.ensures.front)

pub loop-row-preserved : goal.loop-row-preserved
loop-row-preserved g c =
    let strips = c.args.strips.now in
    let f = row_listed strips.side strips.strips.items in
    let row =
    pushed_alone c.deref.result.now c.push_row.new.cells.items c.clear.new.self.items (f c.loop-row.row) c.deref.ensures.value c.in_ok-push_row.ensures
    c.clear.ensures.items in
    record {
      same = refl;
      later = omega (arith, c.loop-row.invariant.later, c.in_ok-write_cells.ensures.later);
      way =
          rows_on (g.K.Sink.took c.args.out.now) (g.K.Sink.took c.loop-row.out) (g.K.Sink.took c.write_cells.new.sink) c.args.opening f c.loop-row.row
          c.deref.result.now c.loop-row.text c.write_cells.new.text c.loop-row.invariant.way row c.in_ok-write_cells.ensures.whole;
    }

pub returns-in_err-flush-clause-written : goal.returns-in_err-flush-clause-written
returns-in_err-flush-clause-written g c =
    let strips = c.args.strips.now in
    let total = length strips.strips.items * strips.side in
    let le : c.loop-row.row ≤ total = omega (arith, c.rows-row-end.ensures) in
    let p = err_from_is_err_and c.from_residual-in_err-flush.result c.from_residual-in_err-flush.ensures.1 in
    rw p.1
    (rows_fail_last (g.K.Sink.took c.args.out.now) (g.K.Sink.took c.loop-row.out) (g.K.Sink.took c.flush.new.sink) c.args.opening
    (row_listed strips.side strips.strips.items) c.loop-row.row total c.loop-row.text le c.loop-row.invariant.way c.in_err-flush.ensures.front)
