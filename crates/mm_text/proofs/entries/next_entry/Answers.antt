use Rattle.std.proofs.lemmas.Result.{err_from_is_err_and}
use Rattle.mm_text.specs.Steps.{sizes_told}
use Rattle.mm_text.proofs.Told.{told_number}
use Rattle.mm_text.proofs.Gathering.{next_missing, next_bad, next_good}
use Rattle.mm_text.proofs.entries.next_entry.Goals as goal

pub returns-in_err-line-clause-stop : goal.returns-in_err-line-clause-stop
returns-in_err-line-clause-stop c =
    let p = err_from_is_err_and c.from_residual.result c.from_residual.ensures.1 in
    rw (p.1, p.2) (next_missing c.args.form (sizes_told c.args.sizes) c.args.from.passed c.args.from.rest.now _ c.in_err-line.ensures.none c.in_err-line.ensures.end)

pub returns-in_err-listed-clause-stop : goal.returns-in_err-listed-clause-stop
returns-in_err-listed-clause-stop c =
    let p = err_from_is_err_and c.from_residual-in_err-listed.result c.from_residual-in_err-listed.ensures.1 in
    rw (p.1, p.2) (next_bad c.args.form (sizes_told c.args.sizes) c.args.from.passed c.in_ok-line.behind.passed c.args.from.rest.now c.in_ok-line.line.now c.in_ok-line.behind.rest.now _ c.in_ok-line.ensures.line c.in_err-listed.ensures)

pub returns-clause-next : goal.returns-clause-next
returns-clause-next c =
    next_good c.args.form (sizes_told c.args.sizes) c.args.from.passed c.in_ok-line.behind.passed c.args.from.rest.now c.in_ok-line.line.now c.in_ok-line.behind.rest.now c.in_ok-listed.listed
    c.in_ok-line.ensures.passes c.in_ok-line.ensures.line c.in_ok-listed.ensures

pub returns-clause-line : goal.returns-clause-line
returns-clause-line c = told_number c.args.form (sizes_told c.args.sizes) c.in_ok-line.behind.passed c.in_ok-line.line.now c.in_ok-listed.listed c.in_ok-listed.ensures
