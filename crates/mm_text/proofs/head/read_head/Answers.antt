use Rattle.std.proofs.lemmas.Result.{err_from_is_err_and}
use Rattle.mm_text.specs.Steps.{sizes_told}
use Rattle.mm_text.proofs.Cursors.{Passes-then}
use Rattle.mm_text.proofs.Heads.{size_line_missing, size_line_bad, head_found}
use Rattle.mm_text.proofs.head.read_head.Goals as goal

pub returns-in_err-line-clause-fault : goal.returns-in_err-line-clause-fault
returns-in_err-line-clause-fault c =
    let p = err_from_is_err_and c.from_residual-in_err-line.result c.from_residual-in_err-line.ensures.1 in
    rw (p.1, p.2)
    (size_line_missing c.args.grid c.args.bytes.now _ _ _ _ c.in_ok-form.form _ c.in-Some.ensures.line c.in-Some.ensures.passes c.in_ok-form.ensures c.in_err-line.ensures.none c.in_err-line.ensures.end)

pub returns-in_err-sizes-clause-fault : goal.returns-in_err-sizes-clause-fault
returns-in_err-sizes-clause-fault c =
    let p = err_from_is_err_and c.from_residual-in_err-sizes.result c.from_residual-in_err-sizes.ensures.1 in
    rw (p.1, p.2)
    (size_line_bad c.args.grid c.args.bytes.now _ c.in-Some.behind_banner.passed _ c.in-Some.banner.now c.in-Some.behind_banner.rest.now _ _ c.in_ok-form.form _ c.in-Some.ensures.line c.in_ok-form.ensures c.in_ok-line.ensures.line c.in_err-sizes.ensures)

pub returns-clause-head : goal.returns-clause-head
returns-clause-head c =
    head_found c.args.grid c.args.bytes.now _ c.in-Some.behind_banner.passed c.in_ok-line.behind.passed c.in-Some.banner.now c.in-Some.behind_banner.rest.now c.in_ok-line.line.now c.in_ok-line.behind.rest.now c.in_ok-form.form (sizes_told c.in_ok-sizes.sizes)
    c.in-Some.ensures.line (Passes-then _ _ _ _ _ _ c.in-Some.ensures.passes c.in_ok-line.ensures.passes) c.in_ok-form.ensures c.in_ok-line.ensures.line c.in_ok-sizes.ensures

pub returns-clause-passes : goal.returns-clause-passes
returns-clause-passes c = Passes-then _ _ _ _ _ _ c.in-Some.ensures.passes c.in_ok-line.ensures.passes
