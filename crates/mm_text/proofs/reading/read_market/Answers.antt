use Rattle.std.proofs.Common.{sym, ap, ◌∙◌, refl, None, Err, arith}
use Rattle.std.specs.List.{filter}
use Rattle.std.proofs.lemmas.Result.{err_from_is_err_and}
use Rattle.mm_text.specs.Lines.{lines_of}
use Rattle.mm_text.specs.Cells.{entry_cells}
use Rattle.mm_text.specs.Places.{entries_of, is_number}
use Rattle.mm_text.specs.Steps.{sizes_told}
use Rattle.mm_text.proofs.Cursors.{Passes-then, Passes-count, lines_left}
use Rattle.mm_text.proofs.Placed.{fault_placed}
use Rattle.mm_text.proofs.Verdicts.{Listing, listed_all, repeat_told, before_told, block_told, block_cells}
use Rattle.mm_text.proofs.reading.read_market.Goals as goal

pub sort_by_place-requires : goal.sort_by_place-requires
sort_by_place-requires c =
    let few = Passes-count _ _ _ _ c.in_ok-head.ensures.passes in
    listed_all c.in_ok-head.head.form (sizes_told c.in_ok-head.head.sizes) c.in_ok-head.head.behind.passed c.in_ok-head.head.behind.rest.now c.in_ok-listed.field-0.listed.items c.in_ok-listed.field-0.stop
    c.in_ok-head.ensures.narrow (omega (arith, few)) c.in_ok-listed.ensures.entries

pub returns-in-Some-sort_by_place-clause-fault : goal.returns-in-Some-sort_by_place-clause-fault
returns-in-Some-sort_by_place-clause-fault c =
    repeat_told c.args.grid (lines_of c.args.bytes.now) c.in_ok-head.head.form (sizes_told c.in_ok-head.head.sizes) c.in_ok-head.head.behind.passed c.in_ok-head.head.behind.rest.now
    c.in_ok-listed.field-0.listed.items None c.in-Some-sort_by_place.line c.in_ok-head.ensures.head (rw c.in_default.is at c.in_ok-listed.ensures.entries) (sym c.in-Some-sort_by_place.ensures.repeat)
    ∙ ap (λ f. Err f) (sym c.repeated.ensures)

pub first_fault-requires : goal.first_fault-requires
first_fault-requires c =
    let few = Passes-count _ _ _ _ c.in_ok-head.ensures.passes in
    listed_all c.in_ok-head.head.form (sizes_told c.in_ok-head.head.sizes) c.in_ok-head.head.behind.passed c.in_ok-head.head.behind.rest.now c.in_ok-listed.field-0.listed.items c.in_ok-listed.field-0.stop
    c.in_ok-head.ensures.narrow (omega (arith, few)) c.in_ok-listed.ensures.entries

pub returns-in-Some-clause-fault : goal.returns-in-Some-clause-fault
returns-in-Some-clause-fault c =
    before_told c.args.grid (lines_of c.args.bytes.now) c.in_ok-head.head.form (sizes_told c.in_ok-head.head.sizes) c.in_ok-head.head.behind.passed c.in_ok-head.head.behind.rest.now
    c.in_ok-listed.field-0.listed.items c.in-Some.fault _ c.in_ok-head.ensures.head (rw c.in-Some.is at c.in_ok-listed.ensures.entries) refl
    ∙ ap Err (sym c.in_ok-first.ensures.fault)

pub returns-clause-found : goal.returns-clause-found
returns-clause-found c =
    let text = c.args.bytes.now in
    let head = c.in_ok-head.head in
    let sizes = sizes_told head.sizes in
    let n = head.behind.passed in
    let rest = head.behind.rest.now in
    let listed = c.in_ok-listed.field-0.listed.items in
    let end = c.in_ok-listed.field-0.end in
    let sorted = c.sort_by_place.new.listed.items in
    let few = Passes-count _ _ _ _ c.in_ok-head.ensures.passes in
    let gathered = rw c.in_default.is at c.in_ok-listed.ensures.entries in
    let passes = Passes-then 0 n end.passed text rest end.rest.now c.in_ok-head.ensures.passes c.in_ok-listed.ensures.passes in
    record {
      block = Listing head.form sizes n listed;
      found = block_told c.args.grid (lines_of text) head.form sizes n rest listed c.in_ok-head.ensures.head gathered (sym c.in_default-sort_by_place.ensures.repeat);
      market = record {
        form = refl;
        rows = refl;
        columns = refl;
        entries = ap entry_cells (c.from_vec.ensures ∙ c.in_ok-entries.ensures.entries ∙ ap (λ xs. filter is_number (entries_of xs)) c.deref.ensures.value)
            ∙ block_cells head.form sizes n rest listed sorted c.in_ok-head.ensures.narrow (omega (arith, few)) gathered c.sort_by_place.ensures.same (c.in_default-sort_by_place.ensures.rising refl);
      };
      lines = c.in_ok-listed.ensures.last;
      within = omega arith;
      behind = lines_left end.passed text end.rest.now passes;
    }

pub returns-in_err-head-clause-line : goal.returns-in_err-head-clause-line
returns-in_err-head-clause-line c =
    let p = err_from_is_err_and c.from_residual.result c.from_residual.ensures.1 in
    rw (p.1, p.2) (fault_placed c.args.grid (lines_of c.args.bytes.now) _ c.in_err-head.ensures.fault)

pub returns-in-Some-sort_by_place-clause-line : goal.returns-in-Some-sort_by_place-clause-line
returns-in-Some-sort_by_place-clause-line c = fault_placed c.args.grid (lines_of c.args.bytes.now) _ (returns-in-Some-sort_by_place-clause-fault c)

pub returns-in-Some-clause-line : goal.returns-in-Some-clause-line
returns-in-Some-clause-line c = fault_placed c.args.grid (lines_of c.args.bytes.now) _ (returns-in-Some-clause-fault c)
