use Rattle.std.proofs.Common.{sym, ◌∙◌}
use Rattle.mm_text.specs.Steps.{sizes_told}
use Rattle.mm_text.proofs.Told.{words_told, beyond_told, above_told, entry_told}
use Rattle.mm_text.proofs.entries.read_entry.Goals as goal

pub returns-in_default : goal.returns-in_default
returns-in_default c = words_told c.args.form (sizes_told c.args.sizes) c.args.number _ c.args.line.now c.in_default.ensures c.code_without_numbers.ensures

pub returns-in_default-entry_inside : goal.returns-in_default-entry_inside
returns-in_default-entry_inside c =
    beyond_told c.args.form (sizes_told c.args.sizes) c.args.number c.args.line.now c.in-Some.numbers c.in-Some.ensures c.in_default-entry_inside.ensures

pub returns-then-is_above : goal.returns-then-is_above
returns-then-is_above c =
    above_told c.args.form (sizes_told c.args.sizes) c.args.number c.args.line.now c.in-Some.numbers c.in-Some-entry_inside.entry
    c.in-Some.ensures c.in-Some-entry_inside.ensures (sym c.is_above.ensures ∙ c.if-is_above.true)

pub returns : goal.returns
returns c =
    entry_told c.args.form (sizes_told c.args.sizes) c.args.number c.args.line.now c.in-Some.numbers c.in-Some-entry_inside.entry
    c.in-Some.ensures c.in-Some-entry_inside.ensures (sym c.is_above.ensures ∙ c.if-is_above.false)
