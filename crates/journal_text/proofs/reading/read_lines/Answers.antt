use Rattle.std.proofs.Common.{◌+◌, None, List, sym, subst}
use Rattle.cht_history.specs.declared.event.Event.{Event}
use Rattle.journal_text.proofs.Passed.{IsRead, read_start, read_more, answer_wrong, answer_short, answer_last, answer_more, some_of, short_empty, short_more}
use Rattle.journal_text.proofs.reading.read_lines.Goals as goal

pub loop-line-init : goal.loop-line-init
loop-line-init g c =
    let P : List (Event g.row.K.Denot) → Type 0 = λ events. IsRead g.K.Kinds.name_of g.K.Kinds.height_of c.args.bytes.now 1 c.args.behind.now events None in
    subst P (sym c.new-journal.ensures.events) (read_start g.K.Kinds.name_of g.K.Kinds.height_of c.args.bytes.now c.args.behind.now c.requires.front)

pub returns-in-Err-Wrong : goal.returns-in-Err-Wrong
returns-in-Err-Wrong g c =
    answer_wrong g.K.Kinds.name_of g.K.Kinds.height_of c.args.bytes.now c.loop-line.passed c.loop-line.left.now c.loop-line.journal.events c.loop-line.part c.in-Some.line.now c.in-Some.rest.now (g.met.K.Kinds g.world.𝓛 g.world.𝓜 g.world.𝓡 ((λ s x. x), (λ x. x), (λ x. x), λ x. x)).named c.requires.room c.loop-line.invariant c.in-Some.ensures.lines (rw c.in-Err-Wrong.field-0-is at c.in-Err-Wrong.ensures)

pub returns-then-is_empty : goal.returns-then-is_empty
returns-then-is_empty g c =
    answer_last g.K.Kinds.name_of g.K.Kinds.height_of c.args.bytes.now c.loop-line.passed c.loop-line.left.now c.loop-line.journal.events c.loop-line.part c.in-Some.line.now c.in-Some.rest.now c.take_line.new.journal.events 0 (g.met.K.Kinds g.world.𝓛 g.world.𝓜 g.world.𝓡 ((λ s x. x), (λ x. x), (λ x. x), λ x. x)).named c.requires.room c.loop-line.invariant c.in-Some.ensures.lines c.in-Some.ensures.whole
    (rw c.in-Err-Ended.field-0-is at c.in-Err-Ended.ensures) c.if-is_empty.ensures

pub returns-in-Err-Ended : goal.returns-in-Err-Ended
returns-in-Err-Ended g c =
    let step = rw c.in-Err-Ended.field-0-is at c.in-Err-Ended.ensures in
    answer_more g.K.Kinds.name_of g.K.Kinds.height_of c.args.bytes.now c.loop-line.passed c.loop-line.left.now c.loop-line.journal.events c.loop-line.part c.in-Some.line.now c.in-Some.rest.now (g.met.K.Kinds g.world.𝓛 g.world.𝓜 g.world.𝓡 ((λ s x. x), (λ x. x), (λ x. x), λ x. x)).named c.requires.room c.loop-line.invariant c.in-Some.ensures.lines c.in-Some.ensures.whole step.0 step.2 step.3 (some_of c.in-Some.rest.now c.if-is_empty.ensures)

pub loop-line-preserved : goal.loop-line-preserved
loop-line-preserved g c =
    let step = c.in-Ok.ensures in
    read_more g.K.Kinds.name_of g.K.Kinds.height_of c.args.bytes.now c.loop-line.passed c.loop-line.left.now c.loop-line.journal.events c.loop-line.part c.in-Some.line.now c.in-Some.rest.now c.take_line.new.journal.events c.in-Ok.next c.loop-line.invariant c.in-Some.ensures.lines c.in-Some.ensures.whole step.0 step.1 step.2 step.3

pub returns-then-is_empty-2 : goal.returns-then-is_empty-2
returns-then-is_empty-2 g c =
    answer_short g.K.Kinds.name_of g.K.Kinds.height_of c.args.bytes.now c.loop-line.passed c.loop-line.left.now c.loop-line.journal.events c.loop-line.part c.loop-line.passed (g.met.K.Kinds g.world.𝓛 g.world.𝓜 g.world.𝓡 ((λ s x. x), (λ x. x), (λ x. x), λ x. x)).named c.requires.room c.loop-line.invariant c.in_default.ensures.none (short_empty c.loop-line.passed c.loop-line.left.now c.if-is_empty-2.ensures)

pub returns : goal.returns
returns g c =
    answer_short g.K.Kinds.name_of g.K.Kinds.height_of c.args.bytes.now c.loop-line.passed c.loop-line.left.now c.loop-line.journal.events c.loop-line.part (c.loop-line.passed + 1) (g.met.K.Kinds g.world.𝓛 g.world.𝓜 g.world.𝓡 ((λ s x. x), (λ x. x), (λ x. x), λ x. x)).named c.requires.room c.loop-line.invariant c.in_default.ensures.none (short_more c.loop-line.passed c.loop-line.left.now c.if-is_empty-2.ensures c.in_default.ensures.none)
