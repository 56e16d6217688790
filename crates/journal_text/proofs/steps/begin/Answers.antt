use Rattle.std.proofs.Common.{sym, ◌∙◌, arith}
use Rattle.cht_ids.specs.Lines.{pieces_of}
use Rattle.journal_text.proofs.GoesOn.{none_next}
use Rattle.journal_text.proofs.Advance.{step_whole, step_part, part_open, step_ended, step_miscounted}
use Rattle.journal_text.proofs.steps.begin.Goals as goal

pub returns-in-None : goal.returns-in-None
returns-in-None g c = none_next g.K.Kinds.name_of g.K.Kinds.height_of c.args.journal.now.events (pieces_of c.args.line.now) (omega (arith, c.len-count.type_inv)) (λ head within e. absurd (cc (c.in-None.ensures.every head within e)))

pub settle-requires-clause-part : goal.settle-requires-clause-part
settle-requires-clause-part g c = λ κs inside. part_open g.K.Kinds.name_of g.K.Kinds.height_of c.in-Some.head c.in-Part.part (sym c.in_ok-event-in-Some.ensures ∙ c.in-Part.is) c.in-Some.ensures.read.1

pub returns-in-Whole : goal.returns-in-Whole
returns-in-Whole g c =
    step_whole g.K.Kinds.name_of g.K.Kinds.height_of c.args.journal.now.events (pieces_of c.args.line.now) c.in-Some.head c.in-Whole.event c.add.result c.add.new.journal.events c.add.ensures (sym c.in_ok-event-in-Some.ensures ∙ c.in-Whole.is) c.in-Some.ensures.read.0 c.in-Some.ensures.read.1 c.in-Some.ensures.every (omega (arith, c.len-count.type_inv)) c.requires

pub returns-in-Part : goal.returns-in-Part
returns-in-Part g c =
    step_part g.K.Kinds.name_of g.K.Kinds.height_of c.args.journal.now.events (pieces_of c.args.line.now) c.in-Some.head c.in-Part.part c.settle.result c.settle.new.journal.events c.settle.ensures (sym c.in_ok-event-in-Some.ensures ∙ c.in-Part.is) c.in-Some.ensures.read.0 c.in-Some.ensures.every (omega (arith, c.len-count.type_inv))

pub returns-then-told-count : goal.returns-then-told-count
returns-then-told-count g c =
    step_ended g.K.Kinds.name_of g.K.Kinds.height_of c.args.journal.now.events (pieces_of c.args.line.now) c.in-Some.head c.in-Last.told (sym c.in_ok-event-in-Some.ensures ∙ c.in-Last.is) c.in-Some.ensures.read.0 c.in-Some.ensures.every (omega (arith, c.len-count.type_inv)) (c.if-told-count.true ∙ c.len-count.ensures)

pub returns-else-told-count : goal.returns-else-told-count
returns-else-told-count g c =
    step_miscounted g.K.Kinds.name_of g.K.Kinds.height_of c.args.journal.now.events (pieces_of c.args.line.now) c.in-Some.head c.in-Last.told (sym c.in_ok-event-in-Some.ensures ∙ c.in-Last.is) c.in-Some.ensures.every (omega (arith, c.len-count.type_inv)) (λ e. c.if-told-count.false (e ∙ sym c.len-count.ensures))
