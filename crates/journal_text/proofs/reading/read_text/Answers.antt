use Rattle.std.proofs.Common.{sym}
use Rattle.journal_text.proofs.Passed.{answer_none, answer_first}
use Rattle.journal_text.proofs.reading.read_text.Goals as goal

pub returns-in_default : goal.returns-in_default
returns-in_default g c = answer_none g.K.Kinds.name_of g.K.Kinds.height_of c.args.bytes.now (g.met.K.Kinds g.world.𝓛 g.world.𝓜 g.world.𝓡 ((λ s x. x), (λ x. x), (λ x. x), λ x. x)).named c.requires c.in_default.ensures.none

pub returns-then-not-is : goal.returns-then-not-is
returns-then-not-is g c = answer_first g.K.Kinds.name_of g.K.Kinds.height_of c.args.bytes.now c.in-Some.line.now c.in-Some.behind.now (g.met.K.Kinds g.world.𝓛 g.world.𝓜 g.world.𝓡 ((λ s x. x), (λ x. x), (λ x. x), λ x. x)).named c.requires c.in-Some.ensures.lines (sym c.if-not-is.ensures)
