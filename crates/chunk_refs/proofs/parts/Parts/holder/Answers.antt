use Rattle.std.proofs.Common.{sym}
use Rattle.chunk_refs.proofs.Calls.{holder-none, holder-some, holder-other}
use Rattle.chunk_refs.proofs.parts.Parts.holder.Goals as goal

pub returns-in-None : goal.returns-in-None
returns-in-None g c = holder-none c.args.self.now c.args.id (sym c.in-None.ensures.value)

pub returns-then-name-id : goal.returns-then-name-id
returns-then-name-id g c = holder-some c.args.self.now c.args.id c.in-Some.name.now (sym c.in-Some.ensures.value) c.if-name-id.true

pub returns-else-name-id : goal.returns-else-name-id
returns-else-name-id g c = holder-other c.args.self.now c.args.id c.in-Some.name.now (sym c.in-Some.ensures.value) c.if-name-id.false
