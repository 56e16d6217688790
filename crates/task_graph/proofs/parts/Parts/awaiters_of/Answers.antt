use Rattle.task_links.specs.Kept.{opened}
use Rattle.std.proofs.Common.{arith, subst, sym, ◌∙◌}
use Rattle.task_graph.specs.Counted.{IsCounted}
use Rattle.task_graph.proofs.Tallies.{count_start, count_unasked, count_asked}
use Rattle.task_graph.proofs.parts.Parts.awaiters_of.Goals as goal

pub inputs_awaiting-requires-clause-first : goal.inputs_awaiting-requires-clause-first
inputs_awaiting-requires-clause-first g c =
    subst (λ o. IsCounted c.args.self.now c.args.task o 0) (sym c.first-first.ensures) (count_start c.args.self.now c.args.task c.requires.whole (opened c.args.kept.now) c.requires.there)

pub returns-in-None-asked-clause-some : goal.returns-in-None-asked-clause-some
returns-in-None-asked-clause-some g c =
    count_unasked c.args.self.now c.args.task c.requires.whole (opened c.args.kept.now) c.requires.there c.in-Some.inputs c.in-Some.ensures.some (sym c.asked-asked.ensures ∙ c.in-None-asked.is)

pub returns-then-inputs-clause-none : goal.returns-then-inputs-clause-none
returns-then-inputs-clause-none g c =
    let counted = count_asked c.args.self.now c.args.task c.requires.whole (opened c.args.kept.now) c.requires.there c.in-Some.inputs c.in-Some.ensures.some c.in-Some-asked.field-0 (sym c.asked-asked.ensures ∙ c.in-Some-asked.is) in
    let full = c.if-inputs.true in
    omega arith

pub returns-else-inputs-clause-some : goal.returns-else-inputs-clause-some
returns-else-inputs-clause-some g c =
    count_asked c.args.self.now c.args.task c.requires.whole (opened c.args.kept.now) c.requires.there c.in-Some.inputs c.in-Some.ensures.some c.in-Some-asked.field-0 (sym c.asked-asked.ensures ∙ c.in-Some-asked.is)
