use Rattle.task_links.specs.Kept.{opened}
use Rattle.std.proofs.Common.{sym, ap, ◌∙◌, arith}
use Rattle.task_links.specs.Inside.{entries_at}
use Rattle.std.specs.Option.{option_map}
use Rattle.task_states.proofs.Options.{not_none, same_some}
use Rattle.task_links.specs.Weave.{link_at, head_at, head_of}
use Rattle.task_links.proofs.Walking.{some_is}
use Rattle.task_graph.proofs.Awaiting.{nobody, only_asked, asked_first, input_first, first_link}
use Rattle.task_graph.proofs.parts.Parts.awaiter_of.Goals as goal

pub link-link-requires : goal.link-link-requires
link-link-requires g c =
    let f = first_link c.args.self.now c.args.task (opened c.args.kept.now) c.requires.whole c.requires.there c.in-Some.spot (sym c.first-first.ensures ∙ c.in-Some.is) in
    some_is (link_at (entries_at c.args.self.now.entries) c.in-Some.spot) f.0 f.1

pub returns-in-None-asked-clause-least : goal.returns-in-None-asked-clause-least
returns-in-None-asked-clause-least g c =
    nobody c.args.self.now c.args.task (opened c.args.kept.now) c.requires.whole c.requires.there (sym c.first-first.ensures ∙ c.in-None.is) (sym c.asked-asked.ensures ∙ c.in-None-asked.is)

pub returns-in-Some-asked-clause-least : goal.returns-in-Some-asked-clause-least
returns-in-Some-asked-clause-least g c =
    only_asked c.args.self.now c.args.task (opened c.args.kept.now) c.requires.whole c.requires.there c.in-Some-asked.number (sym c.first-first.ensures ∙ c.in-None.is) (sym c.asked-asked.ensures ∙ c.in-Some-asked.is)

pub returns-in-None-asked-2-clause-least : goal.returns-in-None-asked-2-clause-least
returns-in-None-asked-2-clause-least g c =
    input_first c.args.self.now c.args.task (opened c.args.kept.now) c.requires.whole c.requires.there c.in-Some.spot c.link-link.result (sym c.first-first.ensures ∙ c.in-Some.is) c.link-link.ensures (λ n is. absurd (not_none (opened c.args.kept.now).asked n (sym c.asked-asked.ensures ∙ c.in-None-asked-2.is) is))

pub returns-then-number-link-clause-least : goal.returns-then-number-link-clause-least
returns-then-number-link-clause-least g c =
    asked_first c.args.self.now c.args.task (opened c.args.kept.now) c.requires.whole c.requires.there c.in-Some-asked-2.number c.in-Some.spot c.link-link.result (sym c.first-first.ensures ∙ c.in-Some.is) c.link-link.ensures (sym c.asked-asked.ensures ∙ c.in-Some-asked-2.is) c.if-number-link.true

pub returns-else-number-link-clause-least : goal.returns-else-number-link-clause-least
returns-else-number-link-clause-least g c =
    input_first c.args.self.now c.args.task (opened c.args.kept.now) c.requires.whole c.requires.there c.in-Some.spot c.link-link.result (sym c.first-first.ensures ∙ c.in-Some.is) c.link-link.ensures (λ n is. let one = same_some c.in-Some-asked-2.number n (sym (sym c.asked-asked.ensures ∙ c.in-Some-asked-2.is) ∙ is) in let low = c.if-number-link.false in omega arith)

pub returns-in-None-asked-2-clause-first : goal.returns-in-None-asked-2-clause-first
returns-in-None-asked-2-clause-first g c =
    let f = first_link c.args.self.now c.args.task (opened c.args.kept.now) c.requires.whole c.requires.there c.in-Some.spot (sym c.first-first.ensures ∙ c.in-Some.is) in
    (f.0, head_of (opened c.args.kept.now), f.1, ap (head_at (entries_at c.args.self.now.entries)) f.2 ∙ ap (option_map head_of) c.requires.there, (sym c.first-first.ensures ∙ c.in-Some.is))

pub returns-else-number-link-clause-first : goal.returns-else-number-link-clause-first
returns-else-number-link-clause-first g c =
    let f = first_link c.args.self.now c.args.task (opened c.args.kept.now) c.requires.whole c.requires.there c.in-Some.spot (sym c.first-first.ensures ∙ c.in-Some.is) in
    (f.0, head_of (opened c.args.kept.now), f.1, ap (head_at (entries_at c.args.self.now.entries)) f.2 ∙ ap (option_map head_of) c.requires.there, (sym c.first-first.ensures ∙ c.in-Some.is))
