use Rattle.std.proofs.Common.{sym, ◌∙◌, arith}
use Rattle.task_states.specs.declared.states.Awaiter.TheVariants.{Input as AtInput, Asked}
use Rattle.task_states.proofs.Options.{same_some}
use Rattle.task_links.specs.Inside.{entries_at}
use Rattle.task_links.specs.Kept.{opened}
use Rattle.task_links.specs.Weave.{link_at}
use Rattle.task_links.proofs.Walking.{some_is}
use Rattle.task_graph.proofs.Awaiting.{asked_first, input_first, first_link}
use Rattle.task_graph.proofs.FirstInputs.{no_spot, spot_is, spot_alone, first_is}
use Rattle.task_graph.proofs.parts.Parts.next_input.Goals as goal

pub link-link-requires : goal.link-link-requires
link-link-requires g c =
    let f = first_link c.args.self.now c.args.task (opened c.args.kept.now) c.requires.whole c.requires.there c.in-Some.spot (sym c.in-Some.ensures) in
    some_is (link_at (entries_at c.args.self.now.entries) c.in-Some.spot) f.0 f.1

pub returns-in-None-clause-input : goal.returns-in-None-clause-input
returns-in-None-clause-input g c = no_spot c.args.self.now c.args.task (opened c.args.kept.now) c.requires.whole c.requires.there (sym c.in-None.ensures)

pub returns-in-None-asked-clause-input : goal.returns-in-None-asked-clause-input
returns-in-None-asked-clause-input g c =
    spot_alone c.args.self.now c.args.task (opened c.args.kept.now) c.requires.whole c.requires.there c.in-Some.spot (sym c.in-Some.ensures) (sym c.in-None-asked.ensures)

pub returns-then-number-link-clause-input : goal.returns-then-number-link-clause-input
returns-then-number-link-clause-input g c =
    λ awaiter least. spot_is c.args.self.now c.args.task (opened c.args.kept.now) c.requires.whole c.requires.there (Asked (opened c.args.kept.now).caller c.in-Some-asked.number) awaiter
    (asked_first c.args.self.now c.args.task (opened c.args.kept.now) c.requires.whole c.requires.there c.in-Some-asked.number c.in-Some.spot c.link-link.result (sym c.in-Some.ensures) c.link-link.ensures (sym c.in-Some-asked.ensures) c.if-number-link.true) least

pub returns-else-number-link-clause-input : goal.returns-else-number-link-clause-input
returns-else-number-link-clause-input g c =
    λ awaiter least. spot_is c.args.self.now c.args.task (opened c.args.kept.now) c.requires.whole c.requires.there (AtInput c.in-Some.spot.task c.in-Some.spot.place c.link-link.result.number) awaiter
    (input_first c.args.self.now c.args.task (opened c.args.kept.now) c.requires.whole c.requires.there c.in-Some.spot c.link-link.result (sym c.in-Some.ensures) c.link-link.ensures (λ n is. let one = same_some c.in-Some-asked.number n (c.in-Some-asked.ensures ∙ is) in let low = c.if-number-link.false in omega arith)) least

pub returns-in-None-asked-clause-first : goal.returns-in-None-asked-clause-first
returns-in-None-asked-clause-first g c =
    λ spot same. first_is c.args.self.now c.args.task (opened c.args.kept.now) c.requires.whole c.requires.there c.in-Some.spot spot (sym c.in-Some.ensures) same

pub returns-else-number-link-clause-first : goal.returns-else-number-link-clause-first
returns-else-number-link-clause-first g c =
    λ spot same. first_is c.args.self.now c.args.task (opened c.args.kept.now) c.requires.whole c.requires.there c.in-Some.spot spot (sym c.in-Some.ensures) same
