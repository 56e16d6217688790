use Rattle.std.proofs.Common.{ap, refl, ◌∙◌}
use Rattle.task_states.specs.States.{Known}
use Rattle.task_links.specs.Inside.{entries_at}
use Rattle.task_links.specs.Weave.{Head}
use Rattle.task_graph.proofs.FirstInputs.{waits_is, caller_is, low_caller}
use Rattle.task_graph.proofs.Keeping.{written-whole, written-graph, entry_behind_head}
use Rattle.task_graph.proofs.parts.Parts.settle.Goals as goal

pub returns-clause-whole : goal.returns-clause-whole
returns-clause-whole g c =
    let f = c.requires.first in
    let h = c.requires.whole.woven.home c.args.spot f.0 f.2 in
    let e = entry_behind_head (entries_at c.args.self.now.entries) c.args.spot.task h.0 h.2 in
    written-whole c.args.self.now (record c.args.self.now { entries = c.settle.new.self }) c.args.spot (Known c.args.r) c.requires.whole e.0 e.1 (ap (λ (x : Head). x.runner) e.2 ∙ h.5) refl
    c.settle.ensures.woven c.settle.ensures.stations c.settle.ensures.shown c.settle.ensures.counts

pub returns-clause-graph : goal.returns-clause-graph
returns-clause-graph g c =
    let f = c.requires.first in
    let h = c.requires.whole.woven.home c.args.spot f.0 f.2 in
    let e = entry_behind_head (entries_at c.args.self.now.entries) c.args.spot.task h.0 h.2 in
    written-graph c.args.self.now (record c.args.self.now { entries = c.settle.new.self }) c.args.spot (Known c.args.r) c.requires.whole e.0 e.1 (ap (λ (x : Head). x.runner) e.2 ∙ h.5) refl
    c.settle.ensures.woven c.settle.ensures.stations c.settle.ensures.shown c.settle.ensures.counts

pub returns-clause-caller : goal.returns-clause-caller
returns-clause-caller g c = λ unfinished there. caller_is c.args.self.now c.args.spot.task c.settle.result.2 unfinished c.settle.ensures.caller there

pub returns-clause-low : goal.returns-clause-low
returns-clause-low g c = low_caller c.args.self.now c.requires.whole c.args.spot.task c.settle.result.2 c.settle.ensures.caller

pub returns-clause-waits : goal.returns-clause-waits
returns-clause-waits g c = waits_is (record c.args.self.now { entries = c.settle.new.self }) c.args.spot.task c.settle.result.1 c.settle.ensures.waits
