use Rattle.std.proofs.Common.{ap, refl, ◌∙◌}
use Rattle.task_states.specs.States.{Awaits}
use Rattle.task_links.specs.Inside.{entries_at}
use Rattle.task_links.specs.Weave.{Head}
use Rattle.task_graph.proofs.Keeping.{written-whole, written-graph, entry_behind_head}
use Rattle.task_graph.proofs.parts.Parts.join.Goals as goal

pub returns-clause-whole : goal.returns-clause-whole
returns-clause-whole g c =
    let h = c.requires.home in
    let e = entry_behind_head (entries_at c.args.self.now.entries) c.args.spot.task h.0 h.2 in
    written-whole c.args.self.now (record c.args.self.now { entries = c.join.new.self }) c.args.spot (Awaits c.args.task c.args.number) c.requires.whole e.0 e.1 (ap (λ (x : Head). x.runner) e.2 ∙ h.5) refl
    c.join.ensures.woven c.join.ensures.stations c.join.ensures.shown c.join.ensures.counts

pub returns-clause-graph : goal.returns-clause-graph
returns-clause-graph g c =
    let h = c.requires.home in
    let e = entry_behind_head (entries_at c.args.self.now.entries) c.args.spot.task h.0 h.2 in
    written-graph c.args.self.now (record c.args.self.now { entries = c.join.new.self }) c.args.spot (Awaits c.args.task c.args.number) c.requires.whole e.0 e.1 (ap (λ (x : Head). x.runner) e.2 ∙ h.5) refl
    c.join.ensures.woven c.join.ensures.stations c.join.ensures.shown c.join.ensures.counts
