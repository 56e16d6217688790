use Rattle.task_links.specs.Kept.{opened}
use Rattle.task_graph.proofs.Keeping.{placed-whole, placed-graph, link_was}
use Rattle.task_graph.proofs.parts.Parts.place_idle.Goals as goal

pub returns-clause-whole : goal.returns-clause-whole
returns-clause-whole g c =
    let b = c.place.ensures.beside in
    placed-whole c.args.self.now c.place.new.self b.0 c.args.task (opened c.args.entry) c.requires.whole c.requires.new c.requires.bare b.1 b.2 c.place.ensures.ordered c.place.ensures.load c.place.ensures.rows

pub returns-clause-graph : goal.returns-clause-graph
returns-clause-graph g c =
    let b = c.place.ensures.beside in
    placed-graph c.args.self.now c.place.new.self b.0 c.args.task (opened c.args.entry) c.requires.whole c.requires.new c.requires.bare b.1 b.2 c.place.ensures.ordered c.place.ensures.load c.place.ensures.rows

pub returns-clause-links : goal.returns-clause-links
returns-clause-links g c = λ p l is.
    let b = c.place.ensures.beside in
    (link_was c.args.self.now c.place.new.self b.0 c.args.task (opened c.args.entry) c.requires.whole c.requires.new c.requires.bare b.1 b.2 c.place.ensures.ordered c.place.ensures.load c.place.ensures.rows p l is).1
