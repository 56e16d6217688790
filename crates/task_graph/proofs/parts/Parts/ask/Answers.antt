use Rattle.std.proofs.Common.{Some, subst, refl}
use Rattle.task_states.proofs.Options.{same_some}
use Rattle.task_links.specs.Inside.{entries_at}
use Rattle.task_links.specs.Weave.{IsUnused, link_at}
use Rattle.task_graph.proofs.Marking.{entry_of, some_entry}
use Rattle.task_graph.proofs.Runners.{asked-whole, asked-graph}
use Rattle.task_graph.proofs.parts.Parts.ask.Goals as goal

pub set_asked-requires : goal.set_asked-requires
set_asked-requires g c = entry_of c.args.self.now c.args.task c.requires.there

pub returns-clause-whole : goal.returns-clause-whole
returns-clause-whole g c =
    let e = some_entry c.args.self.now c.args.task c.requires.there in
    asked-whole c.args.self.now (record c.args.self.now { entries = c.set_asked.new.self }) c.args.task e.0 (Some c.args.number) c.requires.whole e.1
    (λ n same. subst (λ m. IsUnused (link_at (entries_at c.args.self.now.entries)) m) (same_some c.args.number n same) c.requires.free) refl c.set_asked.ensures.at

pub returns-clause-graph : goal.returns-clause-graph
returns-clause-graph g c =
    let e = some_entry c.args.self.now c.args.task c.requires.there in
    asked-graph c.args.self.now (record c.args.self.now { entries = c.set_asked.new.self }) c.args.task e.0 (Some c.args.number) c.requires.whole e.1
    (λ n same. subst (λ m. IsUnused (link_at (entries_at c.args.self.now.entries)) m) (same_some c.args.number n same) c.requires.free) refl c.set_asked.ensures.at
