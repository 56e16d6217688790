use Rattle.std.proofs.Common.{None, refl}
use Rattle.task_states.proofs.Options.{not_none}
use Rattle.task_graph.proofs.Marking.{entry_of, some_entry}
use Rattle.task_graph.proofs.Runners.{asked-whole, asked-graph}
use Rattle.task_graph.proofs.parts.Parts.unask.Goals as goal

pub set_asked-requires : goal.set_asked-requires
set_asked-requires g c = entry_of c.args.self.now c.args.task c.requires.there

pub returns-clause-whole : goal.returns-clause-whole
returns-clause-whole g c =
    let e = some_entry c.args.self.now c.args.task c.requires.there in
    asked-whole c.args.self.now (record c.args.self.now { entries = c.set_asked.new.self }) c.args.task e.0 None c.requires.whole e.1
    (λ n same. absurd (not_none None n refl same)) refl c.set_asked.ensures.at

pub returns-clause-graph : goal.returns-clause-graph
returns-clause-graph g c =
    let e = some_entry c.args.self.now c.args.task c.requires.there in
    asked-graph c.args.self.now (record c.args.self.now { entries = c.set_asked.new.self }) c.args.task e.0 None c.requires.whole e.1
    (λ n same. absurd (not_none None n refl same)) refl c.set_asked.ensures.at
