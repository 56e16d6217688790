use Rattle.task_links.specs.Kept.{opened}
use Rattle.std.proofs.Common.{◌≡◌, IsSome, sym, subst, ◌∙◌}
use Rattle.std.specs.Option.{option_map}
use Rattle.task_states.specs.States.{task_at, input_at}
use Rattle.task_graph.specs.Contents.{Contents, input_of}
use Rattle.task_graph.proofs.Marking.{entry_of}
use Rattle.task_graph.proofs.Readings.{input_there}
use Rattle.task_graph.proofs.tasks.Tasks.input.Goals as goal

pub look-kept-requires : goal.look-kept-requires
look-kept-requires g c = entry_of c.self.inside.held.parts c.args.task (subst (λ (v : Contents g.row.K.Denot). IsSome (task_at v.graph c.args.task)) (sym c.self.view_is) c.requires)

pub input-requires : goal.input-requires
input-requires g c = c.self.invariant.whole.short c.args.task (opened c.look-kept.result.now) c.look-kept.ensures

pub returns-clause-input : goal.returns-clause-input
returns-clause-input g c =
    subst (λ (v : Contents g.row.K.Denot). option_map input_of c.input.result ≡ input_at v.graph c.args.task c.args.place) c.self.view_is
    (c.input.ensures.input ∙ input_there c.self.inside.held.parts c.args.task (opened c.look-kept.result.now) c.args.place c.look-kept.ensures)
