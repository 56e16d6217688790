use Rattle.task_links.specs.Kept.{opened}
use Rattle.std.proofs.Common.{◌≡◌, Some, IsSome, ap, sym, subst}
use Rattle.std.specs.Option.{option_map}
use Rattle.task_states.specs.States.{task_at, caller_of}
use Rattle.task_graph.specs.Contents.{Contents}
use Rattle.task_graph.proofs.Marking.{entry_of}
use Rattle.task_graph.proofs.Runs.{task_there}
use Rattle.task_graph.proofs.tasks.Tasks.caller.Goals as goal

pub look-kept-requires : goal.look-kept-requires
look-kept-requires g c = entry_of c.self.inside.held.parts c.args.task (subst (λ (v : Contents g.row.K.Denot). IsSome (task_at v.graph c.args.task)) (sym c.self.view_is) c.requires)

pub returns : goal.returns
returns g c =
    subst (λ (v : Contents g.row.K.Denot). caller_of v.graph c.args.task ≡ Some (opened c.look-kept.result.now).caller) c.self.view_is
    (ap (option_map (λ u. u.caller)) (task_there c.self.inside.held.parts c.args.task (opened c.look-kept.result.now) c.look-kept.ensures))
