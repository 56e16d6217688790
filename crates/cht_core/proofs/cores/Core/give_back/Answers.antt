use Rattle.std.proofs.Common.{sym, subst}
use Rattle.cht_history.specs.declared.event.Event.TheVariants.{GiveBack}
use Rattle.name_machine.specs.States.{Runs}
use Rattle.core_state.specs.Contents.{Contents}
use Rattle.cht_core.specs.Events.{state, Happens}
use Rattle.cht_core.proofs.Calls.{give_back_made}
use Rattle.cht_core.proofs.FinishAllowed.{runs_task}
use Rattle.cht_core.proofs.ToDo.{same_run}
use Rattle.cht_core.proofs.Together.{hangs_together}
use Rattle.cht_core.proofs.cores.Core.give_back.Goals as goal

pub give_back-requires-clause-runs : goal.give_back-requires-clause-runs
give_back-requires-clause-runs g c κs within = (
  c.requires.runs.0,
  runs_task g.L.Library.meanings g.L.Chunk.Payload.arity c.self.inside.kept.control c.args.w c.requires.runs.0
      (subst (λ (core : Contents g.row.L-Chunk.Denot g.row.L-Kind.Denot). Runs (state g.L.Library.meanings core) c.args.w c.requires.runs.0) (sym c.self.view_is) c.requires.runs.1),
)

pub give_back-requires-clause-together : goal.give_back-requires-clause-together
give_back-requires-clause-together g c κs within = hangs_together g.L.Library.meanings c.self.inside.kept.control c.self.invariant.facts

pub invariant_of-self : goal.invariant_of-self
invariant_of-self g c =
    (give_back_made g.L.Library.meanings g.L.Chunk.Payload.arity g.L.Kind.Kinds.name_of g.L.Kind.Kinds.height_of g.met.L.Library.adds_up
    c.self.inside.kept c.args.self.now c.give_back.new.self c.self.view_is c.self.invariant c.args.w c.give_back.result c.give_back.ensures.task c.give_back.ensures.event).stands

pub returns : goal.returns
returns g c =
    λ task runs.
    subst (λ t. Happens g.L.Library.meanings g.L.Chunk.Payload.arity c.args.self.now c.give_back.new.self (GiveBack c.args.w t))
    (same_run g.L.Library.meanings g.L.Chunk.Payload.arity c.self.inside.kept.control c.self.invariant.facts c.args.w c.give_back.result task c.give_back.ensures.task
    (subst (λ (core : Contents g.row.L-Chunk.Denot g.row.L-Kind.Denot). Runs (state g.L.Library.meanings core) c.args.w task) (sym c.self.view_is) runs))
    (give_back_made g.L.Library.meanings g.L.Chunk.Payload.arity g.L.Kind.Kinds.name_of g.L.Kind.Kinds.height_of g.met.L.Library.adds_up
    c.self.inside.kept c.args.self.now c.give_back.new.self c.self.view_is c.self.invariant c.args.w c.give_back.result c.give_back.ensures.task c.give_back.ensures.event).happens
