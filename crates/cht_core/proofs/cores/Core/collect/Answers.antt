use Rattle.std.proofs.Common.{◌≡◌, false, refl, sym, subst}
use Rattle.task_states.specs.States.{is_stopped}
use Rattle.core_state.specs.Contents.{Contents}
use Rattle.cht_core.specs.Events.{state}
use Rattle.cht_core.specs.Answers.{HasAsked, IsNotDelivered}
use Rattle.cht_core.proofs.AskCalls.{asked_there, asked_delivered, not_delivered}
use Rattle.cht_core.proofs.Calls.{collect_made}
use Rattle.cht_core.proofs.cores.Core.collect.Goals as goal

pub delivered-requires-after_bounds : goal.delivered-requires-after_bounds
delivered-requires-after_bounds g c κs within =
    asked_there g.L.Library.meanings c.self.inside.kept.control c.self.invariant.facts c.args.c c.args.task
    (subst (λ (core : Contents g.row.L-Chunk.Denot g.row.L-Kind.Denot). HasAsked (state g.L.Library.meanings core) c.args.c c.args.task) (sym c.self.view_is) c.requires.asked)

pub collect-requires-clause-delivered : goal.collect-requires-clause-delivered
collect-requires-clause-delivered g c κs within =
    asked_delivered g.L.Library.meanings c.self.inside.kept.control c.self.invariant.facts c.args.c c.args.task c.delivered.result c.in-Some.field-0
    (subst (λ (core : Contents g.row.L-Chunk.Denot g.row.L-Kind.Denot). HasAsked (state g.L.Library.meanings core) c.args.c c.args.task) (sym c.self.view_is) c.requires.asked)
    c.delivered.ensures c.in-Some.is

pub invariant_of-self : goal.invariant_of-self
invariant_of-self g c =
    (collect_made g.L.Library.meanings g.L.Chunk.Payload.arity g.L.Kind.Kinds.name_of g.L.Kind.Kinds.height_of g.met.L.Library.adds_up
    c.self.inside.kept c.args.self.now c.collect.new.self c.self.view_is c.self.invariant c.args.c c.args.task c.collect.result (sym c.if-stopped.ensures)
    c.collect.ensures.output c.collect.ensures.event).stands

pub returns-in-None : goal.returns-in-None
returns-in-None g c = (
  subst (λ (core : Contents g.row.L-Chunk.Denot g.row.L-Kind.Denot). IsNotDelivered (state g.L.Library.meanings core) c.args.task) c.self.view_is
      (not_delivered g.L.Library.meanings c.self.inside.kept.control c.self.invariant.facts c.args.task c.delivered.result c.delivered.ensures c.in-None.is),
  subst (λ (core : Contents g.row.L-Chunk.Denot g.row.L-Kind.Denot). is_stopped (state g.L.Library.meanings core).graph c.args.c ≡ false) c.self.view_is (sym c.if-stopped.ensures),
  refl,
)

pub returns-in-Some : goal.returns-in-Some
returns-in-Some g c =
    (collect_made g.L.Library.meanings g.L.Chunk.Payload.arity g.L.Kind.Kinds.name_of g.L.Kind.Kinds.height_of g.met.L.Library.adds_up
    c.self.inside.kept c.args.self.now c.collect.new.self c.self.view_is c.self.invariant c.args.c c.args.task c.collect.result (sym c.if-stopped.ensures)
    c.collect.ensures.output c.collect.ensures.event).happens
