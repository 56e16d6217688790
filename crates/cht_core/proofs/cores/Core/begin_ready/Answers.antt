use Rattle.std.proofs.Common.{Ok, refl, sym, ap, subst, ◌∙◌}
use Rattle.task_states.specs.States.{task_at, status}
use Rattle.task_graph.specs.Rows.{unfinished_in}
use Rattle.core_state.specs.Contents.{Contents}
use Rattle.cht_core.proofs.Calls.{start_called, idle_now}
use Rattle.cht_core.proofs.FinishAllowed.{idle_runs_nothing}
use Rattle.cht_core.specs.Granted.{AreLiveInputs}
use Rattle.cht_core.proofs.InputTrees.{inputs_live}
use Rattle.cht_core.proofs.StartCalls.{status_now, begun}
use Rattle.cht_core.proofs.cores.Core.begin_ready.Goals as goal

pub start-requires-clause-idle : goal.start-requires-clause-idle
start-requires-clause-idle g c κs within =
    idle_runs_nothing g.L.Library.meanings g.L.Chunk.Payload.arity c.self.inside.kept.control c.args.w
    (idle_now g.L.Library.meanings g.L.Chunk.Payload.arity g.L.Kind.Kinds.name_of g.L.Kind.Kinds.height_of g.met.L.Library.adds_up
    c.self.inside.kept c.args.self.now c.self.inside.kept c.self.view_is c.self.invariant c.args.w c.requires.idle)

pub invariant_of-self-2 : goal.invariant_of-self-2
invariant_of-self-2 g c =
    let ready = ap (λ (core : Contents g.row.L-Chunk.Denot g.row.L-Kind.Denot). status core.control.graph c.args.task) c.self.view_is ∙ c.requires.ready in
    (start_called g.L.Library.meanings g.L.Chunk.Payload.arity g.L.Kind.Kinds.name_of g.L.Kind.Kinds.height_of g.met.L.Library.adds_up
    c.self.inside.kept c.args.self.now c.start.new.self c.self.view_is c.self.invariant c.start.result c.args.w c.args.task c.requires.idle ready c.start.ensures.event c.start.ensures.unchanged).stands

pub returns : goal.returns
returns g c =
    let ready = ap (λ (core : Contents g.row.L-Chunk.Denot g.row.L-Kind.Denot). status core.control.graph c.args.task) c.self.view_is ∙ c.requires.ready in
    begun g.L.Library.meanings g.L.Chunk.Payload.arity c.self.inside.kept c.args.self.now c.start.new.self c.self.view_is c.self.invariant.facts c.args.w c.args.task (unfinished_in c.args.row.now) c.in-Ok.inputs
    c.requires.row c.requires.ready c.in-Ok.ensures
    (start_called g.L.Library.meanings g.L.Chunk.Payload.arity g.L.Kind.Kinds.name_of g.L.Kind.Kinds.height_of g.met.L.Library.adds_up
    c.self.inside.kept c.args.self.now c.start.new.self c.self.view_is c.self.invariant {E = Unit {0}} (Ok tt) c.args.w c.args.task c.requires.idle ready c.in-Ok-start.ensures.event tt).happens

pub returns-in_default : goal.returns-in_default
returns-in_default g c =
    let ready = ap (λ (core : Contents g.row.L-Chunk.Denot g.row.L-Kind.Denot). status core.control.graph c.args.task) c.self.view_is ∙ c.requires.ready in
    (sym (status_now g.L.Library.meanings c.self.inside.kept c.args.self.now c.self.view_is c.args.task) ∙ ready, refl)

pub returns-in_default-start : goal.returns-in_default-start
returns-in_default-start g c =
    let ready = ap (λ (core : Contents g.row.L-Chunk.Denot g.row.L-Kind.Denot). status core.control.graph c.args.task) c.self.view_is ∙ c.requires.ready in
    (sym (status_now g.L.Library.meanings c.self.inside.kept c.args.self.now c.self.view_is c.args.task) ∙ ready, c.in_default-start.ensures.unchanged ∙ c.self.view_is)

pub views-requires-clause-live : goal.views-requires-clause-live
views-requires-clause-live g c κs within =
    subst (λ (core : Contents g.row.L-Chunk.Denot g.row.L-Kind.Denot). AreLiveInputs core.control.names (unfinished_in c.args.row.now).inputs) c.self.view_is
    (inputs_live g.L.Chunk.Payload.arity c.self.inside.kept.control c.self.invariant.comes.ordered c.args.task (unfinished_in c.args.row.now)
    (ap (λ (core : Contents g.row.L-Chunk.Denot g.row.L-Kind.Denot). task_at core.control.graph c.args.task) c.self.view_is ∙ c.requires.row))
