use Rattle.std.proofs.Common.{◌≡◌, true, IfSome, IfNone, subst}
use Rattle.name_machine.specs.States.{Runs, IsIdle}
use Rattle.name_machine.specs.Forgetting.{forgotten}
use Rattle.name_machine.specs.Replay.{runs_nothing}
use Rattle.core_steps.specs.Conditions.{RunsTask}
use Rattle.core_state.specs.Contents.{Contents}
use Rattle.cht_core.specs.Events.{state}
use Rattle.cht_core.proofs.FinishAllowed.{task_runs}
use Rattle.cht_core.proofs.ToDo.{some_to, none_to, idle_from}
use Rattle.cht_core.proofs.cores.Core.runs.Goals as goal

pub returns-clause-task : goal.returns-clause-task
returns-clause-task g c =
    subst (λ (core : Contents g.row.L-Chunk.Denot g.row.L-Kind.Denot). IfSome c.runs.result (Runs (state g.L.Library.meanings core) c.args.w)) c.self.view_is
    (some_to (RunsTask c.self.inside.kept.control c.args.w) (Runs (state g.L.Library.meanings c.self.inside.kept) c.args.w) c.runs.result
    (λ task is. task_runs g.L.Library.meanings g.L.Chunk.Payload.arity c.self.inside.kept.control c.args.w task is) c.runs.ensures.task)

pub returns-clause-none : goal.returns-clause-none
returns-clause-none g c =
    subst (λ (core : Contents g.row.L-Chunk.Denot g.row.L-Kind.Denot). IfNone c.runs.result (IsIdle (state g.L.Library.meanings core) c.args.w)) c.self.view_is
    (none_to (runs_nothing (forgotten g.L.Chunk.Payload.arity c.self.inside.kept.control) c.args.w ≡ true) (IsIdle (state g.L.Library.meanings c.self.inside.kept) c.args.w) c.runs.result
    (idle_from g.L.Library.meanings g.L.Chunk.Payload.arity c.self.inside.kept.control c.args.w) c.runs.ensures.none)
