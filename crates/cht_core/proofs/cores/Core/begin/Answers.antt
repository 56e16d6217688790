use Rattle.std.proofs.Common.{◌≡◌, Some, None, refl, sym, ap, ◌∙◌}
use Rattle.std.specs.Option.{option_map}
use Rattle.task_states.specs.declared.states.TaskStatus.TheVariants.{Unknown, Ready}
use Rattle.task_states.specs.States.{task_at, status}
use Rattle.task_graph.specs.Rows.{unfinished_in}
use Rattle.core_state.specs.Contents.{Contents}
use Rattle.cht_core.proofs.StartCalls.{status_now, row_status}
use Rattle.cht_core.proofs.cores.Core.begin.Goals as goal

pub returns-in-None : goal.returns-in-None
returns-in-None g c =
    (row_status c.self.inside.kept.control.graph c.args.task None (ap (option_map unfinished_in) (sym c.in-None.is) ∙ c.row-found.ensures.row) ∙ status_now g.L.Library.meanings c.self.inside.kept c.args.self.now c.self.view_is c.args.task, (λ is. let clash : Unknown ≡ Ready = is in cc), refl)

pub returns-in_default : goal.returns-in_default
returns-in_default g c = (
  c.status.ensures ∙ row_status c.self.inside.kept.control.graph c.args.task (Some (unfinished_in c.in-Some.row)) (ap (option_map unfinished_in) (sym c.in-Some.is) ∙ c.row-found.ensures.row)
      ∙ status_now g.L.Library.meanings c.self.inside.kept c.args.self.now c.self.view_is c.args.task,
  c.in_default.not-Ready,
  refl,
)

pub begin_ready-requires-clause-row : goal.begin_ready-requires-clause-row
begin_ready-requires-clause-row g c κs within =
    sym ((ap (option_map unfinished_in) (sym c.in-Some.is) ∙ c.row-found.ensures.row) ∙ ap (λ (core : Contents g.row.L-Chunk.Denot g.row.L-Kind.Denot). task_at core.control.graph c.args.task) c.self.view_is)

pub begin_ready-requires-clause-ready : goal.begin_ready-requires-clause-ready
begin_ready-requires-clause-ready g c κs within =
    sym (row_status c.self.inside.kept.control.graph c.args.task (Some (unfinished_in c.in-Some.row)) (ap (option_map unfinished_in) (sym c.in-Some.is) ∙ c.row-found.ensures.row)
    ∙ ap (λ (core : Contents g.row.L-Chunk.Denot g.row.L-Kind.Denot). status core.control.graph c.args.task) c.self.view_is)
    ∙ sym c.status.ensures ∙ c.in-Ready.is
