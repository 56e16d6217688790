use Rattle.std.proofs.Common.{true, false, refl, ◌∙◌}
use Rattle.std.specs.List.{list_any}
use Rattle.task_states.specs.States.{is_awaiting, is_stopped}
use Rattle.task_graph.specs.Contents.{input_of}
use Rattle.task_graph.specs.Graphs.{graph_of}
use Rattle.task_graph.proofs.RowReading.{may_run_is}
use Rattle.task_graph.proofs.Runs.{stopped_is}
use Rattle.task_graph.proofs.parts.Parts.may_run.Goals as goal

pub returns-then-row : goal.returns-then-row
returns-then-row g c =
    may_run_is true (is_stopped (graph_of c.args.self.now) c.args.caller) (list_any (λ slot. is_awaiting (input_of slot)) c.args.inputs.now) c.args.inputs.now
    (stopped_is c.args.self.now c.args.caller c.get-row.result c.get-row.ensures ∙ c.if-row.true) refl

pub returns-else-row : goal.returns-else-row
returns-else-row g c =
    may_run_is false (is_stopped (graph_of c.args.self.now) c.args.caller) c.any_awaits.result c.args.inputs.now
    (stopped_is c.args.self.now c.args.caller c.get-row.result c.get-row.ensures ∙ c.if-row.false) c.any_awaits.ensures
