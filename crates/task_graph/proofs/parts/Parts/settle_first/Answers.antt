use Rattle.std.proofs.Common.{true, false, Some, sym, ap, inl, inr, ◌∙◌}
use Rattle.task_states.specs.States.{is_stopped}
use Rattle.task_graph.specs.Graphs.{graph_of}
use Rattle.task_graph.proofs.FirstInputs.{runs_own, runs_waiting, runs_stopped, ready_settled, ready_told, waiting_entry}
use Rattle.task_graph.proofs.Runs.{stopped_is}
use Rattle.task_graph.proofs.parts.Parts.settle_first.Goals as goal

pub returns-then-settled-clause-runs : goal.returns-then-settled-clause-runs
returns-then-settled-clause-runs g c =
    runs_waiting (graph_of c.args.self.now) (graph_of c.settle-settled.new.self) c.args.spot c.args.r c.settle-settled.ensures.graph (c.settle-settled.ensures.waits ∙ ap Some c.if-settled.true)

pub returns-then-settled-clause-told : goal.returns-then-settled-clause-told
returns-then-settled-clause-told g c =
    let e = waiting_entry c.args.self.now c.args.spot c.requires.whole c.requires.first in
    sym (ready_told (graph_of c.args.self.now) (graph_of c.settle-settled.new.self) c.args.spot c.args.r c.settle-settled.ensures.graph e.0 e.1 e.2 true (c.settle-settled.ensures.waits ∙ ap Some c.if-settled.true))

pub returns-then-row-clause-runs : goal.returns-then-row-clause-runs
returns-then-row-clause-runs g c =
    runs_stopped (graph_of c.args.self.now) (graph_of c.settle-settled.new.self) c.args.spot c.args.r c.settle-settled.ensures.graph c.settle-settled.result.2 c.settle-settled.ensures.caller
    (ap (λ graph. is_stopped graph c.settle-settled.result.2) (sym c.settle-settled.ensures.graph) ∙ stopped_is c.settle-settled.new.self c.settle-settled.result.2 c.get-row.result c.get-row.ensures ∙ c.if-row.true)

pub returns-then-row-clause-told : goal.returns-then-row-clause-told
returns-then-row-clause-told g c =
    let e = waiting_entry c.args.self.now c.args.spot c.requires.whole c.requires.first in
    sym (ready_told (graph_of c.args.self.now) (graph_of c.settle-settled.new.self) c.args.spot c.args.r c.settle-settled.ensures.graph e.0 e.1 e.2 false (c.settle-settled.ensures.waits ∙ ap Some c.if-settled.false))

pub returns-else-row-clause-runs : goal.returns-else-row-clause-runs
returns-else-row-clause-runs g c =
    λ q runs. elim (runs_own (graph_of c.args.self.now) (graph_of c.settle-settled.new.self) c.args.spot c.args.r c.settle-settled.ensures.graph q runs) [ inl same ↦ inl (ap Some (sym same)) | inr before ↦ inr before ]

pub returns-else-row-clause-told : goal.returns-else-row-clause-told
returns-else-row-clause-told g c =
    let e = waiting_entry c.args.self.now c.args.spot c.requires.whole c.requires.first in
    sym (ready_told (graph_of c.args.self.now) (graph_of c.settle-settled.new.self) c.args.spot c.args.r c.settle-settled.ensures.graph e.0 e.1 e.2 false (c.settle-settled.ensures.waits ∙ ap Some c.if-settled.false))

pub returns-else-row-clause-ready : goal.returns-else-row-clause-ready
returns-else-row-clause-ready g c =
    let e = waiting_entry c.args.self.now c.args.spot c.requires.whole c.requires.first in
    ready_settled (graph_of c.args.self.now) (graph_of c.settle-settled.new.self) c.args.spot c.args.r c.settle-settled.ensures.graph e.0 e.1 e.2 (c.settle-settled.ensures.waits ∙ ap Some c.if-settled.false)
    (ap (is_stopped (graph_of c.args.self.now)) (c.settle-settled.ensures.caller e.0 e.1) ∙ ap (λ graph. is_stopped graph c.settle-settled.result.2) (sym c.settle-settled.ensures.graph)
    ∙ stopped_is c.settle-settled.new.self c.settle-settled.result.2 c.get-row.result c.get-row.ensures ∙ c.if-row.false)
