use Rattle.task_links.specs.Kept.{opened}
use Rattle.std.proofs.Common.{Some, None, ap, sym, ◌∙◌}
use Rattle.task_states.specs.States.{caller_of, asked_of}
use Rattle.task_states.specs.Steps.{inputs_redirected, with_asked, without_asked, asked_moved}
use Rattle.task_links.specs.Inside.{entries_at}
use Rattle.std.specs.Option.{option_map}
use Rattle.task_links.specs.Weave.{Head, head_of}
use Rattle.task_states.proofs.Options.{same_some}
use Rattle.task_graph.specs.Graphs.{graph_of}
use Rattle.task_links.proofs.Walking.{some_is}
use Rattle.task_graph.proofs.Moves.{entry_of_caller, either_order, there_of_caller, caller_redirected, asked_redirected, asked_there, caller_asked, unused_asked}
use Rattle.task_graph.proofs.parts.Parts.forward.Goals as goal

pub look-kept-requires : goal.look-kept-requires
look-kept-requires g c =
    let callers = c.requires.callers in
    let e = entry_of_caller c.args.self.now c.args.task callers.0 callers.1 in
    some_is (entries_at c.args.self.now.entries c.args.task) e.0 e.1

pub ask-requires-clause-there : goal.ask-requires-clause-there
ask-requires-clause-there g c =
    let callers = c.requires.callers in
    there_of_caller (graph_of c.move_all.new.self) c.args.to callers.0 (ap (λ graph. caller_of graph c.args.to) c.move_all.ensures.graph ∙ caller_redirected (graph_of c.args.self.now) c.args.task c.args.to c.args.to ∙ callers.2)

pub ask-requires-clause-free : goal.ask-requires-clause-free
ask-requires-clause-free g c =
    unused_asked c.move_all.new.self c.args.task c.in-Some.number c.move_all.ensures.whole
    (ap (λ graph. asked_of graph c.args.task) c.move_all.ensures.graph ∙ asked_redirected (graph_of c.args.self.now) c.args.task c.args.to c.args.task c.in-Some.number (asked_there c.args.self.now c.args.task (opened c.look-kept.result.now) c.look-kept.ensures ∙ sym c.asked-asked.ensures ∙ c.in-Some.is))

pub unask-requires-clause-there : goal.unask-requires-clause-there
unask-requires-clause-there g c =
    let callers = c.requires.callers in
    there_of_caller (graph_of c.ask.new.self) c.args.task callers.0
    (ap (λ graph. caller_of graph c.args.task) c.ask.ensures.graph ∙ caller_asked (graph_of c.move_all.new.self) c.args.to c.in-Some.number c.args.task
    ∙ ap (λ graph. caller_of graph c.args.task) c.move_all.ensures.graph ∙ caller_redirected (graph_of c.args.self.now) c.args.task c.args.to c.args.task ∙ callers.1)

pub returns-in-Some-clause-graph : goal.returns-in-Some-clause-graph
returns-in-Some-clause-graph g c =
    c.unask.ensures.graph
    ∙ ap (λ graph. without_asked graph c.args.task) (c.ask.ensures.graph ∙ ap (λ graph. with_asked graph c.args.to c.in-Some.number) c.move_all.ensures.graph)
    ∙ either_order (inputs_redirected (graph_of c.args.self.now) c.args.task c.args.to) c.args.to c.args.task (λ u. record u { asked = Some c.in-Some.number }) (λ u. record u { asked = None }) (λ same. c.requires.apart (sym same))
    ∙ sym (ap (asked_moved (inputs_redirected (graph_of c.args.self.now) c.args.task c.args.to) c.args.task c.args.to) (asked_there c.args.self.now c.args.task (opened c.look-kept.result.now) c.look-kept.ensures ∙ sym c.asked-asked.ensures ∙ c.in-Some.is))

pub returns-in_default-clause-graph : goal.returns-in_default-clause-graph
returns-in_default-clause-graph g c =
    c.move_all.ensures.graph
    ∙ sym (ap (asked_moved (inputs_redirected (graph_of c.args.self.now) c.args.task c.args.to) c.args.task c.args.to) (asked_there c.args.self.now c.args.task (opened c.look-kept.result.now) c.look-kept.ensures ∙ sym c.asked-asked.ensures ∙ c.in_default.is))

pub move_all-requires-clause-first : goal.move_all-requires-clause-first
move_all-requires-clause-first g c = λ head is.
    c.first-first.ensures ∙ ap (λ (h : Head). h.first) (same_some (head_of (opened c.look-kept.result.now)) head (sym (ap (option_map head_of) c.look-kept.ensures) ∙ is))
