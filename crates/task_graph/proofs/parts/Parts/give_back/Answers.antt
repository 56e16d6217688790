use Rattle.std.proofs.Common.{◌≡◌, ◌<◌, ◌-◌, Some, None, ap, subst, ◌∙◌}
use Rattle.task_states.specs.declared.states.TaskStatus.TheVariants.{Running}
use Rattle.task_links.specs.Callers.{caller_at}
use Rattle.task_links.specs.Inside.{entries_at}
use Rattle.task_graph.proofs.Marking.{entry_of_status, some_of_status, back_revised, back_some}
use Rattle.task_graph.proofs.Runners.{caller_is, run-whole, run-graph}
use Rattle.task_graph.proofs.Runs.{caller_low}
use Rattle.task_graph.proofs.parts.Parts.give_back.Goals as goal

pub set_runner-caller-requires : goal.set_runner-caller-requires
set_runner-caller-requires g c = entry_of_status c.args.self.now c.args.task Running c.requires.running (λ clash. cc)

pub get-row-requires : goal.get-row-requires
get-row-requires g c =
    let e = some_of_status c.args.self.now c.args.task Running c.requires.running (λ clash. cc) in
    subst (λ n. n < 64) (caller_is (entries_at c.args.self.now.entries c.args.task) e.0 c.set_runner-caller.result e.1 c.set_runner-caller.ensures.caller) (caller_low c.args.self.now c.requires.whole c.args.task e.0 e.1)

pub overflow_sub-row : goal.overflow_sub-row
overflow_sub-row g c =
    let e = some_of_status c.args.self.now c.args.task Running c.requires.running (λ clash. cc) in
    let own = caller_is (entries_at c.args.self.now.entries c.args.task) e.0 c.set_runner-caller.result e.1 c.set_runner-caller.ensures.caller in
    let row : caller_at c.args.self.now.callers e.0.caller ≡ Some c.get-row.result = ap (caller_at c.args.self.now.callers) own ∙ c.get-row.ensures in
    back_some c.args.self.now c.args.task e.0 c.get-row.result c.requires.whole e.1 row c.requires.running

pub returns-clause-whole : goal.returns-clause-whole
returns-clause-whole g c =
    let e = some_of_status c.args.self.now c.args.task Running c.requires.running (λ clash. cc) in
    let own = caller_is (entries_at c.args.self.now.entries c.args.task) e.0 c.set_runner-caller.result e.1 c.set_runner-caller.ensures.caller in
    let row : caller_at c.args.self.now.callers e.0.caller ≡ Some c.get-row.result = ap (caller_at c.args.self.now.callers) own ∙ c.get-row.ensures in
    run-whole c.args.self.now c.count.new.self c.args.task e.0 None c.set_runner-caller.result (c.get-row.result.running - 1) c.requires.whole e.1 own
    (back_revised c.args.self.now c.args.task e.0 c.get-row.result c.requires.whole e.1 row c.requires.running (back_some c.args.self.now c.args.task e.0 c.get-row.result c.requires.whole e.1 row c.requires.running))
    (λ q. ap (λ es. entries_at es q) c.count.ensures.entries ∙ c.set_runner-caller.ensures.at q) c.count.ensures.callers c.count.ensures.len

pub returns-clause-graph : goal.returns-clause-graph
returns-clause-graph g c =
    let e = some_of_status c.args.self.now c.args.task Running c.requires.running (λ clash. cc) in
    let own = caller_is (entries_at c.args.self.now.entries c.args.task) e.0 c.set_runner-caller.result e.1 c.set_runner-caller.ensures.caller in
    let row : caller_at c.args.self.now.callers e.0.caller ≡ Some c.get-row.result = ap (caller_at c.args.self.now.callers) own ∙ c.get-row.ensures in
    run-graph c.args.self.now c.count.new.self c.args.task e.0 None c.set_runner-caller.result (c.get-row.result.running - 1) c.requires.whole e.1 own
    (back_revised c.args.self.now c.args.task e.0 c.get-row.result c.requires.whole e.1 row c.requires.running (back_some c.args.self.now c.args.task e.0 c.get-row.result c.requires.whole e.1 row c.requires.running))
    (λ q. ap (λ es. entries_at es q) c.count.ensures.entries ∙ c.set_runner-caller.ensures.at q) c.count.ensures.callers c.count.ensures.len
