use Rattle.std.proofs.Common.{◌≡◌, ◌<◌, ◌+◌, Some, ap, subst, ◌∙◌, arith}
use Rattle.task_states.specs.declared.states.TaskStatus.TheVariants.{Ready}
use Rattle.task_links.specs.Callers.{caller_at}
use Rattle.task_links.specs.Inside.{entries_at}
use Rattle.task_graph.proofs.Marking.{entry_of_status, some_of_status, start_revised, start_few}
use Rattle.task_graph.proofs.Runners.{caller_is, run-whole, run-graph}
use Rattle.task_graph.proofs.Runs.{caller_low}
use Rattle.task_graph.proofs.parts.Parts.start.Goals as goal

pub set_runner-caller-requires : goal.set_runner-caller-requires
set_runner-caller-requires g c = entry_of_status c.args.self.now c.args.task Ready c.requires.ready (λ clash. cc)

pub get-row-requires : goal.get-row-requires
get-row-requires g c =
    let e = some_of_status c.args.self.now c.args.task Ready c.requires.ready (λ clash. cc) in
    subst (λ n. n < 64) (caller_is (entries_at c.args.self.now.entries c.args.task) e.0 c.set_runner-caller.result e.1 c.set_runner-caller.ensures.caller) (caller_low c.args.self.now c.requires.whole c.args.task e.0 e.1)

pub overflow_add-row : goal.overflow_add-row
overflow_add-row g c =
    let e = some_of_status c.args.self.now c.args.task Ready c.requires.ready (λ clash. cc) in
    let own = caller_is (entries_at c.args.self.now.entries c.args.task) e.0 c.set_runner-caller.result e.1 c.set_runner-caller.ensures.caller in
    let row : caller_at c.args.self.now.callers e.0.caller ≡ Some c.get-row.result = ap (caller_at c.args.self.now.callers) own ∙ c.get-row.ensures in
    let few = start_few c.args.self.now c.args.task e.0 c.get-row.result c.requires.whole e.1 row c.requires.ready c.len-few.ensures.unique in
    let low = c.requires.few in
    omega arith

pub returns-clause-whole : goal.returns-clause-whole
returns-clause-whole g c =
    let e = some_of_status c.args.self.now c.args.task Ready c.requires.ready (λ clash. cc) in
    let own = caller_is (entries_at c.args.self.now.entries c.args.task) e.0 c.set_runner-caller.result e.1 c.set_runner-caller.ensures.caller in
    let row : caller_at c.args.self.now.callers e.0.caller ≡ Some c.get-row.result = ap (caller_at c.args.self.now.callers) own ∙ c.get-row.ensures in
    run-whole c.args.self.now c.count.new.self c.args.task e.0 (Some c.args.worker) c.set_runner-caller.result (c.get-row.result.running + 1) c.requires.whole e.1 own
    (start_revised c.args.self.now c.args.task e.0 c.get-row.result c.args.worker c.requires.whole e.1 row c.requires.ready)
    (λ q. ap (λ es. entries_at es q) c.count.ensures.entries ∙ c.set_runner-caller.ensures.at q) c.count.ensures.callers c.count.ensures.len

pub returns-clause-graph : goal.returns-clause-graph
returns-clause-graph g c =
    let e = some_of_status c.args.self.now c.args.task Ready c.requires.ready (λ clash. cc) in
    let own = caller_is (entries_at c.args.self.now.entries c.args.task) e.0 c.set_runner-caller.result e.1 c.set_runner-caller.ensures.caller in
    let row : caller_at c.args.self.now.callers e.0.caller ≡ Some c.get-row.result = ap (caller_at c.args.self.now.callers) own ∙ c.get-row.ensures in
    run-graph c.args.self.now c.count.new.self c.args.task e.0 (Some c.args.worker) c.set_runner-caller.result (c.get-row.result.running + 1) c.requires.whole e.1 own
    (start_revised c.args.self.now c.args.task e.0 c.get-row.result c.args.worker c.requires.whole e.1 row c.requires.ready)
    (λ q. ap (λ es. entries_at es q) c.count.ensures.entries ∙ c.set_runner-caller.ensures.at q) c.count.ensures.callers c.count.ensures.len
