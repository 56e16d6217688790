use Rattle.std.proofs.Common.{refl, arith}
use Rattle.task_graph.proofs.Reordering.{reordered_graph, reordered_held}
use Rattle.task_graph.proofs.held.Held.reserve.Goals as goal

pub returns-in_err-reserve-clause-graph : goal.returns-in_err-reserve-clause-graph
returns-in_err-reserve-clause-graph g c = reordered_graph c.args.self.now.parts c.reserve.new.self c.reserve.ensures.at c.reserve.ensures.callers

pub returns-in_err-reserve-2-clause-graph : goal.returns-in_err-reserve-2-clause-graph
returns-in_err-reserve-2-clause-graph g c = reordered_graph c.args.self.now.parts c.reserve.new.self c.reserve.ensures.at c.reserve.ensures.callers

pub returns-clause-graph : goal.returns-clause-graph
returns-clause-graph g c = reordered_graph c.args.self.now.parts c.reserve.new.self c.reserve.ensures.at c.reserve.ensures.callers

pub returns-in_err-reserve-clause-held : goal.returns-in_err-reserve-clause-held
returns-in_err-reserve-clause-held g c =
    let room = c.requires.room.entries in
    let numbers = c.requires.room.numbers in
    let few = c.requires.room.few in
    let more = c.reserve.ensures.room in
    let live = c.len-live.ensures.len in
    reordered_held c.args.self.now (record { parts = c.reserve.new.self; ready = c.args.self.now.ready; spare = c.args.self.now.spare }) c.requires c.reserve.ensures.at c.reserve.ensures.callers c.reserve.ensures.len (λ q. refl) (λ is. is) (omega arith) numbers few

pub returns-in_err-reserve-2-clause-held : goal.returns-in_err-reserve-2-clause-held
returns-in_err-reserve-2-clause-held g c =
    let room = c.requires.room.entries in
    let numbers = c.requires.room.numbers in
    let few = c.requires.room.few in
    let more = c.reserve.ensures.room in
    let live = c.len-live.ensures.len in
    let capacity = c.reserve-2.ensures.capacity in
    reordered_held c.args.self.now (record { parts = c.reserve.new.self; ready = c.reserve-2.new.self; spare = c.args.self.now.spare }) c.requires c.reserve.ensures.at c.reserve.ensures.callers c.reserve.ensures.len c.reserve-2.ensures.same c.reserve-2.ensures.queue (omega arith) (omega arith) few

pub returns-clause-held : goal.returns-clause-held
returns-clause-held g c =
    let room = c.requires.room.entries in
    let numbers = c.requires.room.numbers in
    let few = c.requires.room.few in
    let more = c.reserve.ensures.room in
    let live = c.len-live.ensures.len in
    let one = c.in_ok-reserve.ensures.ok in
    let two = c.in_ok-reserve-2.ensures.ok in
    let low = c.if-live.false in
    let small = c.if-tasks.false in
    reordered_held c.args.self.now (record { parts = c.reserve.new.self; ready = c.reserve-2.new.self; spare = c.args.tasks }) c.requires c.reserve.ensures.at c.reserve.ensures.callers c.reserve.ensures.len c.reserve-2.ensures.same c.reserve-2.ensures.queue (omega arith) (omega arith) (omega arith)
