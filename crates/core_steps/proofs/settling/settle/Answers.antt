use Rattle.std.proofs.Common.{◌∙◌, refl, subst, arith}
use Rattle.task_states.specs.Awaiters.{IsAwaiterFound}
use Rattle.task_states.specs.Steps.{delivered}
use Rattle.core_steps.proofs.Delivering.{one_less, listed_ready, settling_step, names_settled, graph_settled, asked_settled}
use Rattle.core_steps.proofs.settling.settle.Goals as goal

pub copy_for-copy-requires-clause-room : goal.copy_for-copy-requires-clause-room
copy_for-copy-requires-clause-room g c κs within =
    let one = one_less c.loop-awaiter.graph.graph (delivered c.loop-awaiter.graph.graph c.args.task c.in-Some.awaiter c.args.r) c.args.task c.in-Some.awaiter c.args.r c.in-Some.ensures.awaits refl in
    let enough = c.loop-awaiter.invariant.enough in
    omega arith

pub list_if_ready-requires : goal.list_if_ready-requires
list_if_ready-requires g c =
    let one = one_less c.loop-awaiter.graph.graph (delivered c.loop-awaiter.graph.graph c.args.task c.in-Some.awaiter c.args.r) c.args.task c.in-Some.awaiter c.args.r c.in-Some.ensures.awaits refl in
    let fits = c.loop-awaiter.invariant.fits in
    omega arith

pub loop-awaiter-smaller : goal.loop-awaiter-smaller
loop-awaiter-smaller g c =
    let one =
    one_less c.loop-awaiter.graph.graph c.deliver_to-is_ready.new.self.graph c.args.task c.in-Some.awaiter c.copy_for-copy.result c.in-Some.ensures.awaits
    c.deliver_to-is_ready.ensures.graph in
    omega arith

pub loop-awaiter-preserved : goal.loop-awaiter-preserved
loop-awaiter-preserved g c =
    let delivers = c.deliver_to-is_ready.ensures.graph in
    let one = one_less c.loop-awaiter.graph.graph c.deliver_to-is_ready.new.self.graph c.args.task c.in-Some.awaiter c.copy_for-copy.result c.in-Some.ensures.awaits delivers in
    record {
      settling = settling_step c.args.names.now.names c.args.graph.now.graph c.args.ready.now.items c.args.task c.args.r
          c.loop-awaiter.names.names c.copy_for-copy.new.names.names c.loop-awaiter.graph.graph c.deliver_to-is_ready.new.self.graph
          c.loop-awaiter.ready.items c.list_if_ready.new.ready.items c.loop-awaiter.asked c.asked_or-asked.result c.in-Some.awaiter c.copy_for-copy.result
          c.loop-awaiter.invariant.settling c.in-Some.ensures.awaits c.copy_for-copy.ensures.result c.copy_for-copy.ensures.names delivers
          (c.list_if_ready.ensures.ready ∙ listed_ready c.deliver_to-is_ready.new.self.graph c.in-Some.awaiter c.loop-awaiter.ready.items c.deliver_to-is_ready.result c.deliver_to-is_ready.ensures.ready) c.asked_or-asked.ensures;
      enough = let was = c.loop-awaiter.invariant.enough in let room = c.copy_for-copy.ensures.room in omega arith;
      fits = let was = c.loop-awaiter.invariant.fits in let len = c.list_if_ready.ensures.len in let same = c.list_if_ready.ensures.capacity in omega arith;
      room = let was = c.loop-awaiter.invariant.room in let room = c.copy_for-copy.ensures.room in omega arith;
      stores = c.copy_for-copy.ensures.stores ∙ c.loop-awaiter.invariant.stores;
      spare = c.deliver_to-is_ready.ensures.spare ∙ c.loop-awaiter.invariant.spare;
      len = let was = c.loop-awaiter.invariant.len in let len = c.list_if_ready.ensures.len in omega arith;
      capacity = c.list_if_ready.ensures.capacity ∙ c.loop-awaiter.invariant.capacity;
    }

pub returns-clause-names : goal.returns-clause-names
returns-clause-names g c =
    names_settled c.args.names.now.names c.args.graph.now.graph c.args.ready.now.items c.args.task c.args.r c.loop-awaiter.names.names c.loop-awaiter.graph.graph c.loop-awaiter.ready.items c.loop-awaiter.asked
    c.loop-awaiter.invariant.settling (subst (IsAwaiterFound c.loop-awaiter.graph.graph c.args.task) c.in_default.is c.awaiter.ensures)

pub returns-clause-graph : goal.returns-clause-graph
returns-clause-graph g c =
    graph_settled c.args.names.now.names c.args.graph.now.graph c.args.ready.now.items c.args.task c.args.r c.loop-awaiter.names.names c.loop-awaiter.graph.graph c.loop-awaiter.ready.items c.loop-awaiter.asked
    c.loop-awaiter.invariant.settling (subst (IsAwaiterFound c.loop-awaiter.graph.graph c.args.task) c.in_default.is c.awaiter.ensures)

pub returns-clause-asked : goal.returns-clause-asked
returns-clause-asked g c =
    asked_settled c.args.names.now.names c.args.graph.now.graph c.args.ready.now.items c.args.task c.args.r c.loop-awaiter.names.names c.loop-awaiter.graph.graph c.loop-awaiter.ready.items c.loop-awaiter.asked
    c.loop-awaiter.invariant.settling (subst (IsAwaiterFound c.loop-awaiter.graph.graph c.args.task) c.in_default.is c.awaiter.ensures)
