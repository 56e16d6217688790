use Rattle.std.proofs.Common.{arith, rules, sym, subst}
use Rattle.std.proofs.lemmas.List.{drop_all}
use Rattle.task_types.specs.Formed.{MayStand}
use Rattle.core_steps.proofs.Holding.{live_kept}
use Rattle.core_steps.proofs.Adding.{IsAdded, next_item, item_at, added_none, added_more, added_all}
use Rattle.core_steps.proofs.tasks.add_tasks.Goals as goal

pub loop-task-init : goal.loop-task-init
loop-task-init g c = (
  subst (IsAdded c.args.inputs.now c.args.made.now c.args.caller c.args.tasks.now c.args.names.now.names c.args.counter.now c.args.graph.now.graph 0 c.args.names.now.names c.args.counter.now c.args.graph.now.graph)
      (sym c.requires.empty)
      (added_none c.args.inputs.now c.args.made.now c.args.caller c.args.tasks.now c.args.names.now.names c.args.counter.now c.args.graph.now.graph c.requires.within c.requires.unfinished),
  search rules,
)

pub add_task-requires-clause-inputs : goal.add_task-requires-clause-inputs
add_task-requires-clause-inputs g c κs within = live_kept c.args.names.now.names c.loop-task.names.names c.args.inputs.now c.loop-task.invariant.0.kept c.requires.inputs

pub add_task-requires-clause-made : goal.add_task-requires-clause-made
add_task-requires-clause-made g c κs within = live_kept c.args.names.now.names c.loop-task.names.names c.args.made.now c.loop-task.invariant.0.kept c.requires.made

pub add_task-requires-clause-formed : goal.add_task-requires-clause-formed
add_task-requires-clause-formed g c κs within =
    let known = c.requires.formed.0 in
    let chunks = c.requires.formed.1 in
    let i = c.loop-task.task-index in
    let task = c.task-item.result in (
      known,
      chunks,
      subst (λ n. MayStand known chunks n task.inputs) (sym c.loop-task.invariant.0.long)
          (c.requires.formed.2 i task (item_at c.args.tasks.now i task c.loop-task-test.true c.task-item.is)),
    )

pub loop-task-preserved : goal.loop-task-preserved
loop-task-preserved g c =
    let known = c.requires.formed.0 in
    let chunks = c.requires.formed.1 in
    let i = c.loop-task.task-index in
    let task = c.task-item.result in
    let may = c.requires.formed.2 i task (item_at c.args.tasks.now i task c.loop-task-test.true c.task-item.is) in
    let may_here = subst (λ n. MayStand known chunks n task.inputs) (sym c.loop-task.invariant.0.long) may in (
      added_more c.args.inputs.now c.args.made.now c.args.caller c.args.tasks.now c.args.names.now.names c.args.counter.now c.args.graph.now.graph i c.loop-task.names.names c.add_task.new.names.names c.loop-task.counter c.add_task.new.counter
          c.loop-task.graph.graph c.add_task.new.graph.graph c.loop-task.numbers.items c.add_task.new.numbers.items task known chunks (next_item c.args.tasks.now i task c.loop-task-test.true c.task-item.is) may_here.each c.requires.inputs
          c.loop-task.invariant.0 c.add_task.ensures.names c.add_task.ensures.drawn c.add_task.ensures.graph c.add_task.ensures.numbers c.add_task.ensures.kept c.add_task.ensures.within,
      search rules,
    )

pub returns : goal.returns
returns g c =
    let so_far = c.loop-task.invariant.0 in
    let left = c.loop-task.invariant.1 in
    let none = drop_all c.loop-task.task-index c.args.tasks.now c.loop-task-test.false in
    let all =
    added_all c.args.inputs.now c.args.made.now c.args.caller c.args.tasks.now c.args.names.now.names c.args.counter.now c.args.graph.now.graph c.loop-task.task-index c.loop-task.names.names c.loop-task.counter
    c.loop-task.graph.graph c.loop-task.numbers.items none so_far in
    record {
      names = all.names_are;
      drawn = all.draws;
      graph = all.graph_is;
      numbers = all.numbers_are;
      kept = so_far.kept;
      within = so_far.within;
      unfinished = so_far.unfinished;
      ids = omega arith;
      stores = left.workers;
      spare = omega arith;
      capacity = left.places;
    }
