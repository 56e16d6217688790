use Rattle.std.proofs.Common.{◌≤◌, ◌-◌, is_some, refl, sym, ap, subst, ◌∙◌, arith}
use Rattle.core_state.specs.Ended.{due_for_ended}
use Rattle.core_state.proofs.OutputsEnded.{asks_fewer, asks_start, output_outside, owed_for_output, asks_step, asks_end, asks_left}
use Rattle.core_state.proofs.abandoning.end_asks.Goals as goal

pub loop-task-init : goal.loop-task-init
loop-task-init g c = record {
  remains = asks_start c.args.names.now.names c.args.asks.now.asks c.args.c c.args.owed c.requires.held;
  stores = refl;
  callers = refl;
}

pub end_output-requires-after_bounds : goal.end_output-requires-after_bounds
end_output-requires-after_bounds g c κs within =
    let one = c.in-Some.ensures.task in
    output_outside c.args.names.now.names c.loop-task.names.names c.args.asks.now.asks c.loop-task.asks.asks c.args.c c.args.owed c.loop-task.left c.loop-task.invariant.remains c.in-Some.task one
    c.take-output.result (c.take-output.ensures.delivered one.ask one.there)

pub overflow_sub-left : goal.overflow_sub-left
overflow_sub-left g c =
    let one = c.in-Some.ensures.task in
    subst (λ n. n ≤ c.loop-task.left) (sym c.due_for_output-left.ensures)
    (owed_for_output c.args.names.now.names c.loop-task.names.names c.args.asks.now.asks c.loop-task.asks.asks c.args.c c.args.owed c.loop-task.left c.loop-task.invariant.remains c.in-Some.task one
    g.C.Payload.arity c.rules.ensures.sound c.take-output.result (c.take-output.ensures.delivered one.ask one.there) c.requires.owed)

pub loop-task-smaller : goal.loop-task-smaller
loop-task-smaller g c =
    let one = c.in-Some.ensures.task in
    rw c.take-output.ensures.asks (asks_fewer c.loop-task.asks.asks c.in-Some.task (ap is_some one.there))

pub loop-task-preserved : goal.loop-task-preserved
loop-task-preserved g c =
    let one = c.in-Some.ensures.task in
    let low : due_for_ended c.take-output.result ≤ c.loop-task.left =
    owed_for_output c.args.names.now.names c.loop-task.names.names c.args.asks.now.asks c.loop-task.asks.asks c.args.c c.args.owed c.loop-task.left c.loop-task.invariant.remains c.in-Some.task one
    g.C.Payload.arity c.rules.ensures.sound c.take-output.result (c.take-output.ensures.delivered one.ask one.there) c.requires.owed in
    let due = c.due_for_output-left.ensures in
    record {
      remains =
          asks_step c.args.names.now.names c.loop-task.names.names c.args.asks.now.asks c.loop-task.asks.asks c.args.c c.args.owed c.loop-task.left c.loop-task.invariant.remains c.in-Some.task one
          g.C.Payload.arity c.rules.ensures.sound c.take-output.result (c.take-output.ensures.delivered one.ask one.there)
          c.end_output.new.names.names c.take-output.new.self.asks (c.loop-task.left - c.due_for_output-left.result) c.end_output.ensures.names c.take-output.ensures.asks (omega arith);
      stores = c.end_output.ensures.stores ∙ c.loop-task.invariant.stores;
      callers = c.take-output.ensures.callers ∙ c.loop-task.invariant.callers;
    }

pub returns-clause-names : goal.returns-clause-names
returns-clause-names g c =
    asks_end c.args.names.now.names c.loop-task.names.names c.args.asks.now.asks c.loop-task.asks.asks c.args.c c.args.owed c.loop-task.left c.loop-task.invariant.remains
    c.in_default.ensures.some g.C.Payload.arity c.rules-2.ensures.sound c.rules-2.ensures.reached

pub returns-clause-asks : goal.returns-clause-asks
returns-clause-asks g c =
    asks_left c.args.names.now.names c.loop-task.names.names c.args.asks.now.asks c.loop-task.asks.asks c.args.c c.args.owed c.loop-task.left c.loop-task.invariant.remains
    c.in_default.ensures.some
