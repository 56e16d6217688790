use Rattle.std.proofs.Common.{◌≡◌, ◌++◌, length, refl, sym, ap, subst, ◌∙◌, arith}
use Rattle.task_types.specs.declared.outcome.Outcome.{Outcome}
use Rattle.name_machine.specs.NewTasks.{task_numbers}
use Rattle.name_machine.specs.Control.{with_number, ref_named}
use Rattle.core_steps.proofs.Idle.{idle_listed}
use Rattle.core_steps.proofs.ChunksFormed.{chunks_can_grow}
use Rattle.core_steps.proofs.ReadyForTasks.{graph_within}
use Rattle.core_steps.proofs.EndOfFinish.{MayEnd}
use Rattle.core_state.specs.Effect.{control_of}
use Rattle.core_state.proofs.Effects.{tasked_as, grown_up, output_live, set_apart, few_await, few_found, can_forward, may_end, effect_is, ready_distinct, none_waits, newly_ready}
use Rattle.core_state.proofs.finish.take_effect.Goals as goal

pub register_chunks-requires-clause-inputs : goal.register_chunks-requires-clause-inputs
register_chunks-requires-clause-inputs g c κs within =
    let outcome : Outcome g.row.C.Denot g.row.K.Denot = record { chunks = c.args.chunks; tasks = c.args.tasks.now; result = c.args.place } in
    let control = control_of c.args.counter.now c.args.names.now.names c.args.asks.now.asks c.args.graph.now.graph in
    (chunks_can_grow g.C.Payload.arity control c.args.w c.args.task c.requires.can.0 outcome c.requires.can.1
    c.args.names.now.names c.args.counter.now c.deref.result.now refl refl (sym (c.deref.ensures.value ∙ c.requires.space.inputs c.requires.can.0 c.requires.can.1.there))).live

pub register_chunks-requires-clause-formed : goal.register_chunks-requires-clause-formed
register_chunks-requires-clause-formed g c κs within =
    let outcome : Outcome g.row.C.Denot g.row.K.Denot = record { chunks = c.args.chunks; tasks = c.args.tasks.now; result = c.args.place } in
    let control = control_of c.args.counter.now c.args.names.now.names c.args.asks.now.asks c.args.graph.now.graph in
    (chunks_can_grow g.C.Payload.arity control c.args.w c.args.task c.requires.can.0 outcome c.requires.can.1
    c.args.names.now.names c.args.counter.now c.deref.result.now refl refl (sym (c.deref.ensures.value ∙ c.requires.space.inputs c.requires.can.0 c.requires.can.1.there))).formed

pub add_tasks-requires-clause-unfinished : goal.add_tasks-requires-clause-unfinished
add_tasks-requires-clause-unfinished g c κs within =
    let outcome : Outcome g.row.C.Denot g.row.K.Denot = record { chunks = c.args.chunks; tasks = c.args.tasks.now; result = c.args.place } in
    let control = control_of c.args.counter.now c.args.names.now.names c.args.asks.now.asks c.args.graph.now.graph in
    graph_within g.C.Payload.arity control c.requires.can.1.orderly c.requires.can.1.together c.register_chunks.new.counter
    (grown_up g.C.Payload.arity control c.args.w c.args.task c.requires.can.0 outcome c.requires.can.1 c.deref.result.now c.register_chunks.new.counter
    (c.deref.ensures.value ∙ c.requires.space.inputs c.requires.can.0 c.requires.can.1.there) c.register_chunks.ensures.drawn)

pub list_idle-requires : goal.list_idle-requires
list_idle-requires g c =
    let outcome : Outcome g.row.C.Denot g.row.K.Denot = record { chunks = c.args.chunks; tasks = c.args.tasks.now; result = c.args.place } in
    let control = control_of c.args.counter.now c.args.names.now.names c.args.asks.now.asks c.args.graph.now.graph in
    let tasked =
    tasked_as g.C.Payload.arity control c.args.w c.args.task c.requires.can.0 outcome c.requires.can.1
    c.args.space.now.inputs.items c.register_chunks.new.made.items c.deref.result.now c.deref-2.result.now c.deref-3.result.now c.deref-4.result.now c.deref-5.result.now
    c.register_chunks.new.names.names c.register_chunks.new.counter c.read_place-output.result
    c.add_tasks.new.names.names c.add_tasks.new.counter c.add_tasks.new.graph.graph c.add_tasks.new.numbers.items c.args.space.now.caller
    c.deref.ensures.value c.deref-2.ensures.value c.deref-3.ensures.value c.deref-4.ensures.value c.deref-5.ensures.value
    (c.requires.space.inputs c.requires.can.0 c.requires.can.1.there)
    c.register_chunks.ensures.names c.register_chunks.ensures.drawn c.register_chunks.ensures.made c.read_place-output.ensures.value
    c.add_tasks.ensures.names c.add_tasks.ensures.drawn c.add_tasks.ensures.graph c.add_tasks.ensures.numbers c.requires.space.caller in
    let count = few_found g.C.Payload.arity control c.args.w c.args.task c.requires.can.0 outcome c.requires.can.1
    c.add_tasks.new.names.names c.add_tasks.new.counter c.add_tasks.new.graph.graph c.add_tasks.new.numbers.items c.read_place-output.result c.args.space.now.inputs.items c.register_chunks.new.made.items tasked in
    let same : length c.deref-6.result.now ≡ length c.add_tasks.new.numbers.items = ap length c.deref-6.ensures.value in
    let none : length c.args.ready.items ≡ 0 = ap length c.requires.empty in
    let all = c.requires.capacity in
    omega arith

pub resolve-requires-clause-live : goal.resolve-requires-clause-live
resolve-requires-clause-live g c κs within =
    let outcome : Outcome g.row.C.Denot g.row.K.Denot = record { chunks = c.args.chunks; tasks = c.args.tasks.now; result = c.args.place } in
    let control = control_of c.args.counter.now c.args.names.now.names c.args.asks.now.asks c.args.graph.now.graph in
    let tasked =
    tasked_as g.C.Payload.arity control c.args.w c.args.task c.requires.can.0 outcome c.requires.can.1
    c.args.space.now.inputs.items c.register_chunks.new.made.items c.deref.result.now c.deref-2.result.now c.deref-3.result.now c.deref-4.result.now c.deref-5.result.now
    c.register_chunks.new.names.names c.register_chunks.new.counter c.read_place-output.result
    c.add_tasks.new.names.names c.add_tasks.new.counter c.add_tasks.new.graph.graph c.add_tasks.new.numbers.items c.args.space.now.caller
    c.deref.ensures.value c.deref-2.ensures.value c.deref-3.ensures.value c.deref-4.ensures.value c.deref-5.ensures.value
    (c.requires.space.inputs c.requires.can.0 c.requires.can.1.there)
    c.register_chunks.ensures.names c.register_chunks.ensures.drawn c.register_chunks.ensures.made c.read_place-output.ensures.value
    c.add_tasks.ensures.names c.add_tasks.ensures.drawn c.add_tasks.ensures.graph c.add_tasks.ensures.numbers c.requires.space.caller in
    output_live g.C.Payload.arity control c.args.w c.args.task c.requires.can.0 outcome c.requires.can.1
    c.add_tasks.new.names.names c.add_tasks.new.counter c.add_tasks.new.graph.graph c.add_tasks.new.numbers.items c.read_place-output.result c.args.space.now.inputs.items c.register_chunks.new.made.items tasked

pub resolve-requires-clause-apart : goal.resolve-requires-clause-apart
resolve-requires-clause-apart g c κs within =
    let outcome : Outcome g.row.C.Denot g.row.K.Denot = record { chunks = c.args.chunks; tasks = c.args.tasks.now; result = c.args.place } in
    let control = control_of c.args.counter.now c.args.names.now.names c.args.asks.now.asks c.args.graph.now.graph in
    let tasked =
    tasked_as g.C.Payload.arity control c.args.w c.args.task c.requires.can.0 outcome c.requires.can.1
    c.args.space.now.inputs.items c.register_chunks.new.made.items c.deref.result.now c.deref-2.result.now c.deref-3.result.now c.deref-4.result.now c.deref-5.result.now
    c.register_chunks.new.names.names c.register_chunks.new.counter c.read_place-output.result
    c.add_tasks.new.names.names c.add_tasks.new.counter c.add_tasks.new.graph.graph c.add_tasks.new.numbers.items c.args.space.now.caller
    c.deref.ensures.value c.deref-2.ensures.value c.deref-3.ensures.value c.deref-4.ensures.value c.deref-5.ensures.value
    (c.requires.space.inputs c.requires.can.0 c.requires.can.1.there)
    c.register_chunks.ensures.names c.register_chunks.ensures.drawn c.register_chunks.ensures.made c.read_place-output.ensures.value
    c.add_tasks.ensures.names c.add_tasks.ensures.drawn c.add_tasks.ensures.graph c.add_tasks.ensures.numbers c.requires.space.caller in
    set_apart g.C.Payload.arity control c.args.w c.args.task c.requires.can.0 outcome c.requires.can.1
    c.add_tasks.new.names.names c.add_tasks.new.counter c.add_tasks.new.graph.graph c.add_tasks.new.numbers.items c.read_place-output.result c.args.space.now.inputs.items c.register_chunks.new.made.items tasked

pub resolve-requires-clause-room : goal.resolve-requires-clause-room
resolve-requires-clause-room g c κs within =
    let outcome : Outcome g.row.C.Denot g.row.K.Denot = record { chunks = c.args.chunks; tasks = c.args.tasks.now; result = c.args.place } in
    let control = control_of c.args.counter.now c.args.names.now.names c.args.asks.now.asks c.args.graph.now.graph in
    let tasked =
    tasked_as g.C.Payload.arity control c.args.w c.args.task c.requires.can.0 outcome c.requires.can.1
    c.args.space.now.inputs.items c.register_chunks.new.made.items c.deref.result.now c.deref-2.result.now c.deref-3.result.now c.deref-4.result.now c.deref-5.result.now
    c.register_chunks.new.names.names c.register_chunks.new.counter c.read_place-output.result
    c.add_tasks.new.names.names c.add_tasks.new.counter c.add_tasks.new.graph.graph c.add_tasks.new.numbers.items c.args.space.now.caller
    c.deref.ensures.value c.deref-2.ensures.value c.deref-3.ensures.value c.deref-4.ensures.value c.deref-5.ensures.value
    (c.requires.space.inputs c.requires.can.0 c.requires.can.1.there)
    c.register_chunks.ensures.names c.register_chunks.ensures.drawn c.register_chunks.ensures.made c.read_place-output.ensures.value
    c.add_tasks.ensures.names c.add_tasks.ensures.drawn c.add_tasks.ensures.graph c.add_tasks.ensures.numbers c.requires.space.caller in
    let fewer = few_await g.C.Payload.arity control c.args.w c.args.task c.requires.can.0 outcome c.requires.can.1
    c.add_tasks.new.names.names c.add_tasks.new.counter c.add_tasks.new.graph.graph c.add_tasks.new.numbers.items c.read_place-output.result c.args.space.now.inputs.items c.register_chunks.new.made.items tasked in
    let tasks = c.requires.can.1.formed.few_tasks in
    let chunks = c.requires.can.1.formed.few_chunks in
    let first = c.register_chunks.ensures.ids in
    let second = c.add_tasks.ensures.ids in
    let room = c.requires.ids in
    omega arith

pub resolve-requires-clause-capacity : goal.resolve-requires-clause-capacity
resolve-requires-clause-capacity g c κs within =
    let outcome : Outcome g.row.C.Denot g.row.K.Denot = record { chunks = c.args.chunks; tasks = c.args.tasks.now; result = c.args.place } in
    let control = control_of c.args.counter.now c.args.names.now.names c.args.asks.now.asks c.args.graph.now.graph in
    let tasked =
    tasked_as g.C.Payload.arity control c.args.w c.args.task c.requires.can.0 outcome c.requires.can.1
    c.args.space.now.inputs.items c.register_chunks.new.made.items c.deref.result.now c.deref-2.result.now c.deref-3.result.now c.deref-4.result.now c.deref-5.result.now
    c.register_chunks.new.names.names c.register_chunks.new.counter c.read_place-output.result
    c.add_tasks.new.names.names c.add_tasks.new.counter c.add_tasks.new.graph.graph c.add_tasks.new.numbers.items c.args.space.now.caller
    c.deref.ensures.value c.deref-2.ensures.value c.deref-3.ensures.value c.deref-4.ensures.value c.deref-5.ensures.value
    (c.requires.space.inputs c.requires.can.0 c.requires.can.1.there)
    c.register_chunks.ensures.names c.register_chunks.ensures.drawn c.register_chunks.ensures.made c.read_place-output.ensures.value
    c.add_tasks.ensures.names c.add_tasks.ensures.drawn c.add_tasks.ensures.graph c.add_tasks.ensures.numbers c.requires.space.caller in
    let fewer = few_await g.C.Payload.arity control c.args.w c.args.task c.requires.can.0 outcome c.requires.can.1
    c.add_tasks.new.names.names c.add_tasks.new.counter c.add_tasks.new.graph.graph c.add_tasks.new.numbers.items c.read_place-output.result c.args.space.now.inputs.items c.register_chunks.new.made.items tasked in
    let count = few_found g.C.Payload.arity control c.args.w c.args.task c.requires.can.0 outcome c.requires.can.1
    c.add_tasks.new.names.names c.add_tasks.new.counter c.add_tasks.new.graph.graph c.add_tasks.new.numbers.items c.read_place-output.result c.args.space.now.inputs.items c.register_chunks.new.made.items tasked in
    let same : length c.deref-6.result.now ≡ length c.add_tasks.new.numbers.items = ap length c.deref-6.ensures.value in
    let none : length c.args.ready.items ≡ 0 = ap length c.requires.empty in
    let all = c.requires.capacity in
    let len = c.list_idle.ensures.len in
    let capacity = c.list_idle.ensures.capacity in
    omega arith

pub resolve-requires-clause-forward : goal.resolve-requires-clause-forward
resolve-requires-clause-forward g c κs within =
    let outcome : Outcome g.row.C.Denot g.row.K.Denot = record { chunks = c.args.chunks; tasks = c.args.tasks.now; result = c.args.place } in
    let control = control_of c.args.counter.now c.args.names.now.names c.args.asks.now.asks c.args.graph.now.graph in
    let tasked =
    tasked_as g.C.Payload.arity control c.args.w c.args.task c.requires.can.0 outcome c.requires.can.1
    c.args.space.now.inputs.items c.register_chunks.new.made.items c.deref.result.now c.deref-2.result.now c.deref-3.result.now c.deref-4.result.now c.deref-5.result.now
    c.register_chunks.new.names.names c.register_chunks.new.counter c.read_place-output.result
    c.add_tasks.new.names.names c.add_tasks.new.counter c.add_tasks.new.graph.graph c.deref-7.result.now c.args.space.now.caller
    c.deref.ensures.value c.deref-2.ensures.value c.deref-3.ensures.value c.deref-4.ensures.value c.deref-5.ensures.value
    (c.requires.space.inputs c.requires.can.0 c.requires.can.1.there)
    c.register_chunks.ensures.names c.register_chunks.ensures.drawn c.register_chunks.ensures.made c.read_place-output.ensures.value
    c.add_tasks.ensures.names c.add_tasks.ensures.drawn c.add_tasks.ensures.graph (c.deref-7.ensures.value ∙ c.add_tasks.ensures.numbers) c.requires.space.caller in
    can_forward g.C.Payload.arity control c.args.w c.args.task c.requires.can.0 outcome c.requires.can.1
    c.add_tasks.new.names.names c.add_tasks.new.counter c.add_tasks.new.graph.graph c.deref-7.result.now c.read_place-output.result c.args.space.now.inputs.items c.register_chunks.new.made.items tasked

-- what may end once the output is handed on
ends : (g : _) (c : goal.After-deref-9 g) → MayEnd c.resolve.new.names.names c.resolve.new.graph.graph c.args.task (c.deref-8.result.now ++ c.deref-9.result.now)
ends g c =
    let outcome : Outcome g.row.C.Denot g.row.K.Denot = record { chunks = c.args.chunks; tasks = c.args.tasks.now; result = c.args.place } in
    let control = control_of c.args.counter.now c.args.names.now.names c.args.asks.now.asks c.args.graph.now.graph in
    let tasked =
    tasked_as g.C.Payload.arity control c.args.w c.args.task c.requires.can.0 outcome c.requires.can.1
    c.args.space.now.inputs.items c.register_chunks.new.made.items c.deref.result.now c.deref-2.result.now c.deref-3.result.now c.deref-4.result.now c.deref-5.result.now
    c.register_chunks.new.names.names c.register_chunks.new.counter c.read_place-output.result
    c.add_tasks.new.names.names c.add_tasks.new.counter c.add_tasks.new.graph.graph c.deref-7.result.now c.args.space.now.caller
    c.deref.ensures.value c.deref-2.ensures.value c.deref-3.ensures.value c.deref-4.ensures.value c.deref-5.ensures.value
    (c.requires.space.inputs c.requires.can.0 c.requires.can.1.there)
    c.register_chunks.ensures.names c.register_chunks.ensures.drawn c.register_chunks.ensures.made c.read_place-output.ensures.value
    c.add_tasks.ensures.names c.add_tasks.ensures.drawn c.add_tasks.ensures.graph (c.deref-7.ensures.value ∙ c.add_tasks.ensures.numbers) c.requires.space.caller in
    subst (MayEnd c.resolve.new.names.names c.resolve.new.graph.graph c.args.task) (sym (λ i. c.deref-8.ensures.value i ++ c.deref-9.ensures.value i))
    (may_end g.C.Payload.arity control c.args.w c.args.task c.requires.can.0 outcome c.requires.can.1
    c.add_tasks.new.names.names c.add_tasks.new.counter c.add_tasks.new.graph.graph c.deref-7.result.now c.read_place-output.result c.args.space.now.inputs.items c.register_chunks.new.made.items tasked
    c.resolve.new.names.names c.resolve.new.asks.asks c.resolve.new.graph.graph c.resolve.ensures.resolved)

pub end_task-requires-clause-held : goal.end_task-requires-clause-held
end_task-requires-clause-held g c κs within = (ends g c).held

pub end_task-requires-clause-there : goal.end_task-requires-clause-there
end_task-requires-clause-there g c κs within = (ends g c).there

pub end_task-requires-clause-waits : goal.end_task-requires-clause-waits
end_task-requires-clause-waits g c κs within = (ends g c).waits

pub end_task-requires-clause-awaited : goal.end_task-requires-clause-awaited
end_task-requires-clause-awaited g c κs within = (ends g c).awaited

pub sort_ready-requires : goal.sort_ready-requires
sort_ready-requires g c =
    let outcome : Outcome g.row.C.Denot g.row.K.Denot = record { chunks = c.args.chunks; tasks = c.args.tasks.now; result = c.args.place } in
    let control = control_of c.args.counter.now c.args.names.now.names c.args.asks.now.asks c.args.graph.now.graph in
    let tasked =
    tasked_as g.C.Payload.arity control c.args.w c.args.task c.requires.can.0 outcome c.requires.can.1
    c.args.space.now.inputs.items c.register_chunks.new.made.items c.deref.result.now c.deref-2.result.now c.deref-3.result.now c.deref-4.result.now c.deref-5.result.now
    c.register_chunks.new.names.names c.register_chunks.new.counter c.read_place-output.result
    c.add_tasks.new.names.names c.add_tasks.new.counter c.add_tasks.new.graph.graph c.deref-7.result.now c.args.space.now.caller
    c.deref.ensures.value c.deref-2.ensures.value c.deref-3.ensures.value c.deref-4.ensures.value c.deref-5.ensures.value
    (c.requires.space.inputs c.requires.can.0 c.requires.can.1.there)
    c.register_chunks.ensures.names c.register_chunks.ensures.drawn c.register_chunks.ensures.made c.read_place-output.ensures.value
    c.add_tasks.ensures.names c.add_tasks.ensures.drawn c.add_tasks.ensures.graph (c.deref-7.ensures.value ∙ c.add_tasks.ensures.numbers) c.requires.space.caller in
    let listed =
    c.list_idle.ensures.idle ∙ (λ i. c.requires.empty i
    ++ idle_listed (λ place number. with_number (ref_named c.register_chunks.new.names.names c.deref-4.result.now c.deref-5.result.now place) number)
    (task_numbers c.register_chunks.new.counter c.args.tasks.now) c.args.space.now.caller c.register_chunks.new.counter c.args.tasks.now
    c.args.graph.now.graph c.add_tasks.new.graph.graph c.deref-6.result.now c.deref-7.result.now
    c.add_tasks.ensures.graph (c.deref-7.ensures.value ∙ c.add_tasks.ensures.numbers) (c.deref-6.ensures.value ∙ sym c.deref-7.ensures.value) i) in
    c.resolve.ensures.distinct
    (ready_distinct g.C.Payload.arity control c.args.w c.args.task c.requires.can.0 outcome c.requires.can.1
    c.add_tasks.new.names.names c.add_tasks.new.counter c.add_tasks.new.graph.graph c.deref-7.result.now c.read_place-output.result c.args.space.now.inputs.items c.register_chunks.new.made.items tasked
    c.resolve.new.names.names c.resolve.new.asks.asks c.resolve.new.graph.graph c.resolve.ensures.resolved
    c.list_idle.new.ready.items c.resolve.new.ready.items listed c.resolve.ensures.ready)
    (none_waits g.C.Payload.arity control c.args.w c.args.task c.requires.can.0 outcome c.requires.can.1
    c.add_tasks.new.names.names c.add_tasks.new.counter c.add_tasks.new.graph.graph c.deref-7.result.now c.read_place-output.result c.args.space.now.inputs.items c.register_chunks.new.made.items tasked
    c.resolve.new.names.names c.resolve.new.asks.asks c.resolve.new.graph.graph c.resolve.ensures.resolved
    c.list_idle.new.ready.items c.resolve.new.ready.items listed c.resolve.ensures.ready)

pub returns-clause-effect : goal.returns-clause-effect
returns-clause-effect g c =
    let outcome : Outcome g.row.C.Denot g.row.K.Denot = record { chunks = c.args.chunks; tasks = c.args.tasks.now; result = c.args.place } in
    let control = control_of c.args.counter.now c.args.names.now.names c.args.asks.now.asks c.args.graph.now.graph in
    let tasked =
    tasked_as g.C.Payload.arity control c.args.w c.args.task c.requires.can.0 outcome c.requires.can.1
    c.args.space.now.inputs.items c.register_chunks.new.made.items c.deref.result.now c.deref-2.result.now c.deref-3.result.now c.deref-4.result.now c.deref-5.result.now
    c.register_chunks.new.names.names c.register_chunks.new.counter c.read_place-output.result
    c.add_tasks.new.names.names c.add_tasks.new.counter c.add_tasks.new.graph.graph c.deref-7.result.now c.args.space.now.caller
    c.deref.ensures.value c.deref-2.ensures.value c.deref-3.ensures.value c.deref-4.ensures.value c.deref-5.ensures.value
    (c.requires.space.inputs c.requires.can.0 c.requires.can.1.there)
    c.register_chunks.ensures.names c.register_chunks.ensures.drawn c.register_chunks.ensures.made c.read_place-output.ensures.value
    c.add_tasks.ensures.names c.add_tasks.ensures.drawn c.add_tasks.ensures.graph (c.deref-7.ensures.value ∙ c.add_tasks.ensures.numbers) c.requires.space.caller in
    effect_is g.C.Payload.arity control c.args.w c.args.task c.requires.can.0 outcome c.requires.can.1
    c.add_tasks.new.names.names c.add_tasks.new.counter c.add_tasks.new.graph.graph c.deref-7.result.now c.read_place-output.result c.args.space.now.inputs.items c.register_chunks.new.made.items tasked
    c.resolve.new.names.names c.resolve.new.asks.asks c.resolve.new.graph.graph c.resolve.ensures.resolved
    c.end_task.new.names.names c.end_task.new.graph.graph c.end_task.ensures.names c.end_task.ensures.graph

pub returns-clause-ready : goal.returns-clause-ready
returns-clause-ready g c =
    let outcome : Outcome g.row.C.Denot g.row.K.Denot = record { chunks = c.args.chunks; tasks = c.args.tasks.now; result = c.args.place } in
    let control = control_of c.args.counter.now c.args.names.now.names c.args.asks.now.asks c.args.graph.now.graph in
    let tasked =
    tasked_as g.C.Payload.arity control c.args.w c.args.task c.requires.can.0 outcome c.requires.can.1
    c.args.space.now.inputs.items c.register_chunks.new.made.items c.deref.result.now c.deref-2.result.now c.deref-3.result.now c.deref-4.result.now c.deref-5.result.now
    c.register_chunks.new.names.names c.register_chunks.new.counter c.read_place-output.result
    c.add_tasks.new.names.names c.add_tasks.new.counter c.add_tasks.new.graph.graph c.deref-7.result.now c.args.space.now.caller
    c.deref.ensures.value c.deref-2.ensures.value c.deref-3.ensures.value c.deref-4.ensures.value c.deref-5.ensures.value
    (c.requires.space.inputs c.requires.can.0 c.requires.can.1.there)
    c.register_chunks.ensures.names c.register_chunks.ensures.drawn c.register_chunks.ensures.made c.read_place-output.ensures.value
    c.add_tasks.ensures.names c.add_tasks.ensures.drawn c.add_tasks.ensures.graph (c.deref-7.ensures.value ∙ c.add_tasks.ensures.numbers) c.requires.space.caller in
    let listed =
    c.list_idle.ensures.idle ∙ (λ i. c.requires.empty i
    ++ idle_listed (λ place number. with_number (ref_named c.register_chunks.new.names.names c.deref-4.result.now c.deref-5.result.now place) number)
    (task_numbers c.register_chunks.new.counter c.args.tasks.now) c.args.space.now.caller c.register_chunks.new.counter c.args.tasks.now
    c.args.graph.now.graph c.add_tasks.new.graph.graph c.deref-6.result.now c.deref-7.result.now
    c.add_tasks.ensures.graph (c.deref-7.ensures.value ∙ c.add_tasks.ensures.numbers) (c.deref-6.ensures.value ∙ sym c.deref-7.ensures.value) i) in
    newly_ready g.C.Payload.arity control c.args.w c.args.task c.requires.can.0 outcome c.requires.can.1
    c.add_tasks.new.names.names c.add_tasks.new.counter c.add_tasks.new.graph.graph c.deref-7.result.now c.read_place-output.result c.args.space.now.inputs.items c.register_chunks.new.made.items tasked
    c.resolve.new.names.names c.resolve.new.asks.asks c.resolve.new.graph.graph c.resolve.ensures.resolved
    c.list_idle.new.ready.items c.resolve.new.ready.items listed c.resolve.ensures.ready
    c.end_task.new.graph.graph c.sort_ready.new.ready.items c.end_task.ensures.graph c.sort_ready.ensures.rise c.sort_ready.ensures.same
