use Rattle.name_states.specs.declared.holder.Holder.TheVariants.{Task as ByTask}
use Rattle.name_machine.specs.Control.{ref_at}
use Rattle.core_state.proofs.FourInputs.{live_at, live_next, all_drawn, all_linked, all_slots}
use Rattle.core_state.proofs.inputs.hold_inputs.Goals as goal

pub hold_input_at-first-requires-clause-live : goal.hold_input_at-first-requires-clause-live
hold_input_at-first-requires-clause-live g c κs within =
    live_at c.args.names.now.names c.args.inputs.now 0 c.requires.live

pub hold_input_at-second-requires-clause-live : goal.hold_input_at-second-requires-clause-live
hold_input_at-second-requires-clause-live g c κs within =
    live_next c.args.names.now.names c.hold_input_at-first.new.names.names c.args.counter.now (ByTask c.args.task) (ref_at c.args.inputs.now 0) (ref_at c.args.inputs.now 1) c.requires.within c.hold_input_at-first.ensures.names
    (live_at c.args.names.now.names c.args.inputs.now 1 c.requires.live)

pub hold_input_at-third-requires-clause-live : goal.hold_input_at-third-requires-clause-live
hold_input_at-third-requires-clause-live g c κs within =
    live_next c.hold_input_at-first.new.names.names c.hold_input_at-second.new.names.names c.hold_input_at-first.new.counter (ByTask c.args.task) (ref_at c.args.inputs.now 1) (ref_at c.args.inputs.now 2) c.hold_input_at-first.ensures.within c.hold_input_at-second.ensures.names
    (live_next c.args.names.now.names c.hold_input_at-first.new.names.names c.args.counter.now (ByTask c.args.task) (ref_at c.args.inputs.now 0) (ref_at c.args.inputs.now 2) c.requires.within c.hold_input_at-first.ensures.names
    (live_at c.args.names.now.names c.args.inputs.now 2 c.requires.live))

pub hold_input_at-fourth-requires-clause-live : goal.hold_input_at-fourth-requires-clause-live
hold_input_at-fourth-requires-clause-live g c κs within =
    live_next c.hold_input_at-second.new.names.names c.hold_input_at-third.new.names.names c.hold_input_at-second.new.counter (ByTask c.args.task) (ref_at c.args.inputs.now 2) (ref_at c.args.inputs.now 3) c.hold_input_at-second.ensures.within c.hold_input_at-third.ensures.names
    (live_next c.hold_input_at-first.new.names.names c.hold_input_at-second.new.names.names c.hold_input_at-first.new.counter (ByTask c.args.task) (ref_at c.args.inputs.now 1) (ref_at c.args.inputs.now 3) c.hold_input_at-first.ensures.within c.hold_input_at-second.ensures.names
    (live_next c.args.names.now.names c.hold_input_at-first.new.names.names c.args.counter.now (ByTask c.args.task) (ref_at c.args.inputs.now 0) (ref_at c.args.inputs.now 3) c.requires.within c.hold_input_at-first.ensures.names
    (live_at c.args.names.now.names c.args.inputs.now 3 c.requires.live)))

pub returns-clause-drawn : goal.returns-clause-drawn
returns-clause-drawn g c =
    all_drawn c.args.inputs.now c.requires.count c.args.counter.now c.hold_input_at-first.new.counter c.hold_input_at-second.new.counter c.hold_input_at-third.new.counter c.hold_input_at-fourth.new.counter
    c.hold_input_at-first.ensures.drawn c.hold_input_at-second.ensures.drawn c.hold_input_at-third.ensures.drawn c.hold_input_at-fourth.ensures.drawn

pub returns-clause-names : goal.returns-clause-names
returns-clause-names g c =
    all_linked c.args.inputs.now c.requires.count c.args.counter.now c.hold_input_at-first.new.counter c.hold_input_at-second.new.counter c.hold_input_at-third.new.counter c.hold_input_at-fourth.new.counter
    c.hold_input_at-first.ensures.drawn c.hold_input_at-second.ensures.drawn c.hold_input_at-third.ensures.drawn c.hold_input_at-fourth.ensures.drawn
    (ByTask c.args.task) c.args.names.now.names c.hold_input_at-first.new.names.names c.hold_input_at-second.new.names.names c.hold_input_at-third.new.names.names c.hold_input_at-fourth.new.names.names c.hold_input_at-first.ensures.names c.hold_input_at-second.ensures.names c.hold_input_at-third.ensures.names c.hold_input_at-fourth.ensures.names

pub returns-clause-slots : goal.returns-clause-slots
returns-clause-slots g c =
    all_slots c.args.inputs.now c.requires.count c.args.counter.now c.hold_input_at-first.new.counter c.hold_input_at-second.new.counter c.hold_input_at-third.new.counter c.hold_input_at-fourth.new.counter
    c.hold_input_at-first.ensures.drawn c.hold_input_at-second.ensures.drawn c.hold_input_at-third.ensures.drawn c.hold_input_at-fourth.ensures.drawn
    c.hold_input_at-first.result c.hold_input_at-second.result c.hold_input_at-third.result c.hold_input_at-fourth.result c.hold_input_at-first.ensures.result c.hold_input_at-second.ensures.result c.hold_input_at-third.ensures.result c.hold_input_at-fourth.ensures.result
