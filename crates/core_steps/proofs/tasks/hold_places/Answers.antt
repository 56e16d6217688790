use Rattle.std.proofs.Common.{arith, ◌∙◌}
use Rattle.task_types.specs.Places.{places_of}
use Rattle.core_steps.proofs.Holding.{live_kept, kept_twice, four_held, one_held, few_places}
use Rattle.core_steps.proofs.tasks.hold_places.Goals as goal

pub hold_place-second-requires-clause-inputs : goal.hold_place-second-requires-clause-inputs
hold_place-second-requires-clause-inputs g c κs within =
    live_kept c.args.names.now.names c.hold_place-first.new.names.names c.args.inputs.now c.hold_place-first.ensures.kept c.requires.inputs

pub hold_place-second-requires-clause-made : goal.hold_place-second-requires-clause-made
hold_place-second-requires-clause-made g c κs within =
    live_kept c.args.names.now.names c.hold_place-first.new.names.names c.args.made.now c.hold_place-first.ensures.kept c.requires.made

pub hold_place-third-requires-clause-inputs : goal.hold_place-third-requires-clause-inputs
hold_place-third-requires-clause-inputs g c κs within =
    live_kept c.hold_place-first.new.names.names c.hold_place-second.new.names.names c.args.inputs.now c.hold_place-second.ensures.kept
    (live_kept c.args.names.now.names c.hold_place-first.new.names.names c.args.inputs.now c.hold_place-first.ensures.kept c.requires.inputs)

pub hold_place-third-requires-clause-made : goal.hold_place-third-requires-clause-made
hold_place-third-requires-clause-made g c κs within =
    live_kept c.hold_place-first.new.names.names c.hold_place-second.new.names.names c.args.made.now c.hold_place-second.ensures.kept
    (live_kept c.args.names.now.names c.hold_place-first.new.names.names c.args.made.now c.hold_place-first.ensures.kept c.requires.made)

pub hold_place-fourth-requires-clause-inputs : goal.hold_place-fourth-requires-clause-inputs
hold_place-fourth-requires-clause-inputs g c κs within =
    live_kept c.hold_place-second.new.names.names c.hold_place-third.new.names.names c.args.inputs.now c.hold_place-third.ensures.kept
    (live_kept c.hold_place-first.new.names.names c.hold_place-second.new.names.names c.args.inputs.now c.hold_place-second.ensures.kept
    (live_kept c.args.names.now.names c.hold_place-first.new.names.names c.args.inputs.now c.hold_place-first.ensures.kept c.requires.inputs))

pub hold_place-fourth-requires-clause-made : goal.hold_place-fourth-requires-clause-made
hold_place-fourth-requires-clause-made g c κs within =
    live_kept c.hold_place-second.new.names.names c.hold_place-third.new.names.names c.args.made.now c.hold_place-third.ensures.kept
    (live_kept c.hold_place-first.new.names.names c.hold_place-second.new.names.names c.args.made.now c.hold_place-second.ensures.kept
    (live_kept c.args.names.now.names c.hold_place-first.new.names.names c.args.made.now c.hold_place-first.ensures.kept c.requires.made))

pub returns : goal.returns
returns g c =
    let inputs = c.args.inputs.now in
    let made = c.args.made.now in
    let numbers = c.args.numbers.now in
    let task = c.args.task in
    let n0 = c.args.names.now.names in
    let n1 = c.hold_place-first.new.names.names in
    let n2 = c.hold_place-second.new.names.names in
    let n3 = c.hold_place-third.new.names.names in
    let n4 = c.hold_place-fourth.new.names.names in
    let d0 = c.args.counter.now in
    let d1 = c.hold_place-first.new.counter in
    let d2 = c.hold_place-second.new.counter in
    let d3 = c.hold_place-third.new.counter in
    let d4 = c.hold_place-fourth.new.counter in
    let p0 = c.input_place-at.result in
    let p1 = c.input_place-at-2.result in
    let p2 = c.input_place-at-3.result in
    let p3 = c.input_place-at-4.result in
    let s0 = c.hold_place-first.result in
    let s1 = c.hold_place-second.result in
    let s2 = c.hold_place-third.result in
    let s3 = c.hold_place-fourth.result in
    let all =
    four_held inputs made numbers task (places_of c.args.places.now) (few_places c.args.places.now) p0 p1 p2 p3 c.input_place-at.ensures c.input_place-at-2.ensures c.input_place-at-3.ensures c.input_place-at-4.ensures
    n0 n1 n2 n3 n4 d0 d1 d2 d3 d4 s0 s1 s2 s3 c.requires.inputs c.hold_place-first.ensures.kept c.hold_place-second.ensures.kept c.hold_place-third.ensures.kept
    (one_held inputs made numbers task n0 n1 d0 d1 p0 s0 c.hold_place-first.ensures.names c.hold_place-first.ensures.drawn c.hold_place-first.ensures.slot)
    (one_held inputs made numbers task n1 n2 d1 d2 p1 s1 c.hold_place-second.ensures.names c.hold_place-second.ensures.drawn c.hold_place-second.ensures.slot)
    (one_held inputs made numbers task n2 n3 d2 d3 p2 s2 c.hold_place-third.ensures.names c.hold_place-third.ensures.drawn c.hold_place-third.ensures.slot)
    (one_held inputs made numbers task n3 n4 d3 d4 p3 s3 c.hold_place-fourth.ensures.names c.hold_place-fourth.ensures.drawn c.hold_place-fourth.ensures.slot) in
    record {
      slots = all.given;
      names = all.names;
      drawn = all.draws;
      at_most = omega arith;
      kept =
          kept_twice n0 n1 n4 c.hold_place-first.ensures.kept
          (kept_twice n1 n2 n4 c.hold_place-second.ensures.kept (kept_twice n2 n3 n4 c.hold_place-third.ensures.kept c.hold_place-fourth.ensures.kept));
      within = c.hold_place-fourth.ensures.within;
      room = omega arith;
      stores = c.hold_place-fourth.ensures.stores ∙ c.hold_place-third.ensures.stores ∙ c.hold_place-second.ensures.stores ∙ c.hold_place-first.ensures.stores;
    }
