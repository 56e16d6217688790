use Rattle.std.proofs.Common.{arith, sym, subst}
use Rattle.task_types.specs.Places.{places_of}
use Rattle.task_graph.specs.Contents.{AreOf, AreFree}
use Rattle.name_machine.specs.Control.{ref_named}
use Rattle.core_steps.proofs.Adding.{given_are, are_of, are_free, added_is}
use Rattle.core_steps.proofs.tasks.add_task.Goals as goal

pub add-requires-clause-callers : goal.add-requires-clause-callers
add-requires-clause-callers g c =
    let read = ref_named c.args.names.now.names c.args.inputs.now c.args.made.now in
    let numbers = c.args.numbers.now.items in
    let drawn = c.next-number.new.self in
    let inputs = c.args.task.now.inputs in
    let may = c.requires.formed.2 in
    subst (AreOf c.args.graph.now.graph c.args.caller)
    (sym (given_are read numbers c.as_slice.result.now drawn inputs c.hold_places-held.result c.given.result.now may.few c.given.ensures c.hold_places-held.ensures.slots c.as_slice.ensures.value))
    (are_of c.args.graph.now.graph c.args.caller read numbers c.requires.formed.0 c.requires.formed.1 drawn (places_of inputs) c.requires.earlier may.each)

pub add-requires-clause-numbers : goal.add-requires-clause-numbers
add-requires-clause-numbers g c =
    let read = ref_named c.args.names.now.names c.args.inputs.now c.args.made.now in
    let numbers = c.args.numbers.now.items in
    let drawn = c.next-number.new.self in
    let inputs = c.args.task.now.inputs in
    let may = c.requires.formed.2 in
    subst (AreFree c.args.graph.now.graph)
    (sym (given_are read numbers c.as_slice.result.now drawn inputs c.hold_places-held.result c.given.result.now may.few c.given.ensures c.hold_places-held.ensures.slots c.as_slice.ensures.value))
    (are_free c.args.graph.now.graph c.args.counter.now read numbers drawn (places_of inputs) c.requires.unfinished (omega arith))

pub returns-clause-graph : goal.returns-clause-graph
returns-clause-graph g c =
    let read = ref_named c.args.names.now.names c.args.inputs.now c.args.made.now in
    let numbers = c.args.numbers.now.items in
    let drawn = c.next-number.new.self in
    let inputs = c.args.task.now.inputs in
    let may = c.requires.formed.2 in
    added_is c.args.graph.now.graph c.add.new.self.graph c.args.counter.now c.next-number.result drawn c.args.caller c.args.task.now.kind read numbers (places_of inputs) c.given.result.now
    c.add.ensures.graph c.next-number.ensures.value c.next-number.ensures.drawn
    (given_are read numbers c.as_slice.result.now drawn inputs c.hold_places-held.result c.given.result.now may.few c.given.ensures c.hold_places-held.ensures.slots c.as_slice.ensures.value)
