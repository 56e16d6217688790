use Rattle.name_machine.specs.Control.{ref_named}
use Rattle.core_steps.proofs.Places.{all_read}
use Rattle.core_steps.proofs.chunks.read_places.Goals as goal

pub returns-clause-refs : goal.returns-clause-refs
returns-clause-refs g c =
    all_read (ref_named c.args.names.now.names c.args.inputs.now c.args.made.now) c.args.places.now
    c.nth_place.result c.nth_place-2.result c.nth_place-3.result c.nth_place-4.result
    c.nth_place.ensures c.nth_place-2.ensures c.nth_place-3.ensures c.nth_place-4.ensures
    c.read_place-first.result c.read_place-second.result c.read_place-third.result c.read_place-fourth.result
    c.read_place-first.ensures.value c.read_place-second.ensures.value c.read_place-third.ensures.value c.read_place-fourth.ensures.value
