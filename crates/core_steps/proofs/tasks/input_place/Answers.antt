use Rattle.std.proofs.Common.{sym}
use Rattle.task_types.specs.Places.{places_of}
use Rattle.core_steps.proofs.Holding.{place_none, place_some}
use Rattle.core_steps.proofs.tasks.input_place.Goals as goal

pub returns-in-None : goal.returns-in-None
returns-in-None c = place_none (places_of c.args.places.now) c.args.i (sym c.in-None.ensures)

pub returns-in-Some : goal.returns-in-Some
returns-in-Some c = place_some (places_of c.args.places.now) c.args.i c.in-Some.place (sym c.in-Some.ensures)
