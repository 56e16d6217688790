use Rattle.std.proofs.Common.{◌≡◌, take, length}
use Rattle.std.specs.Prelude.{map as each}
use Rattle.task_links.specs.Kept.{opened_place}
use Rattle.task_graph.specs.Adding.{known_place}
use Rattle.task_graph.proofs.adding.known_places.Given as goal

abbrev pub invariant-loop-i : goal.invariant-loop-i
invariant-loop-i l = (take l.i (each opened_place l.places) ≡ take l.i (each known_place l.inputs)) × (length l.places ≡ 4)
