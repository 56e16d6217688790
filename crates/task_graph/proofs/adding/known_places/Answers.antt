use Rattle.std.proofs.Common.{◌≡◌, ◌<◌, ◌+◌, ap, ◌∙◌, arith, length, take, set, subst}
use Rattle.std.proofs.lemmas.List.{length-set, length-map, map-set}
use Rattle.std.specs.Prelude.{map as each}
use Rattle.task_links.specs.Kept.{opened_place}
use Rattle.task_graph.specs.Adding.{known_place}
use Rattle.task_graph.proofs.Additions.{step_places, take_each}
use Rattle.task_graph.proofs.adding.known_places.Goals as goal

pub loop-i-preserved : goal.loop-i-preserved
loop-i-preserved c =
    let low : c.loop-i.i < length c.args.inputs.now = c.loop-i-test.true in
    let room : c.loop-i.i < length (each opened_place c.loop-i.places) = omega (arith, length-map c.loop-i.places opened_place, c.loop-i.invariant.1, c.requires) in (
      ap (take (c.loop-i.i + 1)) (map-set opened_place c.loop-i.places c.loop-i.i c.known.result)
          ∙ ap (λ v. take (c.loop-i.i + 1) (set (each opened_place c.loop-i.places) c.loop-i.i v)) c.known.ensures
          ∙ step_places c.loop-i.i (each opened_place c.loop-i.places) c.args.inputs.now _ room low c.loop-i.invariant.0,
      length-set c.loop-i.places c.loop-i.i c.known.result ∙ c.loop-i.invariant.1,
    )

pub returns : goal.returns
returns c =
    let same : c.loop-i.i ≡ length c.args.inputs.now = omega (arith, c.loop-i-test.false, c.loop-i.auto.i-end) in
    subst (λ n. take n (each opened_place c.loop-i.places) ≡ take n (each known_place c.args.inputs.now)) same c.loop-i.invariant.0 ∙ take_each c.args.inputs.now
