use Rattle.std.proofs.Common.{◌<◌, rules, ◌∙◌, SFits, to_z-of_z}
use Rattle.std.specs.Int.{w128}
use Rattle.dense_def.specs.Matrix.{height, entry}
use Rattle.dense_def.proofs.Totals.{total_fits, total_more}
use Rattle.dense_def.proofs.dense.Dense.trace.Goals as goal

pub overflow_add-total : goal.overflow_add-total
overflow_add-total c =
    let fits : SFits w128 c.at-total.result = search rules in
    let below : c.loop-place.place < height c.args.self.now = search rules in
    total_fits c.loop-place.place (height c.args.self.now) (λ i. entry c.args.self.now i i) _ _ c.requires.fits below c.loop-place.invariant (to_z-of_z fits ∙ c.at-total.ensures)

pub loop-place-preserved : goal.loop-place-preserved
loop-place-preserved c =
    let fits : SFits w128 c.at-total.result = search rules in
    to_z-of_z (overflow_add-total c) ∙ total_more c.loop-place.place (λ i. entry c.args.self.now i i) _ _ c.loop-place.invariant (to_z-of_z fits ∙ c.at-total.ensures)
