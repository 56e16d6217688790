use Rattle.std.proofs.Common.{◌<◌, ◌*ℤ◌, rules, ◌∙◌, ap₂, SFits, to_z-of_z}
use Rattle.std.specs.Int.{w128}
use Rattle.dense_def.specs.Matrix.{entry}
use Rattle.dense_def.proofs.Totals.{term_fits, total_fits, total_more}
use Rattle.dense_def.proofs.dense.Dense.row_by_column.Goals as goal

pub overflow_mul-total : goal.overflow_mul-total
overflow_mul-total c =
    let left : SFits w128 c.at.result = search rules in
    let right : SFits w128 c.at-in-loop-inner.result = search rules in
    let below : c.loop-inner.inner < c.args.self.now.columns = search rules in
    term_fits c.loop-inner.inner c.args.self.now.columns (λ k. entry c.args.self.now c.args.row k *ℤ entry c.args.other.now k c.args.column) _ c.requires.fits below
    (ap₂ ◌*ℤ◌ (to_z-of_z left ∙ c.at.ensures) (to_z-of_z right ∙ c.at-in-loop-inner.ensures))

pub overflow_add-total : goal.overflow_add-total
overflow_add-total c =
    let left : SFits w128 c.at.result = search rules in
    let right : SFits w128 c.at-in-loop-inner.result = search rules in
    let below : c.loop-inner.inner < c.args.self.now.columns = search rules in
    total_fits c.loop-inner.inner c.args.self.now.columns (λ k. entry c.args.self.now c.args.row k *ℤ entry c.args.other.now k c.args.column) _ _ c.requires.fits below c.loop-inner.invariant
    (to_z-of_z (overflow_mul-total c) ∙ ap₂ ◌*ℤ◌ (to_z-of_z left ∙ c.at.ensures) (to_z-of_z right ∙ c.at-in-loop-inner.ensures))

pub loop-inner-preserved : goal.loop-inner-preserved
loop-inner-preserved c =
    let left : SFits w128 c.at.result = search rules in
    let right : SFits w128 c.at-in-loop-inner.result = search rules in
    to_z-of_z (overflow_add-total c)
    ∙ total_more c.loop-inner.inner (λ k. entry c.args.self.now c.args.row k *ℤ entry c.args.other.now k c.args.column) _ _ c.loop-inner.invariant
    (to_z-of_z (overflow_mul-total c) ∙ ap₂ ◌*ℤ◌ (to_z-of_z left ∙ c.at.ensures) (to_z-of_z right ∙ c.at-in-loop-inner.ensures))
