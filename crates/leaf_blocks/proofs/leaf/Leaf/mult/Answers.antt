use Rattle.std.proofs.Common.{◌≡◌, ap, sym, subst, ◌∙◌}
use Rattle.std.proofs.lemmas.Result.{IfOk-weaker}
use Rattle.dense_def.specs.Matrix.{times, ProductFits}
use Rattle.dense_def.proofs.Operations.{mult_is}
use Rattle.dense_def.proofs.Fits.{mult_fits_is}
use Rattle.leaf_blocks.proofs.Squares.{mult_entries}
use Rattle.leaf_blocks.proofs.leaf.Leaf.mult.Goals as goal

pub mul-requires-clause-fits : goal.mul-requires-clause-fits
mul-requires-clause-fits c =
    let wide : c.args.self.now.columns ≡ c.args.other.now.columns = c.side.ensures.wide ∙ sym c.side.ensures.tall ∙ c.requires.sides ∙ c.side-2.ensures.tall ∙ sym c.side-2.ensures.wide in
    subst (ProductFits c.args.self.now) (sym c.in_ok-transpose.ensures.whole) ((mult_fits_is c.args.self.now c.args.other.now wide).0 c.requires.fits)

pub returns-clause-whole : goal.returns-clause-whole
returns-clause-whole c =
    let wide : c.args.self.now.columns ≡ c.args.other.now.columns = c.side.ensures.wide ∙ sym c.side.ensures.tall ∙ c.requires.sides ∙ c.side-2.ensures.tall ∙ sym c.side-2.ensures.wide in
    let turned = ap (times c.args.self.now) c.in_ok-transpose.ensures.whole ∙ sym (mult_is c.args.self.now c.args.other.now wide) in
    IfOk-weaker c.mul-2.result _ _ (λ product same. same ∙ turned) c.mul-2.ensures.whole

pub returns-clause-places : goal.returns-clause-places
returns-clause-places c =
    IfOk-weaker c.mul-2.result _ _
    (mult_entries c.args.self.now c.args.other.now (c.side.ensures.wide ∙ sym c.side.ensures.tall) (c.side-2.ensures.wide ∙ sym c.side-2.ensures.tall) c.requires.sides)
    (returns-clause-whole c)
