use Rattle.std.proofs.Common.{refl, sym, ap, subst, ◌∙◌}
use Rattle.std.proofs.lemmas.Result.{IfOk-weaker}
use Rattle.dense_def.specs.Matrix.{times, IsSymmetric, ProductFits}
use Rattle.dense_def.proofs.Operations.{mult_is, IsSymmetric-mult_of}
use Rattle.dense_def.proofs.Fits.{mult_fits_is}
use Rattle.quad_symm.proofs.operations.rank.Goals as goal

pub symmetric_product-requires-clause-fits : goal.symmetric_product-requires-clause-fits
symmetric_product-requires-clause-fits c =
    subst (ProductFits c.args.x.now) (sym c.in_ok-transpose.ensures.whole) ((mult_fits_is c.args.x.now c.args.x.now refl).0 c.requires)

pub symmetric_product-requires-clause-symmetric : goal.symmetric_product-requires-clause-symmetric
symmetric_product-requires-clause-symmetric c =
    subst (λ t. IsSymmetric (times c.args.x.now t)) (sym c.in_ok-transpose.ensures.whole)
    (subst IsSymmetric (mult_is c.args.x.now c.args.x.now refl) (IsSymmetric-mult_of c.args.x.now))

pub returns-clause-whole : goal.returns-clause-whole
returns-clause-whole c =
    let turned = ap (times c.args.x.now) c.in_ok-transpose.ensures.whole ∙ sym (mult_is c.args.x.now c.args.x.now refl) in
    IfOk-weaker c.symmetric_product-2.result _ _ (λ product same. same ∙ turned) c.symmetric_product-2.ensures.whole
