use Rattle.std.proofs.Common.{sym, ap, subst, ◌∙◌}
use Rattle.std.proofs.lemmas.Result.{IfOk-weaker}
use Rattle.dense_def.specs.Matrix.{times, IsSymmetric, ProductFits}
use Rattle.dense_def.proofs.Operations.{tmul_is, IsSymmetric-tmul_of}
use Rattle.dense_def.proofs.Fits.{tmul_fits_is}
use Rattle.quad_symm.proofs.operations.trank.Goals as goal

pub symmetric_product-requires-clause-fits : goal.symmetric_product-requires-clause-fits
symmetric_product-requires-clause-fits c =
    subst (λ t. ProductFits t c.args.x.now) (sym c.in_ok-transpose.ensures.whole) ((tmul_fits_is c.args.x.now c.args.x.now).0 c.requires)

pub symmetric_product-requires-clause-symmetric : goal.symmetric_product-requires-clause-symmetric
symmetric_product-requires-clause-symmetric c =
    subst (λ t. IsSymmetric (times t c.args.x.now)) (sym c.in_ok-transpose.ensures.whole)
    (subst IsSymmetric (tmul_is c.args.x.now c.args.x.now) (IsSymmetric-tmul_of c.args.x.now))

pub returns-clause-whole : goal.returns-clause-whole
returns-clause-whole c =
    let turned = ap (λ t. times t c.args.x.now) c.in_ok-transpose.ensures.whole ∙ sym (tmul_is c.args.x.now c.args.x.now) in
    IfOk-weaker c.symmetric_product-2.result _ _ (λ product same. same ∙ turned) c.symmetric_product-2.ensures.whole
