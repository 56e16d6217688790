use Rattle.std.proofs.Common.{rules, FitsSigned, get_or, add-one, to_z-of_z, unsigned_abs, ap, sym, ◌∙◌, ap₂, max, pos}
use Rattle.std.specs.Int.{w128}
use Rattle.chunk_codec.proofs.BigEndian.{greatest_more}
use Rattle.chunk_codec.proofs.numbers.greatest.Goals as goal

pub loop-number-preserved : goal.loop-number-preserved
loop-number-preserved c =
    let fits : FitsSigned w128 (get_or c.args.numbers.now c.loop-number.number-index (pos 0)) = search rules in
    rw add-one
    (c.max-greatest.ensures
    ∙ ap₂ max (c.unsigned_abs.ensures.value ∙ ap unsigned_abs (to_z-of_z fits)) c.loop-number.invariant
    ∙ sym (greatest_more c.args.numbers.now c.loop-number.number-index (pos 0) c.loop-number-test.true))
