use Rattle.std.proofs.Common.{rules, FitsSigned, w64, get_or, add-one, to_z-of_z, unsigned_abs, ap, sym, ◌∙◌, ap₂, max, pos}
use Rattle.chunk_codec.specs.declared.plain.Spot.{Spot}
use Rattle.quad_matrix.proofs.Peaks.{greatest_more}
use Rattle.quad_matrix.proofs.chunk.Entries.peak.Goals as goal

pub loop-spot-preserved : goal.loop-spot-preserved
loop-spot-preserved c =
    let none : Spot = record { row = 0; column = 0; value = pos 0 } in
    let fits : FitsSigned w64 (get_or c.as_slice-spot-items.result.now c.loop-spot.spot-index none).value = search rules in
    rw add-one
    (c.max-peak.ensures
    ∙ ap₂ max (c.unsigned_abs.ensures.value ∙ ap unsigned_abs (to_z-of_z fits)) c.loop-spot.invariant
    ∙ sym (greatest_more c.as_slice-spot-items.result.now c.loop-spot.spot-index none c.loop-spot-test.true))
