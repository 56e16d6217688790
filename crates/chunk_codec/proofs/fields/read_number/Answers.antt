use Rattle.std.proofs.Common.{◌≡◌, length, FitsSigned, to_z-of_z, ap, sym, subst, ◌∙◌, rules, rules, unsigned_abs}
use Rattle.std.specs.Int.{w128}
use Rattle.std.proofs.lemmas.Bool.{false≢true}
use Rattle.chunk_codec.specs.Sound.{IsSoundPeak}
use Rattle.chunk_codec.proofs.Same.{length-long, long_same, small_fits}
use Rattle.chunk_codec.proofs.fields.read_number.Goals as goal

pub returns-then-fields-ne16 : goal.returns-then-fields-ne16
returns-then-fields-ne16 c value sound e = c.if-fields-ne16.true (sym (ap length e) ∙ length-long value)

pub returns-then-not-is_peak : goal.returns-then-not-is_peak
returns-then-not-is_peak c value sound e =
    let read = c.number_of_long-value.result in
    let fits : FitsSigned w128 read = search rules in
    let same : value ≡ read = long_same value read (small_fits value sound.small) fits (e ∙ sym c.number_of_long-value.ensures) in
    let size : unsigned_abs value ≡ c.unsigned_abs.result =
    ap unsigned_abs same ∙ sym (c.unsigned_abs.ensures.value ∙ ap unsigned_abs (to_z-of_z fits)) in
    false≢true (c.if-not-is_peak.ensures.1 (subst IsSoundPeak size sound))
