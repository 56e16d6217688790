use Rattle.std.proofs.Common.{◌≡◌, ◌^◌, ◌<◌, ◌≤◌, length, ap, sym, subst, ◌∙◌, arith}
use Rattle.std.proofs.lemmas.Bool.{false≢true}
use Rattle.chunk_codec.specs.Sound.{IsSoundPeak}
use Rattle.chunk_codec.specs.Bytes.{big_endian}
use Rattle.chunk_codec.proofs.BigEndian.{length-big_endian, big_endian_same}
use Rattle.chunk_codec.proofs.fields.node_of.Goals as goal

pub returns-then-rest-ne16 : goal.returns-then-rest-ne16
returns-then-rest-ne16 c value sound e =
    let tail : big_endian 16 value.peak ≡ c.args.rest.now = cc in
    c.if-rest-ne16.true (sym (ap length tail) ∙ length-big_endian 16 value.peak)

pub returns-then-not-is_peak : goal.returns-then-not-is_peak
returns-then-not-is_peak c value sound e =
    let tail : big_endian 16 value.peak ≡ c.args.rest.now = cc in
    let small : value.peak ≤ 2 ^ 126 = sound.range.small in
    let read : c.number_of_128-peak.result < 2 ^ 128 = omega arith in
    let same : value.peak ≡ c.number_of_128-peak.result =
    big_endian_same 16 value.peak c.number_of_128-peak.result (omega arith) read (tail ∙ sym c.number_of_128-peak.ensures) in
    false≢true (c.if-not-is_peak.ensures.1 (subst IsSoundPeak same sound.range))
