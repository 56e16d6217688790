use Rattle.std.proofs.Common.{◌≡◌, ◌+◌, ◌*◌, length, ap, sym, subst, ◌∙◌, arith}
use Rattle.std.proofs.lemmas.Bool.{false≢true}
use Rattle.chunk_codec.specs.Sound.{IsSoundPeak, greatest}
use Rattle.chunk_codec.specs.Parts.{places_of}
use Rattle.chunk_codec.proofs.Reading.{block_length, block_peak, block_entries}
use Rattle.chunk_codec.proofs.fields.block_of.Goals as goal

pub returns-then-rest-count : goal.returns-then-rest-count
returns-then-rest-count c block sound e =
    let count : c.places-count.result ≡ places_of c.args.triangle c.args.side =
    c.places-count.ensures.value ∙ ap (places_of c.args.triangle) c.from-side.ensures in
    c.if-rest-count.true (block_length c.args.triangle c.args.side c.args.rest.now block sound e ∙ ap (λ n. 16 + 16 * n) (sym count))

pub returns-then-not-is_peak : goal.returns-then-not-is_peak
returns-then-not-is_peak c block sound e =
    let parts = block_peak c.args.triangle c.args.side c.number_of_128-peak.result c.args.rest.now _ _ block sound e
    c.split_at.ensures.by_index.0 c.split_at.ensures.front_len (omega arith) c.number_of_128-peak.ensures in
    false≢true (c.if-not-is_peak.ensures.1 (subst IsSoundPeak parts.0 sound.0.range))

pub returns-then-greatest-peak : goal.returns-then-greatest-peak
returns-then-greatest-peak c block sound e =
    let parts = block_peak c.args.triangle c.args.side c.number_of_128-peak.result c.args.rest.now _ _ block sound e
    c.split_at.ensures.by_index.0 c.split_at.ensures.front_len (omega arith) c.number_of_128-peak.ensures in
    let count : length c.in_ok-entries.entries ≡ places_of c.args.triangle c.args.side =
    c.in_ok-entries.ensures.count ∙ c.places-count.ensures.value ∙ ap (places_of c.args.triangle) c.from-side.ensures in
    let same : block.entries ≡ c.in_ok-entries.entries =
    block_entries c.args.triangle c.args.side c.args.rest.now _ c.in_ok-entries.entries block sound e parts.1 c.in_ok-entries.ensures.read count c.in_ok-entries.ensures.fit in
    c.if-greatest-peak.true (c.greatest.ensures ∙ ap greatest (c.as_slice.ensures ∙ sym same) ∙ parts.0)
