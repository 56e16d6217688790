use Rattle.std.proofs.Common.{◌≡◌, ◌+◌, ◌*◌, length, ap, sym, ◌∙◌, arith}
use Rattle.std.proofs.Common.{ap₂}
use Rattle.std.proofs.lemmas.Bool.{false≢true}
use Rattle.chunk_codec.specs.Spots.{side_of}
use Rattle.chunk_codec.proofs.Order.{passes, sound_passes}
use Rattle.chunk_codec.proofs.Reading.{listed_rest, listed_count, listed_spots, flag_same}
use Rattle.chunk_codec.proofs.fields.list_of.Goals as goal

pub returns-then-rest-lt4 : goal.returns-then-rest-lt4
returns-then-rest-lt4 c listed sound e =
    let long : length c.args.rest.now ≡ 4 + 16 * length listed.list = listed_rest listed _ _ _ c.args.rest.now e in
    omega arith

pub returns-then-count-eq0 : goal.returns-then-count-eq0
returns-then-count-eq0 c listed sound e =
    let parts = listed_count listed _ _ _ c.number_of_32-count.result c.args.rest.now _ _ sound e
    c.split_at.ensures.by_index.0 c.split_at.ensures.front_len (omega arith) c.number_of_32-count.ensures in
    omega (arith, parts.0, sound.some)

pub returns-then-back-count : goal.returns-then-back-count
returns-then-back-count c listed sound e =
    let parts = listed_count listed _ _ _ c.number_of_32-count.result c.args.rest.now _ _ sound e
    c.split_at.ensures.by_index.0 c.split_at.ensures.front_len (omega arith) c.number_of_32-count.ensures in
    let long : length c.args.rest.now ≡ 4 + 16 * length listed.list = listed_rest listed _ _ _ c.args.rest.now e in
    omega (arith, parts.0, c.split_at.ensures.back_len)

pub returns-then-not-are_listed : goal.returns-then-not-are_listed
returns-then-not-are_listed c listed sound e =
    let parts = listed_count listed _ _ _ c.number_of_32-count.result c.args.rest.now _ _ sound e
    c.split_at.ensures.by_index.0 c.split_at.ensures.front_len (omega arith) c.number_of_32-count.ensures in
    let same : listed.list ≡ c.in_ok-list.list =
    listed_spots listed _ c.in_ok-list.list sound parts.1 c.in_ok-list.ensures.read (parts.0 ∙ sym c.in_ok-list.ensures.count) c.in_ok-list.ensures.widths in
    let leaf : listed.leaf ≡ c.args.leaf = cc in
    let height : listed.height ≡ c.args.height = cc in
    let flag : listed.symmetric ≡ c.args.symmetric = flag_same listed.symmetric c.args.symmetric (cc) in
    let side : c.side.result ≡ side_of listed.leaf listed.height =
    c.side.ensures ∙ ap₂ side_of (c.from-leaf.ensures ∙ sym leaf) (c.from-height.ensures ∙ sym height) in
    let test = sound_passes listed.leaf listed.height listed.symmetric listed.list sound in
    false≢true (c.if-not-are_listed.ensures ∙ ap₂ (λ s l. passes s c.args.symmetric l) side (c.as_slice.ensures ∙ sym same) ∙ ap (λ b. passes (side_of listed.leaf listed.height) b listed.list) (sym flag) ∙ test)
