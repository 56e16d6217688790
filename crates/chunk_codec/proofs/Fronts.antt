-- Bytes of sound chunks, one the front of the other.
use Rattle.std.proofs.Common.{◌≡◌, ℕ, ◌+◌, ◌*◌, ◌/◌, ◌^◌, ◌≤◌, Bool, List, [], ◌++◌, length, ℤ, ap, sym, ◌∙◌, arith, append_assoc, append-nil}
use Rattle.std.specs.Prelude.{flat_map}
use Rattle.chunk_codec.specs.declared.plain.Spot.{Spot}
use Rattle.chunk_codec.specs.declared.plain.Plain.{Plain}
use Rattle.chunk_codec.specs.declared.plain.Plain.TheVariants.{Leaf, Node, SymLeaf, SymNode, Entries, Num}
use Rattle.chunk_codec.specs.Spots.{AreSoundSpots}
use Rattle.chunk_codec.specs.Sound.{greatest, IsSound, IsSoundBlock, IsSoundNode, IsSoundNumber}
use Rattle.chunk_codec.specs.Bytes.{big_endian, long_bytes, spot_bytes, block_bytes, node_bytes, list_bytes, spelling}
use Rattle.chunk_codec.specs.Parts.{HasWidths}
use Rattle.chunk_codec.specs.Laws.{BytesHaveOneChunk, NothingFollows}
use Rattle.chunk_codec.proofs.BigEndian.{front_same, length-big_endian, big_endian_same}
use Rattle.chunk_codec.proofs.Same.{pieces_same, length-long, long_same, small_fits, small_all, node_same, block_same}
use Rattle.chunk_codec.proofs.Order.{sound_fits}
use Rattle.chunk_codec.proofs.Reading.{length-spot, spot_same, flag_same}

-- ---- Form by form

block_front : (places : ℕ → ℕ) (s t : ℕ) (es fs : List ℤ) (more : List ℕ) → IsSoundBlock s (greatest es) → length es ≡ places s → IsSoundBlock t (greatest fs) → length fs ≡ places t
    → block_bytes s (greatest es) es ++ more ≡ block_bytes t (greatest fs) fs → (s ≡ t) × (es ≡ fs) × (more ≡ [])
block_front places s t es fs more p l q m e =
    let head : s ≡ t = cc in
    let low : greatest es ≤ 2 ^ 126 = p.range.small in
    let high : greatest fs ≤ 2 ^ 126 = q.range.small in
    let parts : (s ≡ t) × (greatest es ≡ greatest fs) × (es ≡ fs) × (more ≡ []) =
    block_same s t (greatest es) (greatest fs) es fs more [] (omega arith) (omega arith) (l ∙ ap places head ∙ sym m) (small_all es low) (small_all fs high)
    (e ∙ sym (append-nil (block_bytes t (greatest fs) fs))) in
    (parts.0, parts.2, parts.3)

node_front : (h k p q : ℕ) (more : List ℕ) → IsSoundNode h p → IsSoundNode k q → node_bytes h p ++ more ≡ node_bytes k q → (h ≡ k) × (p ≡ q) × (more ≡ [])
node_front h k p q more one other e =
    let low : p ≤ 2 ^ 126 = one.range.small in
    let high : q ≤ 2 ^ 126 = other.range.small in
    node_same h k p q more [] (omega arith) (omega arith) (e ∙ sym (append-nil (node_bytes k q)))

list_front : (b c h k : ℕ) (s t : Bool) (xs ys : List Spot) (more : List ℕ) → AreSoundSpots b h s xs → AreSoundSpots c k t ys
    → list_bytes b h s xs ++ more ≡ list_bytes c k t ys → (b ≡ c) × (h ≡ k) × (s ≡ t) × (xs ≡ ys) × (more ≡ [])
list_front b c h k s t xs ys more one other e =
    let leaf : b ≡ c = cc in
    let height : h ≡ k = cc in
    let flag : s ≡ t = flag_same s t (cc) in
    let tail : (big_endian 4 (length xs) ++ flat_map spot_bytes xs) ++ more ≡ big_endian 4 (length ys) ++ flat_map spot_bytes ys = cc in
    let parts : (big_endian 4 (length xs) ≡ big_endian 4 (length ys)) × (flat_map spot_bytes xs ++ more ≡ flat_map spot_bytes ys) =
    front_same (big_endian 4 (length xs)) (big_endian 4 (length ys)) (flat_map spot_bytes xs ++ more) (flat_map spot_bytes ys)
    (length-big_endian 4 (length xs) ∙ sym (length-big_endian 4 (length ys))) (sym (append_assoc (big_endian 4 (length xs)) (flat_map spot_bytes xs) more) ∙ tail) in
    let long : length xs ≡ length ys = big_endian_same 4 (length xs) (length ys) (omega (arith, one.few)) (omega (arith, other.few)) parts.0 in
    let rest : (xs ≡ ys) × (more ≡ []) =
    pieces_same spot_bytes 16 HasWidths length-spot spot_same xs ys more [] long (sound_fits b h s xs one) (sound_fits c k t ys other)
    (parts.1 ∙ sym (append-nil (flat_map spot_bytes ys))) in
    (leaf, height, flag, rest.0, rest.1)

number_front : (y z : ℤ) (more : List ℕ) → IsSoundNumber y → IsSoundNumber z → long_bytes y ++ more ≡ long_bytes z → (y ≡ z) × (more ≡ [])
number_front y z more one other e =
    let parts : (long_bytes y ≡ long_bytes z) × (more ≡ []) =
    front_same (long_bytes y) (long_bytes z) more [] (length-long y ∙ sym (length-long z)) (e ∙ sym (append-nil (long_bytes z))) in
    (long_same y z (small_fits y one.small) (small_fits z other.small) parts.0, parts.1)

-- ---- All forms

pub chunk_front : (one other : Plain) (more : List ℕ) → IsSound one → IsSound other → spelling one ++ more ≡ spelling other → (one ≡ other) × (more ≡ [])
chunk_front (Leaf side entries) (Leaf side' entries') more p q e =
    let same : (side ≡ side') × (entries ≡ entries') × (more ≡ []) = block_front (λ n. n * n) side side' entries entries' more p.0 p.1 q.0 q.1 (cc) in
    (cc, same.2)
chunk_front (Leaf side entries) (Node height' peak') more p q e = absurd (cc)
chunk_front (Leaf side entries) (SymLeaf side' entries') more p q e = absurd (cc)
chunk_front (Leaf side entries) (SymNode height' peak') more p q e = absurd (cc)
chunk_front (Leaf side entries) (Entries leaf' height' symmetric' list') more p q e = absurd (cc)
chunk_front (Leaf side entries) (Num number') more p q e = absurd (cc)
chunk_front (Node height peak) (Leaf side' entries') more p q e = absurd (cc)
chunk_front (Node height peak) (Node height' peak') more p q e =
    let same : (height ≡ height') × (peak ≡ peak') × (more ≡ []) = node_front height height' peak peak' more p q (cc) in
    (cc, same.2)
chunk_front (Node height peak) (SymLeaf side' entries') more p q e = absurd (cc)
chunk_front (Node height peak) (SymNode height' peak') more p q e = absurd (cc)
chunk_front (Node height peak) (Entries leaf' height' symmetric' list') more p q e = absurd (cc)
chunk_front (Node height peak) (Num number') more p q e = absurd (cc)
chunk_front (SymLeaf side entries) (Leaf side' entries') more p q e = absurd (cc)
chunk_front (SymLeaf side entries) (Node height' peak') more p q e = absurd (cc)
chunk_front (SymLeaf side entries) (SymLeaf side' entries') more p q e =
    let same : (side ≡ side') × (entries ≡ entries') × (more ≡ []) = block_front (λ n. n * (n + 1) / 2) side side' entries entries' more p.0 p.1 q.0 q.1 (cc) in
    (cc, same.2)
chunk_front (SymLeaf side entries) (SymNode height' peak') more p q e = absurd (cc)
chunk_front (SymLeaf side entries) (Entries leaf' height' symmetric' list') more p q e = absurd (cc)
chunk_front (SymLeaf side entries) (Num number') more p q e = absurd (cc)
chunk_front (SymNode height peak) (Leaf side' entries') more p q e = absurd (cc)
chunk_front (SymNode height peak) (Node height' peak') more p q e = absurd (cc)
chunk_front (SymNode height peak) (SymLeaf side' entries') more p q e = absurd (cc)
chunk_front (SymNode height peak) (SymNode height' peak') more p q e =
    let same : (height ≡ height') × (peak ≡ peak') × (more ≡ []) = node_front height height' peak peak' more p q (cc) in
    (cc, same.2)
chunk_front (SymNode height peak) (Entries leaf' height' symmetric' list') more p q e = absurd (cc)
chunk_front (SymNode height peak) (Num number') more p q e = absurd (cc)
chunk_front (Entries leaf height symmetric list) (Leaf side' entries') more p q e = absurd (cc)
chunk_front (Entries leaf height symmetric list) (Node height' peak') more p q e = absurd (cc)
chunk_front (Entries leaf height symmetric list) (SymLeaf side' entries') more p q e = absurd (cc)
chunk_front (Entries leaf height symmetric list) (SymNode height' peak') more p q e = absurd (cc)
chunk_front (Entries leaf height symmetric list) (Entries leaf' height' symmetric' list') more p q e =
    let same : (leaf ≡ leaf') × (height ≡ height') × (symmetric ≡ symmetric') × (list ≡ list') × (more ≡ []) =
    list_front leaf leaf' height height' symmetric symmetric' list list' more p q (cc) in
    (cc, same.4)
chunk_front (Entries leaf height symmetric list) (Num number') more p q e = absurd (cc)
chunk_front (Num number) (Leaf side' entries') more p q e = absurd (cc)
chunk_front (Num number) (Node height' peak') more p q e = absurd (cc)
chunk_front (Num number) (SymLeaf side' entries') more p q e = absurd (cc)
chunk_front (Num number) (SymNode height' peak') more p q e = absurd (cc)
chunk_front (Num number) (Entries leaf' height' symmetric' list') more p q e = absurd (cc)
chunk_front (Num number) (Num number') more p q e =
    let same : (number ≡ number') × (more ≡ []) = number_front number number' more p q (cc) in
    (cc, same.1)

pub one_chunk : BytesHaveOneChunk
one_chunk one other p q e = (chunk_front one other [] p q (append-nil (spelling one) ∙ e)).0

pub nothing_more : NothingFollows
nothing_more one other more p q e = (chunk_front one other more p q e).1
