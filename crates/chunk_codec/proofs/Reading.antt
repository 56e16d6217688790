-- What a reader of fields says of every sound value with the same bytes.
use Rattle.std.proofs.Common.{◌≡◌, ℕ, ◌+◌, ◌*◌, ◌^◌, ◌<◌, ◌≤◌, Bool, true, false, List, [], ◌∷◌, ◌++◌, length, All, ℤ, FitsSigned, Result, Err, refl, ap, sym, subst, ◌∙◌, arith, length-append, append_assoc, append-nil, if◌then◌else◌}
use Rattle.std.specs.Prelude.{flat_map}
use Rattle.std.specs.Int.{w64, w128, cast_unsigned, cast_signed}
use Rattle.std.proofs.Math.Facts.{Fits-of_z}
use Rattle.std.proofs.lemmas.List.{flat_map_more}
use Rattle.std.proofs.lemmas.Int.{to_z-of_z}
use Rattle.cht_ids.specs.declared.unpack.Unpack.{Unpack}
use Rattle.cht_ids.specs.declared.unpack.Unpack.TheVariants.{NotChunk, Memory}
use Rattle.chunk_codec.specs.declared.plain.Spot.{Spot}
use Rattle.chunk_codec.specs.declared.plain.Plain.{Plain}
use Rattle.chunk_codec.specs.declared.plain.Plain.TheVariants.{Leaf, Node, SymLeaf, SymNode, Entries, Num}
use Rattle.chunk_codec.specs.declared.parts.Block.{Block}
use Rattle.chunk_codec.specs.declared.parts.Node.{Node as NodeFields}
use Rattle.chunk_codec.specs.declared.parts.Listed.{Listed}
use Rattle.chunk_codec.specs.Sound.{greatest, IsSound}
use Rattle.chunk_codec.specs.Bytes.{big_endian, long_bytes, spot_bytes, spelling, Reads}
use Rattle.chunk_codec.specs.Parts.{places_of, IsBlock, bytes_of_block, IsNode, bytes_of_node, AreListed, bytes_of_list, HasWidths}
use Rattle.chunk_codec.proofs.BigEndian.{front_same, length-big_endian, big_endian_same}
use Rattle.chunk_codec.proofs.Same.{length-pieces, pieces_same, length-long, long_same, small_all}
use Rattle.chunk_codec.proofs.Order.{sound_fits}

-- ---- Dense blocks

-- how long the fields of a sound block are
pub block_length : (triangle : Bool) (x : ℕ) (rest : List ℕ) (block : Block) → IsBlock triangle block → bytes_of_block block ≡ x ∷ rest
    → length rest ≡ 16 + 16 * places_of triangle x
block_length triangle x rest block sound e =
    let head : block.side ≡ x = cc in
    let tail : big_endian 16 (greatest block.entries) ++ flat_map long_bytes block.entries ≡ rest = cc in
    let pieces : length (flat_map long_bytes block.entries) ≡ 16 * length block.entries = length-pieces long_bytes 16 length-long block.entries in
    let front : length (big_endian 16 (greatest block.entries)) ≡ 16 = length-big_endian 16 (greatest block.entries) in
    let count : length block.entries ≡ places_of triangle x = sound.1 ∙ ap (places_of triangle) head in
    omega (arith, simp length-append at (ap length tail))

-- its peak and its numbers are those that were read
pub block_peak : (triangle : Bool) (x p : ℕ) (rest front back : List ℕ) (block : Block) → IsBlock triangle block → bytes_of_block block ≡ x ∷ rest
    → rest ≡ front ++ back → length front ≡ 16 → p < 2 ^ 128 → big_endian 16 p ≡ front
    → (greatest block.entries ≡ p) × (flat_map long_bytes block.entries ≡ back)
block_peak triangle x p rest front back block sound e split long below read =
    let tail : big_endian 16 (greatest block.entries) ++ flat_map long_bytes block.entries ≡ front ++ back = cc in
    let parts : (big_endian 16 (greatest block.entries) ≡ front) × (flat_map long_bytes block.entries ≡ back) =
    front_same (big_endian 16 (greatest block.entries)) front (flat_map long_bytes block.entries) back (length-big_endian 16 (greatest block.entries) ∙ sym long) tail in
    let small : greatest block.entries ≤ 2 ^ 126 = sound.0.range.small in
    (big_endian_same 16 (greatest block.entries) p (omega arith) below (parts.0 ∙ sym read), parts.1)

pub block_entries : (triangle : Bool) (x : ℕ) (rest back : List ℕ) (entries : List ℤ) (block : Block) → IsBlock triangle block → bytes_of_block block ≡ x ∷ rest
    → flat_map long_bytes block.entries ≡ back → flat_map long_bytes entries ≡ back → length entries ≡ places_of triangle x → All (FitsSigned w128) entries
    → block.entries ≡ entries
block_entries triangle x rest back entries block sound e one other count fits =
    let head : block.side ≡ x = cc in
    let long : length block.entries ≡ length entries = sound.1 ∙ ap (places_of triangle) head ∙ sym count in
    (pieces_same long_bytes 16 (FitsSigned w128) length-long long_same block.entries entries [] [] long
    (small_all block.entries sound.0.range.small) fits
    (append-nil (flat_map long_bytes block.entries) ∙ one ∙ sym other ∙ sym (append-nil (flat_map long_bytes entries)))).0

-- ---- Lists of entries

pub length-spot : (spot : Spot) → length (spot_bytes spot) ≡ 16
length-spot spot =
    let row : length (big_endian 4 spot.row) ≡ 4 = length-big_endian 4 spot.row in
    let column : length (big_endian 4 spot.column) ≡ 4 = length-big_endian 4 spot.column in
    let value : length (big_endian 8 (cast_unsigned w64 spot.value)) ≡ 8 = length-big_endian 8 (cast_unsigned w64 spot.value) in
    simp length-append (omega arith)

eight : (spot : Spot) → length (big_endian 4 spot.row ++ big_endian 4 spot.column) ≡ 8
eight spot =
    let row : length (big_endian 4 spot.row) ≡ 4 = length-big_endian 4 spot.row in
    let column : length (big_endian 4 spot.column) ≡ 4 = length-big_endian 4 spot.column in
    simp length-append (omega arith)

spot_of_fields : (one other : Spot) → one.row ≡ other.row → one.column ≡ other.column → one.value ≡ other.value → one ≡ other
spot_of_fields one other row column value =
    let by_row : ℕ → Spot = λ x. record { row = x; column = one.column; value = one.value } in
    let by_column : ℕ → Spot = λ x. record { row = other.row; column = x; value = one.value } in
    let by_value : ℤ → Spot = λ x. record { row = other.row; column = other.column; value = x } in
    ap by_row row ∙ ap by_column column ∙ ap by_value value

pub spot_same : (one other : Spot) → HasWidths one → HasWidths other → spot_bytes one ≡ spot_bytes other → one ≡ other
spot_same one other p q e =
    let places : (big_endian 4 one.row ++ big_endian 4 one.column ≡ big_endian 4 other.row ++ big_endian 4 other.column)
    × (big_endian 8 (cast_unsigned w64 one.value) ≡ big_endian 8 (cast_unsigned w64 other.value)) =
    front_same (big_endian 4 one.row ++ big_endian 4 one.column) (big_endian 4 other.row ++ big_endian 4 other.column) _ _ (eight one ∙ sym (eight other)) e in
    let parts : (big_endian 4 one.row ≡ big_endian 4 other.row) × (big_endian 4 one.column ≡ big_endian 4 other.column) =
    front_same (big_endian 4 one.row) (big_endian 4 other.row) (big_endian 4 one.column) (big_endian 4 other.column)
    (length-big_endian 4 one.row ∙ sym (length-big_endian 4 other.row)) places.0 in
    let row : one.row ≡ other.row = big_endian_same 4 one.row other.row (omega (arith, p.row)) (omega (arith, q.row)) parts.0 in
    let column : one.column ≡ other.column = big_endian_same 4 one.column other.column (omega (arith, p.column)) (omega (arith, q.column)) parts.1 in
    let bits : cast_unsigned w64 one.value ≡ cast_unsigned w64 other.value =
    big_endian_same 8 (cast_unsigned w64 one.value) (cast_unsigned w64 other.value) (omega (arith, Fits-of_z p.value)) (omega (arith, Fits-of_z q.value)) places.1 in
    let value : one.value ≡ other.value = sym (to_z-of_z w64 one.value p.value) ∙ ap (cast_signed w64) bits ∙ to_z-of_z w64 other.value q.value in
    spot_of_fields one other row column value

-- the fields of a sound list, as they were read
pub listed_rest : (listed : Listed) (x y z : ℕ) (rest : List ℕ) → bytes_of_list listed ≡ x ∷ y ∷ z ∷ rest
    → length rest ≡ 4 + 16 * length listed.list
listed_rest listed x y z rest e =
    let tail : big_endian 4 (length listed.list) ++ flat_map spot_bytes listed.list ≡ rest = cc in
    let pieces : length (flat_map spot_bytes listed.list) ≡ 16 * length listed.list = length-pieces spot_bytes 16 length-spot listed.list in
    let front : length (big_endian 4 (length listed.list)) ≡ 4 = length-big_endian 4 (length listed.list) in
    omega (arith, simp length-append at (ap length tail))

pub listed_count : (listed : Listed) (x y z count : ℕ) (rest front back : List ℕ) → AreListed listed → bytes_of_list listed ≡ x ∷ y ∷ z ∷ rest
    → rest ≡ front ++ back → length front ≡ 4 → count < 2 ^ 32 → big_endian 4 count ≡ front
    → (length listed.list ≡ count) × (flat_map spot_bytes listed.list ≡ back)
listed_count listed x y z count rest front back sound e split long below read =
    let tail : big_endian 4 (length listed.list) ++ flat_map spot_bytes listed.list ≡ front ++ back = cc in
    let parts : (big_endian 4 (length listed.list) ≡ front) × (flat_map spot_bytes listed.list ≡ back) =
    front_same (big_endian 4 (length listed.list)) front (flat_map spot_bytes listed.list) back (length-big_endian 4 (length listed.list) ∙ sym long) tail in
    (big_endian_same 4 (length listed.list) count (omega (arith, sound.few)) below (parts.0 ∙ sym read), parts.1)

pub listed_spots : (listed : Listed) (back : List ℕ) (list : List Spot) → AreListed listed
    → flat_map spot_bytes listed.list ≡ back → flat_map spot_bytes list ≡ back → length listed.list ≡ length list → All HasWidths list
    → listed.list ≡ list
listed_spots listed back list sound one other long fits =
    (pieces_same spot_bytes 16 HasWidths length-spot spot_same listed.list list [] [] long
    (sound_fits listed.leaf listed.height listed.symmetric listed.list sound) fits
    (append-nil (flat_map spot_bytes listed.list) ∙ one ∙ sym other ∙ sym (append-nil (flat_map spot_bytes list)))).0

-- the flag of a list
pub flag_same : (s t : Bool) → let one : ℕ = if s then 1 else 0 in let other : ℕ = if t then 1 else 0 in one ≡ other → s ≡ t
flag_same true true e = refl
flag_same true false e = absurd (omega arith)
flag_same false true e = absurd (omega arith)
flag_same false false e = refl

-- ---- Rows of pieces

-- one piece more
pub pieces_more : {A : Type 0} (f : A → List ℕ) (items : List A) (x : A) (bytes rest piece after : List ℕ) → flat_map f items ++ rest ≡ bytes → rest ≡ piece ++ after → f x ≡ piece
    → flat_map f (items ++ x ∷ []) ++ after ≡ bytes
pieces_more f items x bytes rest piece after old split read =
    let row : flat_map f items ++ f x ≡ flat_map f (items ++ x ∷ []) = flat_map_more f [] items x in
    let front : f x ++ after ≡ rest = ap (λ p. p ++ after) read ∙ sym split in
    ap (λ r. r ++ after) (sym row) ∙ append_assoc (flat_map f items) (f x) after ∙ ap (λ r. flat_map f items ++ r) front ∙ old

-- ---- Chunks, from their fields

-- what the fields give is what the tag and the fields give, where reading the fields failed
pub reads_err : {V : Type 0} (Sound : V → Type 0) (bytes_of : V → List ℕ) (fields : List ℕ) (tag : ℕ) (r : Result Plain Unpack) (e : Unpack) → r ≡ Err e
    → Reads Sound bytes_of fields (Err e)
    → (((value : V) → Sound value → bytes_of value ≡ fields → ⊥) → (plain : Plain) → IsSound plain → spelling plain ≡ tag ∷ fields → ⊥)
    → Reads IsSound spelling (tag ∷ fields) r
reads_err Sound bytes_of fields tag r NotChunk is none over = subst (Reads IsSound spelling (tag ∷ fields)) (sym is) (over none)
reads_err Sound bytes_of fields tag r Memory is none over = subst (Reads IsSound spelling (tag ∷ fields)) (sym is) tt

-- no chunk has the bytes of a tag and fields that no sound fields have
pub leaf_only : (fields : List ℕ) → ((block : Block) → IsBlock false block → bytes_of_block block ≡ fields → ⊥)
    → (plain : Plain) → IsSound plain → spelling plain ≡ 1 ∷ fields → ⊥
leaf_only fields none (Leaf side entries) sound e = none (record { side = side; entries = entries }) sound (cc)
leaf_only fields none (Node height peak) sound e = absurd (cc)
leaf_only fields none (SymLeaf side entries) sound e = absurd (cc)
leaf_only fields none (SymNode height peak) sound e = absurd (cc)
leaf_only fields none (Entries leaf height symmetric list) sound e = absurd (cc)
leaf_only fields none (Num number) sound e = absurd (cc)

pub node_only : (fields : List ℕ) → ((node : NodeFields) → IsNode node → bytes_of_node node ≡ fields → ⊥)
    → (plain : Plain) → IsSound plain → spelling plain ≡ 2 ∷ fields → ⊥
node_only fields none (Leaf side entries) sound e = absurd (cc)
node_only fields none (Node height peak) sound e = none (record { height = height; peak = peak }) sound (cc)
node_only fields none (SymLeaf side entries) sound e = absurd (cc)
node_only fields none (SymNode height peak) sound e = absurd (cc)
node_only fields none (Entries leaf height symmetric list) sound e = absurd (cc)
node_only fields none (Num number) sound e = absurd (cc)

pub sym_leaf_only : (fields : List ℕ) → ((block : Block) → IsBlock true block → bytes_of_block block ≡ fields → ⊥)
    → (plain : Plain) → IsSound plain → spelling plain ≡ 3 ∷ fields → ⊥
sym_leaf_only fields none (Leaf side entries) sound e = absurd (cc)
sym_leaf_only fields none (Node height peak) sound e = absurd (cc)
sym_leaf_only fields none (SymLeaf side entries) sound e = none (record { side = side; entries = entries }) sound (cc)
sym_leaf_only fields none (SymNode height peak) sound e = absurd (cc)
sym_leaf_only fields none (Entries leaf height symmetric list) sound e = absurd (cc)
sym_leaf_only fields none (Num number) sound e = absurd (cc)

pub sym_node_only : (fields : List ℕ) → ((node : NodeFields) → IsNode node → bytes_of_node node ≡ fields → ⊥)
    → (plain : Plain) → IsSound plain → spelling plain ≡ 4 ∷ fields → ⊥
sym_node_only fields none (Leaf side entries) sound e = absurd (cc)
sym_node_only fields none (Node height peak) sound e = absurd (cc)
sym_node_only fields none (SymLeaf side entries) sound e = absurd (cc)
sym_node_only fields none (SymNode height peak) sound e = none (record { height = height; peak = peak }) sound (cc)
sym_node_only fields none (Entries leaf height symmetric list) sound e = absurd (cc)
sym_node_only fields none (Num number) sound e = absurd (cc)

pub entries_only : (fields : List ℕ) → ((listed : Listed) → AreListed listed → bytes_of_list listed ≡ fields → ⊥)
    → (plain : Plain) → IsSound plain → spelling plain ≡ 5 ∷ fields → ⊥
entries_only fields none (Leaf side entries) sound e = absurd (cc)
entries_only fields none (Node height peak) sound e = absurd (cc)
entries_only fields none (SymLeaf side entries) sound e = absurd (cc)
entries_only fields none (SymNode height peak) sound e = absurd (cc)
entries_only fields none (Entries leaf height symmetric list) sound e = none (record { leaf = leaf; height = height; symmetric = symmetric; list = list }) sound (cc)
entries_only fields none (Num number) sound e = absurd (cc)

-- no chunk has another tag
pub no_tag : (tag : ℕ) (fields : List ℕ) → (tag ≡ 1 → ⊥) → (tag ≡ 2 → ⊥) → (tag ≡ 3 → ⊥) → (tag ≡ 4 → ⊥) → (tag ≡ 5 → ⊥) → (tag ≡ 6 → ⊥)
    → (plain : Plain) → IsSound plain → spelling plain ≡ tag ∷ fields → ⊥
no_tag tag fields one two three four five six (Leaf side entries) sound e = one (cc)
no_tag tag fields one two three four five six (Node height peak) sound e = two (cc)
no_tag tag fields one two three four five six (SymLeaf side entries) sound e = three (cc)
no_tag tag fields one two three four five six (SymNode height peak) sound e = four (cc)
no_tag tag fields one two three four five six (Entries leaf height symmetric list) sound e = five (cc)
no_tag tag fields one two three four five six (Num number) sound e = six (cc)
