-- Fields that spell the same bytes are the same.
use Rattle.std.proofs.Common.{◌≡◌, ℕ, ◌*◌, ◌^◌, ◌<◌, ◌≤◌, List, [], ◌∷◌, ◌++◌, length, All, ℤ, pos, negsuc, unsigned_abs, FitsSigned, to_z-of_z, refl, ap, sym, ◌∙◌, arith, length-append, append_assoc}
use Rattle.std.proofs.Math.Facts.{Fits-of_z}
use Rattle.std.proofs.lemmas.List.Elements.{All-nil, All-cons, All-head, All-tail}
use Rattle.std.specs.Prelude.{flat_map}
use Rattle.std.specs.Int.{w128, cast_unsigned, cast_signed}
use Rattle.chunk_codec.specs.Sound.{greatest}
use Rattle.chunk_codec.specs.Bytes.{big_endian, long_bytes, block_bytes, node_bytes}
use Rattle.chunk_codec.proofs.BigEndian.{front_same, length-big_endian, big_endian_same}

-- ---- Rows of pieces

-- how long a row of pieces is, each of k bytes
pub length-pieces : {A : Type 0} (f : A → List ℕ) (k : ℕ) → ((x : A) → length (f x) ≡ k) → (xs : List A) → length (flat_map f xs) ≡ k * length xs
length-pieces f k each [] = omega arith
length-pieces f k each (x ∷ xs) =
    let rest : length (flat_map f xs) ≡ k * length xs = length-pieces f k each xs in
    simp length-append (omega (arith, each x))

-- two rows of pieces that begin alike are equal, where equal pieces are of equal values
pub pieces_same : {A : Type 0} (f : A → List ℕ) (k : ℕ) (Fits : A → Type 0) → ((x : A) → length (f x) ≡ k)
    → ((x y : A) → Fits x → Fits y → f x ≡ f y → x ≡ y)
    → (xs ys : List A) (us vs : List ℕ) → length xs ≡ length ys → All Fits xs → All Fits ys → flat_map f xs ++ us ≡ flat_map f ys ++ vs
    → (xs ≡ ys) × (us ≡ vs)
pieces_same f k Fits each one [] [] us vs l p q e = (refl, e)
pieces_same f k Fits each one [] (y ∷ ys) us vs l p q e = absurd (omega arith)
pieces_same f k Fits each one (x ∷ xs) [] us vs l p q e = absurd (omega arith)
pieces_same f k Fits each one (x ∷ xs) (y ∷ ys) us vs l p q e =
    let whole : f x ++ (flat_map f xs ++ us) ≡ f y ++ (flat_map f ys ++ vs) =
    sym (append_assoc (f x) (flat_map f xs) us) ∙ e ∙ append_assoc (f y) (flat_map f ys) vs in
    let parts : (f x ≡ f y) × (flat_map f xs ++ us ≡ flat_map f ys ++ vs) =
    front_same (f x) (f y) (flat_map f xs ++ us) (flat_map f ys ++ vs) (each x ∙ sym (each y)) whole in
    let head : x ≡ y = one x y (All-head Fits x xs p) (All-head Fits y ys q) parts.0 in
    let rest : (xs ≡ ys) × (us ≡ vs) =
    pieces_same f k Fits each one xs ys us vs (omega arith) (All-tail Fits x xs p) (All-tail Fits y ys q) parts.1 in
    (cc, rest.1)

-- ---- Signed numbers

pub length-long : (z : ℤ) → length (long_bytes z) ≡ 16
length-long z = length-big_endian 16 (cast_unsigned w128 z)

pub long_same : (y z : ℤ) → FitsSigned w128 y → FitsSigned w128 z → long_bytes y ≡ long_bytes z → y ≡ z
long_same y z p q e =
    let same : cast_unsigned w128 y ≡ cast_unsigned w128 z =
    big_endian_same 16 (cast_unsigned w128 y) (cast_unsigned w128 z) (omega (arith, Fits-of_z p)) (omega (arith, Fits-of_z q)) e in
    sym (to_z-of_z p) ∙ ap (cast_signed w128) same ∙ to_z-of_z q

-- a small number has 128 bits
pub small_fits : (z : ℤ) → unsigned_abs z ≤ 2 ^ 126 → FitsSigned w128 z
small_fits (pos n) h = record { sfits = omega arith }
small_fits (negsuc n) h = record { sfits = omega arith }

pub small_all : (numbers : List ℤ) → greatest numbers ≤ 2 ^ 126 → All (FitsSigned w128) numbers
small_all [] h = All-nil (FitsSigned w128)
small_all (number ∷ numbers) h =
    All-cons (FitsSigned w128) number numbers (small_fits number (omega arith)) (small_all numbers (omega arith))

-- ---- Fields

-- the same node
pub node_same : (h k p q : ℕ) (us vs : List ℕ) → p < 2 ^ 128 → q < 2 ^ 128 → node_bytes h p ++ us ≡ node_bytes k q ++ vs → (h ≡ k) × (p ≡ q) × (us ≡ vs)
node_same h k p q us vs low high e =
    let head : h ≡ k = cc in
    let tail : big_endian 16 p ++ us ≡ big_endian 16 q ++ vs = cc in
    let parts : (big_endian 16 p ≡ big_endian 16 q) × (us ≡ vs) =
    front_same (big_endian 16 p) (big_endian 16 q) us vs (length-big_endian 16 p ∙ sym (length-big_endian 16 q)) tail in
    (head, big_endian_same 16 p q low high parts.0, parts.1)

-- the same dense block
pub block_same : (s t p q : ℕ) (es fs : List ℤ) (us vs : List ℕ) → p < 2 ^ 128 → q < 2 ^ 128 → length es ≡ length fs
    → All (FitsSigned w128) es → All (FitsSigned w128) fs → block_bytes s p es ++ us ≡ block_bytes t q fs ++ vs
    → (s ≡ t) × (p ≡ q) × (es ≡ fs) × (us ≡ vs)
block_same s t p q es fs us vs low high l x y e =
    let head : s ≡ t = cc in
    let tail : (big_endian 16 p ++ flat_map long_bytes es) ++ us ≡ (big_endian 16 q ++ flat_map long_bytes fs) ++ vs = cc in
    let whole : big_endian 16 p ++ (flat_map long_bytes es ++ us) ≡ big_endian 16 q ++ (flat_map long_bytes fs ++ vs) =
    sym (append_assoc (big_endian 16 p) (flat_map long_bytes es) us) ∙ tail ∙ append_assoc (big_endian 16 q) (flat_map long_bytes fs) vs in
    let parts : (big_endian 16 p ≡ big_endian 16 q) × (flat_map long_bytes es ++ us ≡ flat_map long_bytes fs ++ vs) =
    front_same (big_endian 16 p) (big_endian 16 q) (flat_map long_bytes es ++ us) (flat_map long_bytes fs ++ vs) (length-big_endian 16 p ∙ sym (length-big_endian 16 q)) whole in
    let rest : (es ≡ fs) × (us ≡ vs) =
    pieces_same long_bytes 16 (FitsSigned w128) length-long long_same es fs us vs l x y parts.1 in
    (head, big_endian_same 16 p q low high parts.0, rest.0, rest.1)
