-- Numbers as bytes, the highest byte first.
use Rattle.std.proofs.Common.{◌≡◌, ℕ, zero, suc, ◌+◌, ◌*◌, ◌/◌, ◌%◌, ◌^◌, ◌<◌, ◌≤◌, max, List, [], ◌∷◌, ◌++◌, length, take, get_or, ℤ, unsigned_abs, refl, ap, sym, subst, ◌∙◌, arith, lit<, length-append}
use Rattle.std.proofs.Math.Nat.{div-div-eq-div-mul, pow-le-pow_right}
use Rattle.std.proofs.Math.Seq.{take-suc}
use Rattle.std.specs.Int.{byte_at, bytes_high_first}
use Rattle.chunk_codec.specs.Bytes.{big_endian}
use Rattle.chunk_codec.specs.Sound.{greatest}

-- ---- Two rows that are equal

-- the fronts are equal where they are equally long, and so are the rests
pub front_same : {A : Type 0} (xs ys us vs : List A) → length xs ≡ length ys → xs ++ us ≡ ys ++ vs → (xs ≡ ys) × (us ≡ vs)
front_same [] [] us vs l e = (refl, e)
front_same [] (y ∷ ys) us vs l e = absurd (omega arith)
front_same (x ∷ xs) [] us vs l e = absurd (omega arith)
front_same (x ∷ xs) (y ∷ ys) us vs l e =
    let head : x ≡ y = cc in
    let tail : xs ++ us ≡ ys ++ vs = cc in
    let rest : (xs ≡ ys) × (us ≡ vs) = front_same xs ys us vs (omega arith) tail in
    (cc, rest.1)

-- ---- Bytes of numbers

pub length-big_endian : (k n : ℕ) → length (big_endian k n) ≡ k
unfolding big_endian
length-big_endian zero n = refl
length-big_endian (suc k) n =
    let low : length (big_endian k (n / 256)) ≡ k = length-big_endian k (n / 256) in
    simp length-append (omega arith)

-- two numbers of k bytes are equal where their bytes are
pub big_endian_same : (k n m : ℕ) → n < 256 ^ k → m < 256 ^ k → big_endian k n ≡ big_endian k m → n ≡ m
unfolding big_endian
big_endian_same zero n m p q e = omega arith
big_endian_same (suc k) n m p q e =
    let parts : (big_endian k (n / 256) ≡ big_endian k (m / 256)) × (n % 256 ∷ [] ≡ m % 256 ∷ []) =
    front_same (big_endian k (n / 256)) (big_endian k (m / 256)) (n % 256 ∷ []) (m % 256 ∷ []) (length-big_endian k (n / 256) ∙ sym (length-big_endian k (m / 256))) e in
    let low : n % 256 ≡ m % 256 = cc in
    let high : n / 256 ≡ m / 256 = big_endian_same k (n / 256) (m / 256) (omega arith) (omega arith) parts.0 in
    omega arith

-- one byte more
pub big_endian_more : (k n b : ℕ) → b < 256 → big_endian (suc k) (n * 256 + b) ≡ big_endian k n ++ (b ∷ [])
unfolding big_endian
big_endian_more k n b h =
    let high : (n * 256 + b) / 256 ≡ n = omega arith in
    let low : (n * 256 + b) % 256 ≡ b = omega arith in
    rw (high, low) refl

byte_below : (k n : ℕ) → byte_at (suc k) n ≡ byte_at k (n / 256)
byte_below zero n = refl
byte_below (suc k) n =
    let power : 256 * 256 ^ suc k ≡ 256 ^ suc (suc k) = omega arith in
    ap (λ d. n / d % 256) (sym power) ∙ ap (λ q. q % 256) (sym (div-div-eq-div-mul n 256 (256 ^ suc k)))

high_first_more : (k n : ℕ) → bytes_high_first (suc k) n ≡ bytes_high_first k (n / 256) ++ (n % 256 ∷ [])
high_first_more zero n = refl
high_first_more (suc k) n =
    let rest : bytes_high_first (suc k) n ≡ bytes_high_first k (n / 256) ++ (n % 256 ∷ []) = high_first_more k n in
    let first : byte_at (suc k) n ≡ byte_at k (n / 256) = byte_below k n in
    let P : ℕ → List ℕ → Type 0 = λ byte bytes. byte_at (suc k) n ∷ bytes_high_first (suc k) n ≡ byte ∷ bytes in
    subst (λ byte. P byte (bytes_high_first k (n / 256) ++ (n % 256 ∷ []))) first (ap (λ bytes. byte_at (suc k) n ∷ bytes) rest)

-- std's bytes are these
pub high_first_is : (k n : ℕ) → bytes_high_first k n ≡ big_endian k n
unfolding big_endian
high_first_is zero n = refl
high_first_is (suc k) n = high_first_more k n ∙ ap (λ bytes. bytes ++ (n % 256 ∷ [])) (high_first_is k (n / 256))

-- ---- The greatest number, as far as a walk has come

pub greatest_more : (numbers : List ℤ) (i : ℕ) (d : ℤ) → i < length numbers → greatest (take (suc i) numbers) ≡ max (unsigned_abs (get_or numbers i d)) (greatest (take i numbers))
greatest_more [] i d h = absurd (omega arith)
greatest_more (number ∷ numbers) zero d h = refl
greatest_more (number ∷ numbers) (suc i) d h =
    let more : greatest (take (suc i) numbers) ≡ max (unsigned_abs (get_or numbers i d)) (greatest (take i numbers)) =
    greatest_more numbers i d (omega arith) in
    omega arith

-- ---- Reading a number byte by byte

pub big_endian_none : (n : ℕ) → big_endian 0 n ≡ []
unfolding big_endian
big_endian_none n = refl

-- below 16 bytes there is room for one more in 128 bits
pub room_for_byte : (i n b : ℕ) → i < 16 → n < 256 ^ i → b < 256 → n * 256 + b < 2 ^ 128
room_for_byte i n b h below byte =
    let most : 256 ^ i ≤ 256 ^ 15 = pow-le-pow_right {n = 256} (lit< tt) {i = i} {j = 15} (omega arith) in
    let product : n * 256 + b < 256 ^ 15 * 256 = omega arith in
    product

pub more_bytes : (i n b : ℕ) → n < 256 ^ i → b < 256 → n * 256 + b < 256 ^ suc i
more_bytes i n b below byte = omega arith

pub big_endian_step : (bytes : List ℕ) (i n : ℕ) → i < length bytes → get_or bytes i 0 < 256 → big_endian i n ≡ take i bytes → big_endian (suc i) (n * 256 + get_or bytes i 0) ≡ take (suc i) bytes
big_endian_step bytes i n h byte e = big_endian_more i n (get_or bytes i 0) byte ∙ ap (λ front. front ++ (get_or bytes i 0 ∷ [])) e ∙ sym (take-suc bytes i 0 h)
