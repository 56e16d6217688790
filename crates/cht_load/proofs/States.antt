-- States after draws, and texts one after another.
use Rattle.std.proofs.Common.{◌≡◌, ℕ, zero, suc, ◌+◌, ◌*◌, ◌/◌, ◌%◌, ◌^◌, List, [], ◌++◌, refl, ap, sym, ◌∙◌, arith, append_assoc, append-nil, ap₂, pos, ◌-ℤ◌, ◌<◌, of_z, to_z}
use Rattle.std.proofs.lemmas.Int.{ints}
use Rattle.std.specs.Int.{w32}
use Rattle.cht_load.specs.Draws.{next, state_after, draw}
use Rattle.cht_load.specs.Script.{texts, column_of}

-- one draw more
pub state_none : (state : ℕ) → state_after state 0 ≡ state
unfolding state_after
state_none state = refl

pub state_more : (state k : ℕ) → state_after state (suc k) ≡ next (state_after state k)
unfolding state_after
state_more state k = refl

-- so many draws, and so many more
pub state_add : (state m n : ℕ) → state_after state (m + n) ≡ state_after (state_after state m) n
unfolding state_after
state_add state m zero = ap (state_after state) (omega arith)
state_add state m (suc n) =
    let more : m + suc n ≡ suc (m + n) = omega arith in
    ap (state_after state) more ∙ ap next (state_add state m n)

-- the code's sum and product
pub wrapped_is : (state : ℕ) → ((state * 6364136223846793005) % 2 ^ 64 + 1442695040888963407) % 2 ^ 64 ≡ next state
wrapped_is state = omega arith

-- one text more
pub texts_none : (f : ℕ → List ℕ) → texts f 0 ≡ []
unfolding texts
texts_none f = refl

pub texts_more : (f : ℕ → List ℕ) (n : ℕ) → texts f (suc n) ≡ texts f n ++ f n
unfolding texts
texts_more f n = refl

pub texts_step : (f : ℕ → List ℕ) (n : ℕ) (front before after last : List ℕ) → before ≡ front ++ texts f n → after ≡ before ++ last → last ≡ f n → after ≡ front ++ texts f (suc n)
texts_step f n front before after last old more is =
    more ∙ ap (λ b. b ++ last) old ∙ append_assoc front (texts f n) last ∙ ap (λ l. front ++ (texts f n ++ l)) is ∙ ap (λ t. front ++ t) (sym (texts_more f n))

pub texts_start : (f : ℕ → List ℕ) (front : List ℕ) → front ≡ front ++ texts f 0
texts_start f front = sym (ap (λ t. front ++ t) (texts_none f) ∙ append-nil front)

pub draw_first : (state after : ℕ) → after ≡ next state → after ≡ state_after state 1
draw_first state after e = e ∙ ap next (sym (state_none state)) ∙ sym (state_more state 0)

pub draw_more : (state k before after : ℕ) → before ≡ state_after state k → after ≡ next before → after ≡ state_after state (suc k)
draw_more state k before after old e = e ∙ ap next old ∙ sym (state_more state k)

-- what a draw gives, from the states before and after it
pub drawn_is : (state k after value : ℕ) → after ≡ state_after state k → value ≡ after / 2 ^ 32 → value ≡ draw state k
drawn_is state k after value e v = v ∙ ap (λ s. s / 2 ^ 32) e

pub value_is : (d : ℕ) → to_z w32 (of_z w32 (to_z w32 (d % 199) -ℤ pos 99)) ≡ pos (d % 199) -ℤ pos 99
value_is d =
    let small : d % 199 < 199 = omega arith in
    omega (arith, ints)

pub column_is : (size fill state k start reach wide : ℕ) → start ≡ draw state 1 → reach ≡ k * (size / fill) → wide ≡ size → 1 + (start + reach) % wide ≡ column_of size fill state k
column_is size fill state k start reach wide e f g =
    ap (λ w. 1 + (start + reach) % w) g ∙ ap₂ (λ x y. 1 + (x + y) % size) e f

-- the next row begins where the row before it left off
pub row_more : (state r fill before after : ℕ) → before ≡ state_after state (r * (fill + 1)) → after ≡ state_after before (fill + 1) → after ≡ state_after state (suc r * (fill + 1))
row_more state r fill before after old more =
    let count : suc r * (fill + 1) ≡ r * (fill + 1) + (fill + 1) = omega arith in
    more ∙ ap (λ s. state_after s (fill + 1)) old ∙ sym (state_add state (r * (fill + 1)) (fill + 1)) ∙ ap (state_after state) (sym count)
