-- Draws: a linear congruential generator over 64 bits (Knuth's multiplier), of which the high half is used.
use Rattle.std.specs.Prelude.{ℕ, zero, suc, ◌+◌, ◌*◌, ◌/◌, ◌%◌, ◌^◌}

-- the state after one draw
abbrev pub next : ℕ → ℕ
next state = (state * 6364136223846793005 + 1442695040888963407) % 2 ^ 64

-- the state after so many draws
unfoldable pub state_after : ℕ → ℕ → ℕ
state_after state zero = state
state_after state (suc k) = next (state_after state k)

-- what the draw with this number gives, counted from 1
abbrev pub draw : ℕ → ℕ → ℕ
draw state k = state_after state k / 2 ^ 32
