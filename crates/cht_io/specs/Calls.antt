-- Calls that are numbered, so that some of them can be made to fail.
use Rattle.std.specs.Prelude.{ℕ, ◌+◌, ◌-◌, ◌^◌, min, Bool, ◌==◌, List}
use Rattle.std.specs.List.{list_any}

-- the number of the call after this one: one more, up to the last number of 64 bits, which then comes again
abbrev pub next_call : ℕ → ℕ
next_call calls = min (calls + 1) (2 ^ 64 - 1)

-- whether the next call has one of the numbers that fail
abbrev pub fails_next : List ℕ → ℕ → Bool
fails_next fails calls = list_any (λ k. k == next_call calls) fails
