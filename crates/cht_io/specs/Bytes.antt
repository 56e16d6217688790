-- What sources give and what sinks take, as lists of bytes. `None` is a device that does not tell its bytes.
use Rattle.std.specs.Prelude.{◌≡◌, ℕ, ◌<◌, ◌≤◌, List, [], ◌++◌, length, take, drop, Option, None, Some}

-- A read of n bytes into a buffer, from a source with these bytes left: they stand in the buffer's front and are
-- taken from what is left, and none come into a buffer with room only where nothing is left.
pub record ReadsFront (left : List ℕ) (buffer : List ℕ) (n : ℕ) (after : Option (List ℕ)) : Type 0 where
  pub in_stock : n ≤ length left
  pub given : take n buffer ≡ take n left
  pub rest : after ≡ Some (drop n left)
  pub end : 0 < length buffer → n ≡ 0 → left ≡ []

-- the same of a source that may not tell its bytes: one that does not tell them goes on so
abbrev pub Reads : Option (List ℕ) → List ℕ → ℕ → Option (List ℕ) → Type 0
Reads None buffer n after = after ≡ None
Reads (Some left) buffer n after = ReadsFront left buffer n after

-- what a sink took, after these bytes came
abbrev pub Adds : Option (List ℕ) → List ℕ → Option (List ℕ) → Type 0
Adds None bytes after = after ≡ None
Adds (Some taken) bytes after = after ≡ Some (taken ++ bytes)

-- after a front of these bytes came: perhaps none of them, perhaps all
abbrev pub AddsFront : Option (List ℕ) → List ℕ → Option (List ℕ) → Type 0
AddsFront taken bytes after = (n : ℕ) × Adds taken (take n bytes) after
