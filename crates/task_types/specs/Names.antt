-- The names of kinds.
use Rattle.std.specs.Prelude.{ℕ, ◌≤◌, Bool, ◌&&◌, ◌||◌, nat_le, IsTrue, List, length}
use Rattle.std.specs.List.{list_all}

-- a lower-case letter (97 to 122) or a digit (48 to 57)
abbrev pub is_name_byte : ℕ → Bool
is_name_byte byte = (nat_le 97 byte && nat_le byte 122) || (nat_le 48 byte && nat_le byte 57)

-- 1 to 40 bytes, each a lower-case letter or a digit
abbrev pub IsName : List ℕ → Type 0
IsName name = (1 ≤ length name) × (length name ≤ 40) × IsTrue (list_all is_name_byte name)
