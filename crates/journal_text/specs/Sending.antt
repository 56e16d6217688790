-- Text that goes to a sink in pieces: a front of it was taken, and the rest is held.
use Rattle.std.specs.Prelude.{◌≡◌, ℕ, List, ◌++◌, Option}
use Rattle.cht_io.specs.Bytes.{Adds}

-- A text came behind what was held: a front of both together was taken, and the rest is held now.
pub record IsSent (before : Option (List ℕ)) (held text : List ℕ) (now : Option (List ℕ)) (left : List ℕ) : Type 0 where
  pub front : List ℕ
  pub whole : front ++ left ≡ held ++ text
  pub taken : Adds before front now
