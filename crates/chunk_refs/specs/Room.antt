-- What contracts see of `Refs`: the names, and the room for more of them.
use Rattle.std.specs.Prelude.{◌≡◌, ℕ, ◌+◌, ◌≤◌, List, length, slice_get, None, Some}
use Rattle.name_states.specs.States.{NameState}

-- how many bodies of each worker, by its number, and how many identifiers can be added without memory
pub record Room : Type 0 where
  pub bodies : List ℕ
  pub ids : ℕ

-- the names, and the room that is left
pub record Contents (C : Type 0) : Type 0 where
  pub names : NameState C
  pub room : Room

-- a number in a list, 0 past its end
abbrev pub spare_at : List ℕ → ℕ → ℕ
spare_at spares worker = elim (slice_get spares worker) [ None ↦ 0 | Some spare ↦ spare ]

-- room for at least as much, for as many workers
pub record IsAtLeast (before after : Room) : Type 0 where
  pub workers : length after.bodies ≡ length before.bodies
  pub bodies : (worker : ℕ) → spare_at before.bodies worker ≤ spare_at after.bodies worker
  pub ids : before.ids ≤ after.ids

-- room for at least as much but for one body of a worker and so many identifiers
pub record IsLeft (before after : Room) (worker used : ℕ) : Type 0 where
  pub workers : length after.bodies ≡ length before.bodies
  pub own : spare_at before.bodies worker ≤ spare_at after.bodies worker + 1
  pub others : (other : ℕ) → (other ≡ worker → ⊥) → spare_at before.bodies other ≤ spare_at after.bodies other
  pub ids : before.ids ≤ after.ids + used

module _ {C : Type 0} where
  -- how many workers own bodies here
  abbrev pub workers_of : Contents C → ℕ
  workers_of contents = length contents.room.bodies

  -- how many bodies of a worker can be added without memory
  abbrev pub spare_of : Contents C → ℕ → ℕ
  spare_of contents worker = spare_at contents.room.bodies worker
