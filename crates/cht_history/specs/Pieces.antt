-- How the pieces of a journal stand for its events. No contract that a caller sees speaks of these.
use Rattle.std.specs.Prelude.{◌≡◌, ◌⊎◌, ℕ, ◌+◌, ◌-◌, ◌*◌, ◌≤◌, ◌^◌, List, ◌++◌, length, vec_items, vec_len, vec_capacity}
use Rattle.std.specs.List.{flat_map, AllByRecursion}
use Rattle.cht_history.specs.declared.event.Event.{Event}
use Rattle.cht_history.specs.declared.pieces.Pieces.{Pieces}

module _ {K : Type 0} where
  -- the events of the full pieces, and then those of the piece that is written
  abbrev pub events_of : Pieces K → List (Event K)
  events_of pieces = flat_map (λ piece. vec_items piece) pieces.full.items ++ pieces.current.items

  -- the room in the piece that is written and in the empty pieces
  abbrev pub room_of : Pieces K → ℕ
  room_of pieces = (vec_capacity pieces.current - vec_len pieces.current) + vec_len pieces.spares * 1024

  -- Full pieces have 1024 events. The piece that is written has room for as many, or for none before the first; the
  -- others are empty, with room for as many.
  pub record IsPieced (pieces : Pieces K) : Type 0 where
    pub full : AllByRecursion (λ piece. length (vec_items piece) ≡ 1024) pieces.full.items
    pub current : (vec_capacity pieces.current ≡ 1024) ⊎ (vec_capacity pieces.current ≡ 0)
    pub within : vec_len pieces.current ≤ vec_capacity pieces.current
    pub spares : AllByRecursion (λ piece. (length (vec_items piece) ≡ 0) × (vec_capacity piece ≡ 1024)) pieces.spares.items
    pub room : vec_len pieces.full + vec_len pieces.spares ≤ vec_capacity pieces.full
    pub few : vec_len pieces.full + vec_len pieces.spares ≤ 2 ^ 53
