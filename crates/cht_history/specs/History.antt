-- What contracts see of a journal.
use Rattle.std.specs.Prelude.{ℕ, List}
use Rattle.cht_history.specs.declared.event.Event.{Event}

-- the events in their order, and how many more can be added without memory
pub record History (K : Type 0) : Type 0 where
  pub events : List (Event K)
  pub spare : ℕ
