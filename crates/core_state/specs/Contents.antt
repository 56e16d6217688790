-- What contracts see of a core's control state and its journal, and what an event makes of them.
use Rattle.std.specs.Prelude.{ℕ, List, [], ◌∷◌, ◌++◌}
use Rattle.cht_history.specs.declared.event.Event.{Event}
use Rattle.name_machine.specs.Control.{Control, tidied, effect_with}

-- the control state, which keeps contents; the events so far; and how many callers and workers there are, whose numbers count from 0
pub record Contents (C K : Type 0) : Type 0 where
  pub control : Control C (Unit {0}) K
  pub events : List (Event K)
  pub callers : ℕ
  pub workers : ℕ

module _ {C K : Type 0} where
  -- An event happened, with these contents registered in order: the control state is what the event makes of it, what is not reached
  -- is gone, and the event stands at the end of the journal.
  abbrev pub after_event : Contents C K → List C → Event K → Contents C K
  after_event before contents event =
      record before {
        control = tidied (effect_with before.control contents event);
        events = before.events ++ event ∷ [];
      }
