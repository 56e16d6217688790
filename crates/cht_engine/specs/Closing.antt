-- What the events of an engine that was closed tell.
use Rattle.std.specs.Prelude.{◌≡◌, ℕ, Bool, true, false, List, filter, count_by, Some}
use Rattle.cht_history.specs.declared.event.Event.{Event}
use Rattle.cht_history.specs.declared.event.Event.TheVariants.{Register, Copy, Delete, Ask, Collect, Abandon, Stop, Start, GiveBack, Finish}
use Rattle.name_machine.specs.Parts.{is_callers_own}
use Rattle.name_machine.specs.Replay.{Plans, Replayed, replay}
use Rattle.name_machine.specs.Standing.{HasNothing}
use Rattle.cht_engine.specs.Seen.{Seen}

module _ {K : Type 0} where
  -- whether an event is the finish of a task
  abbrev pub is_finish : Event K → Bool
  is_finish (Register caller id children) = false
  is_finish (Copy caller from to) = false
  is_finish (Delete caller id) = false
  is_finish (Ask caller task kind inputs) = false
  is_finish (Collect caller task got) = false
  is_finish (Abandon caller) = false
  is_finish (Stop caller) = false
  is_finish (Start worker task) = false
  is_finish (GiveBack worker task) = false
  is_finish (Finish worker task chunks tasks result) = true

  -- a replay of events leads to the empty state: nothing is live, registered, asked or unfinished, and nobody is stopped
  abbrev pub EndsEmpty : Plans K → List (Event K) → Type 0
  EndsEmpty plans events = (control : Replayed K) × (replay plans events ≡ Some control) × HasNothing control

-- The events of an engine whose caller holds nothing any more: they can be replayed, to the empty state; the caller's own among them are
-- those of the calls that it made; and as many tasks were finished as its account says.
pub record AreClosed {C K : Type 0} (plans : Plans K) (seen : Seen C K) (events : List (Event K)) : Type 0 where
  pub empty : EndsEmpty plans events
  pub own : filter (is_callers_own seen.caller) events ≡ seen.events
  pub finished : count_by is_finish events ≡ seen.account
