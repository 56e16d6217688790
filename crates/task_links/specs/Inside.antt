-- How the fields behind `Tasks` stand for tasks. No contract that a caller sees speaks of these.
use Rattle.std.specs.Prelude.{◌≡◌, ℕ, cond, nat_eq, take, Bool, ◌&&◌, List, map as each, set, slice_get, Option, None, Some}
use Rattle.std.specs.Map.{lookup}
use Rattle.std.specs.Option.{option_map}
use Rattle.std.specs.HashMap.{spare, hash_map_len}
use Rattle.cht_ids.specs.declared.refs.Ref.{Ref}
use Rattle.task_states.specs.States.{Input, Known as KnownInput, Awaits as AwaitsTask, Unfinished}
use Rattle.task_links.specs.declared.entries.Entries.{Entries}
use Rattle.task_links.specs.declared.entries.Entry.{Entry}
use Rattle.task_links.specs.declared.entries.Place.{Place}
use Rattle.task_links.specs.declared.entries.Spot.{Spot}
use Rattle.task_links.specs.Kept.{opened}
use Rattle.task_links.specs.declared.entries.Place.TheVariants.{Known, Awaits}

-- values by number with one more, or with another under its number
abbrev pub put_in : {V : Type 0} → ℕ → V → (ℕ → Option V) → ℕ → Option V
put_in key value values q = cond (nat_eq q key) (Some value) (values q)

-- an input as contracts see it
abbrev pub shown_place : Place → Input Ref
shown_place (Known r) = KnownInput r
shown_place (Awaits link) = AwaitsTask link.task link.number

-- whether two places of inputs are the same
abbrev pub is_spot : Spot → Spot → Bool
is_spot a b = nat_eq a.task b.task && nat_eq a.place b.place

-- where a task stands among those of its caller, by rising number
pub record Station : Type 0 where
  pub caller : ℕ
  pub before : Option ℕ
  pub after : Option ℕ

module _ {K : Type 0} where
  -- the entry of a task
  abbrev pub entries_at : Entries K → ℕ → Option (Entry K)
  entries_at entries task = option_map opened (lookup (nat_eq task) entries.tasks.entries)

  -- the inputs of a task
  abbrev pub inputs_of : Entry K → List Place
  inputs_of entry = take entry.count entry.places

  -- a task as contracts see it
  abbrev pub shown_entry : Entry K → Unfinished Ref K
  shown_entry entry = record { caller = entry.caller; kind = entry.kind; inputs = each shown_place (inputs_of entry); runner = entry.runner; asked = entry.asked }

  -- how many tasks can be added without memory
  abbrev pub room_of : Entries K → ℕ
  room_of entries = spare entries.tasks

  -- as many tasks and as much room
  pub record IsSameSize (before after : Entries K) : Type 0 where
    pub len : hash_map_len after.tasks ≡ hash_map_len before.tasks
    pub room : room_of after ≡ room_of before

  -- the input at a place of an entry, if there is one
  abbrev pub place_in : Option (Entry K) → ℕ → Option Place
  place_in None place = None
  place_in (Some entry) place = slice_get (inputs_of entry) place

  -- the input at a place
  abbrev pub place_at : (ℕ → Option (Entry K)) → Spot → Option Place
  place_at entries spot = place_in (entries spot.task) spot.place

  -- each task as contracts see it
  abbrev pub shown_at : (ℕ → Option (Entry K)) → ℕ → Option (Unfinished Ref K)
  shown_at entries task = option_map shown_entry (entries task)

  -- where an entry stands among those of its caller
  abbrev pub station_of : Entry K → Station
  station_of entry = record { caller = entry.caller; before = entry.before; after = entry.after }

  -- where each task stands among those of its caller
  abbrev pub station_at : (ℕ → Option (Entry K)) → ℕ → Option Station
  station_at entries task = option_map station_of (entries task)

  -- a task with another input at a place, if the place is one of its own
  abbrev pub with_input : ℕ → Spot → Input Ref → Unfinished Ref K → Unfinished Ref K
  with_input task spot input unfinished = record unfinished { inputs = cond (nat_eq task spot.task) (set unfinished.inputs spot.place input) unfinished.inputs }

  -- the caller of an entry
  abbrev pub caller_in : Entry K → ℕ
  caller_in entry = entry.caller

  -- an entry with another worker, where it is that of a task
  abbrev pub with_runner_at : ℕ → ℕ → Option ℕ → Entry K → Entry K
  with_runner_at at task runner entry = record entry { runner = cond (nat_eq at task) runner entry.runner }

  -- an entry with another number of its asked output, where it is that of a task
  abbrev pub with_asked_at : ℕ → ℕ → Option ℕ → Entry K → Entry K
  with_asked_at at task asked entry = record entry { asked = cond (nat_eq at task) asked entry.asked }

  -- an entry with another input at a place, where it is that of a task
  abbrev pub with_place_at : ℕ → Spot → Place → Entry K → Entry K
  with_place_at at spot place entry = record entry { places = cond (nat_eq at spot.task) (set entry.places spot.place place) entry.places }

  -- an entry with another one that follows it among those of its caller, where it is that of a task
  abbrev pub with_follower_at : ℕ → ℕ → Option ℕ → Entry K → Entry K
  with_follower_at at task after entry = record entry { after = cond (nat_eq at task) after entry.after }

  -- an entry with another one that stands before it among those of its caller, where it is that of a task
  abbrev pub with_leader_at : ℕ → ℕ → Option ℕ → Entry K → Entry K
  with_leader_at at task before entry = record entry { before = cond (nat_eq at task) before entry.before }
