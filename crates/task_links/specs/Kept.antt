-- How what is kept of an entry stands for it.
use Rattle.std.specs.Prelude.{ℕ, ◌+◌, ◌*◌, ◌^◌, Bool, cond, map as each, Option, None, Some}
use Rattle.cht_ids.specs.declared.refs.Ref.TheVariants.{Null as NoBody, Id as OfId}
use Rattle.task_links.specs.declared.entries.Entry.{Entry}
use Rattle.task_links.specs.declared.entries.Place.{Place}
use Rattle.task_links.specs.declared.entries.Place.TheVariants.{Known, Awaits}
use Rattle.task_links.specs.declared.entries.Spot.{Spot}
use Rattle.task_links.specs.declared.kept.Kept.{Kept}
use Rattle.task_links.specs.declared.kept.KeptEnds.{KeptEnds}
use Rattle.task_links.specs.declared.kept.KeptEnds.TheVariants.{Neither, First, Last, Both}
use Rattle.task_links.specs.declared.kept.KeptPlace.{KeptPlace}
use Rattle.task_links.specs.declared.kept.KeptPlace.TheVariants.{Null, Refers, Last as LastLink, Linked}
use Rattle.task_links.specs.declared.quarters.Quarters.{Quarters}

-- the number of four quarters
abbrev pub joined : Quarters → ℕ
joined number = (number.high * 2 ^ 32 + number.third) * 2 ^ 64 + (number.second * 2 ^ 32 + number.low)

-- the number of four quarters, if it is there
abbrev pub joined_if : Quarters → Bool → Option ℕ
joined_if number there = cond there (Some (joined number)) None

-- an input
abbrev pub opened_place : KeptPlace → Place
opened_place Null = Known NoBody
opened_place (Refers owner number) = Known (OfId (record { owner = owner; number = joined number }))
opened_place (LastLink task number) = Awaits (record { task = joined task; number = joined number; next = None })
opened_place (Linked place task number next) = Awaits (record { task = joined task; number = joined number; next = Some (record { task = joined next; place = place }) })

-- the first input of a list
abbrev pub first_in : KeptEnds → Option Spot
first_in Neither = None
first_in (First place task) = Some (record { task = joined task; place = place })
first_in (Last place task) = None
first_in (Both place last task behind) = Some (record { task = joined task; place = place })

-- the last input of a list
abbrev pub last_in : KeptEnds → Option Spot
last_in Neither = None
last_in (First place task) = None
last_in (Last place task) = Some (record { task = joined task; place = place })
last_in (Both first place ahead task) = Some (record { task = joined task; place = place })

module _ {K : Type 0} where
  -- an entry
  abbrev pub opened : Kept K → Entry K
  opened kept = record {
    caller = kept.caller;
    kind = kept.kind;
    runner = kept.runner;
    asked = joined_if kept.asked kept.is_asked;
    count = kept.count;
    places = each opened_place kept.places;
    first = first_in kept.ends;
    last = last_in kept.ends;
    before = joined_if kept.before kept.has_before;
    after = joined_if kept.after kept.has_after;
  }
