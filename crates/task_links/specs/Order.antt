-- How the tasks of each caller are linked, by rising number.
use Rattle.std.specs.Prelude.{◌≡◌, ℕ, ◌<◌, ◌+◌, ◌⊎◌, Bool, true, false, ◌&&◌, cond, nat_eq, Option, None, Some}
use Rattle.std.specs.Option.{option_map}
use Rattle.task_links.specs.Inside.{Station}
use Rattle.task_links.specs.Weave.{Leads}

-- the first and the last task of a caller
pub record Bounds : Type 0 where
  pub first : Option ℕ
  pub last : Option ℕ

-- a task as a row: its group is its caller, its key its number
abbrev pub row_at : (ℕ → Option Station) → ℕ → Option (ℕ × ℕ)
row_at stations task = option_map (λ station. (station.caller, task)) (stations task)

-- what stands before a task leads on to it: another task of its caller, or where there is none, it is the first
abbrev pub IsReached : (ℕ → Option Bounds) → (ℕ → Option Station) → ℕ → ℕ → Option ℕ → Type 0
IsReached bounds stations task caller None = (own : Bounds) × (bounds caller ≡ Some own) × (own.first ≡ Some task)
IsReached bounds stations task caller (Some before) = (station : Station) × (stations before ≡ Some station) × (station.caller ≡ caller) × (station.after ≡ Some task)

-- the last task of a caller: nothing follows it, or nothing where the caller has no task
abbrev pub IsTail : (ℕ → Option Station) → ℕ → Option ℕ → Option ℕ → Type 0
IsTail stations caller first None = first ≡ None
IsTail stations caller first (Some last) = (station : Station) × (stations last ≡ Some station) × (station.caller ≡ caller) × (station.after ≡ None)

-- The tasks of each caller are linked in the order of their numbers, both ways.
pub record IsOrdered (bounds : ℕ → Option Bounds) (stations : ℕ → Option Station) : Type 0 where
  pub firsts : (caller : ℕ) (own : Bounds) → bounds caller ≡ Some own → Leads (row_at stations) caller None own.first
  pub afters : (task : ℕ) (station : Station) → stations task ≡ Some station → Leads (row_at stations) station.caller (Some task) station.after
  pub befores : (task : ℕ) (station : Station) → stations task ≡ Some station → IsReached bounds stations task station.caller station.before
  pub lasts : (caller : ℕ) (own : Bounds) → bounds caller ≡ Some own → IsTail stations caller own.first own.last
  pub known : (task : ℕ) (station : Station) → stations task ≡ Some station → (own : Bounds) × (bounds station.caller ≡ Some own)

-- between which two tasks of a caller a number stands
abbrev pub IsRoom : (ℕ → Option Bounds) → (ℕ → Option Station) → ℕ → ℕ → Option ℕ → Option ℕ → Type 0
IsRoom bounds stations caller number None after =
    (own : Bounds) × (bounds caller ≡ Some own) × (after ≡ own.first) × ((task : ℕ) (station : Station) → stations task ≡ Some station → station.caller ≡ caller → number < task)
IsRoom bounds stations caller number (Some before) after =
    (station : Station) × (stations before ≡ Some station) × (station.caller ≡ caller) × (before < number) × (after ≡ station.after)
    × ((task : ℕ) (other : Station) → stations task ≡ Some other → other.caller ≡ caller → before < task → number < task)

-- whether a task is this one, if one is given
abbrev pub is_number : ℕ → Option ℕ → Bool
is_number task None = false
is_number task (Some other) = nat_eq task other

-- a station with another one behind it, where it is that of a task, if one is given
abbrev pub with_after_at : ℕ → Option ℕ → Option ℕ → Station → Station
with_after_at at task after station = record station { after = cond (is_number at task) after station.after }

-- a station with another one before it, where it is that of a task, if one is given
abbrev pub with_before_at : ℕ → Option ℕ → Option ℕ → Station → Station
with_before_at at task before station = record station { before = cond (is_number at task) before station.before }

-- whether nothing is given
abbrev pub is_none : {X : Type 0} → Option X → Bool
is_none None = true
is_none (Some x) = false

-- bounds with another first task, where they are those of a caller and no task is given
abbrev pub with_first_at : ℕ → ℕ → Option ℕ → Option ℕ → Bounds → Bounds
with_first_at at caller before first bounds = record bounds { first = cond (nat_eq at caller && is_none before) first bounds.first }

-- bounds with another last task, where they are those of a caller and no task is given
abbrev pub with_last_at : ℕ → ℕ → Option ℕ → Option ℕ → Bounds → Bounds
with_last_at at caller after last bounds = record bounds { last = cond (nat_eq at caller && is_none after) last bounds.last }

-- the task of a caller with the greatest lower number than a number, or none where there is none
abbrev pub IsJustBelow : (ℕ → Option Station) → ℕ → ℕ → Option ℕ → Type 0
IsJustBelow stations caller number None = (task : ℕ) (station : Station) → stations task ≡ Some station → station.caller ≡ caller → number < task
IsJustBelow stations caller number (Some before) =
    (station : Station) × (stations before ≡ Some station) × (station.caller ≡ caller) × (before < number)
    × ((task : ℕ) (other : Station) → stations task ≡ Some other → other.caller ≡ caller → before < task → number < task)

-- what follows a task, or is first where none is given
abbrev pub IsBehind : (ℕ → Option Bounds) → (ℕ → Option Station) → ℕ → Option ℕ → Option ℕ → Type 0
IsBehind bounds stations caller None after = (own : Bounds) × (bounds caller ≡ Some own) × (after ≡ own.first)
IsBehind bounds stations caller (Some before) after = (station : Station) × (stations before ≡ Some station) × (after ≡ station.after)

-- a task of a caller, above which all have greater numbers than a number, or none where all have
abbrev pub IsFloor : (ℕ → Option Station) → ℕ → ℕ → Option ℕ → Type 0
IsFloor stations caller number None = (task : ℕ) (station : Station) → stations task ≡ Some station → station.caller ≡ caller → number < task
IsFloor stations caller number (Some at) =
    (station : Station) × (stations at ≡ Some station) × (station.caller ≡ caller)
    × ((task : ℕ) (other : Station) → stations task ≡ Some other → other.caller ≡ caller → at < task → number < task)

-- a number above a task, or 0 where none is given
abbrev pub height_of : Option ℕ → ℕ
height_of None = 0
height_of (Some task) = task + 1

-- another station of a task whose neighbours changed
pub record IsRestationed (old new : Station) (task : ℕ) (before after to_after to_before : Option ℕ) : Type 0 where
  pub caller : new.caller ≡ old.caller
  pub led_on : ((before ≡ Some task) × (new.after ≡ to_after)) ⊎ ((before ≡ Some task → ⊥) × (new.after ≡ old.after))
  pub led_back : ((after ≡ Some task) × (new.before ≡ to_before)) ⊎ ((after ≡ Some task → ⊥) × (new.before ≡ old.before))

-- other bounds of a caller whose list changed
pub record IsRebound (old new : Bounds) (is_list : Type 0) (before after to_first to_last : Option ℕ) : Type 0 where
  pub first : (is_list × (before ≡ None) × (new.first ≡ to_first)) ⊎ ((is_list → before ≡ None → ⊥) × (new.first ≡ old.first))
  pub last : (is_list × (after ≡ None) × (new.last ≡ to_last)) ⊎ ((is_list → after ≡ None → ⊥) × (new.last ≡ old.last))

-- All but one task stand as before, save that the one before it leads on to another, and so the one after it leads back.
pub record IsSpliced (bounds new_bounds : ℕ → Option Bounds) (stations new_stations : ℕ → Option Station) (task caller : ℕ) (before after to_after to_before : Option ℕ) : Type 0 where
  pub from : (q : ℕ) (station : Station) → (q ≡ task → ⊥) → new_stations q ≡ Some station → (old : Station) × (stations q ≡ Some old) × IsRestationed old station q before after to_after to_before
  pub to : (q : ℕ) (station : Station) → (q ≡ task → ⊥) → stations q ≡ Some station → (new : Station) × (new_stations q ≡ Some new) × IsRestationed station new q before after to_after to_before
  pub bounds_from : (q : ℕ) (own : Bounds) → new_bounds q ≡ Some own → (old : Bounds) × (bounds q ≡ Some old) × IsRebound old own (q ≡ caller) before after to_after to_before
  pub bounds_to : (q : ℕ) (own : Bounds) → bounds q ≡ Some own → (new : Bounds) × (new_bounds q ≡ Some new) × IsRebound own new (q ≡ caller) before after to_after to_before
