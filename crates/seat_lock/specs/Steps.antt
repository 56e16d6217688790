-- A lock of one word (0 free, 1 in a turn) and one slot as plain data: what holds between any two steps, and what each kind of step does.
use Rattle.std.specs.Prelude.{◌≡◌, ◌≢◌, ℕ, ◌<◌, ◌≤◌, ◌+◌, ◌==◌, ◌⊎◌, if◌then◌else◌, List, [], ◌∷◌, ◌++◌, map, length, take, drop, slice_get, slice_index_or, Option, None, Some}
use mathlib.Core.Option.{Option as Found, none, some}
use lib.ListN.{get_elem?}
use Rattle.atomic_table.specs.Table.{State, Me}
use Rattle.seat_lock.specs.declared.rule.View.{View}

module _ {P : Type 0} where
  -- how often a seat number stands among entries
  abbrev pub times : ℕ → List (ℕ × P) → ℕ
  times number [] = 0
  times number (entry ∷ entries) = (if entry.0 == number then 1 else 0) + times number entries

  -- each entry is its seat's part
  abbrev pub Fits : List P → List (ℕ × P) → Type 0
  Fits parts [] = Unit {0}
  Fits parts (entry ∷ entries) = (slice_get parts entry.0 ≡ Some entry.1) × Fits parts entries

  -- the entries of all parts from a number on
  abbrev pub entries_from : ℕ → List P → List (ℕ × P)
  entries_from number [] = []
  entries_from number (part ∷ parts) = (number, part) ∷ entries_from (number + 1) parts

  -- the entry with its seat's part
  abbrev pub renewed : List P → ℕ × P → ℕ × P
  renewed parts entry = (entry.0, slice_index_or parts entry.0 entry.1)

module _ {V P : Type 0} where
  -- how often a seat number stands in all views
  abbrev pub times_in : ℕ → List (View V P) → ℕ
  times_in number [] = 0
  times_in number (view ∷ views) = times number view.entries + times_in number views

  -- the value is at home, no view is in a turn, and each entry is that seat's part of the value
  pub record IsFree (parts : V → List P) (count : ℕ) (words : List ℕ) (homes : List (Found (Option V))) (views : List (View V P)) : Type 0 where
    pub value : V
    pub word : words ≡ 0 ∷ []
    pub home : homes ≡ some (Some value) ∷ []
    pub sized : length (parts value) ≡ count
    pub rests : (id : ℕ) (view : View V P) → get_elem? views id ≡ some view → view.claimed ≡ None
    pub fits : (id : ℕ) (view : View V P) → get_elem? views id ≡ some view → Fits (parts value) view.entries

  -- one view is in a turn, with the slot, and has an entry; each entry of each view is that seat's part among those that it claimed
  pub record IsTaken (count : ℕ) (words : List ℕ) (homes : List (Found (Option V))) (views : List (View V P)) : Type 0 where
    pub holder : ℕ
    pub held : View V P
    pub parts : List P
    pub word : words ≡ 1 ∷ []
    pub home : homes ≡ none ∷ []
    pub sized : length parts ≡ count
    pub holds : get_elem? views holder ≡ some held
    pub claimed : held.claimed ≡ Some parts
    pub seated : 0 < length held.entries
    pub rests : (id : ℕ) (view : View V P) → get_elem? views id ≡ some view → id ≢ holder → view.claimed ≡ None
    pub fits : (id : ℕ) (view : View V P) → get_elem? views id ≡ some view → Fits parts view.entries

  -- No number has two entries, a view with an entry knows how many seats there are, and the lock is free or in one turn
  pub record IsKept (parts : V → List P) (count : ℕ) (words : List ℕ) (homes : List (Found (Option V))) (views : List (View V P)) : Type 0 where
    pub alone : (number : ℕ) → times_in number views ≤ 1
    pub counts : (id : ℕ) (view : View V P) → get_elem? views id ≡ some view → 0 < length view.entries → view.count ≡ count
    pub now : IsFree parts count words homes views ⊎ IsTaken count words homes views

  abbrev pub Kept : (V → List P) → V → State (Option V) (View V P) → Type 0
  Kept parts opened s = IsKept parts (length (parts opened)) s.words s.homes s.views

  -- the view of the first seat, before others are made of it
  abbrev pub first_view : List P → View V P
  first_view parts = record { entries = entries_from 0 parts; count = length parts; claimed = None; turns = 0; found = None; left = None }

  abbrev pub without_first : View V P → View V P
  without_first view = record { entries = drop 1 view.entries; count = view.count; claimed = view.claimed; turns = view.turns; found = view.found; left = view.left }

  abbrev pub first_alone : View V P → View V P
  first_alone view = record { entries = take 1 view.entries; count = view.count; claimed = None; turns = 0; found = None; left = None }

  abbrev pub joined : View V P → View V P → View V P
  joined view other = record { entries = other.entries ++ view.entries; count = view.count; claimed = view.claimed; turns = view.turns; found = view.found; left = view.left }

  abbrev pub spent : View V P
  spent = record { entries = []; count = 0; claimed = None; turns = 0; found = None; left = None }

  -- the view in a turn that found a value
  abbrev pub claiming : (V → List P) → V → View V P → View V P
  claiming parts value view = record { entries = view.entries; count = view.count; claimed = Some (parts value); turns = view.turns + 1; found = Some value; left = view.left }

  -- the view after a turn that left a value, whose part it remembers
  abbrev pub released : (V → List P) → V → View V P → View V P
  released parts value view = record { entries = map (renewed (parts value)) view.entries; count = view.count; claimed = None; turns = view.turns; found = view.found; left = Some value }

  -- a claim that found 0 takes the value, which has each part as the seat remembers it; after another one the seat is as before
  abbrev pub Claims : (V → List P) → Me (Option V) (View V P) → ℕ → Me (Option V) (View V P) → Type 0
  Claims parts before word after =
      ((word ≡ 0) × ((value : V) × (length (parts value) ≡ before.0.count) × Fits (parts value) before.0.entries × (after ≡ (claiming parts value before.0, (0, Some value) ∷ before.1))))
      ⊎ ((word ≢ 0) × (after ≡ before))

  -- a release gives the value back, and the seat remembers its part of it, which the value has
  abbrev pub Releases : (V → List P) → Me (Option V) (View V P) → ℕ → Me (Option V) (View V P) → Type 0
  Releases parts before word after =
      (value : V) × (before.1 ≡ (0, Some value) ∷ []) × (after ≡ (released parts value before.0, [])) × Fits (parts value) after.0.entries
