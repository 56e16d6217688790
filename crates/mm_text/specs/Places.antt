-- The places of entries, in their order: row by row, and within a row by rising column.
use Rattle.std.specs.Prelude.{ℕ, ◌+◌, ◌*◌, ◌^◌, ◌%◌, ◌<◌, min, get_or, slice_set, Bool, true, ◌&&◌, ◌==◌, not, nat_lt, if◌then◌else◌, List, [], ◌∷◌, ◌++◌, map, Option, None, Some}
use Rattle.std.specs.List.{list_any}
use Rattle.mm_text.specs.declared.market.Entry.{Entry}
use Rattle.mm_text.specs.declared.places.Listed.{Listed}
use Rattle.mm_text.specs.declared.market.MarketFault.{MarketFault}
use Rattle.mm_text.specs.Block.{names, fault_at}
use Rattle.mm_text.specs.Cells.{is_zero}

-- the place of an entry as one number
abbrev pub place_of : Entry → ℕ
place_of e = e.row * 2 ^ 32 + e.column

-- whether no two of the entries name one place
abbrev pub have_no_repeats : List Entry → Bool
have_no_repeats [] = true
have_no_repeats (e ∷ es) = not (list_any (names e.row e.column) es) && have_no_repeats es

-- whether each entry stands in a later place than the one before
abbrev pub rise : List Entry → Bool
rise [] = true
rise (e ∷ []) = true
rise (e ∷ f ∷ entries) = nat_lt (place_of e) (place_of f) && rise (f ∷ entries)

-- the entries alone
abbrev pub entries_of : List Listed → List Entry
entries_of listed = map (λ (one : Listed). one.entry) listed

-- the places of entries
abbrev pub places_of : List Listed → List ℕ
places_of listed = map (λ (one : Listed). place_of one.entry) listed

-- the slot of an entry in a table of so many slots; entries of one place have one slot
abbrev pub slot_of : ℕ → ℕ → Listed → ℕ
slot_of slots width one = (one.entry.row * width + one.entry.column) % slots

-- a table in which one more entry is marked at its slot: 1 for the first, and 2 from the second on
abbrev pub with_mark : List ℕ → ℕ → List ℕ
with_mark marks slot = slice_set marks slot (min 2 (get_or marks slot 0 + 1))

-- a table in which these entries are marked, each at its slot
abbrev pub all_marked : (Listed → ℕ) → List ℕ → List Listed → List ℕ
all_marked slot marks [] = marks
all_marked slot marks (one ∷ ones) = all_marked slot (with_mark marks (slot one)) ones

-- whether another entry was marked at the slot of this one
abbrev pub is_shared : (Listed → ℕ) → List ℕ → Listed → Bool
is_shared slot marks one = get_or marks (slot one) 0 == 2

-- whether each number is greater than the one before
abbrev pub are_rising : List ℕ → Bool
are_rising [] = true
are_rising (n ∷ []) = true
are_rising (n ∷ m ∷ numbers) = nat_lt n m && are_rising (m ∷ numbers)

-- Entries as a text lists them: the numbers of their lines rise and are greater than n. Columns have 32 bits, and lines 64.
abbrev pub AreListed : ℕ → List Listed → Type 0
AreListed n [] = Unit {0}
AreListed n (one ∷ ones) = (n < one.line) × (one.line < 2 ^ 64) × (one.entry.column < 2 ^ 32) × AreListed one.line ones

-- whether one names the place of another
abbrev pub repeats : Listed → Listed → Bool
repeats one earlier = names one.entry.row one.entry.column earlier.entry

-- the line of the first of these entries that names the place of one before it, if there is one
abbrev pub first_repeat : List Listed → List Listed → Option ℕ
first_repeat before [] = None
first_repeat before (one ∷ ones) = if list_any (repeats one) before then Some one.line else first_repeat (before ++ one ∷ []) ones

-- the fault of a block whose entries end before a line with a fault of its own: a repeat among them, else that one
abbrev pub fault_before : MarketFault → Option ℕ → MarketFault
fault_before stop None = stop
fault_before stop (Some line) = fault_at line 11

-- the place and the line as one number
abbrev pub rank_of : Listed → ℕ
rank_of one = place_of one.entry * 2 ^ 64 + one.line

-- the lesser line of one that was found before and another
abbrev pub sooner : Option ℕ → ℕ → Option ℕ
sooner None line = Some line
sooner (Some before) line = Some (min before line)

-- the least line of one that was found before, and of those that name the place of their neighbour before
abbrev pub least_repeat : Option ℕ → List Listed → Option ℕ
least_repeat found [] = found
least_repeat found (one ∷ []) = found
least_repeat found (one ∷ next ∷ others) =
    least_repeat (if place_of one.entry == place_of next.entry then sooner found next.line else found) (next ∷ others)

-- whether the value of an entry is other than 0
abbrev pub is_number : Entry → Bool
is_number e = not (is_zero e.value)
