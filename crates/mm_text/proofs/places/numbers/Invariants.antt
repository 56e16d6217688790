use Rattle.std.proofs.Common.{◌≡◌, take}
use Rattle.std.specs.List.{filter}
use Rattle.mm_text.specs.Places.{entries_of, is_number}
use Rattle.mm_text.proofs.places.numbers.Given as goal

abbrev pub invariant-loop-one : goal.invariant-loop-one
invariant-loop-one l = record {
  so_far : l.entries.items ≡ filter is_number (entries_of (take l.one-index l.listed));
}
