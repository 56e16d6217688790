use Rattle.std.proofs.Common.{◌≡◌, take}
use Rattle.std.specs.List.{filter}
use Rattle.mm_text.specs.Places.{is_shared, places_of, slot_of}
use Rattle.mm_text.proofs.places.shared_places.Given as goal

abbrev pub invariant-loop-one : goal.invariant-loop-one
invariant-loop-one l = record {
  so_far : l.places.items ≡ places_of (filter (is_shared (slot_of l.slots l.width) l.marks) (take l.one-index l.listed));
}
