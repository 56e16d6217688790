use Rattle.std.proofs.Common.{◌≡◌, ◌≤◌, ℕ, false, get_or, length}
use Rattle.mm_text.specs.Places.{all_marked, slot_of}
use Rattle.mm_text.proofs.places.mark_all.Given as goal

abbrev pub invariant-loop-one : goal.invariant-loop-one
invariant-loop-one l = record {
  same : all_marked (slot_of l.slots l.width) l.initial.marks.items l.listed ≡ all_marked (slot_of l.slots l.width) l.marks.items l.rest;
  len : length l.marks.items ≡ l.slots;
  once : l.again ≡ false → (i : ℕ) → get_or l.marks.items i 0 ≤ 1;
}

abbrev pub decreases-loop-one : goal.decreases-loop-one
decreases-loop-one l = length l.rest
