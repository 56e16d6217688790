use Rattle.std.proofs.Common.{◌≡◌, map, take, All, length, vec_len, vec_capacity}
use Rattle.cht_session.specs.Listed.{spot_in, HasSmallValue}
use Rattle.cht_session.proofs.listed.spots_of.Given as goal

abbrev pub invariant-loop-entry : goal.invariant-loop-entry
invariant-loop-entry l = record {
  room : vec_capacity l.spots ≡ length l.entries;
  count : vec_len l.spots ≡ l.entry-index;
  moved : l.spots.items ≡ map (spot_in l.form) (take l.entry-index l.entries);
  small : All HasSmallValue l.spots.items;
}
