use Rattle.std.proofs.Common.{◌≡◌, ◌-◌, drop}
use Rattle.chunk_codec.specs.Spots.{spots_rise}
use Rattle.chunk_codec.proofs.fields.rise.Given as goal

abbrev pub invariant-loop-i : goal.invariant-loop-i
invariant-loop-i l = spots_rise l.list ≡ spots_rise (drop (l.i - 1) l.list)
