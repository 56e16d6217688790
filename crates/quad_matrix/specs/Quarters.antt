-- The entries of a block, sorted by quadrant.
use Rattle.std.specs.Prelude.{ℕ, List, ◌++◌}
use Rattle.chunk_codec.specs.declared.plain.Spot.{Spot}
use Rattle.quad_matrix.specs.Spots.{part_of}
use Rattle.quad_matrix.specs.declared.entries.Quarters.{Quarters}

-- the entries of each quadrant of side half, relative to it
abbrev pub quarters_of : ℕ → List Spot → Quarters
quarters_of half spots =
    record {
      upper_left = part_of half 0 spots;
      upper_right = part_of half 1 spots;
      lower_left = part_of half 2 spots;
      lower_right = part_of half 3 spots;
    }

-- the lists of some quarters, each followed by that of others
abbrev pub followed : Quarters → Quarters → Quarters
followed first more =
    record {
      upper_left = first.upper_left ++ more.upper_left;
      upper_right = first.upper_right ++ more.upper_right;
      lower_left = first.lower_left ++ more.lower_left;
      lower_right = first.lower_right ++ more.lower_right;
    }
