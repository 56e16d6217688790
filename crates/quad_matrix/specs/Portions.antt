-- The portions of a list of entries.
use Rattle.std.specs.Prelude.{◌≡◌, ℕ, ◌-◌, Bool, true, false, ◌&&◌, ◌==◌, Option, None, Some, List, [], ◌∷◌}
use Rattle.std.specs.List.{list_any}
use Rattle.chunk_codec.specs.declared.plain.Spot.{Spot}
use Rattle.chunk_codec.specs.Spots.{side_of}
use Rattle.task_plans.specs.declared.plan.Part.{Part}
use Rattle.task_plans.specs.declared.plan.Part.TheVariants.{Portion, Itself, Alone, Either, Pair}
use Rattle.task_plans.specs.declared.portions.Portions.{Portions}
use Rattle.quad_matrix.specs.declared.chunk.Entries.{Entries}
use Rattle.quad_matrix.specs.declared.chunk.MatChunk.{MatChunk}
use Rattle.quad_matrix.specs.declared.chunk.MatChunk.TheVariants as chunk
use Rattle.quad_matrix.specs.declared.kind.What.{What}
use Rattle.quad_matrix.specs.Spots.{part_of}

-- a list of entries as a content, if it has one
abbrev pub listed : ℕ → ℕ → Bool → List Spot → Option MatChunk
listed leaf height symmetric [] = None
listed leaf height symmetric (spot ∷ spots) =
    Some (chunk.Entries (record { leaf = leaf; height = height; symmetric = symmetric; list = spot ∷ spots }))

-- whether a part takes the portion with a number as the upper triangle of a symmetric block
abbrev pub takes_mirrored : ℕ → Part What → Bool
takes_mirrored q (Portion what n symmetric) = n == q && symmetric
takes_mirrored q (Itself i n) = false
takes_mirrored q (Alone term) = false
takes_mirrored q (Either what n) = false
takes_mirrored q (Pair one other sum) = false

-- whether some part does
abbrev pub is_mirrored : List (Part What) → ℕ → Bool
is_mirrored parts q = list_any (takes_mirrored q) parts

-- the entries of a list in a quadrant, relative to it
abbrev pub entries_in : Entries → ℕ → List Spot
entries_in entries q = part_of (side_of entries.leaf (entries.height - 1)) q entries.list

-- the portion of a list in a quadrant, one level below
abbrev pub portion_at : Entries → List (Part What) → ℕ → Option MatChunk
portion_at entries parts q = listed entries.leaf (entries.height - 1) (is_mirrored parts q) (entries_in entries q)

-- the portions of a list that some parts take
abbrev pub portions_of : Entries → List (Part What) → Portions MatChunk
portions_of entries parts =
    record {
      first = portion_at entries parts 0;
      second = portion_at entries parts 1;
      third = portion_at entries parts 2;
      fourth = portion_at entries parts 3;
    }

-- the parts take as upper triangles only portions on the diagonal, and those only of the list of a symmetric block
pub record TakeMirrored (mirrored : Bool) (parts : List (Part What)) : Type 0 where
  pub upper_left : is_mirrored parts 0 ≡ true → mirrored ≡ true
  pub upper_right : is_mirrored parts 1 ≡ false
  pub lower_left : is_mirrored parts 2 ≡ false
  pub lower_right : is_mirrored parts 3 ≡ true → mirrored ≡ true
