-- The side of a symmetric leaf block.
use Rattle.std.proofs.Common.{◌≡◌, ℕ, ◌≤◌, min, max, List, sym, subst, arith}
use Rattle.dense_def.specs.Matrix.{Matrix, height}
use Rattle.dense_def.proofs.Entries.{height-made}
use Rattle.chunk_codec.specs.declared.plain.Spot.{Spot}
use Rattle.quad_matrix.specs.Spots.{spot_value, mirrored_block}

-- that of a list has the side of its leaves
pub mirrored_side : (side : ℕ) (spots : List Spot) (m : Matrix) → m ≡ mirrored_block side spots → side ≤ 64 → height m ≤ 64
mirrored_side side spots m e low =
    subst (λ (m : Matrix). height m ≤ 64) (sym e) (omega (arith, height-made side side (λ i j. spot_value spots (min i j) (max i j))))
