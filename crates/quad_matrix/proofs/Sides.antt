-- The sides of blocks.
use Rattle.std.proofs.Common.{◌≡◌, ℕ, suc, ◌+◌, ◌-◌, arith, pow-suc}
use Rattle.chunk_codec.specs.Spots.{side_of}

-- the side of a leaf
pub side_low : (b : ℕ) → side_of b 0 ≡ b
side_low b = omega arith

-- a block one level up has twice the side
pub side_twice : (b h : ℕ) → side_of b (suc h) ≡ side_of b h + side_of b h
side_twice b h = rw pow-suc (omega arith)

-- the number before the next one
pub suc-sub_one : (h : ℕ) → suc h - 1 ≡ h
suc-sub_one h = omega arith
