-- What the readers of single words test.
use Rattle.std.specs.Prelude.{ℕ, Bool, ◌==◌, ◌<◌}
use Rattle.cht_ids.specs.declared.refs.Ref.{Ref}
use Rattle.cht_ids.specs.declared.refs.Ref.TheVariants.{Null, Id as Held}

-- the byte between an input's number and a child's, a point
abbrev pub is_point : ℕ → Bool
is_point byte = byte == 46

-- null, or an identifier of a worker that there may be, with a number from 1 on
abbrev pub IsBelow : Ref → Type 0
IsBelow Null = Unit {0}
IsBelow (Held id) = (id.owner < 64) × (0 < id.number)
