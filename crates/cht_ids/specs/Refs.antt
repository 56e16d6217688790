-- References to chunks, and the one text of each.
use Rattle.std.specs.Prelude.{ℕ, Bool, ◌==◌, ◌^◌, ◌<◌, pos, List, [], ◌∷◌, ◌++◌}
use Rattle.cht_ids.specs.Numeral.{number_text}
use Rattle.cht_ids.specs.declared.refs.Id.{Id}
use Rattle.cht_ids.specs.declared.refs.Ref.{Ref}
use Rattle.cht_ids.specs.declared.refs.Ref.TheVariants.{Null, Id as Held}

-- an owner of 32 bits and a number of 128 bits, as every identifier has
abbrev pub IsId : Id → Type 0
IsId id = (id.owner < 2 ^ 32) × (id.number < 2 ^ 128)

-- null, or such an identifier
abbrev pub IsRef : Ref → Type 0
IsRef Null = Unit {0}
IsRef (Held id) = IsId id

-- the byte that stands between owner and number, a `:`
abbrev pub is_colon : ℕ → Bool
is_colon byte = byte == 58

-- the text of an identifier: its owner, a `:` (58) and its number
abbrev pub id_text : Id → List ℕ
id_text id = number_text (pos id.owner) ++ 58 ∷ number_text (pos id.number)

-- the text of a reference: `-` (45) for null, else that of its identifier
abbrev pub ref_text : Ref → List ℕ
ref_text Null = 45 ∷ []
ref_text (Held id) = id_text id
