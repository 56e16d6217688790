-- What a contract sees of a `Store`.
use Rattle.std.specs.Prelude.{ℕ, ◌-◌, Option, refl}
use Rattle.std.specs.Ordering.{nat_cmp}
use Rattle.std.specs.FinMap as map
use Rattle.std.specs.Coded.{Coded, code_by, coded×, coded_ℕ}
use Rattle.slab.specs.Slab.{Slab, entries, slab_len}

-- which value each key holds, and how many inserts are reserved
pub record Contents (B : Type 0) : Type 0 where
  pub held : map.FinMap nat_cmp B
  pub spare : ℕ

-- contents are stored as the pair of their fields
abbrev pub contents_code : {B : Type 0} → Coded B → Coded (Contents B)
contents_code {B} code =
    code_by
    (map.FinMap nat_cmp B × ℕ)
    (coded× (map.code coded_ℕ code) coded_ℕ)
    (λ c. (c.held, c.spare))
    (λ p. record { held = p.0; spare = p.1 })
    (λ _. refl)

module _ {B : Type 0} where
  -- the value that a key holds, if it holds one
  abbrev pub value_at : Contents B → ℕ → Option B
  value_at contents key = map.get contents.held key

  -- how many keys hold a value
  abbrev pub count_of : Contents B → ℕ
  count_of contents = map.len contents.held

  -- the contents with this value under the key, and nothing else changed
  abbrev pub with_value : Contents B → ℕ → B → Contents B
  with_value contents key value =
      record contents { held = map.insert contents.held key value }

  -- a slab as contents: its entries as a map, and the room that its entries leave
  abbrev pub contents_of : Slab B → Contents B
  contents_of slab = record {
    held = map.from_entries (entries slab);
    spare = slab.capacity - slab_len slab;
  }
