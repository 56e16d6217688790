-- What the contents hold after a write through `get_mut`, for callers.
use Rattle.std.proofs.Common.{◌≡◌, ℕ, ◌+◌, ◌==◌, cond, Some, IsSome, ap, ◌∙◌}
use Rattle.std.specs.Cmp.{nat_cmp_total, unsigned_tied}
use Rattle.std.specs.FinMap as map
use Rattle.chunk_store.specs.Contents.{Contents, value_at, count_of, with_value}

module _ {B : Type 0} where
  -- the key holds the value, and every other key what it held
  pub value_at-with_value : (contents : Contents B) (key : ℕ) (value : B) (other : ℕ) → value_at (with_value contents key value) other ≡ cond (other == key) (Some value) (value_at contents other)
  value_at-with_value contents key value other =
      map.get-insert nat_cmp_total contents.held key value other
      ∙ ap (λ b. cond b (Some value) (value_at contents other)) (unsigned_tied other key)

  -- where the key held something, as many keys hold something
  pub count_of-with_value : (contents : Contents B) (key : ℕ) (value : B) → IsSome (value_at contents key) → count_of (with_value contents key value) ≡ count_of contents
  count_of-with_value contents key value present =
      map.len-insert nat_cmp_total contents.held key value
      ∙ ap (λ b. cond b (count_of contents) (count_of contents + 1)) present

pub ruleset writes = (value_at-with_value, count_of-with_value)
