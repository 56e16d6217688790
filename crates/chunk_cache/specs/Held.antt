-- A cache as the list of its pairs, the most recently used first.
use Rattle.std.specs.Prelude.{ℕ, nat_eq, List, ◌∷◌, take, Option, None, Some}
use Rattle.std.specs.Map.{lookup, remove_entry}

-- what a cache holds: pairs of a body's number and its content, and how many there may be
pub record Held (C : Type 0) : Type 0 where
  pub pairs : List (ℕ × C)
  pub capacity : ℕ

module _ {C : Type 0} where
  -- the content of the pair of a body, or nothing
  abbrev pub content_of : ℕ → List (ℕ × C) → Option C
  content_of body pairs = lookup (nat_eq body) pairs

  -- the pairs without that of a body
  abbrev pub without : ℕ → List (ℕ × C) → List (ℕ × C)
  without body pairs = remove_entry (nat_eq body) pairs

  -- the pair of a body in front, where there is a content
  abbrev pub in_front : ℕ → Option C → List (ℕ × C) → List (ℕ × C)
  in_front body None pairs = pairs
  in_front body (Some content) pairs = (body, content) ∷ without body pairs

  -- after a look-up: the body's pair, where there is one, is in front
  abbrev pub after_find : ℕ → Held C → Held C
  after_find body held = record held { pairs = in_front body (content_of body held.pairs) held.pairs }

  -- after a content was put: its pair is in front, an older pair of the body is gone, and so is what is past the capacity
  abbrev pub after_put : ℕ → C → Held C → Held C
  after_put body content held = record held { pairs = take held.capacity ((body, content) ∷ without body held.pairs) }

  -- after a body was forgotten: its pair is gone
  abbrev pub after_forget : ℕ → Held C → Held C
  after_forget body held = record held { pairs = without body held.pairs }
