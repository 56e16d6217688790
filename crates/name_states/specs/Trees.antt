-- The tree that an identifier leads to.
use Rattle.std.specs.Prelude.{ℕ, zero, suc, map, Option, None, Some}
use Rattle.cht_ids.specs.declared.refs.Ref.{Ref}
use Rattle.cht_ids.specs.declared.refs.Ref.TheVariants.{Null, Id as Held}
use Rattle.task_types.specs.Tree.{Tree, Nothing, rooted}
use Rattle.name_states.specs.States.{NameState, IdRecord, BodyRecord, record_of, body_at}

module _ {C : Type 0} where
  -- the tree that the record of an identifier leads to, where the trees of bodies are these
  abbrev pub tree_named : (ℕ → Tree C) → Option IdRecord → Tree C
  tree_named trees None = Nothing
  tree_named trees (Some entry) = trees entry.body

  -- the tree that a reference leads to, where the trees of bodies are these
  abbrev pub led_to : (ℕ → Tree C) → NameState C → Ref → Tree C
  led_to trees names Null = Nothing
  led_to trees names (Held id) = tree_named trees (record_of names id)

  -- the content of a body over the trees of its children, where the trees of bodies are these
  abbrev pub grown : (ℕ → Tree C) → NameState C → Option (BodyRecord C) → Tree C
  grown trees names None = Nothing
  grown trees names (Some body) = rooted body.content (map (led_to trees names) body.children)

  -- The tree of a body as far as a depth. Children lead to bodies with lower numbers, so a depth above the body's own
  -- number reaches all of the tree.
  abbrev pub tree_within : ℕ → NameState C → ℕ → Tree C
  tree_within zero names body = Nothing
  tree_within (suc depth) names body = grown (tree_within depth names) names (body_at names body)

  -- the tree of a body: its content over the trees of its children
  abbrev pub body_tree : NameState C → ℕ → Tree C
  body_tree names body = tree_within (suc body) names body

  -- the tree that a reference leads to
  abbrev pub tree_of : NameState C → Ref → Tree C
  tree_of names r = led_to (body_tree names) names r
