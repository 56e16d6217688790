-- What the trees of a library stand for, and what its kinds ask.
use Rattle.std.specs.Prelude.{ℕ, List}
use Rattle.task_types.specs.Tree.{Tree, tree_value}
use Rattle.task_types.specs.Presence.{Presence}
use Rattle.task_types.specs.Places.{Shape}

-- The meanings of a library with contents C and kinds K.
pub record Meanings (C K : Type 0) : Type 1 where
  -- what trees stand for: the values, what nothing stands for, and what a content stands for, given what its
  -- children stand for
  pub Value : Type 0
  pub nothing : Value
  pub stands : C → List Value → Value
  -- where the goal of a kind on trees is defined, and the goal
  pub defined : K → List (Tree C) → Type 0
  pub goal : K → List (Tree C) → Tree C
  -- the shapes that an outcome of a kind may have, where this is known of its inputs
  pub plan : K → List Presence → List (Shape K)
  -- the rank of a kind
  pub rank : K → ℕ
  -- the work of a kind on trees
  pub work : K → List (Tree C) → ℕ

-- what a tree stands for in a library
abbrev pub value_of : {C K : Type 0} (lib : Meanings C K) → Tree C → lib.Value
value_of lib tree = tree_value lib.nothing lib.stands tree
