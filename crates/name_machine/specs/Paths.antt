-- What stands at a path of child numbers.
use Rattle.std.specs.Prelude.{ℕ, List, [], ◌∷◌, Option, None, Some}
use Rattle.task_types.specs.Tree.{Tree, Nothing, Root, child}

module _ {C : Type 0} where
  -- the content at the root of a tree
  abbrev pub root_content : Tree C → Option C
  root_content Nothing = None
  root_content (Root content a b c d) = Some content

  -- the tree that is reached from a tree by a path of child numbers, each counted from 0
  abbrev pub tree_below : Tree C → List ℕ → Tree C
  tree_below tree [] = tree
  tree_below tree (j ∷ path) = tree_below (child tree j) path

  -- the content there, if there is one
  abbrev pub content_at : Tree C → List ℕ → Option C
  content_at tree path = root_content (tree_below tree path)
