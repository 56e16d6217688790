-- What a chunk names: its content over the trees of its children, without numbers, owners or sharing.
use Rattle.std.specs.Prelude.{ℕ, zero, suc, Bool, true, false, List, [], ◌∷◌}

-- Nothing, or a content over the trees of its children. A content has at most four children, and what stands past
-- its last child is nothing.
pub data Tree (C : Type 0) : Type 0 where
  Nothing : Tree C
  Root : C → Tree C → Tree C → Tree C → Tree C → Tree C

-- whether there is a tree
abbrev pub is_there : {C : Type 0} → Tree C → Bool
is_there Nothing = false
is_there (Root content a b c d) = true

-- the tree at a place of a list, counted from 0; nothing past the end
abbrev pub tree_at : {C : Type 0} → List (Tree C) → ℕ → Tree C
tree_at [] i = Nothing
tree_at (tree ∷ trees) zero = tree
tree_at (tree ∷ trees) (suc i) = tree_at trees i

-- the four children of a tree
abbrev pub children : {C : Type 0} → Tree C → List (Tree C)
children Nothing = []
children (Root content a b c d) = a ∷ b ∷ c ∷ d ∷ []

-- the child of a tree with a number, counted from 0; nothing where there is none
abbrev pub child : {C : Type 0} → Tree C → ℕ → Tree C
child tree j = tree_at (children tree) j

-- what a tree stands for, from what nothing stands for, and what a content stands for, given what its four children
-- stand for
abbrev pub tree_value : {C V : Type 0} → V → (C → List V → V) → Tree C → V
tree_value nothing stands Nothing = nothing
tree_value nothing stands (Root content a b c d) =
    stands content (tree_value nothing stands a ∷ tree_value nothing stands b ∷ tree_value nothing stands c ∷ tree_value nothing stands d ∷ [])

-- a content over the first four of these trees
abbrev pub rooted : {C : Type 0} → C → List (Tree C) → Tree C
rooted content trees = Root content (tree_at trees 0) (tree_at trees 1) (tree_at trees 2) (tree_at trees 3)
