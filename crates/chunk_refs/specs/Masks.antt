-- Which children of a body there are.
use Rattle.std.specs.Prelude.{ℕ, Bool, true, false}
use Rattle.cht_ids.specs.declared.refs.Ref.{Ref}
use Rattle.cht_ids.specs.declared.refs.Ref.TheVariants.{Null, Id as Held}
use Rattle.task_types.specs.Tree.{Tree, is_there, child}
use Rattle.task_types.specs.Shown.{mask}
use Rattle.chunk_refs.specs.declared.children.Children.{Children}

-- whether a reference is not null
abbrev pub is_some_ref : Ref → Bool
is_some_ref Null = false
is_some_ref (Held id) = true

-- the mask of the children that are not null
abbrev pub mask_in : Children → ℕ
mask_in children = mask (is_some_ref children.first) (is_some_ref children.second) (is_some_ref children.third) (is_some_ref children.fourth)

-- the mask of the children of a tree that are there
abbrev pub mask_of : {C : Type 0} → Tree C → ℕ
mask_of tree = mask (is_there (child tree 0)) (is_there (child tree 1)) (is_there (child tree 2)) (is_there (child tree 3))
