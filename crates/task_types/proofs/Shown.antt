-- What inputs that show trees tell.
use Rattle.std.proofs.Common.{◌≡◌, Bool, true, false, List, [], ◌∷◌, map, refl, ap, ◌∙◌}
use Rattle.task_types.specs.declared.inputs.Inputs.{Inputs}
use Rattle.task_types.specs.Tree.{Tree, Nothing, Root, is_there}
use Rattle.task_types.specs.Presence.{Present, presence_of}
use Rattle.task_types.specs.Shown.{mask, mask_presence, view_of, Shows, presence_in, presences_in}

-- a mask tells which children are there
pub mask_presence-mask : (a b c d : Bool) → mask_presence (mask a b c d) ≡ Present a b c d
mask_presence-mask true true true true = refl
mask_presence-mask true true true false = refl
mask_presence-mask true true false true = refl
mask_presence-mask true true false false = refl
mask_presence-mask true false true true = refl
mask_presence-mask true false true false = refl
mask_presence-mask true false false true = refl
mask_presence-mask true false false false = refl
mask_presence-mask false true true true = refl
mask_presence-mask false true true false = refl
mask_presence-mask false true false true = refl
mask_presence-mask false true false false = refl
mask_presence-mask false false true true = refl
mask_presence-mask false false true false = refl
mask_presence-mask false false false true = refl
mask_presence-mask false false false false = refl

-- the view of a tree tells what is known of the tree
pub presence_in-view_of : {C : Type 0} (tree : Tree C) → presence_in (view_of tree) ≡ presence_of tree
presence_in-view_of Nothing = refl
presence_in-view_of (Root content a b c d) = mask_presence-mask (is_there a) (is_there b) (is_there c) (is_there d)

presences_of_views : {C : Type 0} (trees : List (Tree C))
    → map presence_in (map view_of trees) ≡ map presence_of trees
presences_of_views [] = refl
presences_of_views (tree ∷ trees) = cc (presence_in-view_of tree, presences_of_views trees)

-- inputs that show trees tell what is known of these trees
pub presences_in-shown : {C : Type 0} (inputs : Inputs C) (trees : List (Tree C)) → Shows inputs trees
    → presences_in inputs ≡ map presence_of trees
presences_in-shown inputs trees s = ap (map presence_in) s.1 ∙ presences_of_views trees

-- the first input shows the one tree
pub first-shown_one : {C : Type 0} (inputs : Inputs C) (tree : Tree C) → Shows inputs (tree ∷ [])
    → inputs.first ≡ view_of tree
first-shown_one inputs tree s = let e = rw s.0 at s.1 in cc

-- the first two inputs show the two trees
pub first-shown_two : {C : Type 0} (inputs : Inputs C) (one other : Tree C) → Shows inputs (one ∷ other ∷ [])
    → inputs.first ≡ view_of one
first-shown_two inputs one other s = let e = rw s.0 at s.1 in cc

pub second-shown_two : {C : Type 0} (inputs : Inputs C) (one other : Tree C) → Shows inputs (one ∷ other ∷ [])
    → inputs.second ≡ view_of other
second-shown_two inputs one other s = let e = rw s.0 at s.1 in cc
