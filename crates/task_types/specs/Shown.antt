-- What a task is shown of its inputs.
use Rattle.std.specs.Prelude.{◌≡◌, ℕ, ◌+◌, ◌*◌, Bool, ◌==◌, if◌then◌else◌, List, [], ◌∷◌, length, map, take}
use Rattle.std.specs.Int.{bit_at}
use Rattle.task_types.specs.declared.inputs.View.{View}
use Rattle.task_types.specs.declared.inputs.View.TheVariants as view
use Rattle.task_types.specs.declared.inputs.Inputs.{Inputs}
use Rattle.task_types.specs.Tree.{Tree, Nothing, Root, is_there}
use Rattle.task_types.specs.Presence.{Presence, Absent, Present}

-- one bit of a mask
abbrev pub bit : Bool → ℕ
bit there = if there then 1 else 0

-- the mask of the children that are there: bit j for child j, counted from 0
abbrev pub mask : Bool → Bool → Bool → Bool → ℕ
mask a b c d = bit a + 2 * bit b + 4 * bit c + 8 * bit d

-- what is shown of a tree: nothing, or its content and the mask of its children
abbrev pub view_of : {C : Type 0} → Tree C → View C
view_of Nothing = view.Nothing
view_of (Root content a b c d) = view.There content (mask (is_there a) (is_there b) (is_there c) (is_there d))

-- the first `count` views, at most four
abbrev pub views_of : {C : Type 0} → Inputs C → List (View C)
views_of inputs = take inputs.count (inputs.first ∷ inputs.second ∷ inputs.third ∷ inputs.fourth ∷ [])

-- the inputs show these trees, one each, in order
abbrev pub Shows : {C : Type 0} → Inputs C → List (Tree C) → Type 0
Shows inputs trees = (inputs.count ≡ length trees) × (views_of inputs ≡ map view_of trees)

-- what a mask tells of an input that is there: child j is there where bit j is set
abbrev pub mask_presence : ℕ → Presence
mask_presence present =
    Present (bit_at present 0 == 1) (bit_at present 1 == 1) (bit_at present 2 == 1) (bit_at present 3 == 1)

-- what a view tells without its content
abbrev pub presence_in : {C : Type 0} → View C → Presence
presence_in view.Nothing = Absent
presence_in (view.There content present) = mask_presence present

-- what inputs tell without their contents
abbrev pub presences_in : {C : Type 0} → Inputs C → List Presence
presences_in inputs = map presence_in (views_of inputs)
