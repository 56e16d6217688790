-- Tests that decide whether a plan allows a shape.
use Rattle.std.specs.Prelude.{◌≡◌, ℕ, Bool, ◌&&◌, ◌==◌, nat_eq, IsTrue, ◌↔◌, List}
use Rattle.std.specs.List.{list_any}
use Rattle.std.specs.Cmp.Lexicographic.{pointwise}
use Rattle.task_types.specs.declared.outcome.Place.{Place}
use Rattle.task_types.specs.Places.{Shape, TaskShape, same_place, IsOneOf}

-- whether two kinds have the same name and the same height
abbrev pub same_kind : {K : Type 0} → (K → List ℕ) → (K → ℕ) → K → K → Bool
same_kind name height one other = pointwise nat_eq (name one) (name other) && (height one == height other)

-- whether two lists of places are the same
abbrev pub same_places : List Place → List Place → Bool
same_places places others = pointwise same_place places others

-- whether two new tasks have the same kind, by a test of kinds, and the same input places
abbrev pub same_task : {K : Type 0} → (K → K → Bool) → TaskShape K → TaskShape K → Bool
same_task kinds task other = kinds task.kind other.kind && same_places task.inputs other.inputs

-- whether two shapes are the same, by a test of kinds: their chunks, their tasks and their results
abbrev pub same_shape : {K : Type 0} → (K → K → Bool) → Shape K → Shape K → Bool
same_shape kinds shape other =
    pointwise same_places shape.chunks other.chunks && (pointwise (same_task kinds) shape.tasks other.tasks && same_place shape.result other.result)

-- whether a shape is one of these, by a test of kinds
abbrev pub is_one_of : {K : Type 0} → (K → K → Bool) → Shape K → List (Shape K) → Bool
is_one_of kinds shape shapes = list_any (same_shape kinds shape) shapes

-- a test of two values says whether they are equal
abbrev pub Decides : {X : Type 0} → (X → X → Bool) → Type 0
Decides {X} same = (one other : X) → IsTrue (same one other) ↔ (one ≡ other)

-- with a test of kinds it is decided whether a shape is one of a list's
abbrev pub DecidesOneOf : {K : Type 0} → (K → K → Bool) → Type 0
DecidesOneOf {K} kinds = (shape : Shape K) (shapes : List (Shape K)) → IsTrue (is_one_of kinds shape shapes) ↔ IsOneOf shape shapes
