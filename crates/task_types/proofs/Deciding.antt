-- The tests by which a plan is decided say what they should.
use Rattle.std.proofs.Common.{◌≡◌, ℕ, Bool, true, false, ◌&&◌, ◌||◌, List, [], ◌∷◌, refl, ap, subst, ◌∙◌, ◌⊎◌, inl, inr, nat_eq, arith}
use Rattle.std.specs.Cmp.Lexicographic.{pointwise, pointwise_decides, bytes_decides}
use Rattle.std.proofs.lemmas.Bool.{false≢true, eqb-true}
use Rattle.std.proofs.lemmas.Bool.Decides.{nat_tests}
use Rattle.task_types.specs.declared.outcome.Place.{Place}
use Rattle.task_types.specs.declared.outcome.Place.TheVariants.{Null, Input, Child, Chunk, Task}
use Rattle.task_types.specs.Places.{Shape, TaskShape, same_place, IsOneOf}
use Rattle.task_types.specs.Deciding.{same_kind, same_places, same_task, same_shape, is_one_of, Decides, DecidesOneOf}
use Rattle.task_types.proofs.FormedTest.{both_left, both_right}

-- a test of the same number
same_number : (n : ℕ) → nat_eq n n ≡ true
same_number n = grind (arith, nat_tests)

both : (a b : Bool) → a ≡ true → b ≡ true → (a && b) ≡ true
both a b e f = ap (λ x. x && b) e ∙ f

place_same : (place other : Place) → same_place place other ≡ true → place ≡ other
place_same Null Null e = refl
place_same (Input i) (Input k) e = ap Input (eqb-true i k e)
place_same (Child i j) (Child k l) e =
    ap (λ n. Child n j) (eqb-true i k (both_left (nat_eq i k) (nat_eq j l) e)) ∙ ap (Child k) (eqb-true j l (both_right (nat_eq i k) (nat_eq j l) e))
place_same (Chunk i) (Chunk k) e = ap Chunk (eqb-true i k e)
place_same (Task i) (Task k) e = ap Task (eqb-true i k e)
place_same place other e = absurd (false≢true e)

place_itself : (place : Place) → same_place place place ≡ true
place_itself Null = refl
place_itself (Input i) = same_number i
place_itself (Child i j) = both (nat_eq i i) (nat_eq j j) (same_number i) (same_number j)
place_itself (Chunk i) = same_number i
place_itself (Task i) = same_number i

-- a test that tells equals apart from others, and passes each value against itself, decides
decided : {X : Type 0} (same : X → X → Bool) → ((x y : X) → same x y ≡ true → x ≡ y) → ((x : X) → same x x ≡ true) → Decides same
decided same told itself x y = (told x y, λ e. subst (λ z. same x z ≡ true) e (itself x))

pub places_decided : Decides same_place
places_decided = decided same_place place_same place_itself

lists_decided : Decides same_places
lists_decided places others = pointwise_decides places_decided places others

-- kinds with names and heights that tell them apart are decided
module _ {K : Type 0} (name : K → List ℕ) (height : K → ℕ) (apart : (one other : K) → name one ≡ name other → height one ≡ height other → one ≡ other) where
  kind_same : (one other : K) → same_kind name height one other ≡ true → one ≡ other
  kind_same one other e =
      let names = pointwise nat_eq (name one) (name other) in
      let heights = nat_eq (height one) (height other) in
      apart one other ((bytes_decides (name one) (name other)).0 (both_left names heights e)) (eqb-true (height one) (height other) (both_right names heights e))

  kind_itself : (kind : K) → same_kind name height kind kind ≡ true
  kind_itself kind =
      both (pointwise nat_eq (name kind) (name kind)) (nat_eq (height kind) (height kind)) ((bytes_decides (name kind) (name kind)).1 refl) (same_number (height kind))

  pub kinds_decided : Decides (same_kind name height)
  kinds_decided = decided (same_kind name height) kind_same kind_itself

module _ {K : Type 0} (kinds : K → K → Bool) (decides : Decides kinds) where
  task_same : (task other : TaskShape K) → same_task kinds task other ≡ true → task ≡ other
  task_same task other e =
      let k = kinds task.kind other.kind in
      let p = same_places task.inputs other.inputs in
      let same_kinds = (decides task.kind other.kind).0 (both_left k p e) in
      let same_inputs = (lists_decided task.inputs other.inputs).0 (both_right k p e) in
      λ i. record { kind = same_kinds i; inputs = same_inputs i }

  task_itself : (task : TaskShape K) → same_task kinds task task ≡ true
  task_itself task =
      both (kinds task.kind task.kind) (same_places task.inputs task.inputs) ((decides task.kind task.kind).1 refl) ((lists_decided task.inputs task.inputs).1 refl)

  tasks_decided : Decides (same_task kinds)
  tasks_decided = decided (same_task kinds) task_same task_itself

  shape_same : (shape other : Shape K) → same_shape kinds shape other ≡ true → shape ≡ other
  shape_same shape other e =
      let c = pointwise same_places shape.chunks other.chunks in
      let t = pointwise (same_task kinds) shape.tasks other.tasks in
      let r = same_place shape.result other.result in
      let chunks = (pointwise_decides lists_decided shape.chunks other.chunks).0 (both_left c (t && r) e) in
      let tasks = (pointwise_decides tasks_decided shape.tasks other.tasks).0 (both_left t r (both_right c (t && r) e)) in
      let result = place_same shape.result other.result (both_right t r (both_right c (t && r) e)) in
      λ i. record { chunks = chunks i; tasks = tasks i; result = result i }

  shape_itself : (shape : Shape K) → same_shape kinds shape shape ≡ true
  shape_itself shape =
      let c = pointwise same_places shape.chunks shape.chunks in
      let t = pointwise (same_task kinds) shape.tasks shape.tasks in
      let r = same_place shape.result shape.result in
      both c (t && r) ((pointwise_decides lists_decided shape.chunks shape.chunks).1 refl) (both t r ((pointwise_decides tasks_decided shape.tasks shape.tasks).1 refl) (place_itself shape.result))

  pub shapes_decided : Decides (same_shape kinds)
  shapes_decided = decided (same_shape kinds) shape_same shape_itself

  either : (a b : Bool) → (a || b) ≡ true → (a ≡ true) ⊎ (b ≡ true)
  either true b e = inl refl
  either false b e = inr e

  or_left : (a b : Bool) → a ≡ true → (a || b) ≡ true
  or_left a b e = ap (λ x. x || b) e

  or_right : (a b : Bool) → b ≡ true → (a || b) ≡ true
  or_right true b e = refl
  or_right false b e = e

  pub found : (shape : Shape K) (shapes : List (Shape K)) → is_one_of kinds shape shapes ≡ true → IsOneOf shape shapes
  found shape [] e = absurd (false≢true e)
  found shape (first ∷ shapes) e =
      elim (either (same_shape kinds shape first) (is_one_of kinds shape shapes) e) [
        | inl here ↦ inl ((shapes_decided shape first).0 here)
        | inr later ↦ inr (found shape shapes later)
      ]

  pub finds : (shape : Shape K) (shapes : List (Shape K)) → IsOneOf shape shapes → is_one_of kinds shape shapes ≡ true
  finds shape [] is = absurd is
  finds shape (first ∷ shapes) (inl same) = or_left (same_shape kinds shape first) (is_one_of kinds shape shapes) ((shapes_decided shape first).1 same)
  finds shape (first ∷ shapes) (inr later) = or_right (same_shape kinds shape first) (is_one_of kinds shape shapes) (finds shape shapes later)

  pub one_of_decided : DecidesOneOf kinds
  one_of_decided shape shapes = (found shape shapes, finds shape shapes)
