-- What a task is shown of its inputs shows their trees.
use Rattle.std.proofs.Common.{◌≡◌, ℕ, zero, suc, ◌≤◌, Bool, nat_lt, List, [], ◌∷◌, map as each, length, slice_get, take, Option, None, Some, refl, sym, ap, ◌∙◌, arith}
use Rattle.std.proofs.lemmas.List.{length-map}
use Rattle.std.specs.Option.{option_map, is_some}
use Rattle.cht_ids.specs.declared.refs.Ref.{Ref}
use Rattle.task_types.specs.Tree.{Tree, tree_at}
use Rattle.task_types.specs.Shown.{view_of, Shows}
use Rattle.task_types.specs.declared.inputs.Inputs.{Inputs}
use Rattle.name_states.specs.States.{NameState}
use Rattle.name_states.specs.declared.holder.Holder.TheVariants.{Task}
use Rattle.task_states.specs.States.{Input, Unfinished, task_at}
use Rattle.task_states.specs.declared.states.Slot.{Slot}
use Rattle.task_graph.specs.declared.rows.TaskRow.{TaskRow}
use Rattle.task_graph.specs.Contents.{input_of}
use Rattle.task_graph.specs.Rows.{unfinished_in}
use Rattle.name_machine.specs.Control.{Control}
use Rattle.name_machine.specs.Steps.{tree_known, input_trees}
use Rattle.name_machine.specs.Standing.{input_shown, task_shown, IsOrderly}
use Rattle.name_machine.proofs.Ends.{inputs_at}
use Rattle.name_machine.proofs.Orderly.{ref_is_live}
use Rattle.cht_core.specs.Granted.{count_there, tree_in, AreLiveInputs}

module _ {C : Type 0} where
  -- the trees of inputs at a place
  trees_in : (names : NameState C) (inputs : List (Input Ref)) (place : ℕ)
      → tree_at (each tree_known (each (input_shown names) inputs)) place ≡ tree_in names (slice_get inputs place)
  trees_in names [] place = refl
  trees_in names (input ∷ inputs) zero = refl
  trees_in names (input ∷ inputs) (suc place) = trees_in names inputs place

  views_are : (trees : List (Tree C)) → length trees ≤ 4
      → take (length trees) (view_of (tree_at trees 0) ∷ view_of (tree_at trees 1) ∷ view_of (tree_at trees 2) ∷ view_of (tree_at trees 3) ∷ []) ≡ each view_of trees
  views_are [] few = refl
  views_are (a ∷ []) few = refl
  views_are (a ∷ b ∷ []) few = refl
  views_are (a ∷ b ∷ c ∷ []) few = refl
  views_are (a ∷ b ∷ c ∷ d ∷ []) few = refl
  views_are (a ∷ b ∷ c ∷ d ∷ e ∷ trees) few = absurd (omega arith)

  pub all_shown : (trees : List (Tree C)) (inputs : Inputs C) → inputs.count ≡ length trees → length trees ≤ 4
      → inputs.first ≡ view_of (tree_at trees 0) → inputs.second ≡ view_of (tree_at trees 1) → inputs.third ≡ view_of (tree_at trees 2) → inputs.fourth ≡ view_of (tree_at trees 3)
      → Shows inputs trees
  all_shown trees inputs count few first second third fourth =
      (count, (λ i. take (count i) (first i ∷ second i ∷ third i ∷ fourth i ∷ [])) ∙ views_are trees few)

-- an input that is there has a place below how many there are
there_below : {X : Type 0} (xs : List X) (place : ℕ) → is_some (slice_get xs place) ≡ nat_lt place (length xs)
there_below [] place = grind arith
there_below (x ∷ xs) zero = grind arith
there_below (x ∷ xs) (suc place) = there_below xs place ∙ grind arith

-- there is an input at a place below how many there are
pub slot_there : (inputs : List (Input Ref)) (place : ℕ) (o : Option Slot) → option_map input_of o ≡ slice_get inputs place → is_some o ≡ nat_lt place (length inputs)
slot_there inputs place None is = ap is_some is ∙ there_below inputs place
slot_there inputs place (Some slot) is = ap is_some is ∙ there_below inputs place

-- what is shown of an input is what is shown of its tree
pub view_at : {C : Type 0} (names : NameState C) (inputs : List (Input Ref)) (place : ℕ) (o : Option (Input Ref)) → o ≡ slice_get inputs place
    → view_of (tree_in names o) ≡ view_of (tree_at (each tree_known (each (input_shown names) inputs)) place)
view_at names inputs place o is = ap (λ input. view_of (tree_in names input)) is ∙ sym (ap view_of (trees_in names inputs place))

few_taken : {X : Type 0} (count : ℕ) (xs : List X) → length (take count xs) ≤ count
few_taken zero xs = omega arith
few_taken (suc count) [] = omega arith
few_taken (suc count) (x ∷ xs) = omega (arith, few_taken count xs)

few_each : {X Y : Type 0} (f : X → Y) (count : ℕ) (xs : List X) → count ≤ 4 → length (each f (take count xs)) ≤ 4
few_each f count xs few = omega (arith, few, length-map (take count xs) f, few_taken count xs)

-- a row has as many inputs as it counts, at most
pub few_in : {K : Type 0} (row : TaskRow K) → row.count ≤ 4 → length (unfinished_in row).inputs ≤ 4
few_in row few = few_each _ row.count _ few

-- a reference that is an input is live
pub inputs_live : {C K : Type 0} (arity : C → ℕ) (control : Control C (Unit {0}) K) → IsOrderly arity control → (task : ℕ) (t : Unfinished Ref K)
    → task_at control.graph task ≡ Some t → AreLiveInputs control.names t.inputs
inputs_live arity control ordered task t there place r is =
    ref_is_live control.names (Task task) r (ordered.held.inputs task place r (inputs_at control.graph task place t there ∙ is))

pub many_trees : {C K : Type 0} (names : NameState C) (t : Unfinished Ref K) → length (input_trees (task_shown names t)) ≡ length t.inputs
many_trees names t = length-map (each (input_shown names) t.inputs) tree_known ∙ length-map t.inputs (input_shown names)

-- of at most four inputs all are counted
all_counted : {X : Type 0} (xs : List X) → length xs ≤ 4 → count_there (nat_lt 0 (length xs)) (nat_lt 1 (length xs)) (nat_lt 2 (length xs)) (nat_lt 3 (length xs)) ≡ length xs
all_counted [] few = refl
all_counted (a ∷ []) few = refl
all_counted (a ∷ b ∷ []) few = refl
all_counted (a ∷ b ∷ c ∷ []) few = refl
all_counted (a ∷ b ∷ c ∷ d ∷ []) few = refl
all_counted (a ∷ b ∷ c ∷ d ∷ e ∷ xs) few = absurd (omega arith)

pub all_there : {X : Type 0} (count : ℕ) (first second third fourth : Bool) (xs : List X) → length xs ≤ 4 → count ≡ count_there first second third fourth
    → first ≡ nat_lt 0 (length xs) → second ≡ nat_lt 1 (length xs) → third ≡ nat_lt 2 (length xs) → fourth ≡ nat_lt 3 (length xs)
    → count ≡ length xs
all_there count first second third fourth xs few counted a b c d =
    counted ∙ (λ i. count_there (a i) (b i) (c i) (d i)) ∙ all_counted xs few
