-- What a worker is granted of the inputs of a task, and what it shows.
use Rattle.std.specs.Prelude.{◌≡◌, ℕ, Bool, if◌then◌else◌, Option, None, Some, List, slice_get}
use Rattle.cht_ids.specs.declared.refs.Ref.{Ref}
use Rattle.task_types.specs.Tree.{Tree, Nothing as NoTree}
use Rattle.task_types.specs.declared.inputs.View.{View}
use Rattle.task_types.specs.declared.inputs.View.TheVariants as view
use Rattle.task_types.specs.declared.inputs.Inputs.{Inputs}
use Rattle.name_states.specs.States.{NameState, IsLiveRef}
use Rattle.task_states.specs.States.{Input, Known}
use Rattle.name_machine.specs.Steps.{tree_known}
use Rattle.name_machine.specs.Standing.{input_shown}
use Rattle.cht_core.specs.declared.grants.Grant.{Grant}
use Rattle.cht_core.specs.declared.grants.Grant.TheVariants.{Nothing, Own, Cached, Bytes}
use Rattle.cht_core.specs.declared.grants.Grants.{Grants}

-- how many of four inputs are there, before the first that is not
abbrev pub count_there : Bool → Bool → Bool → Bool → ℕ
count_there first second third fourth =
    if first then (if second then (if third then (if fourth then 4 else 3) else 2) else 1) else 0

module _ {C : Type 0} where
  -- an input is null, or of the worker's own store
  abbrev pub IsOwn : Grant C → Type 0
  IsOwn Nothing = Unit {0}
  IsOwn (Own content present) = Unit {0}
  IsOwn (Cached content present) = ⊥
  IsOwn (Bytes bytes present) = ⊥

  -- each input is so
  abbrev pub AreOwn : Grants C → Type 0
  AreOwn grants = IsOwn grants.first × IsOwn grants.second × IsOwn grants.third × IsOwn grants.fourth

  -- what a grant shows of an input; bytes show nothing until they are unpacked
  abbrev pub view_granted : Grant C → View C
  view_granted Nothing = view.Nothing
  view_granted (Own content present) = view.There content present
  view_granted (Cached content present) = view.There content present
  view_granted (Bytes bytes present) = view.Nothing

  -- what grants show of all inputs
  abbrev pub inputs_granted : Grants C → Inputs C
  inputs_granted grants =
      record {
        count = grants.count;
        first = view_granted grants.first;
        second = view_granted grants.second;
        third = view_granted grants.third;
        fourth = view_granted grants.fourth;
      }

  -- what is shown of an input that is there; nothing where it is not
  abbrev pub or_nothing : Option (View C) → View C
  or_nothing None = view.Nothing
  or_nothing (Some v) = v

  -- the tree of an input; nothing where there is none, or it is awaited
  abbrev pub tree_in : NameState C → Option (Input Ref) → Tree C
  tree_in names None = NoTree
  tree_in names (Some input) = tree_known (input_shown names input)

  -- what an input names is live
  abbrev pub IsLiveInput : NameState C → Option (Input Ref) → Type 0
  IsLiveInput names input = (r : Ref) → input ≡ Some (Known r) → IsLiveRef names r

  -- so for each of these
  abbrev pub AreLiveInputs : NameState C → List (Input Ref) → Type 0
  AreLiveInputs names inputs = (place : ℕ) → IsLiveInput names (slice_get inputs place)
