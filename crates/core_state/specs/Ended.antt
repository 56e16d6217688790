-- Identifiers that go where a caller gives up: what its unfinished tasks hold, and the outputs that it has not collected.
use Rattle.std.specs.Prelude.{◌≡◌, ℕ, ◌≤◌, ◌==◌, Bool, false, Option, None, Some}
use Rattle.std.specs.List.{list_any}
use Rattle.std.specs.Ordering.{nat_cmp}
use Rattle.std.specs.FinMap as map
use Rattle.cht_ids.specs.declared.refs.Id.{Id}
use Rattle.cht_ids.specs.declared.refs.Ref.{Ref}
use Rattle.cht_ids.specs.declared.refs.Ref.TheVariants.{Null, Id as Held}
use Rattle.task_states.specs.declared.states.Slot.{Slot}
use Rattle.task_states.specs.declared.states.Slot.TheVariants.{Known as KnownSlot, Awaits as AwaitsSlot}
use Rattle.name_states.specs.declared.holder.Holder.{Holder}
use Rattle.name_states.specs.declared.holder.Holder.TheVariants.{Caller as ByCaller, Task as ByTask, Body as ByBody}
use Rattle.name_states.specs.States.{NameState, IdRecord, id_at}
use Rattle.name_states.specs.Steps.{IsOutside}
use Rattle.task_states.specs.States.{Known, Graph, caller_of, input_at}
use Rattle.name_machine.specs.States.{Ask}
use Rattle.name_machine.specs.Control.{is_uncollected, is_task_of}
use Rattle.name_machine.specs.Standing.{HasNumber, HasNoOutput, IsRefOf}

-- whether a number is that of the identifier that a reference names
abbrev pub is_number_of : Ref → ℕ → Option IdRecord → Bool
is_number_of Null number entry = false
is_number_of (Held id) number entry = number == id.number

-- the reference that an input is; null where it is awaited
abbrev pub ref_in : Slot → Ref
ref_in (KnownSlot r) = r
ref_in (AwaitsSlot task number) = Null

-- the reference that was delivered; null where nothing was
abbrev pub ref_delivered : Option Ref → Ref
ref_delivered None = Null
ref_delivered (Some r) = r

-- whether a task of a caller is the holder
abbrev pub is_task_for : {K : Type 0} → Graph Ref K → ℕ → Holder → Bool
is_task_for graph caller (ByCaller other) = false
is_task_for graph caller (ByTask task) = is_task_of caller (caller_of graph task)
is_task_for graph caller (ByBody body) = false

-- whether a task of a caller holds an identifier
abbrev pub is_held_for : {K : Type 0} → Graph Ref K → ℕ → ℕ → Option IdRecord → Bool
is_held_for graph caller number None = false
is_held_for graph caller number (Some entry) = is_task_for graph caller entry.holder

-- whether an identifier with this number and holder is an output that a caller has not collected
abbrev pub is_output_by : map.FinMap nat_cmp (Ask (Unit {0}) Ref) → ℕ → ℕ → Holder → Bool
is_output_by asks caller number (ByCaller other) = list_any (is_uncollected caller number) (map.values asks)
is_output_by asks caller number (ByTask task) = false
is_output_by asks caller number (ByBody body) = false

-- whether an identifier is an output that a caller has not collected
abbrev pub is_output_for : map.FinMap nat_cmp (Ask (Unit {0}) Ref) → ℕ → ℕ → Option IdRecord → Bool
is_output_for asks caller number None = false
is_output_for asks caller number (Some entry) = is_output_by asks caller number entry.holder

module _ {C : Type 0} where
  -- a reference is null, or a live identifier that a caller or a task holds
  abbrev pub IsHeldOutside : NameState C → Ref → Type 0
  IsHeldOutside names r = (holder : Holder) × IsOutside holder × IsRefOf names holder r

  -- From a place on, counted from 0, each known input of a task is null or an identifier that the task holds. No two inputs have one
  -- number, and the task holds nothing but these.
  pub record HoldsFrom {K : Type 0} (names : NameState C) (graph : Graph Ref K) (task place : ℕ) : Type 0 where
    pub inputs : (at : ℕ) (r : Ref) → place ≤ at → input_at graph task at ≡ Some (Known r) → IsRefOf names (ByTask task) r
    pub apart : (at other : ℕ) (one two : Id) → input_at graph task at ≡ Some (Known (Held one)) → input_at graph task other ≡ Some (Known (Held two))
        → one.number ≡ two.number → at ≡ other
    pub nothing_else : (number : ℕ) (entry : IdRecord) → id_at names number ≡ Some entry → entry.holder ≡ ByTask task
        → (at : ℕ) × (place ≤ at) × (input_at graph task at ≡ Some (Known (Held (record { owner = entry.owner; number = number }))))

  -- The outputs that a caller has not collected are null or identifiers that it holds, each with the number of its ask; there is none under
  -- the number of an ask without an output; and no two of its asks have one number.
  pub record HoldsOutputs (names : NameState C) (asks : map.FinMap nat_cmp (Ask (Unit {0}) Ref)) (caller : ℕ) : Type 0 where
    pub outputs : (task : ℕ) (ask : Ask (Unit {0}) Ref) (r : Ref) → map.get asks task ≡ Some ask → ask.caller ≡ caller → ask.delivered ≡ Some r
        → IsRefOf names (ByCaller caller) r × HasNumber ask.number r
    pub free : (task : ℕ) (ask : Ask (Unit {0}) Ref) → map.get asks task ≡ Some ask → ask.caller ≡ caller → HasNoOutput ask.delivered → id_at names ask.number ≡ None
    pub differ : (key other : ℕ) (one two : Ask (Unit {0}) Ref) → map.get asks key ≡ Some one → map.get asks other ≡ Some two
        → one.caller ≡ caller → two.caller ≡ caller → one.number ≡ two.number → key ≡ other

-- what is owed for an ask and for the identifier that it was delivered, if it was
abbrev pub due_for_ended : Option Ref → ℕ
due_for_ended None = 2
due_for_ended (Some Null) = 1
due_for_ended (Some (Held id)) = 2
