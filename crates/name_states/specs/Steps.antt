-- What each call makes of the names.
use Rattle.std.specs.Prelude.{ℕ, ◌+◌, List, [], ◌∷◌, Option, None, Some}
use Rattle.std.specs.FinMap as map
use Rattle.cht_ids.specs.declared.refs.Ref.{Ref}
use Rattle.cht_ids.specs.declared.refs.Ref.TheVariants.{Null, Id as Held}
use Rattle.name_states.specs.declared.holder.Holder.{Holder}
use Rattle.name_states.specs.declared.holder.Holder.TheVariants.{Caller, Task, Body}
use Rattle.name_states.specs.States.{NameState, IdRecord, BodyRecord, id_at}

-- a caller or a task
abbrev pub IsOutside : Holder → Type 0
IsOutside (Caller caller) = Unit {0}
IsOutside (Task task) = Unit {0}
IsOutside (Body body) = ⊥

-- how many numbers a child draws: one where it is not null
abbrev pub drawn_by : Ref → ℕ
drawn_by Null = 0
drawn_by (Held id) = 1

-- how many of these references are not null
abbrev pub present : List Ref → ℕ
present [] = 0
present (r ∷ refs) = drawn_by r + present refs

-- the identifier that a body has for a child, after so many numbers were drawn: null for null, else the next number,
-- with the owner of the body that the child names
abbrev pub numbered_ref : ℕ → Ref → Ref
numbered_ref drawn Null = Null
numbered_ref drawn (Held id) = Held (record { owner = id.owner; number = drawn + 1 })

-- the same for all children in order
abbrev pub numbered : ℕ → List Ref → List Ref
numbered drawn [] = []
numbered drawn (r ∷ refs) = numbered_ref drawn r ∷ numbered (drawn + drawn_by r) refs

module _ {C : Type 0} where
  -- one more identifier
  abbrev pub with_id : NameState C → ℕ → IdRecord → NameState C
  with_id names number entry = record names { ids = map.insert names.ids number entry }

  -- one more body
  abbrev pub with_body : NameState C → ℕ → BodyRecord C → NameState C
  with_body names number body = record names { bodies = map.insert names.bodies number body }

  -- one more identifier for what another one names
  abbrev pub with_copy : NameState C → ℕ → Holder → Option IdRecord → NameState C
  with_copy names number holder None = names
  with_copy names number holder (Some entry) = with_id names number (record entry { holder = holder })

  -- one more identifier of the body that a live identifier names, with a number and a holder of its own
  abbrev pub copied : NameState C → ℕ → ℕ → Holder → NameState C
  copied names from number holder = with_copy names number holder (id_at names from)

  -- one more identifier, with the next number, for a child that is not null
  abbrev pub linked_ref : NameState C → ℕ → Holder → Ref → NameState C
  linked_ref names drawn holder Null = names
  linked_ref names drawn holder (Held id) = copied names id.number (drawn + 1) holder

  -- the same for all children in order
  abbrev pub linked : NameState C → ℕ → Holder → List Ref → NameState C
  linked names drawn holder [] = names
  linked names drawn holder (r ∷ refs) = linked (linked_ref names drawn holder r) (drawn + drawn_by r) holder refs

  -- A registered body, after so many numbers that were drawn before: the body has the next number, its identifier the
  -- one after, and then come the identifiers that the body holds of its children.
  abbrev pub registered : NameState C → ℕ → Holder → ℕ → C → List Ref → NameState C
  registered names drawn holder worker content refs =
      linked (with_id (with_body names (drawn + 1) (record {
        owner = worker;
        content = content;
        children = numbered (drawn + 2) refs;
      })) (drawn + 2) (record { owner = worker; body = drawn + 1; holder = holder })) (drawn + 2) (Body (drawn + 1)) refs

  -- all but the identifier with a number
  abbrev pub without_id : NameState C → ℕ → NameState C
  without_id names number = record names { ids = map.remove names.ids number }

  -- all but the body with a number
  abbrev pub without_body : NameState C → ℕ → NameState C
  without_body names number = record names { bodies = map.remove names.bodies number }
