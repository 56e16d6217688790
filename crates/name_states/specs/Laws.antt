-- The laws of states of names, as statements. The functions of `laws` carry each as their contract.
use Rattle.std.specs.Prelude.{◌≡◌, ◌↔◌, ℕ, ◌+◌, List, length, None, Some, IsSome}
use Rattle.cht_ids.specs.declared.refs.Ref.{Ref}
use Rattle.name_states.specs.declared.holder.Holder.{Holder}
use Rattle.name_states.specs.States.{NameState, IdRecord, id_at, AreLive, no_names}
use Rattle.name_states.specs.Steps.{registered, copied, without_id, present, IsOutside}
use Rattle.name_states.specs.Reached.{IsReached, swept}
use Rattle.name_states.specs.Rules.{IsSound, AreReached, AreWithin}
use Rattle.name_states.specs.WithoutContents.{without_contents}

-- the number of children that is kept in place of a content is its own arity
abbrev pub itself : ℕ → ℕ
itself n = n

module _ (C : Type 0) where
  -- registering a body and leaving contents out is leaving contents out and registering the number of its children
  abbrev pub RegisteringWithout : Type 0
  RegisteringWithout =
      (arity : C → ℕ) (names : NameState C) (drawn : ℕ) (holder : Holder) (worker : ℕ) (content : C) (refs : List Ref)
      → without_contents arity (registered names drawn holder worker content refs)
      ≡ registered (without_contents arity names) drawn holder worker (arity content) refs

  -- copying and leaving contents out is leaving contents out and copying
  abbrev pub CopyingWithout : Type 0
  CopyingWithout =
      (arity : C → ℕ) (names : NameState C) (from number : ℕ) (holder : Holder)
      → without_contents arity (copied names from number holder) ≡ copied (without_contents arity names) from number holder

  -- ending an identifier and leaving contents out is leaving contents out and ending it
  abbrev pub EndingWithout : Type 0
  EndingWithout =
      (arity : C → ℕ) (names : NameState C) (number : ℕ)
      → without_contents arity (without_id names number) ≡ without_id (without_contents arity names) number

  -- sweeping and leaving contents out is leaving contents out and sweeping
  abbrev pub SweepingWithout : Type 0
  SweepingWithout =
      (arity : C → ℕ) (names : NameState C) → without_contents arity (swept names) ≡ swept (without_contents arity names)

  -- the rules hold without contents, with the number of children as its own arity
  abbrev pub RulesWithout : Type 0
  RulesWithout =
      (arity : C → ℕ) (names : NameState C) → IsSound arity names → IsSound itself (without_contents arity names)

  -- the same bodies are reached without contents
  abbrev pub ReachedWithout : Type 0
  ReachedWithout =
      (arity : C → ℕ) (names : NameState C) (body : ℕ) → IsReached names body ↔ IsReached (without_contents arity names) body

  -- no names keep the rules
  abbrev pub NoNamesKeep : Type 0
  NoNamesKeep = (arity : C → ℕ) → IsSound arity (no_names {C = C})

  -- registering keeps the rules, and draws the numbers that it should
  abbrev pub RegisteringKeeps : Type 0
  RegisteringKeeps =
      (arity : C → ℕ) (names : NameState C) (drawn : ℕ) (holder : Holder) (worker : ℕ) (content : C) (refs : List Ref)
      → IsSound arity names → AreWithin names drawn → IsOutside holder → AreLive names refs → length refs ≡ arity content
      → IsSound arity (registered names drawn holder worker content refs)
      × AreWithin (registered names drawn holder worker content refs) (drawn + 2 + present refs)

  -- copying a live identifier under a number that is free keeps the rules
  abbrev pub CopyingKeeps : Type 0
  CopyingKeeps =
      (arity : C → ℕ) (names : NameState C) (from number : ℕ) (holder : Holder)
      → IsSound arity names → IsOutside holder → IsSome (id_at names from) → id_at names number ≡ None
      → IsSound arity (copied names from number holder)

  -- ending an identifier that a caller or a task holds keeps the rules
  abbrev pub EndingKeeps : Type 0
  EndingKeeps =
      (arity : C → ℕ) (names : NameState C) (number : ℕ) (gone : IdRecord)
      → IsSound arity names → id_at names number ≡ Some gone → IsOutside gone.holder → IsSound arity (without_id names number)

  -- sweeping keeps the rules, and leaves bodies all of which are reached
  abbrev pub SweepingKeeps : Type 0
  SweepingKeeps = (arity : C → ℕ) (names : NameState C) → IsSound arity names → IsSound arity (swept names) × AreReached (swept names)

  -- sweeping, ending an identifier and sweeping again is ending it and sweeping once
  abbrev pub SweptOnce : Type 0
  SweptOnce =
      (arity : C → ℕ) (names : NameState C) (number : ℕ) → IsSound arity names
      → swept (without_id (swept names) number) ≡ swept (without_id names number)

  -- nothing goes where all is reached
  abbrev pub NothingGoes : Type 0
  NothingGoes = (arity : C → ℕ) (names : NameState C) → IsSound arity names → AreReached names → swept names ≡ names
