-- Which bodies are reached, and what is left where the others go.
use Rattle.std.specs.Prelude.{◌≡◌, ℕ, zero, suc, ◌==◌, Bool, true, false, ◌&&◌, Option, None, Some, max}
use Rattle.std.specs.List.{list_any, fold}
use Rattle.std.specs.FinMap as map
use Rattle.name_states.specs.declared.holder.Holder.{Holder}
use Rattle.name_states.specs.declared.holder.Holder.TheVariants.{Caller, Task, Body}
use Rattle.name_states.specs.States.{NameState, IdRecord, id_at}
use Rattle.name_states.specs.Steps.{IsOutside}

-- A body is reached where an identifier of it is held by a caller or a task, or by a body that is reached.
pub data IsReached {C : Type 0} (names : NameState C) : ℕ → Type 0 where
  Outside : (number : ℕ) (entry : IdRecord) → id_at names number ≡ Some entry → IsOutside entry.holder → IsReached names entry.body
  Inside : (number : ℕ) (entry : IdRecord) (holder : ℕ) → id_at names number ≡ Some entry → entry.holder ≡ Body holder → IsReached names holder → IsReached names entry.body

-- whether a holder is a caller or a task, or a body that passes a test
abbrev pub keeps_up : (ℕ → Bool) → Holder → Bool
keeps_up passes (Caller caller) = true
keeps_up passes (Task task) = true
keeps_up passes (Body body) = passes body

-- whether what a number names is a body, held by a caller, a task or a body that passes a test
abbrev pub leads_up : (ℕ → Bool) → ℕ → Option IdRecord → Bool
leads_up passes body None = false
leads_up passes body (Some entry) = (entry.body == body) && keeps_up passes entry.holder

module _ {C : Type 0} where
  -- what holds its identifiers for good: a caller, a task, or a body that is reached
  abbrev pub IsHeldUp : NameState C → Holder → Type 0
  IsHeldUp names (Caller caller) = Unit {0}
  IsHeldUp names (Task task) = Unit {0}
  IsHeldUp names (Body body) = IsReached names body

  -- whether a body is reached over fewer bodies than a depth
  abbrev pub is_reached_within : ℕ → NameState C → ℕ → Bool
  is_reached_within zero names body = false
  is_reached_within (suc depth) names body =
      list_any (λ number. leads_up (is_reached_within depth names) body (id_at names number)) (map.keys names.ids)

  -- the greatest number of a body
  abbrev pub greatest_body : NameState C → ℕ
  greatest_body names = fold max 0 (map.keys names.bodies)

  -- Whether a body is reached. An identifier that a body holds names a body with a lower number, so the way to a body
  -- is no longer than the greatest number.
  abbrev pub is_reached : NameState C → ℕ → Bool
  is_reached names body = is_reached_within (suc (greatest_body names)) names body

  -- whether what a number names is held by a caller, a task or a reached body
  abbrev pub is_kept : NameState C → Option IdRecord → Bool
  is_kept names None = false
  is_kept names (Some entry) = keeps_up (is_reached names) entry.holder

  -- what is left where each body that is not reached goes, with the identifiers that it holds
  abbrev pub swept : NameState C → NameState C
  swept names = record {
    ids = map.retain_keys names.ids (λ number. is_kept names (id_at names number));
    bodies = map.retain_keys names.bodies (is_reached names);
  }
