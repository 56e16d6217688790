-- Graphs of tasks as lists, by which a proof tells them apart.
use Rattle.std.specs.Prelude.{ℕ, Option, None, Some, List, refl}
use Rattle.std.specs.Coded.{Coded, code_by, coded×, coded_ℕ, coded_list, coded_option}
use Rattle.std.specs.FinMap as map
use Rattle.std.specs.FinSet as numbers
use Rattle.std.specs.Ordering.{nat_cmp}
use Rattle.cht_ids.specs.declared.refs.Ref.{Ref}
use Rattle.cht_ids.specs.declared.refs.Ref.TheVariants.{Null, Id as Held}
use Rattle.task_states.specs.States.{Input, Known, Awaits, Unfinished, Graph}

-- a reference as nothing, or an owner and a number
abbrev pub ref_pair : Ref → Option (ℕ × ℕ)
ref_pair Null = None
ref_pair (Held id) = Some (id.owner, id.number)

-- and back
abbrev pub ref_of_pair : Option (ℕ × ℕ) → Ref
ref_of_pair None = Null
ref_of_pair (Some p) = Held (record { owner = p.0; number = p.1 })

-- a reference is stored so
abbrev pub ref_code : Coded Ref
ref_code = code_by (Option (ℕ × ℕ)) (coded_option (coded× coded_ℕ coded_ℕ)) ref_pair ref_of_pair (elim [ Null ↦ refl | Held id ↦ refl ])

module _ {X : Type 0} where
  -- an input as its value, or the task and the number
  abbrev pub input_parts : Input X → Option X × (ℕ × ℕ)
  input_parts (Known x) = (Some x, (0, 0))
  input_parts (Awaits task number) = (None, (task, number))

  -- and back
  abbrev pub input_of_parts : Option X → ℕ → ℕ → Input X
  input_of_parts (Some x) task number = Known x
  input_of_parts None task number = Awaits task number

  -- an input is stored so
  abbrev pub input_code : Coded X → Coded (Input X)
  input_code code =
      code_by (Option X × (ℕ × ℕ)) (coded× (coded_option code) (coded× coded_ℕ coded_ℕ)) input_parts (λ p. input_of_parts p.0 p.1.0 p.1.1) (elim [ Known x ↦ refl | Awaits task number ↦ refl ])

module _ {X K : Type 0} where
  -- a task is stored as its fields
  abbrev pub unfinished_code : Coded X → Coded K → Coded (Unfinished X K)
  unfinished_code known kind =
      code_by (ℕ × (K × (List (Input X) × (Option ℕ × Option ℕ)))) (coded× coded_ℕ (coded× kind (coded× (coded_list (input_code known)) (coded× (coded_option coded_ℕ) (coded_option coded_ℕ)))))
      (λ t. (t.caller, (t.kind, (t.inputs, (t.runner, t.asked)))))
      (λ p. record { caller = p.0; kind = p.1.0; inputs = p.1.1.0; runner = p.1.1.1.0; asked = p.1.1.1.1 })
      (λ _. refl)

  -- a graph is stored as its fields
  abbrev pub graph_code : Coded X → Coded K → Coded (Graph X K)
  graph_code known kind =
      code_by (map.FinMap nat_cmp (Unfinished X K) × numbers.FinSet nat_cmp) (coded× (map.code coded_ℕ (unfinished_code known kind)) (numbers.code coded_ℕ)) (λ g. (g.tasks, g.stopped)) (λ p. record { tasks = p.0; stopped = p.1 }) (λ _. refl)
