-- States of names as lists, by which a proof tells them apart.
use Rattle.std.specs.Prelude.{ℕ, zero, suc, Option, None, Some, List, refl}
use Rattle.std.specs.Coded.{Coded, code_by, coded×, coded_ℕ, coded_list, coded_option}
use Rattle.std.specs.FinMap as map
use Rattle.std.specs.Ordering.{nat_cmp}
use Rattle.cht_ids.specs.declared.refs.Ref.{Ref}
use Rattle.cht_ids.specs.declared.refs.Ref.TheVariants.{Null, Id as Held}
use Rattle.name_states.specs.declared.holder.Holder.{Holder}
use Rattle.name_states.specs.declared.holder.Holder.TheVariants.{Caller, Task, Body}
use Rattle.name_states.specs.States.{IdRecord, BodyRecord, NameState}

-- a holder as its kind and its number
abbrev pub holder_pair : Holder → ℕ × ℕ
holder_pair (Caller caller) = (0, caller)
holder_pair (Task task) = (1, task)
holder_pair (Body body) = (2, body)

-- and back
abbrev pub holder_of_kind : ℕ → ℕ → Holder
holder_of_kind zero number = Caller number
holder_of_kind (suc zero) number = Task number
holder_of_kind (suc (suc kind)) number = Body number

-- a holder is stored as that pair
abbrev pub holder_code : Coded Holder
holder_code = code_by (ℕ × ℕ) (coded× coded_ℕ coded_ℕ) holder_pair (λ p. holder_of_kind p.0 p.1) (elim [ Caller caller ↦ refl | Task task ↦ refl | Body body ↦ refl ])

-- a reference as nothing, or an owner and a number
abbrev pub ref_pair : Ref → Option (ℕ × ℕ)
ref_pair Null = None
ref_pair (Held id) = Some (id.owner, id.number)

-- and back
abbrev pub ref_of_pair : Option (ℕ × ℕ) → Ref
ref_of_pair None = Null
ref_of_pair (Some p) = Held (record { owner = p.0; number = p.1 })

-- a reference is stored so
abbrev pub ref_code : Coded Ref
ref_code = code_by (Option (ℕ × ℕ)) (coded_option (coded× coded_ℕ coded_ℕ)) ref_pair ref_of_pair (elim [ Null ↦ refl | Held id ↦ refl ])

-- the record of an identifier is stored as its fields
abbrev pub id_record_code : Coded IdRecord
id_record_code =
    code_by (ℕ × (ℕ × Holder)) (coded× coded_ℕ (coded× coded_ℕ holder_code)) (λ n. (n.owner, (n.body, n.holder))) (λ p. record { owner = p.0; body = p.1.0; holder = p.1.1 }) (λ _. refl)

-- the record of a body is stored as its fields
abbrev pub body_record_code : {C : Type 0} → Coded C → Coded (BodyRecord C)
body_record_code {C} content =
    code_by (ℕ × (C × List Ref)) (coded× coded_ℕ (coded× content (coded_list ref_code))) (λ b. (b.owner, (b.content, b.children))) (λ p. record { owner = p.0; content = p.1.0; children = p.1.1 }) (λ _. refl)

-- a state of names is stored as the two maps
abbrev pub name_state_code : {C : Type 0} → Coded C → Coded (NameState C)
name_state_code {C} content =
    code_by (map.FinMap nat_cmp IdRecord × map.FinMap nat_cmp (BodyRecord C)) (coded× (map.code coded_ℕ id_record_code) (map.code coded_ℕ (body_record_code content))) (λ n. (n.ids, n.bodies)) (λ p. record { ids = p.0; bodies = p.1 }) (λ _. refl)
