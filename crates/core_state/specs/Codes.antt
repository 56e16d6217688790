-- Events, asks and contents as lists, by which a proof tells them apart.
use Rattle.std.specs.Prelude.{ℕ, zero, suc, ◌⊎◌, List, Option, refl}
use Rattle.std.proofs.Common.{inl, inr}
use Rattle.std.specs.Coded.{Coded, code_by, coded×, coded⊎, coded_ℕ, coded_list, coded_option}
use Rattle.std.specs.Ordering.{nat_cmp}
use Rattle.std.specs.FinMap as map
use Rattle.cht_ids.specs.declared.refs.Id.{Id}
use Rattle.cht_ids.specs.declared.refs.Ref.{Ref}
use Rattle.task_types.specs.declared.outcome.Place.{Place}
use Rattle.task_types.specs.declared.outcome.Place.TheVariants.{Null, Input, Child, Chunk, Task}
use Rattle.task_types.specs.declared.outcome.Places.{Places}
use Rattle.task_types.specs.declared.outcome.NewTask.{NewTask}
use Rattle.name_states.specs.States.{NameState}
use Rattle.name_states.specs.Codes.{name_state_code}
use Rattle.task_states.specs.States.{Graph}
use Rattle.task_states.specs.Codes.{graph_code, ref_code}
use Rattle.cht_history.specs.declared.event.Event.{Event}
use Rattle.cht_history.specs.declared.event.Event.TheVariants.{Register, Copy, Delete, Ask as AskEvent, Collect, Abandon, Stop, Start, GiveBack, Finish}
use Rattle.name_machine.specs.States.{Ask}
use Rattle.name_machine.specs.Control.{Control}
use Rattle.core_state.specs.Contents.{Contents}

-- an identifier is stored as its fields
abbrev pub id_code : Coded Id
id_code = code_by (ℕ × ℕ) (coded× coded_ℕ coded_ℕ) (λ id. (id.owner, id.number)) (λ p. record { owner = p.0; number = p.1 }) (λ _. refl)

-- a place as its kind and two numbers
abbrev pub place_parts : Place → ℕ × (ℕ × ℕ)
place_parts Null = (0, (0, 0))
place_parts (Input i) = (1, (i, 0))
place_parts (Child i j) = (2, (i, j))
place_parts (Chunk i) = (3, (i, 0))
place_parts (Task i) = (4, (i, 0))

-- and back
abbrev pub place_of_parts : ℕ → ℕ → ℕ → Place
place_of_parts zero i j = Null
place_of_parts (suc zero) i j = Input i
place_of_parts (suc (suc zero)) i j = Child i j
place_of_parts (suc (suc (suc zero))) i j = Chunk i
place_of_parts (suc (suc (suc (suc kind)))) i j = Task i

-- a place is stored so
abbrev pub place_code : Coded Place
place_code =
    code_by (ℕ × (ℕ × ℕ)) (coded× coded_ℕ (coded× coded_ℕ coded_ℕ)) place_parts (λ p. place_of_parts p.0 p.1.0 p.1.1)
    (elim [ Null ↦ refl | Input i ↦ refl | Child i j ↦ refl | Chunk i ↦ refl | Task i ↦ refl ])

-- places are stored as their fields
abbrev pub places_code : Coded Places
places_code =
    code_by (ℕ × (Place × (Place × (Place × Place)))) (coded× coded_ℕ (coded× place_code (coded× place_code (coded× place_code place_code))))
    (λ p. (p.count, (p.first, (p.second, (p.third, p.fourth)))))
    (λ p. record { count = p.0; first = p.1.0; second = p.1.1.0; third = p.1.1.1.0; fourth = p.1.1.1.1 })
    (λ _. refl)

-- an ask is stored as its fields
abbrev pub ask_code : Coded (Ask (Unit {0}) Ref)
ask_code =
    code_by (ℕ × (ℕ × Option Ref)) (coded× coded_ℕ (coded× coded_ℕ (coded_option ref_code))) (λ a. (a.caller, (a.number, a.delivered)))
    (λ p. record { caller = p.0; number = p.1.0; goal = tt; delivered = p.1.1 }) (λ _. refl)

-- the fields of events that speak of names, of those that speak of asks, and of those that workers make
abbrev pub NameParts : Type 0
NameParts = (ℕ × (Id × List Ref)) ⊎ ((ℕ × (Id × Id)) ⊎ (ℕ × Id))

abbrev pub AskParts : Type 0 → Type 0
AskParts K = (ℕ × (ℕ × (K × List Ref))) ⊎ ((ℕ × (ℕ × Ref)) ⊎ (ℕ ⊎ ℕ))

abbrev pub WorkParts : Type 0 → Type 0
WorkParts K = (ℕ × ℕ) ⊎ ((ℕ × ℕ) ⊎ (ℕ × (ℕ × (List Places × (List (NewTask K) × Place)))))

module _ {K : Type 0} where
  -- a new task is stored as its fields
  abbrev pub new_task_code : Coded K → Coded (NewTask K)
  new_task_code kind = code_by (K × Places) (coded× kind places_code) (λ t. (t.kind, t.inputs)) (λ p. record { kind = p.0; inputs = p.1 }) (λ _. refl)

  -- an event as one of these
  abbrev pub event_parts : Event K → NameParts ⊎ (AskParts K ⊎ WorkParts K)
  event_parts (Register caller id children) = inl (inl (caller, (id, children)))
  event_parts (Copy caller from to) = inl (inr (inl (caller, (from, to))))
  event_parts (Delete caller id) = inl (inr (inr (caller, id)))
  event_parts (AskEvent caller task kind inputs) = inr (inl (inl (caller, (task, (kind, inputs)))))
  event_parts (Collect caller task got) = inr (inl (inr (inl (caller, (task, got)))))
  event_parts (Abandon caller) = inr (inl (inr (inr (inl caller))))
  event_parts (Stop caller) = inr (inl (inr (inr (inr caller))))
  event_parts (Start worker task) = inr (inr (inl (worker, task)))
  event_parts (GiveBack worker task) = inr (inr (inr (inl (worker, task))))
  event_parts (Finish worker task chunks tasks result) = inr (inr (inr (inr (worker, (task, (chunks, (tasks, result)))))))

  -- and back
  abbrev pub name_event : NameParts → Event K
  name_event (inl p) = Register p.0 p.1.0 p.1.1
  name_event (inr (inl p)) = Copy p.0 p.1.0 p.1.1
  name_event (inr (inr p)) = Delete p.0 p.1

  abbrev pub ask_event : AskParts K → Event K
  ask_event (inl p) = AskEvent p.0 p.1.0 p.1.1.0 p.1.1.1
  ask_event (inr (inl p)) = Collect p.0 p.1.0 p.1.1
  ask_event (inr (inr (inl caller))) = Abandon caller
  ask_event (inr (inr (inr caller))) = Stop caller

  abbrev pub work_event : WorkParts K → Event K
  work_event (inl p) = Start p.0 p.1
  work_event (inr (inl p)) = GiveBack p.0 p.1
  work_event (inr (inr p)) = Finish p.0 p.1.0 p.1.1.0 p.1.1.1.0 p.1.1.1.1

  abbrev pub event_of_parts : NameParts ⊎ (AskParts K ⊎ WorkParts K) → Event K
  event_of_parts (inl p) = name_event p
  event_of_parts (inr (inl p)) = ask_event p
  event_of_parts (inr (inr p)) = work_event p

  abbrev pub parts_code : Coded K → Coded (NameParts ⊎ (AskParts K ⊎ WorkParts K))
  parts_code kind =
      coded⊎
      (coded⊎ (coded× coded_ℕ (coded× id_code (coded_list ref_code))) (coded⊎ (coded× coded_ℕ (coded× id_code id_code)) (coded× coded_ℕ id_code)))
      (coded⊎
      (coded⊎ (coded× coded_ℕ (coded× coded_ℕ (coded× kind (coded_list ref_code)))) (coded⊎ (coded× coded_ℕ (coded× coded_ℕ ref_code)) (coded⊎ coded_ℕ coded_ℕ)))
      (coded⊎ (coded× coded_ℕ coded_ℕ) (coded⊎ (coded× coded_ℕ coded_ℕ)
      (coded× coded_ℕ (coded× coded_ℕ (coded× (coded_list places_code) (coded× (coded_list (new_task_code kind)) place_code)))))))

  -- an event is stored so
  abbrev pub event_code : Coded K → Coded (Event K)
  event_code kind =
      code_by (NameParts ⊎ (AskParts K ⊎ WorkParts K)) (parts_code kind) event_parts event_of_parts
      (elim [
        | Register caller id children ↦ refl
        | Copy caller from to ↦ refl
        | Delete caller id ↦ refl
        | AskEvent caller task kind inputs ↦ refl
        | Collect caller task got ↦ refl
        | Abandon caller ↦ refl
        | Stop caller ↦ refl
        | Start worker task ↦ refl
        | GiveBack worker task ↦ refl
        | Finish worker task chunks tasks result ↦ refl
      ])

module _ {C K : Type 0} where
  -- a control state is stored as its fields
  abbrev pub control_code : Coded C → Coded K → Coded (Control C (Unit {0}) K)
  control_code content kind =
      code_by (ℕ × (NameState C × (map.FinMap nat_cmp (Ask (Unit {0}) Ref) × Graph Ref K)))
      (coded× coded_ℕ (coded× (name_state_code content) (coded× (map.code coded_ℕ ask_code) (graph_code ref_code kind))))
      (λ c. (c.drawn, (c.names, (c.asks, c.graph))))
      (λ p. record { drawn = p.0; names = p.1.0; asks = p.1.1.0; graph = p.1.1.1 })
      (λ _. refl)

  -- and so are contents
  abbrev pub contents_code : Coded C → Coded K → Coded (Contents C K)
  contents_code content kind =
      code_by (Control C (Unit {0}) K × (List (Event K) × (ℕ × ℕ)))
      (coded× (control_code content kind) (coded× (coded_list (event_code kind)) (coded× coded_ℕ coded_ℕ)))
      (λ c. (c.control, (c.events, (c.callers, c.workers))))
      (λ p. record { control = p.0; events = p.1.0; callers = p.1.1.0; workers = p.1.1.1 })
      (λ _. refl)
