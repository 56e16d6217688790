-- What contracts see of `Tasks`, and what its calls want.
use Rattle.std.specs.Prelude.{◌≡◌, ℕ, Bool, true, false, List, [], ◌∷◌, map as each, Some, refl}
use Rattle.std.specs.Coded.{Coded, code_by, coded×, coded_ℕ}
use Rattle.cht_ids.specs.declared.refs.Ref.{Ref}
use Rattle.task_states.specs.declared.states.Slot.{Slot}
use Rattle.task_states.specs.declared.states.Slot.TheVariants.{Known, Awaits}
use Rattle.task_states.specs.declared.states.Awaiter.{Awaiter}
use Rattle.task_states.specs.declared.states.Awaiter.TheVariants.{Input as AtInput, Asked}
use Rattle.task_states.specs.declared.states.TaskStatus.{TaskStatus}
use Rattle.task_states.specs.declared.states.TaskStatus.TheVariants.{Unknown, Waiting, Ready, Running}
use Rattle.task_states.specs.States.{Input, Known as KnownInput, Awaits as AwaitsTask, Graph, status, caller_of, asked_of}
use Rattle.task_states.specs.Awaiters.{IsFree}
use Rattle.task_states.specs.Codes.{graph_code, ref_code}

-- the unfinished tasks, and how many can be added without memory
pub record Contents (K : Type 0) : Type 0 where
  pub graph : Graph Ref K
  pub spare : ℕ

-- contents are stored as the pair of their fields
abbrev pub contents_code : {K : Type 0} → Coded K → Coded (Contents K)
contents_code {K} kind = code_by (Graph Ref K × ℕ) (coded× (graph_code ref_code kind) coded_ℕ) (λ c. (c.graph, c.spare)) (λ p. record { graph = p.0; spare = p.1 }) (λ _. refl)

-- an input as it is given
abbrev pub input_of : Slot → Input Ref
input_of (Known r) = KnownInput r
input_of (Awaits task number) = AwaitsTask task number

-- inputs as they are given
abbrev pub inputs_given : List Slot → List (Input Ref)
inputs_given slots = each input_of slots

-- no awaiting input has a number
abbrev pub IsNumberOfNone : ℕ → List Slot → Type 0
IsNumberOfNone number [] = Unit {0}
IsNumberOfNone number (Known r ∷ slots) = IsNumberOfNone number slots
IsNumberOfNone number (Awaits task other ∷ slots) = (other ≡ number → ⊥) × IsNumberOfNone number slots

-- whether a status is Ready
abbrev pub is_ready : TaskStatus → Bool
is_ready Unknown = false
is_ready Waiting = false
is_ready Ready = true
is_ready Running = false

module _ {K : Type 0} where
  -- whether the task whose input an awaiter is, is Ready; not where the awaiter is a caller that asked
  abbrev pub is_ready_at : Graph Ref K → Awaiter → Bool
  is_ready_at graph (AtInput task place number) = is_ready (status graph task)
  is_ready_at graph (Asked caller number) = false

  -- each awaited task is there and belongs to a caller
  abbrev pub AreOf : Graph Ref K → ℕ → List Slot → Type 0
  AreOf graph caller [] = Unit {0}
  AreOf graph caller (Known r ∷ slots) = AreOf graph caller slots
  AreOf graph caller (Awaits task number ∷ slots) = (caller_of graph task ≡ Some caller) × AreOf graph caller slots

  -- the numbers of the awaiting inputs differ, and no awaiter has one of them
  abbrev pub AreFree : Graph Ref K → List Slot → Type 0
  AreFree graph [] = Unit {0}
  AreFree graph (Known r ∷ slots) = AreFree graph slots
  AreFree graph (Awaits task number ∷ slots) = IsFree graph number × IsNumberOfNone number slots × AreFree graph slots

  -- two tasks of one caller
  abbrev pub AreOfOneCaller : Graph Ref K → ℕ → ℕ → Type 0
  AreOfOneCaller graph task other = (caller : ℕ) × (caller_of graph task ≡ Some caller) × (caller_of graph other ≡ Some caller)

  -- at most one of two tasks is asked for
  abbrev pub IsAskedOnce : Graph Ref K → ℕ → ℕ → Type 0
  IsAskedOnce graph task other = (asked : ℕ) (that : ℕ) → asked_of graph task ≡ Some asked → asked_of graph other ≡ Some that → ⊥
