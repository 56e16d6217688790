-- What is handed to those that await a task: copies under the numbers that were drawn for them, and which tasks become Ready by it.
use Rattle.std.specs.Prelude.{◌≡◌, ℕ, Bool, cond, ◌++◌, List, [], ◌∷◌, Option, None, Some}
use Rattle.cht_ids.specs.declared.refs.Ref.{Ref}
use Rattle.name_states.specs.declared.holder.Holder.{Holder}
use Rattle.name_states.specs.declared.holder.Holder.TheVariants.{Caller as ByCaller, Task as ByTask}
use Rattle.name_states.specs.States.{NameState, id_at}
use Rattle.task_states.specs.declared.states.Awaiter.{Awaiter}
use Rattle.task_states.specs.declared.states.Awaiter.TheVariants.{Input as AtInput, Asked}
use Rattle.task_states.specs.declared.states.TaskStatus.{TaskStatus}
use Rattle.task_states.specs.declared.states.TaskStatus.TheVariants.{Unknown, Waiting, Ready, Running}
use Rattle.task_states.specs.States.{Graph, status}
use Rattle.task_states.specs.Awaiters.{number_of, IsAwaiter}

-- who is to hold the copy that an awaiter gets
abbrev pub holder_for : Awaiter → Holder
holder_for (AtInput task place number) = ByTask task
holder_for (Asked caller number) = ByCaller caller

-- the number of the asked output, where an awaiter is the caller that asked; else another number
abbrev pub asked_by : Awaiter → Option ℕ → Option ℕ
asked_by (AtInput task place number) other = other
asked_by (Asked caller number) other = Some number

-- a task at the end of others, if its status is Ready
abbrev pub listed_if : TaskStatus → ℕ → List ℕ → List ℕ
listed_if Unknown task tasks = tasks
listed_if Waiting task tasks = tasks
listed_if Ready task tasks = tasks ++ task ∷ []
listed_if Running task tasks = tasks

-- the task whose input an awaiter is at the end of others, where it is told to be Ready
abbrev pub listed_by : Bool → Awaiter → List ℕ → List ℕ
listed_by is_ready (AtInput task place number) tasks = cond is_ready (tasks ++ task ∷ []) tasks
listed_by is_ready (Asked caller number) tasks = tasks

-- Numbers under which a task is awaited: each is free in the names, and no two awaiters have one.
pub record AreSetApart {C K : Type 0} (names : NameState C) (graph : Graph Ref K) (task : ℕ) : Type 0 where
  pub free : (awaiter : Awaiter) → IsAwaiter graph task awaiter → id_at names (number_of awaiter) ≡ None
  pub apart : (one other : Awaiter) → IsAwaiter graph task one → IsAwaiter graph task other → number_of one ≡ number_of other → one ≡ other

module _ {K : Type 0} where
  -- the task whose input an awaiter is at the end of others, if it is Ready
  abbrev pub with_ready : Graph Ref K → Awaiter → List ℕ → List ℕ
  with_ready graph (AtInput task place number) tasks = listed_if (status graph task) task tasks
  with_ready graph (Asked caller number) tasks = tasks

  -- a task is Ready, and was not Ready before
  pub record IsNowReady (before after : Graph Ref K) (task : ℕ) : Type 0 where
    pub ready : status after task ≡ Ready
    pub not_before : status before task ≡ Ready → ⊥
