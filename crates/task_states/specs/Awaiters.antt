-- Who awaits a task, and the least of numbers.
use Rattle.std.specs.Prelude.{◌≡◌, ℕ, ◌≤◌, ◌<◌, false, Option, None, Some}
use Rattle.task_states.specs.declared.states.Awaiter.{Awaiter}
use Rattle.task_states.specs.declared.states.Awaiter.TheVariants.{Input as AtInput, Asked}
use Rattle.task_states.specs.declared.states.TaskStatus.TheVariants.{Ready}
use Rattle.task_states.specs.States.{Awaits, Unfinished, Graph, task_at, input_at, status, caller_of, is_stopped}

-- the number under which an awaiter awaits
abbrev pub number_of : Awaiter → ℕ
number_of (AtInput task place number) = number
number_of (Asked caller number) = number

-- the task whose input an awaiter is, if it is one
abbrev pub task_of : Awaiter → Option ℕ
task_of (AtInput task place number) = Some task
task_of (Asked caller number) = None

-- nothing where no number is of the kind, and else the least of them
abbrev pub IsLeastOf : (ℕ → Type 0) → Option ℕ → Type 0
IsLeastOf IsOne None = (number : ℕ) → IsOne number → ⊥
IsLeastOf IsOne (Some least) = IsOne least × ((number : ℕ) → IsOne number → least ≤ number)

module _ {X K : Type 0} where
  -- the caller of a task awaits it, under a number
  pub record IsAsked (graph : Graph X K) (task caller number : ℕ) : Type 0 where
    pub unfinished : Unfinished X K
    pub there : task_at graph task ≡ Some unfinished
    pub caller_is : unfinished.caller ≡ caller
    pub number_is : unfinished.asked ≡ Some number

  -- an input of a task, or the caller that asked, awaits a task
  abbrev pub IsAwaiter : Graph X K → ℕ → Awaiter → Type 0
  IsAwaiter graph task (AtInput of place number) = input_at graph of place ≡ Some (Awaits task number)
  IsAwaiter graph task (Asked caller number) = IsAsked graph task caller number

  -- nobody awaits a task
  abbrev pub IsNotAwaited : Graph X K → ℕ → Type 0
  IsNotAwaited graph task = (awaiter : Awaiter) → IsAwaiter graph task awaiter → ⊥

  -- the awaiter of a task with the least number
  pub record IsLeastAwaiter (graph : Graph X K) (task : ℕ) (awaiter : Awaiter) : Type 0 where
    pub awaits : IsAwaiter graph task awaiter
    pub least : (other : Awaiter) → IsAwaiter graph task other → number_of awaiter ≤ number_of other

  -- nothing where nobody awaits a task, and else its awaiter with the least number
  abbrev pub IsAwaiterFound : Graph X K → ℕ → Option Awaiter → Type 0
  IsAwaiterFound graph task None = IsNotAwaited graph task
  IsAwaiterFound graph task (Some awaiter) = IsLeastAwaiter graph task awaiter

  -- no awaiter of any task has a number
  abbrev pub IsFree : Graph X K → ℕ → Type 0
  IsFree graph number = (task : ℕ) (awaiter : Awaiter) → IsAwaiter graph task awaiter → number_of awaiter ≡ number → ⊥

  -- a Ready task of a caller that is not stopped
  pub record IsRunnable (graph : Graph X K) (task : ℕ) : Type 0 where
    pub unfinished : Unfinished X K
    pub there : task_at graph task ≡ Some unfinished
    pub ready : status graph task ≡ Ready
    pub not_stopped : is_stopped graph unfinished.caller ≡ false

  -- an unfinished task of a caller with a greater number than another
  abbrev pub IsLater : Graph X K → ℕ → ℕ → ℕ → Type 0
  IsLater graph caller after task = (caller_of graph task ≡ Some caller) × (after < task)

  -- an unfinished task of a caller that is not stopped
  abbrev pub IsWanted : Graph X K → ℕ → Type 0
  IsWanted graph task = (unfinished : Unfinished X K) × (task_at graph task ≡ Some unfinished) × (is_stopped graph unfinished.caller ≡ false)
