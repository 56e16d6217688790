-- What holds in every state that is reached.
use Rattle.std.specs.Prelude.{◌≡◌, ℕ, ◌<◌, ◌≤◌, true, None, Some}
use Rattle.std.specs.Ordering.{nat_cmp}
use Rattle.std.specs.FinMap as map
use Rattle.task_types.specs.Tree.{Tree}
use Rattle.task_types.specs.Meanings.{Meanings}
use Rattle.task_states.specs.States.{Awaits, Unfinished, Graph, task_at, input_at, is_stopped}
use Rattle.name_machine.specs.States.{Machine, Ask, has_ask, Runs}
use Rattle.name_machine.specs.Steps.{input_trees}
use Rattle.name_machine.specs.Goals.{AreDefined, AreServed}

module _ {X K : Type 0} where
  -- an input of the first task awaits the second
  abbrev pub AwaitsTask : Graph X K → ℕ → ℕ → Type 0
  AwaitsTask graph task awaited = (place number : ℕ) × (input_at graph task place ≡ Some (Awaits awaited number))

  -- Awaiting leads in no circle: each task has a level below so many, and what awaits a task has a greater one.
  pub record HasLevels (graph : Graph X K) (below : ℕ) : Type 0 where
    pub level : ℕ → ℕ
    pub few : (task : ℕ) (unfinished : Unfinished X K) → task_at graph task ≡ Some unfinished → level task < below
    pub falls : (task awaited : ℕ) → AwaitsTask graph task awaited → level awaited < level task

  -- what a task awaits is an unfinished task of the same caller
  abbrev pub AwaitsOwn : Graph X K → Type 0
  AwaitsOwn graph =
      (task awaited : ℕ) (unfinished : Unfinished X K) → task_at graph task ≡ Some unfinished → AwaitsTask graph task awaited
      → (other : Unfinished X K) × (task_at graph awaited ≡ Some other) × (other.caller ≡ unfinished.caller)

module _ {G X Y K : Type 0} where
  -- Going on from a task to what awaits it ends at an ask of a caller: the caller itself awaits the task, or a task of the caller
  -- does, from which it goes on.
  pub data EndsAtAsk (graph : Graph X K) (asks : map.FinMap nat_cmp (Ask G Y)) (caller : ℕ) : ℕ → Type 0 where
    Asked : (task number key : ℕ) (unfinished : Unfinished X K) (ask : Ask G Y) → task_at graph task ≡ Some unfinished
        → unfinished.caller ≡ caller → unfinished.asked ≡ Some number → map.get asks key ≡ Some ask
        → ask.caller ≡ caller → ask.number ≡ number → ask.delivered ≡ None → EndsAtAsk graph asks caller task
    Awaited : (task by : ℕ) (unfinished : Unfinished X K) → task_at graph task ≡ Some unfinished → unfinished.caller ≡ caller
        → AwaitsTask graph by task → EndsAtAsk graph asks caller by → EndsAtAsk graph asks caller task

module _ {C K : Type 0} where
  -- each unfinished task is awaited, and going on from it ends at an ask of its caller
  abbrev pub AreAwaited : Machine C K → Type 0
  AreAwaited machine =
      (number : ℕ) (task : Unfinished (Tree C) K) → task_at machine.graph number ≡ Some task
      → EndsAtAsk machine.graph machine.asks task.caller number

  -- what a worker runs awaits nothing
  abbrev pub RunAwaitsNothing : Machine C K → Type 0
  RunAwaitsNothing machine = (worker task awaited : ℕ) → Runs machine worker task → AwaitsTask machine.graph task awaited → ⊥

  -- a worker runs no two tasks
  abbrev pub RunsOne : Machine C K → Type 0
  RunsOne machine = (worker task other : ℕ) → Runs machine worker task → Runs machine worker other → task ≡ other

  -- what is asked of a task is an ask of its caller that was not delivered, and no two tasks are asked for under one number
  pub record AskedBelong (machine : Machine C K) : Type 0 where
    pub asks : (task number : ℕ) (unfinished : Unfinished (Tree C) K) → task_at machine.graph task ≡ Some unfinished → unfinished.asked ≡ Some number
        → (key : ℕ) × (ask : Ask (Tree C) (Tree C)) × (map.get machine.asks key ≡ Some ask) × (ask.caller ≡ unfinished.caller)
        × (ask.number ≡ number) × (ask.delivered ≡ None)
    pub differ : (task other number : ℕ) (one two : Unfinished (Tree C) K) → task_at machine.graph task ≡ Some one → task_at machine.graph other ≡ Some two
        → one.asked ≡ Some number → two.asked ≡ Some number → task ≡ other

  -- the goal of a task that a worker runs is defined on the trees of its inputs
  abbrev pub RunDefined : Meanings C K → Machine C K → Type 0
  RunDefined lib machine =
      (worker task : ℕ) (unfinished : Unfinished (Tree C) K) → task_at machine.graph task ≡ Some unfinished
      → unfinished.runner ≡ Some worker → lib.defined unfinished.kind (input_trees unfinished)

  -- a caller of whose asks each was delivered has no unfinished task
  abbrev pub DeliveredHaveNoTasks : Machine C K → Type 0
  DeliveredHaveNoTasks machine =
      (caller : ℕ) → ((key : ℕ) (ask : Ask (Tree C) (Tree C)) → map.get machine.asks key ≡ Some ask → ask.caller ≡ caller → ask.delivered ≡ None → ⊥)
      → (number : ℕ) (task : Unfinished (Tree C) K) → task_at machine.graph number ≡ Some task → task.caller ≡ caller → ⊥

  -- numbers of unfinished tasks and of asks were drawn, and no two asks have an output's number in common
  pub record AreNumbered (machine : Machine C K) : Type 0 where
    pub tasks : (number : ℕ) (task : Unfinished (Tree C) K) → task_at machine.graph number ≡ Some task → number ≤ machine.drawn
    pub asks : (key : ℕ) (ask : Ask (Tree C) (Tree C)) → map.get machine.asks key ≡ Some ask → (key ≤ machine.drawn) × (ask.number ≤ machine.drawn)
    pub differ : (key other : ℕ) (one two : Ask (Tree C) (Tree C)) → map.get machine.asks key ≡ Some one → map.get machine.asks other ≡ Some two
        → one.number ≡ two.number → key ≡ other

  -- a stopped caller has an ask
  abbrev pub StoppedHaveAsked : Machine C K → Type 0
  StoppedHaveAsked machine = (caller : ℕ) → is_stopped machine.graph caller ≡ true → has_ask machine.asks caller ≡ true

-- The facts of every state that is reached: goals of unfinished tasks are defined; each ask was delivered its goal, or its caller
-- awaits a task with that goal; each unfinished task is awaited, in no circle, up to an ask of its caller; what it awaits is its
-- caller's, and what is asked of it belongs to an ask of its caller; what is run awaits nothing, and its goal is defined on the trees of its inputs; a worker runs one task at most; a caller
-- whose asks were all delivered has no task; numbers were drawn; a stopped caller has an ask. (A task that is ready awaits nothing by
-- the definition of its status.)
pub record HoldsTogether {C K : Type 0} (lib : Meanings C K) (machine : Machine C K) : Type 0 where
  pub defined : AreDefined lib machine
  pub served : AreServed lib machine
  pub levels : HasLevels machine.graph machine.drawn
  pub own : AwaitsOwn machine.graph
  pub awaited : AreAwaited machine
  pub asked : AskedBelong machine
  pub runs : RunAwaitsNothing machine
  pub one : RunsOne machine
  pub run_defined : RunDefined lib machine
  pub no_tasks : DeliveredHaveNoTasks machine
  pub numbered : AreNumbered machine
  pub stopped : StoppedHaveAsked machine
