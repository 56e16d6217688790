-- What each step makes of the unfinished tasks.
use Rattle.std.specs.Prelude.{ℕ, ◌==◌, not, if◌then◌else◌, List, map as each, set, Option, None, Some}
use Rattle.std.specs.Option.{option_map}
use Rattle.std.specs.FinMap as map
use Rattle.std.specs.FinSet as numbers
use Rattle.task_states.specs.declared.states.Awaiter.{Awaiter}
use Rattle.task_states.specs.declared.states.Awaiter.TheVariants.{Input as AtInput, Asked}
use Rattle.task_states.specs.Maps.{each_changed, kept, put_at}
use Rattle.task_states.specs.States.{Input, Known, Awaits, Unfinished, Graph, task_at, asked_of}

module _ {X : Type 0} where
  -- an input that awaits a task gets the value that is made from its number, and each other stays
  abbrev pub settled : ℕ → (ℕ → X) → Input X → Input X
  settled task value (Known x) = Known x
  settled task value (Awaits awaited number) = if awaited == task then Known (value number) else Awaits awaited number

  -- an input that awaits one task awaits another in its place, and each other stays
  abbrev pub redirected : ℕ → ℕ → Input X → Input X
  redirected task to (Known x) = Known x
  redirected task to (Awaits awaited number) = Awaits (if awaited == task then to else awaited) number

module _ {X K : Type 0} where
  -- one task changed; nothing where there is none
  abbrev pub with_task : Graph X K → ℕ → (Unfinished X K → Unfinished X K) → Graph X K
  with_task graph number change = record graph { tasks = put_at graph.tasks number (option_map change (task_at graph number)) }

  -- one more task, that no worker runs and nobody awaits
  abbrev pub added : Graph X K → ℕ → ℕ → K → List (Input X) → Graph X K
  added graph number caller kind inputs =
      record graph { tasks = map.insert graph.tasks number (record { caller = caller; kind = kind; inputs = inputs; runner = None; asked = None }) }

  -- the caller of a task awaits it, under the number of the asked output
  abbrev pub with_asked : Graph X K → ℕ → ℕ → Graph X K
  with_asked graph task number = with_task graph task (λ unfinished. record unfinished { asked = Some number })

  -- a worker runs a task
  abbrev pub started : Graph X K → ℕ → ℕ → Graph X K
  started graph task worker = with_task graph task (λ unfinished. record unfinished { runner = Some worker })

  -- no worker runs a task any more
  abbrev pub given_back : Graph X K → ℕ → Graph X K
  given_back graph task = with_task graph task (λ unfinished. record unfinished { runner = None })

  -- the caller of a task awaits it no more
  abbrev pub without_asked : Graph X K → ℕ → Graph X K
  without_asked graph task = with_task graph task (λ unfinished. record unfinished { asked = None })

  -- one awaiter of a task gets a value: an input is known then, and what was asked awaits no more
  abbrev pub delivered : Graph X K → ℕ → Awaiter → X → Graph X K
  delivered graph task (AtInput of place number) value =
      with_task graph of (λ unfinished. record unfinished { inputs = set unfinished.inputs place (Known value) })
  delivered graph task (Asked caller number) value = without_asked graph task

  -- every awaiter of a task gets the value that is made from its number
  abbrev pub all_delivered : Graph X K → ℕ → (ℕ → X) → Graph X K
  all_delivered graph task value =
      without_asked (record graph { tasks = each_changed (λ unfinished. record unfinished { inputs = each (settled task value) unfinished.inputs }) graph.tasks }) task

  -- every input that awaits the first task awaits the second
  abbrev pub inputs_redirected : Graph X K → ℕ → ℕ → Graph X K
  inputs_redirected graph task to =
      record graph { tasks = each_changed (λ unfinished. record unfinished { inputs = each (redirected task to) unfinished.inputs }) graph.tasks }

  -- what was asked of the first task, if it was, is asked of the second
  abbrev pub asked_moved : Graph X K → ℕ → ℕ → Option ℕ → Graph X K
  asked_moved graph task to None = graph
  asked_moved graph task to (Some number) = with_asked (without_asked graph task) to number

  -- all that awaits the first task awaits the second
  abbrev pub forwarded : Graph X K → ℕ → ℕ → Graph X K
  forwarded graph task to = asked_moved (inputs_redirected graph task to) task to (asked_of graph task)

  -- a task goes
  abbrev pub removed : Graph X K → ℕ → Graph X K
  removed graph task = record graph { tasks = map.remove graph.tasks task }

  -- a caller is stopped
  abbrev pub with_stopped : Graph X K → ℕ → Graph X K
  with_stopped graph caller = record graph { stopped = numbers.insert graph.stopped caller }

  -- all tasks of a caller go, and it is not stopped
  abbrev pub abandoned : Graph X K → ℕ → Graph X K
  abandoned graph caller =
      record { tasks = kept (λ task. not (task.caller == caller)) graph.tasks; stopped = numbers.remove graph.stopped caller }
