-- The machine's steps, each with where it is allowed, and whole runs.
use Rattle.std.specs.Prelude.{◌≡◌, ℕ, ◌+◌, true, false, List, [], ◌∷◌, length, map as each, Some}
use Rattle.std.specs.FinMap as map
use Rattle.cht_ids.specs.declared.refs.Id.{Id}
use Rattle.cht_ids.specs.declared.refs.Ref.{Ref}
use Rattle.cht_ids.specs.declared.refs.Ref.TheVariants.{Null as NullRef, Id as Held}
use Rattle.task_types.specs.declared.outcome.NewChunk.{NewChunk}
use Rattle.task_types.specs.declared.outcome.Outcome.{Outcome}
use Rattle.task_types.specs.declared.outcome.Places.{Places}
use Rattle.task_types.specs.declared.outcome.Place.{Place}
use Rattle.task_types.specs.declared.outcome.NewTask.{NewTask}
use Rattle.task_types.specs.Tree.{Tree, Nothing, Root}
use Rattle.task_types.specs.Meanings.{Meanings}
use Rattle.task_types.specs.Sound.{IsSound}
use Rattle.task_states.specs.declared.states.TaskStatus.TheVariants.{Ready}
use Rattle.task_states.specs.States.{Unfinished, task_at, status, is_stopped, running}
use Rattle.cht_history.specs.declared.event.Event.{Event}
use Rattle.cht_history.specs.declared.event.Event.TheVariants.{Register, Copy, Delete, Ask as AskEvent, Collect, Abandon, Stop, Start, GiveBack, Finish}
use Rattle.name_machine.specs.States.{Machine, Ask, Holding, opening, held_by, Holds, MayMentionAll, tree_named, has_ask, Runs, IsIdle}
use Rattle.name_machine.specs.Steps.{registered, copied, deleted, asked, collected, stopped, gave_up, begun, put_back, input_trees, finished}

-- an output and the reference that is answered for it agree: null for nothing, and else an identifier with this number
abbrev pub IsAnswer : {C : Type 0} → ℕ → Tree C → Ref → Type 0
IsAnswer number Nothing NullRef = Unit {0}
IsAnswer number Nothing (Held id) = ⊥
IsAnswer number (Root content a b c d) NullRef = ⊥
IsAnswer number (Root content a b c d) (Held id) = id.number ≡ number

-- the owner in a reference; it says nothing for null
abbrev pub owner_of : Ref → ℕ
owner_of NullRef = 0
owner_of (Held id) = id.owner

module _ {C K : Type 0} (lib : Meanings C K) (arity : C → ℕ) where
  -- a caller registers a content with as many children as it wants, over references that it may mention
  pub record Registers (before after : Machine C K) (caller : ℕ) (id : Id) (children : List Ref) : Type 0 where
    pub content : C
    pub mentioned : MayMentionAll before caller children
    pub all_children : length children ≡ arity content
    pub number : id.number ≡ before.drawn + 2
    pub after_is : after ≡ registered before caller id.owner content children

  -- a caller copies an identifier that it holds
  pub record Copies (before after : Machine C K) (caller : ℕ) (from to : Id) : Type 0 where
    pub holding : Holding C
    pub held : held_by before caller from ≡ Some holding
    pub number : to.number ≡ before.drawn + 1
    pub after_is : after ≡ copied before caller to.owner holding.tree

  -- a caller deletes an identifier that it holds
  pub record Deletes (before after : Machine C K) (caller : ℕ) (id : Id) : Type 0 where
    pub held : Holds before caller id
    pub after_is : after ≡ deleted before id.number

  -- a caller that is not stopped asks a task whose goal is defined on what it mentions
  pub record Asks (before after : Machine C K) (caller task : ℕ) (kind : K) (inputs : List Ref) : Type 0 where
    pub goes_on : is_stopped before.graph caller ≡ false
    pub mentioned : MayMentionAll before caller inputs
    pub defined : lib.defined kind (each (tree_named before) inputs)
    pub number : task ≡ before.drawn + 1
    pub after_is : after ≡ asked lib before caller kind inputs

  -- a caller that is not stopped collects an output that was delivered to it
  pub record Collects (before after : Machine C K) (caller task : ℕ) (got : Ref) : Type 0 where
    pub goes_on : is_stopped before.graph caller ≡ false
    pub ask : Ask (Tree C) (Tree C)
    pub there : map.get before.asks task ≡ Some ask
    pub own : ask.caller ≡ caller
    pub output : Tree C
    pub delivered : ask.delivered ≡ Some output
    pub answer : IsAnswer ask.number output got
    pub after_is : after ≡ collected before task (owner_of got) ask output

  -- a caller that has an ask, and no task that is run, gives up
  pub record GivesUp (before after : Machine C K) (caller : ℕ) : Type 0 where
    pub has_one : has_ask before.asks caller ≡ true
    pub none_run : running before.graph caller ≡ 0
    pub after_is : after ≡ gave_up before caller

  -- a caller that has an ask and is not stopped is stopped
  pub record Stops (before after : Machine C K) (caller : ℕ) : Type 0 where
    pub has_one : has_ask before.asks caller ≡ true
    pub goes_on : is_stopped before.graph caller ≡ false
    pub after_is : after ≡ stopped before caller

  -- a worker that runs nothing begins a ready task
  pub record Begins (before after : Machine C K) (worker task : ℕ) : Type 0 where
    pub ready : status before.graph task ≡ Ready
    pub idle : IsIdle before worker
    pub after_is : after ≡ begun before task worker

  -- a worker gives the task back that it runs
  pub record PutsBack (before after : Machine C K) (worker task : ℕ) : Type 0 where
    pub runs : Runs before worker task
    pub after_is : after ≡ put_back before task

  -- a worker finishes the task that it runs, with an outcome of this shape that is sound for the task
  pub record Finishes (before after : Machine C K) (worker task : ℕ) (chunks : List Places) (tasks : List (NewTask K)) (result : Place)
      : Type 0 where
    pub unfinished : Unfinished (Tree C) K
    pub there : task_at before.graph task ≡ Some unfinished
    pub runs : unfinished.runner ≡ Some worker
    pub outcome : Outcome C K
    pub chunks_are : each (λ (chunk : NewChunk C). chunk.children) outcome.chunks ≡ chunks
    pub tasks_are : outcome.tasks ≡ tasks
    pub result_is : outcome.result ≡ result
    pub sound : IsSound arity lib unfinished.kind (input_trees unfinished) outcome
    pub after_is : after ≡ finished before task unfinished outcome

  -- an event is a step from one state to another
  abbrev pub IsStep : Machine C K → Event K → Machine C K → Type 0
  IsStep before (Register caller id children) after = Registers before after caller id children
  IsStep before (Copy caller from to) after = Copies before after caller from to
  IsStep before (Delete caller id) after = Deletes before after caller id
  IsStep before (AskEvent caller task kind inputs) after = Asks before after caller task kind inputs
  IsStep before (Collect caller task got) after = Collects before after caller task got
  IsStep before (Abandon caller) after = GivesUp before after caller
  IsStep before (Stop caller) after = Stops before after caller
  IsStep before (Start worker task) after = Begins before after worker task
  IsStep before (GiveBack worker task) after = PutsBack before after worker task
  IsStep before (Finish worker task chunks tasks result) after = Finishes before after worker task chunks tasks result

  -- events lead from one state to another, one step after the other
  abbrev pub LeadsTo : Machine C K → List (Event K) → Machine C K → Type 0
  LeadsTo before [] after = after ≡ before
  LeadsTo before (event ∷ events) after = (mid : Machine C K) × IsStep before event mid × LeadsTo mid events after

  -- a legal run: events from the opening state on
  abbrev pub IsLegalRun : List (Event K) → Machine C K → Type 0
  IsLegalRun events after = LeadsTo opening events after
