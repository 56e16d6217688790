-- What the machine's finish leaves, field by field.
use Rattle.std.proofs.Common.{◌≡◌, ℕ, ◌+◌, List, [], map as each, Option, None, Some, refl, ap, ◌∙◌, arith}
use Rattle.task_types.specs.declared.outcome.Place.{Place}
use Rattle.task_types.specs.declared.outcome.Place.TheVariants.{Null, Input as AtInput, Child, Chunk, Task}
use Rattle.task_types.specs.declared.outcome.NewChunk.{NewChunk}
use Rattle.task_types.specs.declared.outcome.Outcome.{Outcome}
use Rattle.task_types.specs.Tree.{Tree}
use Rattle.task_types.specs.Meanings.{Meanings}
use Rattle.task_types.specs.Reading.{reading, new_trees}
use Rattle.task_types.specs.Sound.{IsSound}
use Rattle.task_states.specs.States.{Unfinished, task_at, asked_of}
use Rattle.name_machine.specs.States.{Machine}
use Rattle.name_machine.specs.NewTasks.{drawn_by_chunks, drawn_by_tasks, task_numbers}
use Rattle.name_machine.specs.Steps.{input_trees, with_new, finished}
use Rattle.name_machine.proofs.Invariant.{Keeps}
use Rattle.name_machine.proofs.Added.{old_stays}
use Rattle.name_machine.proofs.Stands.{stood}
use Rattle.name_machine.proofs.Answered.{asks_then}
use Rattle.name_machine.proofs.Finishing.{stand_of, final, later}
use Rattle.name_machine.proofs.Runs.{ended}

module _ {C K : Type 0} (lib : Meanings C K) where
  ended_graph : (machine : Machine C K) (task : ℕ) (numbers : List ℕ) (read : Place → Tree C) (place : Place)
      → (ended lib machine task numbers read place).graph ≡ stood machine.graph task (stand_of numbers read place)
  ended_graph machine task numbers read Null = refl
  ended_graph machine task numbers read (AtInput i) = refl
  ended_graph machine task numbers read (Child i j) = refl
  ended_graph machine task numbers read (Chunk i) = refl
  ended_graph machine task numbers read (Task i) = refl

  ended_asks : (machine : Machine C K) (task : ℕ) (numbers : List ℕ) (read : Place → Tree C) (place : Place)
      → (ended lib machine task numbers read place).asks ≡ asks_then (stand_of numbers read place) (asked_of machine.graph task) machine.asks
  ended_asks machine task numbers read Null = refl
  ended_asks machine task numbers read (AtInput i) = refl
  ended_asks machine task numbers read (Child i j) = refl
  ended_asks machine task numbers read (Chunk i) = refl
  ended_asks machine task numbers read (Task i) = refl

  ended_drawn : (machine : Machine C K) (task : ℕ) (numbers : List ℕ) (read : Place → Tree C) (place : Place)
      → (ended lib machine task numbers read place).drawn ≡ machine.drawn
  ended_drawn machine task numbers read Null = refl
  ended_drawn machine task numbers read (AtInput i) = refl
  ended_drawn machine task numbers read (Child i j) = refl
  ended_drawn machine task numbers read (Chunk i) = refl
  ended_drawn machine task numbers read (Task i) = refl

  ended_holdings : (machine : Machine C K) (task : ℕ) (numbers : List ℕ) (read : Place → Tree C) (place : Place)
      → (ended lib machine task numbers read place).holdings ≡ machine.holdings
  ended_holdings machine task numbers read Null = refl
  ended_holdings machine task numbers read (AtInput i) = refl
  ended_holdings machine task numbers read (Child i j) = refl
  ended_holdings machine task numbers read (Chunk i) = refl
  ended_holdings machine task numbers read (Task i) = refl

  module _ (arity : C → ℕ) (machine : Machine C K) (keeps : Keeps lib machine.drawn machine.graph machine.asks) (gone : ℕ) (ran : Unfinished (Tree C) K) (there : task_at machine.graph gone ≡ Some ran)
      (worker : ℕ) (runs : ran.runner ≡ Some worker) (outcome : Outcome C K) (sound : IsSound arity lib ran.kind (input_trees ran) outcome) where
    abbrev start : ℕ
    start = machine.drawn + drawn_by_chunks (each (λ (chunk : NewChunk C). chunk.children) outcome.chunks)

    abbrev read_it : Place → Tree C
    read_it = reading (input_trees ran) (new_trees (input_trees ran) outcome) []

    abbrev grown_machine : Machine C K
    grown_machine = with_new machine ran.caller read_it outcome

    grown_asked : asked_of grown_machine.graph gone ≡ ran.asked
    grown_asked =
        ap (λ (o : Option (Unfinished (Tree C) K)). elim o as (λ x. Option ℕ) [ None ↦ None | Some t ↦ t.asked ])
        (old_stays (λ place number. read_it place) (task_numbers start outcome.tasks) ran.caller start outcome.tasks machine.graph gone
        (let h = keeps.numbers gone ran there in omega arith) ∙ there)

    pub finished_graph : (finished machine gone ran outcome).graph ≡ final lib arity machine.drawn machine.graph machine.asks keeps gone ran there worker runs outcome sound
    finished_graph = ended_graph grown_machine gone (task_numbers start outcome.tasks) read_it outcome.result

    pub finished_asks : (finished machine gone ran outcome).asks ≡ later lib arity machine.drawn machine.graph machine.asks keeps gone ran there worker runs outcome sound
    finished_asks =
        ended_asks grown_machine gone (task_numbers start outcome.tasks) read_it outcome.result
        ∙ ap (λ asked. asks_then (stand_of (task_numbers start outcome.tasks) read_it outcome.result) asked machine.asks) grown_asked

    pub finished_drawn : (finished machine gone ran outcome).drawn ≡ start + drawn_by_tasks outcome.tasks
    finished_drawn = ended_drawn grown_machine gone (task_numbers start outcome.tasks) read_it outcome.result

    pub finished_holdings : (finished machine gone ran outcome).holdings ≡ machine.holdings
    finished_holdings = ended_holdings grown_machine gone (task_numbers start outcome.tasks) read_it outcome.result
