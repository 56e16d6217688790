-- Where a finish adds its new tasks: once the new chunks are there, and what it has then.
use Rattle.std.proofs.Common.{◌≡◌, ℕ, ◌+◌, ◌≤◌, List, map as each, length, refl, sym, ap, subst, ◌∙◌, arith}
use Rattle.cht_ids.specs.declared.refs.Ref.{Ref}
use Rattle.task_types.specs.declared.outcome.NewChunk.{NewChunk}
use Rattle.task_types.specs.declared.outcome.NewTask.{NewTask}
use Rattle.task_types.specs.declared.outcome.Outcome.{Outcome}
use Rattle.task_types.specs.Presence.{Presence}
use Rattle.task_types.specs.Formed.{AreFormedTasks}
use Rattle.name_states.specs.States.{NameState, AreLive}
use Rattle.name_states.specs.Rules.{AreWithin}
use Rattle.name_states.specs.Trees.{tree_of}
use Rattle.task_states.specs.declared.states.Awaiter.{Awaiter}
use Rattle.task_states.specs.declared.states.Awaiter.TheVariants.{Input as ByInput, Asked}
use Rattle.task_states.specs.States.{Unfinished, Graph}
use Rattle.task_states.specs.Awaiters.{IsAwaiter, number_of}
use Rattle.name_machine.specs.NewTasks.{drawn_by_tasks, task_numbers, with_tasks}
use Rattle.name_machine.specs.Control.{Control, Grown, ref_known, with_number, ref_named, task_copies, with_chunks, with_new_tasks}
use Rattle.name_machine.specs.Standing.{IsOrderly}
use Rattle.name_machine.proofs.FinishStages.{chunk_stage}
use Rattle.core_steps.specs.Begin.{CanFinish}
use Rattle.core_steps.specs.Conditions.{HangsTogether, presences, bodies_of}
use Rattle.core_steps.specs.NewTasks.{IsGraphWithin}

module _ {C K : Type 0} where
  -- no number of the tasks is above what was drawn
  pub graph_within : (arity : C → ℕ) (control : Control C (Unit {0}) K) → IsOrderly arity control → HangsTogether control → (drawn : ℕ) → control.drawn ≤ drawn → IsGraphWithin control.graph drawn
  graph_within arity control orderly together drawn up = record {
    tasks = λ number task is. let low = together.tasks_drawn number task is in omega arith;
    awaiters = awaits;
  }
    where
      awaits : (task : ℕ) (awaiter : Awaiter) → IsAwaiter control.graph task awaiter → number_of awaiter ≤ drawn
      awaits task (ByInput of place number) is = let low = (orderly.aside.inputs number (of, place, task, is)).0 in omega arith
      awaits task (Asked caller number) is =
          let asked = together.asked task number is.unfinished is.there is.number_is in
          let low = orderly.aside.drawn asked.0 asked.1 asked.2 in
          let same = asked.4 in
          omega arith

  -- what adding the tasks wants of names, of numbers, of the references and of the unfinished tasks
  pub record IsReadyForTasks (names : NameState C) (drawn : ℕ) (inputs made : List Ref) (graph : Graph Ref K) (tasks : List (NewTask K)) : Type 0 where
    pub live_inputs : AreLive names inputs
    pub live_made : AreLive names made
    pub within : AreWithin names drawn
    pub unfinished : IsGraphWithin graph drawn
    pub formed : (known : List Presence) × (chunks : ℕ) × AreFormedTasks known chunks tasks
    pub few : length tasks ≤ 16

  -- names, numbers, tasks and their numbers as they are once the tasks are there
  pub record HasItsTasks (later : Control C (Unit {0}) K) (numbers_later : List ℕ) (names : NameState C) (drawn : ℕ) (graph : Graph Ref K) (numbers : List ℕ) : Type 0 where
    pub names_are : names ≡ later.names
    pub draws : drawn ≡ later.drawn
    pub graph_is : graph ≡ later.graph
    pub numbers_are : numbers ≡ numbers_later

  module _ (arity : C → ℕ) (control : Control C (Unit {0}) K) (worker gone : ℕ) (ran : Unfinished Ref K) (outcome : Outcome C K) (can : CanFinish arity control worker gone ran outcome)
      (names : NameState C) (drawn : ℕ) (made : List Ref) where
    abbrev inputs : List Ref
    inputs = each ref_known ran.inputs

    abbrev grown : Grown C
    grown = with_chunks control worker gone inputs (bodies_of outcome) (each (λ (chunk : NewChunk C). chunk.children) outcome.chunks)

    module _ (names_are : names ≡ grown.names) (drawn_is : drawn ≡ grown.drawn) (made_are : made ≡ grown.chunks) where
      pub ready_for_tasks : IsReadyForTasks names drawn inputs made control.graph outcome.tasks
      ready_for_tasks =
          let stage = chunk_stage arity control can.orderly can.together.tasks_drawn gone ran can.there worker outcome (presences arity control ran) can.formed (each (tree_of control.names) inputs) refl in
          let up = stage.up in
          record {
            live_inputs = subst (λ n. AreLive n inputs) (sym names_are) stage.live_inputs;
            live_made = subst (λ n. AreLive n made) (sym names_are) (subst (AreLive grown.names) (sym made_are) stage.live);
            within = subst (λ n. AreWithin n drawn) (sym names_are) (subst (AreWithin grown.names) (sym drawn_is) stage.middle.within);
            unfinished = graph_within arity control can.orderly can.together drawn (omega arith);
            formed = (presences arity control ran, length outcome.chunks, can.formed.tasks_formed);
            few = can.formed.few_tasks;
          }

      -- what adding the tasks leaves
      pub has_its_tasks : (names2 : NameState C) (drawn2 : ℕ) (graph2 : Graph Ref K) (numbers : List ℕ)
          → names2 ≡ task_copies (ref_named names inputs made) drawn outcome.tasks names → drawn2 ≡ drawn + drawn_by_tasks outcome.tasks
          → graph2 ≡ with_tasks (λ place number. with_number (ref_named names inputs made place) number) (task_numbers drawn outcome.tasks) ran.caller drawn outcome.tasks control.graph
          → numbers ≡ task_numbers drawn outcome.tasks
          → HasItsTasks (with_new_tasks control ran.caller inputs outcome.tasks grown) (task_numbers grown.drawn outcome.tasks) names2 drawn2 graph2 numbers
      has_its_tasks names2 drawn2 graph2 numbers names2_are drawn2_is graph2_is numbers_are = record {
        names_are = names2_are ∙ (λ i. task_copies (ref_named (names_are i) inputs (made_are i)) (drawn_is i) outcome.tasks (names_are i));
        draws = drawn2_is ∙ ap (λ d. d + drawn_by_tasks outcome.tasks) drawn_is;
        graph_is =
            graph2_is
            ∙ (λ i. with_tasks (λ place number. with_number (ref_named (names_are i) inputs (made_are i) place) number) (task_numbers (drawn_is i) outcome.tasks) ran.caller (drawn_is i) outcome.tasks control.graph);
        numbers_are = numbers_are ∙ ap (λ d. task_numbers d outcome.tasks) drawn_is;
      }
