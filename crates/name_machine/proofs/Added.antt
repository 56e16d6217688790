-- The new tasks of an outcome: their numbers, and what stands under them.
use Rattle.std.proofs.Common.{◌≡◌, ℕ, zero, suc, ◌+◌, ◌<◌, ◌≤◌, ◌⊎◌, inl, inr, true, cond, nat_eq, nat_lt, List, [], ◌∷◌, map as each, length, slice_get, None, Some, refl, sym, ap, ◌∙◌, arith}
use Rattle.std.specs.List.{list_all}
use Rattle.std.proofs.lemmas.Bool.{ltb-true}
use Rattle.task_types.specs.declared.outcome.Place.{Place}
use Rattle.task_types.specs.declared.outcome.Place.TheVariants.{Null, Input as AtInput, Child, Chunk, Task}
use Rattle.task_types.specs.declared.outcome.NewTask.{NewTask}
use Rattle.task_types.specs.Tree.{Tree, tree_at}
use Rattle.task_types.specs.Presence.{Presence}
use Rattle.task_types.specs.Places.{places_of}
use Rattle.task_types.specs.Formed.{may_stand}
use Rattle.task_types.specs.Reading.{reading}
use Rattle.task_types.proofs.FormedTest.{both_left, both_right}
use Rattle.task_states.specs.States.{Known, Awaits, Unfinished, Graph, task_at}
use Rattle.task_states.specs.Steps.{added}
use Rattle.name_states.proofs.Basics.{none_not_some, same_some, test_same, test_apart, inserted_here, inserted_other, inserted_from}
use Rattle.name_machine.specs.NewTasks.{taken, drawn_by_tasks, task_numbers, number_at, new_inputs, with_tasks}
use Rattle.name_machine.specs.Goals.{read_input}

-- ---- Numbers

module _ {K : Type 0} where
  -- the number of a new task was drawn with them
  pub number_drawn : (drawn i : ℕ) (tasks : List (NewTask K)) → i < length tasks
      → (drawn < number_at (task_numbers drawn tasks) i) × (number_at (task_numbers drawn tasks) i ≤ drawn + drawn_by_tasks tasks)
  number_drawn drawn i [] h = absurd (omega arith)
  number_drawn drawn zero (task ∷ tasks) h = (omega arith, omega arith)
  number_drawn drawn (suc i) (task ∷ tasks) h =
      let rest = number_drawn (drawn + 1 + taken (places_of task.inputs)) i tasks (omega arith) in
      let low = rest.0 in
      let high = rest.1 in
      (omega arith, omega arith)

  -- numbers rise
  pub numbers_rise : (drawn i j : ℕ) (tasks : List (NewTask K)) → i < j → j < length tasks → number_at (task_numbers drawn tasks) i < number_at (task_numbers drawn tasks) j
  numbers_rise drawn i j [] h below = absurd (omega arith)
  numbers_rise drawn i zero (task ∷ tasks) h below = absurd (omega arith)
  numbers_rise drawn zero (suc j) (task ∷ tasks) h below =
      let low = (number_drawn (drawn + 1 + taken (places_of task.inputs)) j tasks (omega arith)).0 in omega arith
  numbers_rise drawn (suc i) (suc j) (task ∷ tasks) h below = numbers_rise (drawn + 1 + taken (places_of task.inputs)) i j tasks (omega arith) (omega arith)

-- the tree in one list at the place of a number in another
pub tree_for : {C : Type 0} → List ℕ → List (Tree C) → ℕ → Tree C
tree_for [] trees q = tree_at [] 0
tree_for (n ∷ numbers) [] q = tree_at [] 0
tree_for (n ∷ numbers) (tree ∷ trees) q = cond (nat_eq q n) tree (tree_for numbers trees q)

module _ {C K : Type 0} where
  -- under the number of a new task stands what stands at its place
  pub tree_for-number : (drawn j : ℕ) (tasks : List (NewTask K)) (trees : List (Tree C)) → j < length tasks
      → tree_for (task_numbers drawn tasks) trees (number_at (task_numbers drawn tasks) j) ≡ tree_at trees j
  unfolding tree_for
  tree_for-number drawn j [] trees h = absurd (omega arith)
  tree_for-number drawn j (task ∷ tasks) [] h = refl
  tree_for-number drawn zero (task ∷ tasks) (tree ∷ trees) h =
      ap (λ b. cond b tree (tree_for (task_numbers (drawn + 1 + taken (places_of task.inputs)) tasks) trees (drawn + 1))) (test_same (drawn + 1))
  tree_for-number drawn (suc j) (task ∷ tasks) (tree ∷ trees) h =
      let rest : ℕ = drawn + 1 + taken (places_of task.inputs) in
      let low = (number_drawn rest j tasks (omega arith)).0 in
      ap (λ b. cond b tree (tree_for (task_numbers rest tasks) trees (number_at (task_numbers rest tasks) j)))
      (test_apart (number_at (task_numbers rest tasks) j) (drawn + 1) (λ same. omega arith))
      ∙ tree_for-number rest j tasks trees (omega arith)

-- ---- Inputs

module _ {X : Type 0} (value : Place → ℕ → X) (numbers : List ℕ) where
  -- an input of a new task that awaits a task stands where a place names a new task
  pub awaits_named : (start p a n : ℕ) (places : List Place) → slice_get (new_inputs value numbers start places) p ≡ Some (Awaits a n)
      → (j : ℕ) × (slice_get places p ≡ Some (Task j)) × (a ≡ number_at numbers j)
  awaits_named start p a n [] is = absurd (none_not_some refl is)
  awaits_named start zero a n (Null ∷ places) is = absurd (let clash : Known (value Null 0) ≡ Awaits a n = same_some _ _ is in cc)
  awaits_named start zero a n (AtInput i ∷ places) is = absurd (let clash : Known (value (AtInput i) (start + 1)) ≡ Awaits a n = same_some _ _ is in cc)
  awaits_named start zero a n (Child i k ∷ places) is = absurd (let clash : Known (value (Child i k) (start + 1)) ≡ Awaits a n = same_some _ _ is in cc)
  awaits_named start zero a n (Chunk i ∷ places) is = absurd (let clash : Known (value (Chunk i) (start + 1)) ≡ Awaits a n = same_some _ _ is in cc)
  awaits_named start zero a n (Task j ∷ places) is = (j, refl, let same : Awaits (number_at numbers j) (start + 1) ≡ Awaits a n = same_some _ _ is in cc)
  awaits_named start (suc p) a n (Null ∷ places) is = awaits_named start p a n places is
  awaits_named start (suc p) a n (AtInput i ∷ places) is = awaits_named (start + 1) p a n places is
  awaits_named start (suc p) a n (Child i k ∷ places) is = awaits_named (start + 1) p a n places is
  awaits_named start (suc p) a n (Chunk i ∷ places) is = awaits_named (start + 1) p a n places is
  awaits_named start (suc p) a n (Task j ∷ places) is = awaits_named (start + 1) p a n places is

  pub named_awaits : (start p j : ℕ) (places : List Place) → slice_get places p ≡ Some (Task j)
      → (n : ℕ) × (slice_get (new_inputs value numbers start places) p ≡ Some (Awaits (number_at numbers j) n))
  named_awaits start p j [] is = absurd (none_not_some refl is)
  named_awaits start zero j (Null ∷ places) is = absurd (let clash : Null ≡ Task j = same_some _ _ is in cc)
  named_awaits start zero j (AtInput i ∷ places) is = absurd (let clash : AtInput i ≡ Task j = same_some _ _ is in cc)
  named_awaits start zero j (Child i k ∷ places) is = absurd (let clash : Child i k ≡ Task j = same_some _ _ is in cc)
  named_awaits start zero j (Chunk i ∷ places) is = absurd (let clash : Chunk i ≡ Task j = same_some _ _ is in cc)
  named_awaits start zero j (Task i ∷ places) is = (start + 1, let same : Task i ≡ Task j = same_some _ _ is in let number : i ≡ j = cc in ap (λ k. Some (Awaits (number_at numbers k) (start + 1))) number)
  named_awaits start (suc p) j (Null ∷ places) is = named_awaits start p j places is
  named_awaits start (suc p) j (AtInput i ∷ places) is = named_awaits (start + 1) p j places is
  named_awaits start (suc p) j (Child i k ∷ places) is = named_awaits (start + 1) p j places is
  named_awaits start (suc p) j (Chunk i ∷ places) is = named_awaits (start + 1) p j places is
  named_awaits start (suc p) j (Task i ∷ places) is = named_awaits (start + 1) p j places is

module _ {C : Type 0} (known : List Presence) (chunks below : ℕ) (inputs new goals : List (Tree C)) (numbers : List ℕ) (read : ℕ → Tree C) (reads : (j : ℕ) → j < below → read (number_at numbers j) ≡ tree_at goals j) where
  -- the inputs of a new task read as its places do
  pub new_inputs_read : (start : ℕ) (places : List Place) → list_all (may_stand known chunks below) places ≡ true
      → each (read_input read) (new_inputs (λ place number. reading inputs new [] place) numbers start places) ≡ each (reading inputs new goals) places
  new_inputs_read start [] e = refl
  new_inputs_read start (Null ∷ places) e = ap (λ rest. reading inputs new goals Null ∷ rest) (new_inputs_read start places e)
  new_inputs_read start (AtInput i ∷ places) e =
      ap (λ rest. reading inputs new goals (AtInput i) ∷ rest) (new_inputs_read (start + 1) places (both_right (may_stand known chunks below (AtInput i)) _ e))
  new_inputs_read start (Child i k ∷ places) e =
      ap (λ rest. reading inputs new goals (Child i k) ∷ rest) (new_inputs_read (start + 1) places (both_right (may_stand known chunks below (Child i k)) _ e))
  new_inputs_read start (Chunk i ∷ places) e =
      ap (λ rest. reading inputs new goals (Chunk i) ∷ rest) (new_inputs_read (start + 1) places (both_right (may_stand known chunks below (Chunk i)) _ e))
  new_inputs_read start (Task i ∷ places) e =
      let rest = list_all (may_stand known chunks below) places in
      let first = reads i (ltb-true i below (both_left (nat_lt i below) rest e)) in
      let more = new_inputs_read (start + 1) places (both_right (nat_lt i below) rest e) in
      (λ k. first k ∷ more k)

-- ---- Tasks

module _ {X K : Type 0} (value : Place → ℕ → X) (numbers : List ℕ) (caller : ℕ) where
  -- a new task, whose inputs have the numbers after one
  abbrev pub new_of : ℕ → NewTask K → Unfinished X K
  new_of start task = record { caller = caller; kind = task.kind; inputs = new_inputs value numbers start (places_of task.inputs); runner = None; asked = None }

  -- a task is a new one
  pub record IsNew (drawn : ℕ) (tasks : List (NewTask K)) (q : ℕ) (t : Unfinished X K) : Type 0 where
    pub index : ℕ
    pub task : NewTask K
    pub start : ℕ
    pub at : slice_get tasks index ≡ Some task
    pub number : number_at (task_numbers drawn tasks) index ≡ q
    pub is : t ≡ new_of start task

  -- what was there before stays
  pub old_stays : (drawn : ℕ) (tasks : List (NewTask K)) (graph : Graph X K) (q : ℕ) → q ≤ drawn → task_at (with_tasks value numbers caller drawn tasks graph) q ≡ task_at graph q
  old_stays drawn [] graph q h = refl
  old_stays drawn (task ∷ tasks) graph q h =
      old_stays (drawn + 1 + taken (places_of task.inputs)) tasks (added graph (drawn + 1) caller task.kind (new_inputs value numbers (drawn + 1) (places_of task.inputs))) q (omega arith)
      ∙ inserted_other graph.tasks (drawn + 1) q (new_of (drawn + 1) task) (λ same. omega arith)

  -- what is there afterwards was there or is new
  pub new_from : (drawn : ℕ) (tasks : List (NewTask K)) (graph : Graph X K) (q : ℕ) (t : Unfinished X K) → task_at (with_tasks value numbers caller drawn tasks graph) q ≡ Some t
      → (task_at graph q ≡ Some t) ⊎ IsNew drawn tasks q t
  new_from drawn [] graph q t is = inl is
  new_from drawn (task ∷ tasks) graph q t is =
      elim (new_from (drawn + 1 + taken (places_of task.inputs)) tasks (added graph (drawn + 1) caller task.kind (new_inputs value numbers (drawn + 1) (places_of task.inputs))) q t is) [
        | inl was ↦ elim (inserted_from graph.tasks (drawn + 1) q (new_of (drawn + 1) task) t was) [
          | inl here ↦ inr (record { index = 0; task = task; start = drawn + 1; at = refl; number = sym here.0; is = here.1 })
          | inr other ↦ inl other.1
        ]
        | inr new ↦ inr (record { index = suc new.index; task = new.task; start = new.start; at = new.at; number = new.number; is = new.is })
      ]

  -- a new task is there
  pub new_at : (drawn i : ℕ) (tasks : List (NewTask K)) (graph : Graph X K) (task : NewTask K) → slice_get tasks i ≡ Some task
      → (start : ℕ) × (task_at (with_tasks value numbers caller drawn tasks graph) (number_at (task_numbers drawn tasks) i) ≡ Some (new_of start task))
  new_at drawn i [] graph task is = absurd (none_not_some refl is)
  new_at drawn zero (first ∷ tasks) graph task is =
      let same : first ≡ task = same_some first task is in (
        drawn + 1,
        old_stays (drawn + 1 + taken (places_of first.inputs)) tasks (added graph (drawn + 1) caller first.kind (new_inputs value numbers (drawn + 1) (places_of first.inputs))) (drawn + 1) (omega arith)
            ∙ inserted_here graph.tasks (drawn + 1) (drawn + 1) (new_of (drawn + 1) first) (new_of (drawn + 1) first) refl refl ∙ ap (λ t. Some (new_of (drawn + 1) t)) same,
      )
  new_at drawn (suc i) (first ∷ tasks) graph task is =
      new_at (drawn + 1 + taken (places_of first.inputs)) i tasks (added graph (drawn + 1) caller first.kind (new_inputs value numbers (drawn + 1) (places_of first.inputs))) task is
