-- A finish keeps what is kept.
use Rattle.std.proofs.Common.{◌≡◌, ℕ, zero, suc, ◌+◌, ◌-◌, ◌<◌, ◌≤◌, ◌⊎◌, inl, inr, Bool, true, false, cond, nat_eq, nat_le, nat_cmp, List, [], ◌∷◌, map as each, length, drop, slice_get, Option, None, Some, refl, sym, ap, subst, ◌∙◌, arith}
use Rattle.std.specs.Option.{option_map}
use Rattle.std.specs.List.{list_all, list_any, AllByRecursion}
use Rattle.std.specs.FinMap as map
use Rattle.std.proofs.lemmas.Bool.Decides.{nat_tests}
use Rattle.std.proofs.lemmas.Bool.{ltb-true}
use Rattle.std.proofs.lemmas.Option.{slice_get-map, slice_get_within}
use Rattle.task_types.specs.declared.outcome.Place.{Place}
use Rattle.task_types.specs.declared.outcome.Place.TheVariants.{Null, Input as AtInput, Child, Chunk, Task}
use Rattle.task_types.specs.declared.outcome.NewTask.{NewTask}
use Rattle.task_types.specs.declared.outcome.NewChunk.{NewChunk}
use Rattle.task_types.specs.declared.outcome.Outcome.{Outcome}
use Rattle.task_types.specs.Tree.{Tree, Nothing, tree_at}
use Rattle.task_types.specs.Presence.{presence_of}
use Rattle.task_types.specs.Places.{places_of, same_place, is_among, task_shape}
use Rattle.task_types.specs.Formed.{may_stand, MayStand, is_input_of}
use Rattle.task_types.specs.Meanings.{Meanings}
use Rattle.task_types.specs.Reading.{reading, Call, goals_of, call_of, new_trees, new_calls}
use Rattle.task_types.specs.Sound.{IsSound}
use Rattle.task_types.proofs.FormedTest.{both_left, both_right}
use Rattle.task_types.proofs.Reading.{tree_at-some, slice_get-new_calls}
use Rattle.task_states.specs.States.{Input, Awaits, Unfinished, Graph, task_at, asked_of, is_stopped}
use Rattle.name_states.proofs.Basics.{none_not_some, same_some, same_or_not, one_of, same_from_test, test_same, test_apart}
use Rattle.name_machine.specs.States.{Ask}
use Rattle.task_states.specs.Steps.{added, inputs_redirected, asked_moved}
use Rattle.name_machine.specs.NewTasks.{taken, drawn_by_chunks, drawn_by_tasks, task_numbers, number_at, new_inputs, with_tasks}
use Rattle.name_machine.specs.Steps.{tree_known}
use Rattle.name_machine.specs.Goals.{read_input}
use Rattle.name_machine.specs.Facts.{AwaitsTask, EndsAtAsk, Asked, Awaited}
use Rattle.name_machine.proofs.Tasks.{mapped_from}
use Rattle.name_machine.proofs.Ends.{inputs_at, ends_there}
use Rattle.name_machine.proofs.Invariant.{known_trees, Keeps, IsAskFor, IsServedBy}
use Rattle.name_machine.proofs.Added.{number_drawn, numbers_rise, tree_for, tree_for-number, awaits_named, named_awaits, new_inputs_read, new_of, IsNew, old_stays, new_from, new_at}
use Rattle.name_machine.proofs.Stands.{Stand, ByValue, ByTask, replaced, asked_then, input_then, input_stays, input_moves, inputs_stay, Stands, replaced_read, become, stood, stood_gone, stood_at}
use Rattle.name_machine.proofs.Answered.{answer, asks_then, asks_from, asks_to, answer_caller, answer_number, answer_goal, answer_other, answer_here}

-- ---- Small facts on numbers and lists

le_passes : (a b : ℕ) → a ≤ b → nat_le a b ≡ true
le_passes a b h = grind (arith, nat_tests)

lt_fails : (a b : ℕ) → b < a → nat_le a b ≡ false
lt_fails a b h = grind (arith, nat_tests)

le_or_lt : (a b : ℕ) → (a ≤ b) ⊎ (b < a)
le_or_lt a b = grind arith

drop_get : {X : Type 0} (k j n : ℕ) (xs : List X) (x : X) → n ≡ k + j → slice_get (drop k xs) j ≡ Some x → slice_get xs n ≡ Some x
drop_get zero j n xs x same is = let here : n ≡ j = omega arith in ap (slice_get xs) here ∙ is
drop_get (suc k) j n [] x same is = absurd (none_not_some refl is)
drop_get (suc k) j zero (y ∷ ys) x same is = absurd (omega arith)
drop_get (suc k) j (suc n) (y ∷ ys) x same is = drop_get k j n ys x (omega arith) is

any_index : {X : Type 0} (p : X → Bool) (xs : List X) → list_any p xs ≡ true → (i : ℕ) × (x : X) × (slice_get xs i ≡ Some x) × (p x ≡ true)
any_index p [] is = absurd (let clash : false ≡ true = is in cc)
any_index p (x ∷ xs) is =
    elim (one_of (p x) (list_any p xs) is) [
      | inl here ↦ (0, x, refl, here)
      | inr there ↦ (let rest = any_index p xs there in (suc rest.0, rest.1, rest.2, rest.3))
    ]

all_at : {X : Type 0} (p : X → Bool) (xs : List X) (i : ℕ) (x : X) → list_all p xs ≡ true → slice_get xs i ≡ Some x → p x ≡ true
all_at p [] i x all is = absurd (none_not_some refl is)
all_at p (y ∷ xs) zero x all is = ap p (sym (same_some y x is)) ∙ both_left (p y) (list_all p xs) all
all_at p (y ∷ xs) (suc i) x all is = all_at p xs i x (both_right (p y) (list_all p xs) all) is

each_at : {X : Type 0} (P : X → Type 0) (xs : List X) (i : ℕ) (x : X) → AllByRecursion P xs → slice_get xs i ≡ Some x → P x
each_at P [] i x all is = absurd (none_not_some refl is)
each_at P (y ∷ xs) zero x all is = subst P (same_some y x is) all.0
each_at P (y ∷ xs) (suc i) x all is = each_at P xs i x all.1 is

pub one_there : {X : Type 0} (xs : List X) (i : ℕ) → i < length xs → (x : X) × (slice_get xs i ≡ Some x)
one_there [] i h = absurd (omega arith)
one_there (x ∷ xs) zero h = (x, refl)
one_there (x ∷ xs) (suc i) h = one_there xs i (omega arith)

same_task : (i : ℕ) (place : Place) → same_place (Task i) place ≡ true → place ≡ Task i
same_task i Null is = absurd (let clash : false ≡ true = is in cc)
same_task i (AtInput k) is = absurd (let clash : false ≡ true = is in cc)
same_task i (Child k l) is = absurd (let clash : false ≡ true = is in cc)
same_task i (Chunk k) is = absurd (let clash : false ≡ true = is in cc)
same_task i (Task k) is = ap Task (sym (same_from_test i k is))

-- what stands in a finished task's place
abbrev pub stand_of : {C : Type 0} → List ℕ → (Place → Tree C) → Place → Stand (Tree C)
stand_of numbers read Null = ByValue Nothing
stand_of numbers read (AtInput i) = ByValue (read (AtInput i))
stand_of numbers read (Child i j) = ByValue (read (Child i j))
stand_of numbers read (Chunk i) = ByValue (read (Chunk i))
stand_of numbers read (Task i) = ByTask (number_at numbers i)

-- new tasks stop nobody
stopped_with : {X K : Type 0} (value : Place → ℕ → X) (numbers : List ℕ) (caller drawn : ℕ) (tasks : List (NewTask K)) (graph : Graph X K) (c : ℕ)
    → is_stopped (with_tasks value numbers caller drawn tasks graph) c ≡ is_stopped graph c
stopped_with value numbers caller drawn [] graph c = refl
stopped_with value numbers caller drawn (task ∷ tasks) graph c = stopped_with value numbers caller (drawn + 1 + taken (places_of task.inputs)) tasks (added graph (drawn + 1) caller task.kind (new_inputs value numbers (drawn + 1) (places_of task.inputs))) c

module _ {C K : Type 0} (lib : Meanings C K) (arity : C → ℕ) (drawn : ℕ) (graph : Graph (Tree C) K) (asks : map.FinMap nat_cmp (Ask (Tree C) (Tree C))) (keeps : Keeps lib drawn graph asks)
    (gone : ℕ) (ran : Unfinished (Tree C) K) (there : task_at graph gone ≡ Some ran) (worker : ℕ) (runs : ran.runner ≡ Some worker)
    (outcome : Outcome C K) (sound : IsSound arity lib ran.kind (each tree_known ran.inputs) outcome) where
  abbrev pub trees : List (Tree C)
  trees = each tree_known ran.inputs

  abbrev pub chunk_trees : List (Tree C)
  chunk_trees = new_trees trees outcome

  abbrev pub read : Place → Tree C
  read = reading trees chunk_trees []

  abbrev pub base : ℕ
  base = drawn + drawn_by_chunks (each (λ (chunk : NewChunk C). chunk.children) outcome.chunks)

  abbrev pub more : ℕ
  more = drawn_by_tasks outcome.tasks

  abbrev pub numbers : List ℕ
  numbers = task_numbers base outcome.tasks

  abbrev pub task_goals : List (Tree C)
  task_goals = goals_of lib.goal (new_calls lib.goal trees outcome)

  abbrev pub value : Place → ℕ → Tree C
  value place number = read place

  abbrev pub grown : Graph (Tree C) K
  grown = with_tasks value numbers ran.caller base outcome.tasks graph

  abbrev pub stand : Stand (Tree C)
  stand = stand_of numbers read outcome.result

  abbrev pub final : Graph (Tree C) K
  final = stood grown gone stand

  abbrev pub later : map.FinMap nat_cmp (Ask (Tree C) (Tree C))
  later = asks_then stand ran.asked asks

  abbrev pub goals : ℕ → Tree C
  goals q = cond (nat_le q base) (keeps.goals q) (tree_for numbers task_goals q)

  abbrev top : ℕ
  top = keeps.level gone

  abbrev level : ℕ → ℕ
  level q = cond (nat_le q base) (cond (nat_le (keeps.level q) top) (keeps.level q) (keeps.level q + more)) (top + (q - base))

  -- ---- The finished task

  gone_low : gone ≤ drawn
  gone_low = keeps.numbers gone ran there

  awaits_nothing : (p a n : ℕ) → slice_get ran.inputs p ≡ Some (Awaits a n) → ⊥
  awaits_nothing p a n is = keeps.runs_known gone p a n worker ran there runs is

  goal_is_its : keeps.goals gone ≡ lib.goal ran.kind trees
  goal_is_its = keeps.goal_is gone ran there ∙ ap (lib.goal ran.kind) (known_trees keeps.goals ran.inputs awaits_nothing)

  -- ---- Goals and levels

  pub goals_old : (q : ℕ) → q ≤ base → goals q ≡ keeps.goals q
  goals_old q h = ap (λ b. cond b (keeps.goals q) (tree_for numbers task_goals q)) (le_passes q base h)

  goals_number : (i : ℕ) → i < length outcome.tasks → goals (number_at numbers i) ≡ tree_at task_goals i
  goals_number i h =
      let low = (number_drawn base i outcome.tasks h).0 in
      ap (λ b. cond b (keeps.goals (number_at numbers i)) (tree_for numbers task_goals (number_at numbers i))) (lt_fails (number_at numbers i) base low)
      ∙ tree_for-number base i outcome.tasks task_goals h

  level_low : (q : ℕ) → q ≤ base → keeps.level q ≤ top → level q ≡ keeps.level q
  level_low q h low =
      ap (λ b. cond b (cond (nat_le (keeps.level q) top) (keeps.level q) (keeps.level q + more)) (top + (q - base))) (le_passes q base h)
      ∙ ap (λ b. cond b (keeps.level q) (keeps.level q + more)) (le_passes (keeps.level q) top low)

  level_high : (q : ℕ) → q ≤ base → top < keeps.level q → level q ≡ keeps.level q + more
  level_high q h high =
      ap (λ b. cond b (cond (nat_le (keeps.level q) top) (keeps.level q) (keeps.level q + more)) (top + (q - base))) (le_passes q base h)
      ∙ ap (λ b. cond b (keeps.level q) (keeps.level q + more)) (lt_fails (keeps.level q) top high)

  level_new : (q : ℕ) → base < q → level q ≡ top + (q - base)
  level_new q h =
      ap (λ b. cond b (cond (nat_le (keeps.level q) top) (keeps.level q) (keeps.level q + more)) (top + (q - base))) (lt_fails q base h)

  -- ---- What stands in its place

  stands_at : (place : Place) → may_stand (each presence_of trees) (length outcome.chunks) (length outcome.tasks) place ≡ true
      → reading trees chunk_trees task_goals place ≡ keeps.goals gone → Stands goals (keeps.goals gone) (stand_of numbers read place)
  stands_at Null may is = is
  stands_at (AtInput i) may is = is
  stands_at (Child i j) may is = is
  stands_at (Chunk i) may is = is
  stands_at (Task i) may is = goals_number i (ltb-true i (length outcome.tasks) may) ∙ is

  stands : Stands goals (keeps.goals gone) stand
  stands = stands_at outcome.result sound.formed.result_stands (sound.goal ∙ sym goal_is_its)

  -- where a task stands in its place, that is a new one, and the result
  record IsResult (place : Place) (to : ℕ) : Type 0 where
    pub index : ℕ
    pub within : index < length outcome.tasks
    pub number : to ≡ number_at numbers index

  result_at : (place : Place) (to : ℕ) → may_stand (each presence_of trees) (length outcome.chunks) (length outcome.tasks) place ≡ true
      → stand_of numbers read place ≡ ByTask to → IsResult place to
  result_at Null to may is = absurd (let clash : ByValue Nothing ≡ ByTask to = is in cc)
  result_at (AtInput i) to may is = absurd (let clash : ByValue (read (AtInput i)) ≡ ByTask to = is in cc)
  result_at (Child i j) to may is = absurd (let clash : ByValue (read (Child i j)) ≡ ByTask to = is in cc)
  result_at (Chunk i) to may is = absurd (let clash : ByValue (read (Chunk i)) ≡ ByTask to = is in cc)
  result_at (Task i) to may is =
      let one : Stand (Tree C) = ByTask (number_at numbers i) in
      let same : one ≡ ByTask to = is in
      let number : number_at numbers i ≡ to = cc in
      record { index = i; within = ltb-true i (length outcome.tasks) may; number = sym number }

  result : (to : ℕ) → stand ≡ ByTask to → IsResult outcome.result to
  result to is = result_at outcome.result to sound.formed.result_stands is

  asked_at : (q : ℕ) (own asked : Option ℕ) (s : Stand (Tree C)) → ((to : ℕ) → s ≡ ByTask to → q ≡ to → ⊥) → asked_then s asked q own ≡ own
  asked_at q own asked (ByValue x) apart = refl
  asked_at q own None (ByTask to) apart = refl
  asked_at q own (Some n) (ByTask to) apart = ap (λ b. cond b (Some n) own) (test_apart q to (apart to refl))

  -- what is asked of an old task stays
  asked_stays : (q : ℕ) (own : Option ℕ) → q ≤ base → asked_then stand ran.asked q own ≡ own
  asked_stays q own h =
      asked_at q own ran.asked stand (λ to is same.
      let one = result to is in
      let low = (number_drawn base one.index outcome.tasks one.within).0 in
      let e = one.number in
      omega arith)

  -- ---- What is there afterwards

  pub low_base : (q : ℕ) (t : Unfinished (Tree C) K) → task_at graph q ≡ Some t → q ≤ base
  low_base q t is = let h = keeps.numbers q t is in omega arith

  pub grown_old : (q : ℕ) (t : Unfinished (Tree C) K) → task_at graph q ≡ Some t → task_at grown q ≡ Some t
  grown_old q t is = old_stays value numbers ran.caller base outcome.tasks graph q (low_base q t is) ∙ is

  asked_is : asked_of grown gone ≡ ran.asked
  asked_is = ap (λ (o : Option (Unfinished (Tree C) K)). elim o as (λ x. Option ℕ) [ None ↦ None | Some task ↦ task.asked ]) (grown_old gone ran there)

  final_at : (q : ℕ) (t : Unfinished (Tree C) K) → (q ≡ gone → ⊥) → task_at grown q ≡ Some t → task_at final q ≡ Some (become gone stand ran.asked q t)
  final_at q t apart is =
      stood_at grown gone q stand apart
      ∙ ap (λ asked. option_map (become gone stand asked q) (task_at grown q)) asked_is
      ∙ ap (option_map (become gone stand ran.asked q)) is

  pub record Old (q : ℕ) (t : Unfinished (Tree C) K) : Type 0 where
    pub before : Unfinished (Tree C) K
    pub was : task_at graph q ≡ Some before
    pub apart : q ≡ gone → ⊥
    pub caller : t.caller ≡ before.caller
    pub kind : t.kind ≡ before.kind
    pub inputs : t.inputs ≡ each (replaced gone stand) before.inputs
    pub asked : t.asked ≡ before.asked
    pub run_by : t.runner ≡ before.runner

  pub record New (q : ℕ) (t : Unfinished (Tree C) K) : Type 0 where
    pub index : ℕ
    pub task : NewTask K
    pub start : ℕ
    pub at : slice_get outcome.tasks index ≡ Some task
    pub number : number_at numbers index ≡ q
    pub caller : t.caller ≡ ran.caller
    pub kind : t.kind ≡ task.kind
    pub inputs : t.inputs ≡ new_inputs value numbers start (places_of task.inputs)
    pub asked : t.asked ≡ asked_then stand ran.asked q None
    pub run_by : t.runner ≡ None

  formed : (i : ℕ) (task : NewTask K) → slice_get outcome.tasks i ≡ Some task → MayStand (each presence_of trees) (length outcome.chunks) i task.inputs
  formed i task is = sound.formed.tasks_formed i task is

  -- inputs of a new task await earlier ones
  new_awaits : (i : ℕ) (task : NewTask K) (start p a n : ℕ) → slice_get outcome.tasks i ≡ Some task
      → slice_get (new_inputs value numbers start (places_of task.inputs)) p ≡ Some (Awaits a n) → (j : ℕ) × (j < i) × (a ≡ number_at numbers j)
  new_awaits i task start p a n at is =
      let named = awaits_named value numbers start p a n (places_of task.inputs) is in
      let may = all_at (may_stand (each presence_of trees) (length outcome.chunks) i) (places_of task.inputs) p (Task named.0) (formed i task at).each named.1 in
      (named.0, ltb-true named.0 i may, named.2)

  new_inputs_stay : (i : ℕ) (task : NewTask K) (start : ℕ) → slice_get outcome.tasks i ≡ Some task
      → each (replaced gone stand) (new_inputs value numbers start (places_of task.inputs)) ≡ new_inputs value numbers start (places_of task.inputs)
  new_inputs_stay i task start at =
      inputs_stay gone stand (new_inputs value numbers start (places_of task.inputs)) (λ p a n is same.
      let one = new_awaits i task start p a n at is in
      let within = slice_get_within outcome.tasks i task at in
      let lower = one.1 in
      let low = (number_drawn base one.0 outcome.tasks (omega arith)).0 in
      let number = one.2 in
      let first = gone_low in
      omega arith)

  pub number_high : (i : ℕ) (task : NewTask K) → slice_get outcome.tasks i ≡ Some task → (base < number_at numbers i) × (number_at numbers i ≤ base + more)
  number_high i task at = number_drawn base i outcome.tasks (slice_get_within outcome.tasks i task at)

  -- a new task is there
  pub new_final : (i : ℕ) (task : NewTask K) → slice_get outcome.tasks i ≡ Some task
      → (t : Unfinished (Tree C) K) × (task_at final (number_at numbers i) ≡ Some t) × New (number_at numbers i) t
  new_final i task at =
      let one = new_at value numbers ran.caller base i outcome.tasks graph task at in
      let high = (number_high i task at).0 in
      let low = gone_low in
      let t : Unfinished (Tree C) K = new_of value numbers ran.caller one.0 task in (
        become gone stand ran.asked (number_at numbers i) t,
        final_at (number_at numbers i) t (λ same. omega arith) one.1,
        record {
          index = i;
          task = task;
          start = one.0;
          at = at;
          number = refl;
          caller = refl;
          kind = refl;
          inputs = new_inputs_stay i task one.0 at;
          asked = refl;
          run_by = refl;
        },
      )

  -- an old task is there
  pub old_final : (q : ℕ) (t : Unfinished (Tree C) K) → task_at graph q ≡ Some t → (q ≡ gone → ⊥)
      → (u : Unfinished (Tree C) K) × (task_at final q ≡ Some u) × (u.caller ≡ t.caller) × (u.asked ≡ t.asked) × (u.inputs ≡ each (replaced gone stand) t.inputs)
  old_final q t is apart =
      (become gone stand ran.asked q t, final_at q t apart (grown_old q t is), refl, asked_stays q t.asked (low_base q t is), refl)

  from_grown : (q : ℕ) (t u : Unfinished (Tree C) K) → (q ≡ gone → ⊥) → t ≡ become gone stand ran.asked q u
      → (task_at graph q ≡ Some u) ⊎ IsNew value numbers ran.caller base outcome.tasks q u → Old q t ⊎ New q t
  from_grown q t u apart is (inl was) = inl (record {
    before = u;
    was = was;
    apart = apart;
    caller = ap (λ v. v.caller) is;
    kind = ap (λ v. v.kind) is;
    inputs = ap (λ v. v.inputs) is;
    asked = ap (λ v. v.asked) is ∙ asked_stays q u.asked (low_base q u was);
    run_by = ap (λ v. v.runner) is;
  })
  from_grown q t u apart is (inr new) = inr (record {
    index = new.index;
    task = new.task;
    start = new.start;
    at = new.at;
    number = new.number;
    caller = ap (λ v. v.caller) is ∙ ap (λ v. v.caller) new.is;
    kind = ap (λ v. v.kind) is ∙ ap (λ v. v.kind) new.is;
    inputs = ap (λ v. v.inputs) is ∙ ap (λ v. each (replaced gone stand) v.inputs) new.is ∙ new_inputs_stay new.index new.task new.start new.at;
    asked = ap (λ v. v.asked) is ∙ ap (λ v. asked_then stand ran.asked q v.asked) new.is;
    run_by = ap (λ v. v.runner) is ∙ ap (λ v. v.runner) new.is;
  })

  -- what is there afterwards was there or is new
  pub from_final : (q : ℕ) (t : Unfinished (Tree C) K) → task_at final q ≡ Some t → Old q t ⊎ New q t
  from_final q t is =
      let apart : q ≡ gone → ⊥ = λ same. none_not_some (ap (task_at final) same ∙ stood_gone grown gone stand) is in
      let was = mapped_from (become gone stand ran.asked q) (task_at grown q) t (sym (stood_at grown gone q stand apart ∙ ap (λ asked. option_map (become gone stand asked q) (task_at grown q)) asked_is) ∙ is) in
      from_grown q t was.0 apart was.2 (new_from value numbers ran.caller base outcome.tasks graph q was.0 was.1)

  -- ---- Each thing that is kept

  level_more : (q : ℕ) → q ≤ base → level q ≤ keeps.level q + more
  level_more q h =
      elim (le_or_lt (keeps.level q) top) [
        | inl low ↦ (let e = level_low q h low in omega arith)
        | inr high ↦ (let e = level_high q h high in omega arith)
      ]

  numbers_after : (q : ℕ) (t : Unfinished (Tree C) K) → task_at final q ≡ Some t → q ≤ base + more
  numbers_after q t is =
      elim (from_final q t is) [
        | inl old ↦ (let h = low_base q old.before old.was in omega arith)
        | inr new ↦ (let h = (number_high new.index new.task new.at).1 in let e = new.number in omega arith)
      ]

  low_after : (q : ℕ) (t : Unfinished (Tree C) K) → task_at final q ≡ Some t → level q < base + more
  low_after q t is =
      elim (from_final q t is) [
        | inl old ↦ (let h = level_more q (low_base q old.before old.was) in let l = keeps.low q old.before old.was in omega arith)
        | inr new ↦
            (let h = number_high new.index new.task new.at in let low = h.0 in let high = h.1 in let e = new.number in let at : level q ≡ top + (q - base) = level_new q (omega arith) in
            let l = keeps.low gone ran there in
            omega arith)
      ]

  -- levels of old tasks fall as before
  falls_old : (q a : ℕ) → q ≤ base → a ≤ base → keeps.level a < keeps.level q → level a < level q
  falls_old q a hq ha falls =
      elim (le_or_lt (keeps.level q) top) [
        | inl low ↦ (let e = level_low q hq low in let f = level_low a ha (omega arith) in omega arith)
        | inr high ↦ (let e = level_high q hq high in let f = level_more a ha in omega arith)
      ]

  -- what awaited the finished task is above the new tasks
  falls_moved : (q a : ℕ) → q ≤ base → base < a → a ≤ base + more → top < keeps.level q → level a < level q
  falls_moved q a hq low high above = let e = level_high q hq above in let f = level_new a low in omega arith

  falls_new : (q a : ℕ) → base < a → a < q → level a < level q
  falls_new q a low rises = let f = level_new a low in let e : level q ≡ top + (q - base) = level_new q (omega arith) in omega arith

  -- what an old task awaits afterwards
  old_awaits : (q p a n : ℕ) (t : Unfinished (Tree C) K) (old : Old q t) → slice_get t.inputs p ≡ Some (Awaits a n)
      → ((slice_get old.before.inputs p ≡ Some (Awaits a n)) × (a ≡ gone → ⊥)) ⊎ ((slice_get old.before.inputs p ≡ Some (Awaits gone n)) × (stand ≡ ByTask a))
  old_awaits q p a n t old at = input_then gone stand old.before.inputs p a n (ap (λ inputs. slice_get inputs p) (sym old.inputs) ∙ at)

  new_task_awaits : (q p a n : ℕ) (t : Unfinished (Tree C) K) (new : New q t) → slice_get t.inputs p ≡ Some (Awaits a n) → (j : ℕ) × (j < new.index) × (a ≡ number_at numbers j)
  new_task_awaits q p a n t new at = new_awaits new.index new.task new.start p a n new.at (ap (λ inputs. slice_get inputs p) (sym new.inputs) ∙ at)

  falls_after : (q p a n : ℕ) (t : Unfinished (Tree C) K) → task_at final q ≡ Some t → slice_get t.inputs p ≡ Some (Awaits a n) → level a < level q
  falls_after q p a n t is at =
      elim (from_final q t is) [
        | inl old ↦ elim (old_awaits q p a n t old at) [
          | inl stays ↦
              let other = keeps.there q p a n old.before old.was stays.0 in
              falls_old q a (low_base q old.before old.was) (low_base a other.0 other.1) (keeps.falls q p a n old.before old.was stays.0)
          | inr moved ↦
              let one = result a moved.1 in
              let h = number_drawn base one.index outcome.tasks one.within in
              let low = h.0 in
              let high = h.1 in
              let e = one.number in
              falls_moved q a (low_base q old.before old.was) (omega arith) (omega arith) (keeps.falls q p gone n old.before old.was moved.0)
        ]
        | inr new ↦
            let one = new_task_awaits q p a n t new at in
            let within = slice_get_within outcome.tasks new.index new.task new.at in
            let lower = one.1 in
            let low = (number_drawn base one.0 outcome.tasks (omega arith)).0 in
            let rises = numbers_rise base one.0 new.index outcome.tasks lower within in
            let e = one.2 in
            let f = new.number in
            falls_new q a (omega arith) (omega arith)
      ]

  there_after : (q p a n : ℕ) (t : Unfinished (Tree C) K) → task_at final q ≡ Some t → slice_get t.inputs p ≡ Some (Awaits a n)
      → (u : Unfinished (Tree C) K) × (task_at final a ≡ Some u) × (u.caller ≡ t.caller)
  there_after q p a n t is at =
      elim (from_final q t is) [
        | inl old ↦ elim (old_awaits q p a n t old at) [
          | inl stays ↦
              let other = keeps.there q p a n old.before old.was stays.0 in
              let u = old_final a other.0 other.1 stays.1 in
              (u.0, u.1, u.2 ∙ other.2 ∙ sym old.caller)
          | inr moved ↦
              let one = result a moved.1 in
              let task = one_there outcome.tasks one.index one.within in
              let u = new_final one.index task.0 task.1 in
              let other = keeps.there q p gone n old.before old.was moved.0 in
              let same : other.0 ≡ ran = same_some other.0 ran (sym other.1 ∙ there) in
              (u.0, ap (task_at final) one.number ∙ u.1, u.2.caller ∙ ap (λ v. v.caller) (sym same) ∙ other.2 ∙ sym old.caller)
        ]
        | inr new ↦
            let one = new_task_awaits q p a n t new at in
            let within = slice_get_within outcome.tasks new.index new.task new.at in
            let lower = one.1 in
            let task = one_there outcome.tasks one.0 (omega arith) in
            let u = new_final one.0 task.0 task.1 in
            (u.0, ap (task_at final) one.2 ∙ u.1, u.2.caller ∙ sym new.caller)
      ]

  -- inputs of old tasks read as before
  pub old_reads : (q : ℕ) (t : Unfinished (Tree C) K) (old : Old q t) → each (read_input goals) t.inputs ≡ each (read_input keeps.goals) old.before.inputs
  old_reads q t old =
      ap (each (read_input goals)) old.inputs
      ∙ replaced_read gone keeps.goals goals stand old.before.inputs stands (λ p a n at apart.
      let other = keeps.there q p a n old.before old.was at in goals_old a (low_base a other.0 other.1))

  -- inputs of new tasks read as their places do
  pub new_reads : (q : ℕ) (t : Unfinished (Tree C) K) (new : New q t) → each (read_input goals) t.inputs ≡ each (reading trees chunk_trees task_goals) (places_of new.task.inputs)
  new_reads q t new =
      ap (each (read_input goals)) new.inputs
      ∙ new_inputs_read (each presence_of trees) (length outcome.chunks) new.index trees chunk_trees task_goals numbers goals
      (λ j h. let within = slice_get_within outcome.tasks new.index new.task new.at in goals_number j (omega arith))
      new.start (places_of new.task.inputs) (formed new.index new.task new.at).each

  pub call_at : (i : ℕ) (task : NewTask K) → slice_get outcome.tasks i ≡ Some task
      → slice_get (new_calls lib.goal trees outcome) i ≡ Some (call_of lib.goal trees chunk_trees (new_calls lib.goal trees outcome) (task_shape task))
  call_at i task at = slice_get-new_calls lib.goal (each presence_of trees) trees outcome i task sound.formed.tasks_formed at

  task_goal_at : (i : ℕ) (task : NewTask K) → slice_get outcome.tasks i ≡ Some task
      → tree_at task_goals i ≡ lib.goal task.kind (each (reading trees chunk_trees task_goals) (places_of task.inputs))
  task_goal_at i task at =
      let calls : List (Call C K) = new_calls lib.goal trees outcome in
      let goal_it : Call C K → Tree C = λ call. lib.goal call.kind call.inputs in
      tree_at-some task_goals i (goal_it (call_of lib.goal trees chunk_trees calls (task_shape task)))
      (slice_get-map goal_it calls i ∙ ap (option_map goal_it) (call_at i task at))

  new_goal : (q : ℕ) (t : Unfinished (Tree C) K) (new : New q t) → goals q ≡ lib.goal t.kind (each (read_input goals) t.inputs)
  new_goal q t new =
      let within = slice_get_within outcome.tasks new.index new.task new.at in
      ap goals (sym new.number)
      ∙ goals_number new.index within
      ∙ task_goal_at new.index new.task new.at
      ∙ (λ i. lib.goal (sym new.kind i) (sym (new_reads q t new) i))

  goal_after : (q : ℕ) (t : Unfinished (Tree C) K) → task_at final q ≡ Some t → goals q ≡ lib.goal t.kind (each (read_input goals) t.inputs)
  goal_after q t is =
      elim (from_final q t is) [
        | inl old ↦ goals_old q (low_base q old.before old.was) ∙ keeps.goal_is q old.before old.was ∙ (λ i. lib.goal (sym old.kind i) (sym (old_reads q t old) i))
        | inr new ↦ new_goal q t new
      ]

  moved_defined : (kind to : K) (inputs others : List (Tree C)) → to ≡ kind → others ≡ inputs → lib.defined kind inputs → lib.defined to others
  moved_defined kind to inputs others k i h = subst (λ trees. lib.defined to trees) (sym i) (subst (λ k. lib.defined k inputs) (sym k) h)

  defined_after : (q : ℕ) (t : Unfinished (Tree C) K) → task_at final q ≡ Some t → lib.defined t.kind (each (read_input goals) t.inputs)
  defined_after q t is =
      elim (from_final q t is) [
        | inl old ↦
            moved_defined old.before.kind t.kind (each (read_input keeps.goals) old.before.inputs) (each (read_input goals) t.inputs) old.kind (old_reads q t old) (keeps.defined q old.before old.was)
        | inr new ↦
            moved_defined new.task.kind t.kind (each (reading trees chunk_trees task_goals) (places_of new.task.inputs)) (each (read_input goals) t.inputs) new.kind (new_reads q t new)
            (each_at (λ (call : Call C K). lib.defined call.kind call.inputs) (new_calls lib.goal trees outcome) new.index _ sound.defined (call_at new.index new.task new.at))
      ]

  runs_known_after : (q p a n w : ℕ) (t : Unfinished (Tree C) K) → task_at final q ≡ Some t → t.runner ≡ Some w → slice_get t.inputs p ≡ Some (Awaits a n) → ⊥
  runs_known_after q p a n w t is run at =
      elim (from_final q t is) [
        | inl old ↦ elim (old_awaits q p a n t old at) [
          | inl stays ↦ keeps.runs_known q p a n w old.before old.was (sym old.run_by ∙ run) stays.0
          | inr moved ↦ keeps.runs_known q p gone n w old.before old.was (sym old.run_by ∙ run) moved.0
        ]
        | inr new ↦ none_not_some new.run_by run
      ]

  runs_one_after : (q r w : ℕ) (t u : Unfinished (Tree C) K) → task_at final q ≡ Some t → task_at final r ≡ Some u → t.runner ≡ Some w → u.runner ≡ Some w → q ≡ r
  runs_one_after q r w t u is at run other =
      elim (from_final q t is) [
        | inl old ↦ elim (from_final r u at) [
          | inl same ↦ keeps.runs_one q r w old.before same.before old.was same.was (sym old.run_by ∙ run) (sym same.run_by ∙ other)
          | inr new ↦ absurd (none_not_some new.run_by other)
        ]
        | inr new ↦ absurd (none_not_some new.run_by run)
      ]

  -- ---- Asks

  -- what is asked of another task is not what was asked of the finished one
  other_asked : (q m : ℕ) (t : Unfinished (Tree C) K) → task_at graph q ≡ Some t → (q ≡ gone → ⊥) → t.asked ≡ Some m → ran.asked ≡ Some m → ⊥
  other_asked q m t is apart asked same = apart (keeps.asked_one q gone m t ran is there asked same)

  -- such an ask stays
  ask_stays : (k q m : ℕ) (t : Unfinished (Tree C) K) (a : Ask (Tree C) (Tree C)) → task_at graph q ≡ Some t → (q ≡ gone → ⊥) → t.asked ≡ Some m → map.get asks k ≡ Some a → a.number ≡ m
      → map.get later k ≡ Some a
  ask_stays k q m t a is apart asked at number =
      asks_to stand ran.asked asks k a at
      ∙ ap Some (answer_other stand ran.asked a (λ same. other_asked q m t is apart asked (same ∙ ap Some number)))

  -- where a task stands in the place, no ask changes
  asks_same : (s : Stand (Tree C)) (asked : Option ℕ) (to k : ℕ) (a : Ask (Tree C) (Tree C)) → s ≡ ByTask to → map.get asks k ≡ Some a → map.get (asks_then s asked asks) k ≡ Some a
  asks_same s asked to k a is at = ap (λ z. map.get (asks_then z asked asks) k) is ∙ at

  -- what is asked of a new task was asked of the finished one
  data Taken (s : Stand (Tree C)) (asked : Option ℕ) (q m : ℕ) : Type 0 where
    Takes : s ≡ ByTask q → asked ≡ Some m → Taken s asked q m

  taken_if : (to q m n : ℕ) (b : Bool) → nat_eq q to ≡ b → cond b (Some n) None ≡ Some m → Taken (ByTask to) (Some n) q m
  taken_if to q m n true e is = Takes (ap ByTask (sym (same_from_test q to e))) is
  taken_if to q m n false e is = absurd (none_not_some refl is)

  taken_of : (s : Stand (Tree C)) (asked : Option ℕ) (q m : ℕ) → asked_then s asked q None ≡ Some m → Taken s asked q m
  taken_of (ByValue x) asked q m is = absurd (none_not_some refl is)
  taken_of (ByTask to) None q m is = absurd (none_not_some refl is)
  taken_of (ByTask to) (Some n) q m is = taken_if to q m n (nat_eq q to) refl is

  ask_for_taken : (q m : ℕ) → Taken stand ran.asked q m → IsAskFor later ran.caller m
  ask_for_taken q m (Takes is asked) =
      let ask = keeps.ask_for gone m ran there asked in
      (ask.0, ask.1, asks_same stand ran.asked q ask.0 ask.1 is ask.2, ask.3, ask.4, ask.5)

  ask_for_after : (q m : ℕ) (t : Unfinished (Tree C) K) → task_at final q ≡ Some t → t.asked ≡ Some m → IsAskFor later t.caller m
  ask_for_after q m t is asked =
      elim (from_final q t is) [
        | inl old ↦
            let was = sym old.asked ∙ asked in
            let ask = keeps.ask_for q m old.before old.was was in
            (ask.0, ask.1, ask_stays ask.0 q m old.before ask.1 old.was old.apart was ask.2 ask.4, ask.3 ∙ sym old.caller, ask.4, ask.5)
        | inr new ↦ subst (λ c. IsAskFor later c m) (sym new.caller) (ask_for_taken q m (taken_of stand ran.asked q m (sym new.asked ∙ asked)))
      ]

  taken_apart : (q r m : ℕ) (t : Unfinished (Tree C) K) → task_at graph r ≡ Some t → (r ≡ gone → ⊥) → t.asked ≡ Some m → Taken stand ran.asked q m → ⊥
  taken_apart q r m t is apart asked (Takes at same) = other_asked r m t is apart asked same

  taken_once : (q r m : ℕ) → Taken stand ran.asked q m → Taken stand ran.asked r m → q ≡ r
  taken_once q r m (Takes one same) (Takes two other) = let both : ByTask q ≡ ByTask r = sym one ∙ two in inner q r both
    where
      inner : (a b : ℕ) → ◌≡◌ {A = Stand (Tree C)} (ByTask a) (ByTask b) → a ≡ b
      inner a b e = cc

  asked_one_after : (q r m : ℕ) (t u : Unfinished (Tree C) K) → task_at final q ≡ Some t → task_at final r ≡ Some u → t.asked ≡ Some m → u.asked ≡ Some m → q ≡ r
  asked_one_after q r m t u is at one two =
      elim (from_final q t is) [
        | inl old ↦ elim (from_final r u at) [
          | inl other ↦ keeps.asked_one q r m old.before other.before old.was other.was (sym old.asked ∙ one) (sym other.asked ∙ two)
          | inr new ↦ absurd (taken_apart r q m old.before old.was old.apart (sym old.asked ∙ one) (taken_of stand ran.asked r m (sym new.asked ∙ two)))
        ]
        | inr new ↦ elim (from_final r u at) [
          | inl old ↦ absurd (taken_apart q r m old.before old.was old.apart (sym old.asked ∙ two) (taken_of stand ran.asked q m (sym new.asked ∙ one)))
          | inr other ↦ taken_once q r m (taken_of stand ran.asked q m (sym new.asked ∙ one)) (taken_of stand ran.asked r m (sym other.asked ∙ two))
        ]
      ]

  ask_one_after : (k l : ℕ) (a b : Ask (Tree C) (Tree C)) → map.get later k ≡ Some a → map.get later l ≡ Some b → a.number ≡ b.number → k ≡ l
  ask_one_after k l a b is at same =
      let one = asks_from stand ran.asked asks k a is in
      let two = asks_from stand ran.asked asks l b at in
      let first = ap (λ c. c.number) one.2 ∙ answer_number stand ran.asked one.0 in
      let second = ap (λ c. c.number) two.2 ∙ answer_number stand ran.asked two.0 in
      keeps.ask_one k l one.0 two.0 one.1 two.1 (sym first ∙ same ∙ second)

  ask_drawn_after : (k : ℕ) (a : Ask (Tree C) (Tree C)) → map.get later k ≡ Some a → (k ≤ base + more) × (a.number ≤ base + more)
  ask_drawn_after k a is =
      let one = asks_from stand ran.asked asks k a is in
      let number = ap (λ c. c.number) one.2 ∙ answer_number stand ran.asked one.0 in
      let h = keeps.ask_drawn k one.0 one.1 in
      let low = h.0 in
      let high = h.1 in
      (omega arith, omega arith)

  stopped_after : (c : ℕ) → is_stopped graph c ≡ true → (k : ℕ) × (a : Ask (Tree C) (Tree C)) × (map.get later k ≡ Some a) × (a.caller ≡ c)
  stopped_after c is =
      let ask = keeps.stopped c is in
      (ask.0, answer stand ran.asked ask.1, asks_to stand ran.asked asks ask.0 ask.1 ask.2, answer_caller stand ran.asked ask.1 ∙ ask.3)

  -- ---- Asks are served

  option_same : (o p : Option ℕ) → (o ≡ p) ⊎ (o ≡ p → ⊥)
  option_same None None = inl refl
  option_same None (Some n) = inr (λ e. none_not_some refl e)
  option_same (Some m) None = inr (λ e. none_not_some refl (sym e))
  option_same (Some m) (Some n) = elim (same_or_not m n) [ inl e ↦ inl (ap Some e) | inr apart ↦ inr (λ e. apart (same_some m n e)) ]

  -- an ask of another output
  served_other : (a : Ask (Tree C) (Tree C)) → IsServedBy keeps.goals graph a → (ran.asked ≡ Some a.number → ⊥) → IsServedBy goals final a
  served_other a (inl done) apart = inl done
  served_other a (inr waits) apart =
      let other : waits.1 ≡ gone → ⊥ = λ same.
      apart (ap (λ v. v.asked) (same_some ran waits.2 (sym there ∙ ap (task_at graph) (sym same) ∙ waits.3)) ∙ waits.4) in
      let u = old_final waits.1 waits.2 waits.3 other in
      inr (waits.0, waits.1, u.0, u.1, u.3 ∙ waits.4, u.2 ∙ waits.5, goals_old waits.1 (low_base waits.1 waits.2 waits.3) ∙ waits.6)

  -- the ask of the finished task's output has its goal, and awaits it
  goal_of_ask : (k : ℕ) (a : Ask (Tree C) (Tree C)) → map.get asks k ≡ Some a → ran.asked ≡ Some a.number → (a.delivered ≡ None) × (keeps.goals gone ≡ a.goal) × (ran.caller ≡ a.caller)
  goal_of_ask k a is asked =
      let own = keeps.ask_for gone a.number ran there asked in
      let same : own.0 ≡ k = keeps.ask_one own.0 k own.1 a own.2 is own.4 in
      let one : own.1 ≡ a = same_some own.1 a (sym own.2 ∙ ap (map.get asks) same ∙ is) in
      let none : a.delivered ≡ None = ap (λ c. c.delivered) (sym one) ∙ own.5 in
      elim (keeps.served k a is) [
        | inl done ↦ absurd (none_not_some none done)
        | inr waits ↦
            let at : waits.1 ≡ gone = keeps.asked_one waits.1 gone a.number waits.2 ran waits.3 there waits.4 asked in
            (none, ap keeps.goals (sym at) ∙ waits.6, sym own.3 ∙ ap (λ c. c.caller) one)
      ]

  asked_moves : (to m : ℕ) (s : Stand (Tree C)) (asked : Option ℕ) → s ≡ ByTask to → asked ≡ Some m → asked_then s asked to None ≡ Some m
  asked_moves to m s asked is same = (λ i. asked_then (is i) (same i) to None) ∙ ap (λ b. cond b (Some m) None) (test_same to)

  served_here : (k : ℕ) (a : Ask (Tree C) (Tree C)) → map.get asks k ≡ Some a → ran.asked ≡ Some a.number → (s : Stand (Tree C)) → stand ≡ s → Stands goals (keeps.goals gone) s
      → IsServedBy goals final (answer s ran.asked a)
  served_here k a is asked (ByValue x) at reads =
      let its = goal_of_ask k a is asked in
      inl (answer_here x ran.asked a asked ∙ ap Some (reads ∙ its.1 ∙ sym (answer_goal (ByValue x) ran.asked a)))
  served_here k a is asked (ByTask to) at reads =
      let its = goal_of_ask k a is asked in
      let one = result to at in
      let task = one_there outcome.tasks one.index one.within in
      let u = new_final one.index task.0 task.1 in
      let asks_it : u.0.asked ≡ Some a.number = u.2.asked ∙ ap (λ q. asked_then stand ran.asked q None) (sym one.number) ∙ asked_moves to a.number stand ran.asked at asked in
      inr (its.0, to, u.0, ap (task_at final) one.number ∙ u.1, asks_it, u.2.caller ∙ its.2, reads ∙ its.1)

  served_after : (k : ℕ) (a : Ask (Tree C) (Tree C)) → map.get later k ≡ Some a → IsServedBy goals final a
  served_after k a is =
      let one = asks_from stand ran.asked asks k a is in
      subst (IsServedBy goals final) (sym one.2)
      (elim (option_same ran.asked (Some one.0.number)) [
        | inl same ↦ served_here k one.0 one.1 same stand refl stands
        | inr apart ↦ subst (IsServedBy goals final) (sym (answer_other stand ran.asked one.0 apart)) (served_other one.0 (keeps.served k one.0 one.1) apart)
      ])

  -- ---- Ways to asks

  -- a way from another task
  old_ends : (c q : ℕ) → EndsAtAsk graph asks c q → (q ≡ gone → ⊥) → EndsAtAsk final later c q
  old_ends c q (Asked task number key t ask at own asked found theirs same none) apart =
      let u = old_final q t at apart in
      Asked q number key u.0 ask u.1 (u.2 ∙ own) (u.3 ∙ asked) (ask_stays key q number t ask at apart asked found same) theirs same none
  old_ends c q (Awaited task by t at own awaits rest) apart =
      let u = old_final q t at apart in
      let b = ends_there graph asks c by rest in
      let input = sym (inputs_at graph by awaits.0 b.0 b.1) ∙ awaits.2 in
      let other : by ≡ gone → ⊥ = λ same.
      awaits_nothing awaits.0 q awaits.1 (ap (λ v. slice_get v.inputs awaits.0) (same_some ran b.0 (sym there ∙ ap (task_at graph) (sym same) ∙ b.1)) ∙ input) in
      let v = old_final by b.0 b.1 other in
      Awaited q by u.0 u.1 (u.2 ∙ own)
      (awaits.0, awaits.1, inputs_at final by awaits.0 v.0 v.1 ∙ ap (λ inputs. slice_get inputs awaits.0) v.4 ∙ input_stays gone stand b.0.inputs awaits.0 q awaits.1 input apart)
      (old_ends c by rest other)

  moved_input : (to p n : ℕ) (inputs : List (Input (Tree C))) (s : Stand (Tree C)) → s ≡ ByTask to → slice_get inputs p ≡ Some (Awaits gone n)
      → slice_get (each (replaced gone s) inputs) p ≡ Some (Awaits to n)
  moved_input to p n inputs s is at = ap (λ z. slice_get (each (replaced gone z) inputs) p) is ∙ input_moves gone to inputs p n at

  -- the way from the finished task is the way from the task in its place
  moved_ends : (q to : ℕ) → EndsAtAsk graph asks ran.caller q → q ≡ gone → stand ≡ ByTask to → EndsAtAsk final later ran.caller to
  moved_ends q to (Asked task number key t ask at own asked found theirs same none) here is =
      let one = result to is in
      let task' = one_there outcome.tasks one.index one.within in
      let u = new_final one.index task'.0 task'.1 in
      let its : ran.asked ≡ Some number = ap (λ v. v.asked) (same_some ran t (sym there ∙ ap (task_at graph) (sym here) ∙ at)) ∙ asked in
      let asks_it : u.0.asked ≡ Some number = u.2.asked ∙ ap (λ k. asked_then stand ran.asked k None) (sym one.number) ∙ asked_moves to number stand ran.asked is its in
      Asked to number key u.0 ask (ap (task_at final) one.number ∙ u.1) u.2.caller asks_it (asks_same stand ran.asked to key ask is found) theirs same none
  moved_ends q to (Awaited task by t at own awaits rest) here is =
      let one = result to is in
      let task' = one_there outcome.tasks one.index one.within in
      let u = new_final one.index task'.0 task'.1 in
      let b = ends_there graph asks ran.caller by rest in
      let input = sym (inputs_at graph by awaits.0 b.0 b.1) ∙ awaits.2 in
      let moved = ap (λ k. Some (Awaits k awaits.1)) here in
      let other : by ≡ gone → ⊥ = λ same.
      awaits_nothing awaits.0 q awaits.1 (ap (λ v. slice_get v.inputs awaits.0) (same_some ran b.0 (sym there ∙ ap (task_at graph) (sym same) ∙ b.1)) ∙ input) in
      let v = old_final by b.0 b.1 other in
      Awaited to by u.0 (ap (task_at final) one.number ∙ u.1) u.2.caller
      (awaits.0, awaits.1, inputs_at final by awaits.0 v.0 v.1 ∙ ap (λ inputs. slice_get inputs awaits.0) v.4 ∙ moved_input to awaits.0 awaits.1 b.0.inputs stand is (input ∙ moved))
      (old_ends ran.caller by rest other)

  -- numbers differ
  pub index_is : (a b : ℕ) (s t : NewTask K) → slice_get outcome.tasks a ≡ Some s → slice_get outcome.tasks b ≡ Some t → number_at numbers a ≡ number_at numbers b → a ≡ b
  index_is a b s t one two same =
      let ha = slice_get_within outcome.tasks a s one in
      let hb = slice_get_within outcome.tasks b t two in
      elim (le_or_lt a b) [
        | inl low ↦ elim (same_or_not a b) [
          | inl e ↦ e
          | inr apart ↦ absurd (let rises = numbers_rise base a b outcome.tasks (grind arith) hb in omega arith)
        ]
        | inr high ↦ absurd (let rises = numbers_rise base b a outcome.tasks high ha in omega arith)
      ]

  -- a new task awaits what its places name
  named_by : (i j p : ℕ) (task : NewTask K) → slice_get outcome.tasks j ≡ Some task → slice_get (places_of task.inputs) p ≡ Some (Task i)
      → AwaitsTask final (number_at numbers j) (number_at numbers i)
  named_by i j p task at named =
      let v = new_final j task at in
      let index : v.2.index ≡ j = index_is v.2.index j v.2.task task v.2.at at v.2.number in
      let seen : slice_get outcome.tasks j ≡ Some v.2.task = ap (slice_get outcome.tasks) (sym index) ∙ v.2.at in
      let same : v.2.task ≡ task = same_some v.2.task task (sym seen ∙ at) in
      let there_named : slice_get (places_of v.2.task.inputs) p ≡ Some (Task i) = ap (λ t. slice_get (places_of t.inputs) p) same ∙ named in
      let input = named_awaits value numbers v.2.start p i (places_of v.2.task.inputs) there_named in
      let inputs : slice_get v.0.inputs p ≡ slice_get (new_inputs value numbers v.2.start (places_of v.2.task.inputs)) p = ap (λ all. slice_get all p) v.2.inputs in
      (p, input.0, inputs_at final (number_at numbers j) p v.0 v.1 ∙ inputs ∙ input.1)

  -- a new task is an input of a later one, or the result
  new_ends : (fuel i : ℕ) → length outcome.tasks ≤ i + fuel → i < length outcome.tasks → EndsAtAsk final later ran.caller (number_at numbers i)
  new_ends zero i short h = absurd (omega arith)
  new_ends (suc fuel) i short h =
      elim (one_of (is_input_of (Task i) (drop (i + 1) outcome.tasks)) (same_place (Task i) outcome.result) (sound.formed.tasks_used i h)) [
        | inl used ↦
            let some = any_index (λ (task : NewTask K). is_among (Task i) (places_of task.inputs)) (drop (i + 1) outcome.tasks) used in
            let j : ℕ = (i + 1) + some.0 in
            let at = drop_get (i + 1) some.0 j outcome.tasks some.1 refl some.2 in
            let place = any_index (same_place (Task i)) (places_of some.1.inputs) some.3 in
            let one = one_there outcome.tasks i h in
            let u = new_final i one.0 one.1 in
            let within = slice_get_within outcome.tasks j some.1 at in
            Awaited (number_at numbers i) (number_at numbers j) u.0 u.1 u.2.caller
            (named_by i j place.0 some.1 at (place.2 ∙ ap Some (same_task i place.1 place.3)))
            (new_ends fuel j (omega arith) within)
        | inr last ↦ moved_ends gone (number_at numbers i) (keeps.awaited gone ran there) refl (ap (stand_of numbers read) (same_task i outcome.result last))
      ]

  awaited_after : (q : ℕ) (t : Unfinished (Tree C) K) → task_at final q ≡ Some t → EndsAtAsk final later t.caller q
  awaited_after q t is =
      elim (from_final q t is) [
        | inl old ↦ subst (λ c. EndsAtAsk final later c q) (sym old.caller) (old_ends old.before.caller q (keeps.awaited q old.before old.was) old.apart)
        | inr new ↦
            let within = slice_get_within outcome.tasks new.index new.task new.at in
            subst (λ c. EndsAtAsk final later c q) (sym new.caller)
            (subst (λ k. EndsAtAsk final later ran.caller k) new.number (new_ends (length outcome.tasks) new.index (omega arith) within))
      ]

  stopped_same : (s : Stand (Tree C)) (c : ℕ) → is_stopped (stood grown gone s) c ≡ is_stopped grown c
  stopped_same (ByValue x) c = refl
  stopped_same (ByTask to) c = moved_stopped (asked_of grown gone) to c
    where
      moved_stopped : (o : Option ℕ) (to c : ℕ) → is_stopped (asked_moved (inputs_redirected grown gone to) gone to o) c ≡ is_stopped grown c
      moved_stopped None to c = refl
      moved_stopped (Some n) to c = refl

  pub kept_by_finish : Keeps lib (base + more) final later
  kept_by_finish = record {
    goals = goals;
    level = level;
    numbers = numbers_after;
    low = low_after;
    falls = falls_after;
    there = there_after;
    goal_is = goal_after;
    defined = defined_after;
    runs_known = runs_known_after;
    runs_one = runs_one_after;
    ask_for = ask_for_after;
    asked_one = asked_one_after;
    ask_one = ask_one_after;
    ask_drawn = ask_drawn_after;
    served = served_after;
    awaited = awaited_after;
    stopped = λ c is. stopped_after c (sym (stopped_same stand c ∙ stopped_with value numbers ran.caller base outcome.tasks graph c) ∙ is);
  }

  -- the goals that are kept
  pub goals_after : (q : ℕ) → kept_by_finish.goals q ≡ goals q
  unfolding kept_by_finish
  goals_after q = refl

  -- and nobody is stopped by it
  pub stopped_final : (c : ℕ) → is_stopped final c ≡ is_stopped graph c
  stopped_final c = stopped_same stand c ∙ stopped_with value numbers ran.caller base outcome.tasks graph c
