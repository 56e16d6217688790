-- Which tasks became Ready by a finish: new ones, and those whose last input came.
use Rattle.std.proofs.Common.{◌≡◌, ◌↔◌, ℕ, zero, suc, ◌+◌, ◌<◌, ◌≤◌, ◌⊎◌, inl, inr, Bool, true, false, cond, nat_eq, List, [], ◌∷◌, length, slice_get, None, Some, refl, sym, ap, subst, ◌∙◌, arith}
use Rattle.std.specs.List.{Contains, IsDistinct, AllByRecursion, filter}
use Rattle.cht_ids.specs.declared.refs.Ref.{Ref}
use Rattle.task_types.specs.declared.outcome.Place.{Place}
use Rattle.task_types.specs.declared.outcome.NewTask.{NewTask}
use Rattle.task_types.specs.Places.{places_of}
use Rattle.name_states.proofs.Basics.{none_not_some, test_apart, removed_here, removed_other}
use Rattle.task_states.specs.declared.states.TaskStatus.{TaskStatus}
use Rattle.task_states.specs.declared.states.TaskStatus.TheVariants.{Unknown, Waiting, Ready, Running}
use Rattle.task_states.specs.States.{Unfinished, Graph, task_at, status, status_of}
use Rattle.task_states.specs.Steps.{removed}
use Rattle.name_machine.specs.NewTasks.{taken, task_numbers, number_at, with_tasks}
use Rattle.name_machine.proofs.Added.{old_stays, new_from}
use Rattle.name_machine.proofs.FinishNames.{IsIn}
use Rattle.core_steps.specs.Delivered.{IsNowReady}
use Rattle.core_steps.specs.Ending.{is_ready, is_ready_in}
use Rattle.core_steps.proofs.Handed.{ready_is, ready_from}

-- ---- Members of lists

module _ {X : Type 0} where
  contains_in : (xs : List X) (x : X) → Contains xs x → IsIn x xs
  contains_in [] x (k, low, is) = absurd (omega arith)
  contains_in (y ∷ xs) x (zero, low, is) = inl (sym is)
  contains_in (y ∷ xs) x (suc k, low, is) = inr (contains_in xs x (k, omega arith, is))

  in_contains : (xs : List X) (x : X) → IsIn x xs → Contains xs x
  in_contains [] x among = absurd among
  in_contains (y ∷ xs) x (inl here) = (0, omega arith, sym here)
  in_contains (y ∷ xs) x (inr among) = let rest = in_contains xs x among in let low = rest.1 in (suc rest.0, omega arith, rest.2)

  filter_from : (p : X → Bool) (xs : List X) (x : X) → IsIn x (filter p xs) → IsIn x xs × (p x ≡ true)
  filter_from p [] x among = absurd among
  filter_from p (y ∷ xs) x among = go (λ rest. filter_from p xs x rest) (p y) refl among
    where
      go : (IsIn x (filter p xs) → IsIn x xs × (p x ≡ true)) → (b : Bool) → p y ≡ b → IsIn x (cond b (y ∷ filter p xs) (filter p xs)) → IsIn x (y ∷ xs) × (p x ≡ true)
      go more true is (inl here) = (inl here, ap p here ∙ is)
      go more true is (inr rest) = let old = more rest in (inr old.0, old.1)
      go more false is rest = let old = more rest in (inr old.0, old.1)

  filter_to : (p : X → Bool) (xs : List X) (x : X) → IsIn x xs → p x ≡ true → IsIn x (filter p xs)
  filter_to p [] x among is = absurd among
  filter_to p (y ∷ xs) x (inl here) is = subst (λ b. IsIn x (cond b (y ∷ filter p xs) (filter p xs))) (sym (ap p (sym here) ∙ is)) (inl here)
  filter_to p (y ∷ xs) x (inr rest) is =
      elim (p y) as (λ b. IsIn x (cond b (y ∷ filter p xs) (filter p xs))) [
        | true ↦ inr (filter_to p xs x rest is)
        | false ↦ filter_to p xs x rest is
      ]

all_kept : (P : ℕ → Type 0) (p : ℕ → Bool) (xs : List ℕ) → AllByRecursion P xs → AllByRecursion P (filter p xs)
all_kept P p [] all = tt
all_kept P p (x ∷ xs) all = elim (p x) as (λ b. AllByRecursion P (cond b (x ∷ filter p xs) (filter p xs))) [
  | true ↦ (all.0, all_kept P p xs all.1)
  | false ↦ all_kept P p xs all.1
]

distinct_filter : (p : ℕ → Bool) (xs : List ℕ) → IsDistinct nat_eq xs → IsDistinct nat_eq (filter p xs)
unfolding IsDistinct
distinct_filter p [] distinct = tt
distinct_filter p (x ∷ xs) distinct = elim (p x) as (λ b. IsDistinct nat_eq (cond b (x ∷ filter p xs) (filter p xs))) [
  | true ↦ (all_kept (λ y. nat_eq x y ≡ false) p xs distinct.0, distinct_filter p xs distinct.1)
  | false ↦ distinct_filter p xs distinct.1
]

-- ---- The numbers of new tasks

module _ {K : Type 0} where
  number_above : (drawn : ℕ) (tasks : List (NewTask K)) (q : ℕ) → IsIn q (task_numbers drawn tasks) → drawn < q
  number_above drawn [] q among = absurd among
  number_above drawn (task ∷ tasks) q (inl here) = (let e = here in omega arith)
  number_above drawn (task ∷ tasks) q (inr rest) = let high = number_above (drawn + 1 + taken (places_of task.inputs)) tasks q rest in omega arith

  others_apart : (low drawn : ℕ) → low ≤ drawn → (tasks : List (NewTask K)) → AllByRecursion (λ y. nat_eq low y ≡ false) (task_numbers drawn tasks)
  others_apart low drawn up [] = tt
  others_apart low drawn up (task ∷ tasks) =
      (test_apart low (drawn + 1) (λ same. omega arith), others_apart low (drawn + 1 + taken (places_of task.inputs)) (omega arith) tasks)

  numbers_distinct : (drawn : ℕ) (tasks : List (NewTask K)) → IsDistinct nat_eq (task_numbers drawn tasks)
  unfolding IsDistinct
  numbers_distinct drawn [] = tt
  numbers_distinct drawn (task ∷ tasks) =
      (others_apart (drawn + 1) (drawn + 1 + taken (places_of task.inputs)) (omega arith) tasks, numbers_distinct (drawn + 1 + taken (places_of task.inputs)) tasks)

  pub count_numbers : (drawn : ℕ) (tasks : List (NewTask K)) → length (task_numbers drawn tasks) ≡ length tasks
  count_numbers drawn [] = refl
  count_numbers drawn (task ∷ tasks) = ap suc (count_numbers (drawn + 1 + taken (places_of task.inputs)) tasks)

  number_in : (drawn i : ℕ) (tasks : List (NewTask K)) → i < length tasks → IsIn (number_at (task_numbers drawn tasks) i) (task_numbers drawn tasks)
  number_in drawn i [] low = absurd (omega arith)
  number_in drawn zero (task ∷ tasks) low = inl refl
  number_in drawn (suc i) (task ∷ tasks) low = inr (number_in (drawn + 1 + taken (places_of task.inputs)) i tasks (omega arith))

  index_low : (tasks : List (NewTask K)) (i : ℕ) (task : NewTask K) → slice_get tasks i ≡ Some task → i < length tasks
  index_low [] i task is = absurd (none_not_some refl is)
  index_low (first ∷ tasks) zero task is = omega arith
  index_low (first ∷ tasks) (suc i) task is = let low = index_low tasks i task is in omega arith

-- the test says it
ready_test : (s : TaskStatus) → is_ready s ≡ true → s ≡ Ready
ready_test Unknown is = absurd (let clash : false ≡ true = is in cc)
ready_test Waiting is = absurd (let clash : false ≡ true = is in cc)
ready_test Ready is = refl
ready_test Running is = absurd (let clash : false ≡ true = is in cc)

ready_or_not : (s : TaskStatus) → (s ≡ Ready) ⊎ (s ≡ Ready → ⊥)
ready_or_not Unknown = inr (λ is. let clash : Unknown ≡ Ready = is in cc)
ready_or_not Waiting = inr (λ is. let clash : Waiting ≡ Ready = is in cc)
ready_or_not Ready = inl refl
ready_or_not Running = inr (λ is. let clash : Running ≡ Ready = is in cc)

module _ {K : Type 0} (value : Place → ℕ → Ref) (numbers : List ℕ) (caller drawn base : ℕ) (tasks : List (NewTask K)) (graph : Graph Ref K) (up : drawn ≤ base)
    (low : (q : ℕ) (u : Unfinished Ref K) → task_at graph q ≡ Some u → q ≤ drawn) where
  abbrev pub added_all : Graph Ref K
  added_all = with_tasks value numbers caller base tasks graph

  abbrev pub new_ready : List ℕ
  new_ready = filter (is_ready_in added_all) (task_numbers base tasks)

  pub new_distinct : IsDistinct nat_eq new_ready
  new_distinct = distinct_filter (is_ready_in added_all) (task_numbers base tasks) (numbers_distinct base tasks)

  -- none of them waits
  pub new_not_waiting : (q : ℕ) → Contains new_ready q → status added_all q ≡ Waiting → ⊥
  new_not_waiting q among waits =
      let both = filter_from (is_ready_in added_all) (task_numbers base tasks) q (contains_in new_ready q among) in
      let clash : Ready ≡ Waiting = sym (ready_test (status added_all q) both.1) ∙ waits in
      cc

  -- What was listed when the new tasks were there, and what became Ready when the output was handed on, are the tasks that are Ready once
  -- the finished task is gone and were not Ready before.
  module _ (task : ℕ) (after : Graph Ref K) (task_low : task ≤ drawn) (stays : (q : ℕ) → (q ≡ task → ⊥) → status added_all q ≡ Ready → status after q ≡ Ready)
      (not_ready : status after task ≡ Ready → ⊥) where
    status_left : (q : ℕ) → (q ≡ task → ⊥) → status (removed after task) q ≡ status after q
    status_left q apart = ap (λ o. elim o [ None ↦ Unknown | Some u ↦ status_of u ]) (removed_other after.tasks task q apart)

    gone : status (removed after task) task ≡ Ready → ⊥
    gone is =
        let clash : Unknown ≡ Ready = sym (ap (λ o. elim o [ None ↦ Unknown | Some u ↦ status_of u ]) (removed_here after.tasks task task refl)) ∙ is in
        cc

    was_ready : (q : ℕ) → status graph q ≡ Ready → (q ≤ drawn) × (status added_all q ≡ Ready)
    was_ready q is =
        let u = ready_is graph q is in
        let down = low q u.0 u.1 in
        (down, ready_from added_all q u.0 (old_stays value numbers caller base tasks graph q (omega arith) ∙ u.1) u.2 u.3)

    pub newly : (ready : List ℕ) → ((q : ℕ) → Contains ready q ↔ (Contains new_ready q ⊎ IsNowReady added_all after q))
        → (q : ℕ) → Contains ready q ↔ ((status (removed after task) q ≡ Ready) × (status graph q ≡ Ready → ⊥))
    newly ready listed q = (to, from)
      where
        to : Contains ready q → (status (removed after task) q ≡ Ready) × (status graph q ≡ Ready → ⊥)
        to among = elim ((listed q).0 among) [
          | inl new ↦
              let both = filter_from (is_ready_in added_all) (task_numbers base tasks) q (contains_in new_ready q new) in
              let high = number_above base tasks q both.0 in
              let apart : q ≡ task → ⊥ = λ same. omega arith in (
                status_left q apart ∙ stays q apart (ready_test (status added_all q) both.1),
                λ was. (let down = (was_ready q was).0 in omega arith),
              )
          | inr now ↦
              let apart : q ≡ task → ⊥ = λ same. not_ready (ap (status after) (sym same) ∙ now.ready) in
              (status_left q apart ∙ now.ready, λ was. now.not_before (was_ready q was).1)
        ]

        from : (status (removed after task) q ≡ Ready) × (status graph q ≡ Ready → ⊥) → Contains ready q
        from (is, not) = (listed q).1 (go (ready_or_not (status added_all q)))
          where
            apart : q ≡ task → ⊥
            apart same = gone (ap (status (removed after task)) (sym same) ∙ is)

            go : (status added_all q ≡ Ready) ⊎ (status added_all q ≡ Ready → ⊥) → Contains new_ready q ⊎ IsNowReady added_all after q
            go (inr never) = inr (record { ready = sym (status_left q apart) ∙ is; not_before = never })
            go (inl ready) =
                let u = ready_is added_all q ready in
                elim (new_from value numbers caller base tasks graph q u.0 u.1) [
                  | inl was ↦ absurd (not (ready_from graph q u.0 was u.2 u.3))
                  | inr new ↦
                      inl (in_contains new_ready q (filter_to (is_ready_in added_all) (task_numbers base tasks) q
                      (subst (λ n. IsIn n (task_numbers base tasks)) new.number (number_in base new.index tasks (index_low tasks new.index new.task new.at)))
                      (ap is_ready ready)))
                ]
