-- What stands under a number after each step on unfinished tasks.
use Rattle.std.proofs.Common.{◌≡◌, ℕ, ◌+◌, ◌<◌, ◌≤◌, Bool, true, false, cond, ◌⊎◌, inl, inr, List, [], ◌∷◌, map as each, Option, Some, None, refl, sym, ap, ◌∙◌, arith}
use Rattle.std.specs.Option.{option_map, option_and_then}
use Rattle.std.specs.Ordering.{nat_cmp}
use Rattle.std.specs.FinMap as map
use Rattle.task_types.specs.declared.outcome.Place.{Place}
use Rattle.task_types.specs.declared.outcome.NewTask.{NewTask}
use Rattle.task_types.specs.Places.{places_of}
use Rattle.task_states.specs.Maps.{each_changed, put_at}
use Rattle.task_states.specs.States.{Unfinished, Graph, task_at, asked_of}
use Rattle.task_states.specs.Steps.{settled, redirected, with_task, added, without_asked, all_delivered, inputs_redirected, asked_moved, forwarded}
use Rattle.task_states.proofs.Maps.{get-each_changed}
use Rattle.name_states.proofs.Basics.{same_or_not, none_not_some, same_some, inserted_here, inserted_other, inserted_from}
use Rattle.name_machine.specs.NewTasks.{taken, drawn_by_tasks, new_inputs, with_tasks}

-- a value that was changed, and from which
pub mapped_from : {X Y : Type 0} (f : X → Y) (o : Option X) (y : Y) → option_map f o ≡ Some y → (x : X) × (o ≡ Some x) × (y ≡ f x)
mapped_from f None y is = absurd (none_not_some refl is)
mapped_from f (Some x) y is = (x, refl, sym (same_some (f x) y is))

-- a value that passed a test
pub passed_from : {X : Type 0} (test : X → Bool) (o : Option X) (y : X) → option_and_then (λ value. cond (test value) (Some value) None) o ≡ Some y
    → (o ≡ Some y) × (test y ≡ true)
passed_from test None y is = absurd (none_not_some refl is)
passed_from {X} test (Some x) y is =
    elim (test x) as (λ b. test x ≡ b → cond b (Some x) None ≡ Some y → (Some x ≡ Some y) × (test y ≡ true)) [
      | true ↦ λ e found. (found, ap test (sym (same_some x y found)) ∙ e)
      | false ↦ λ e found. absurd (none_not_some refl found)
    ] refl is

pub passed_to : {X : Type 0} (test : X → Bool) (o : Option X) (x : X) → o ≡ Some x → test x ≡ true
    → option_and_then (λ value. cond (test value) (Some value) None) o ≡ Some x
passed_to test o x is passes = ap (option_and_then (λ value. cond (test value) (Some value) None)) is ∙ ap (λ b. cond b (Some x) None) passes

module _ {X K : Type 0} where
  -- ---- One task changed

  put_here : (tasks : map.FinMap nat_cmp (Unfinished X K)) (n : ℕ) (o : Option (Unfinished X K)) (f : Unfinished X K → Unfinished X K) → map.get tasks n ≡ o
      → map.get (put_at tasks n (option_map f o)) n ≡ option_map f o
  put_here tasks n None f is = is
  put_here tasks n (Some t) f is = inserted_here tasks n n (f t) (f t) refl refl

  put_other : (tasks : map.FinMap nat_cmp (Unfinished X K)) (n q : ℕ) (o : Option (Unfinished X K)) → (q ≡ n → ⊥)
      → map.get (put_at tasks n o) q ≡ map.get tasks q
  put_other tasks n q None apart = refl
  put_other tasks n q (Some t) apart = inserted_other tasks n q t apart

  pub changed_here : (graph : Graph X K) (n : ℕ) (f : Unfinished X K → Unfinished X K)
      → task_at (with_task graph n f) n ≡ option_map f (task_at graph n)
  changed_here graph n f = put_here graph.tasks n (task_at graph n) f refl

  pub changed_other : (graph : Graph X K) (n q : ℕ) (f : Unfinished X K → Unfinished X K) → (q ≡ n → ⊥)
      → task_at (with_task graph n f) q ≡ task_at graph q
  changed_other graph n q f apart = put_other graph.tasks n q (option_map f (task_at graph n)) apart

  -- a task that is there afterwards was there
  pub changed_from : (graph : Graph X K) (n q : ℕ) (f : Unfinished X K → Unfinished X K) (t : Unfinished X K) → task_at (with_task graph n f) q ≡ Some t
      → (u : Unfinished X K) × (task_at graph q ≡ Some u) × (((q ≡ n) × (t ≡ f u)) ⊎ ((q ≡ n → ⊥) × (t ≡ u)))
  changed_from graph n q f t is =
      elim (same_or_not q n) [
        | inl same ↦
            let was = mapped_from f (task_at graph n) t (sym (changed_here graph n f) ∙ ap (task_at (with_task graph n f)) (sym same) ∙ is) in
            (was.0, ap (task_at graph) same ∙ was.1, inl (same, was.2))
        | inr apart ↦ (t, sym (changed_other graph n q f apart) ∙ is, inr (apart, refl))
      ]

  -- ---- All tasks changed

  pub each_from : (f : Unfinished X K → Unfinished X K) (tasks : map.FinMap nat_cmp (Unfinished X K)) (q : ℕ) (t : Unfinished X K) → map.get (each_changed f tasks) q ≡ Some t
      → (u : Unfinished X K) × (map.get tasks q ≡ Some u) × (t ≡ f u)
  each_from f tasks q t is = mapped_from f (map.get tasks q) t (sym (get-each_changed f tasks q) ∙ is)

  -- ---- New tasks

  -- a task that is there afterwards was there, or has one of the numbers that were drawn
  pub tasks_from : (value : Place → ℕ → X) (numbers : List ℕ) (caller drawn : ℕ) (tasks : List (NewTask K)) (graph : Graph X K) (q : ℕ) (t : Unfinished X K)
      → task_at (with_tasks value numbers caller drawn tasks graph) q ≡ Some t
      → (task_at graph q ≡ Some t) ⊎ ((drawn < q) × (q ≤ drawn + drawn_by_tasks tasks))
  tasks_from value numbers caller drawn [] graph q t is = inl is
  tasks_from value numbers caller drawn (task ∷ tasks) graph q t is =
      let inputs = new_inputs value numbers (drawn + 1) (places_of task.inputs) in
      elim (tasks_from value numbers caller (drawn + 1 + taken (places_of task.inputs)) tasks (added graph (drawn + 1) caller task.kind inputs) q t is) [
        | inl was ↦ elim (inserted_from graph.tasks (drawn + 1) q (record { caller = caller; kind = task.kind; inputs = inputs; runner = None; asked = None }) t was) [
          | inl here ↦ inr (omega (arith, here.0), omega (arith, here.0))
          | inr other ↦ inl other.1
        ]
        | inr fresh ↦ inr (omega (arith, fresh.0), omega (arith, fresh.1))
      ]

  -- ---- What awaited a task gets a value, or awaits another

  pub delivered_was : (graph : Graph X K) (task q : ℕ) (value : ℕ → X) (t : Unfinished X K) → task_at (all_delivered graph task value) q ≡ Some t
      → (u : Unfinished X K) × (task_at graph q ≡ Some u)
  delivered_was graph task q value t is =
      let change : Unfinished X K → Unfinished X K = λ unfinished. record unfinished { inputs = each (settled task value) unfinished.inputs } in
      let first = changed_from (record graph { tasks = each_changed change graph.tasks }) task q (λ unfinished. record unfinished { asked = None }) t is in
      let was = each_from change graph.tasks q first.0 first.1 in
      (was.0, was.1)

  moved_was : (graph : Graph X K) (task to q : ℕ) (asked : Option ℕ) (t : Unfinished X K) → task_at (asked_moved graph task to asked) q ≡ Some t
      → (u : Unfinished X K) × (task_at graph q ≡ Some u)
  moved_was graph task to q None t is = (t, is)
  moved_was graph task to q (Some number) t is =
      let second = changed_from (without_asked graph task) to q (λ unfinished. record unfinished { asked = Some number }) t is in
      let first = changed_from graph task q (λ unfinished. record unfinished { asked = None }) second.0 second.1 in
      (first.0, first.1)

  pub forwarded_was : (graph : Graph X K) (task to q : ℕ) (t : Unfinished X K) → task_at (forwarded graph task to) q ≡ Some t
      → (u : Unfinished X K) × (task_at graph q ≡ Some u)
  forwarded_was graph task to q t is =
      let change : Unfinished X K → Unfinished X K = λ unfinished. record unfinished { inputs = each (redirected task to) unfinished.inputs } in
      let first = moved_was (inputs_redirected graph task to) task to q (asked_of graph task) t is in
      let was = each_from change graph.tasks q first.0 first.1 in
      (was.0, was.1)
