-- A map with the works of new tasks, by their numbers.
use Rattle.std.proofs.Common.{◌≡◌, ℕ, zero, suc, ◌+◌, ◌<◌, ◌≤◌, ◌⊎◌, inl, inr, nat_cmp, List, [], ◌∷◌, length, slice_get, None, Some, refl, sym, ap, ◌∙◌, arith}
use Rattle.std.specs.List.{sum}
use Rattle.std.specs.FinMap as map
use Rattle.std.proofs.lemmas.List.Sums.{sum_by-cons}
use Rattle.task_types.specs.declared.outcome.NewTask.{NewTask}
use Rattle.task_types.specs.Places.{places_of}
use Rattle.name_states.proofs.Basics.{none_not_some, same_some, inserted_here, inserted_other, inserted_from}
use Rattle.name_machine.specs.NewTasks.{taken, task_numbers, number_at}
use Rattle.name_machine.proofs.Added.{number_drawn}
use Rattle.name_machine.proofs.Totals.{total, total_inserted}

-- works under numbers, on top of a map
abbrev pub works_in : List ℕ → List ℕ → map.FinMap nat_cmp ℕ → map.FinMap nat_cmp ℕ
works_in [] works m = m
works_in (n ∷ numbers) [] m = m
works_in (n ∷ numbers) (work ∷ works) m = map.insert (works_in numbers works m) n work

module _ {K : Type 0} where
  pub in_low : (drawn q : ℕ) (tasks : List (NewTask K)) (works : List ℕ) (m : map.FinMap nat_cmp ℕ) → q ≤ drawn
      → map.get (works_in (task_numbers drawn tasks) works m) q ≡ map.get m q
  in_low drawn q [] works m h = refl
  in_low drawn q (task ∷ tasks) [] m h = refl
  in_low drawn q (task ∷ tasks) (work ∷ works) m h =
      inserted_other (works_in (task_numbers (drawn + 1 + taken (places_of task.inputs)) tasks) works m) (drawn + 1) q work (λ same. omega arith)
      ∙ in_low (drawn + 1 + taken (places_of task.inputs)) q tasks works m (omega arith)

  pub in_new : (drawn i work : ℕ) (tasks : List (NewTask K)) (works : List ℕ) (m : map.FinMap nat_cmp ℕ) → i < length tasks → slice_get works i ≡ Some work
      → map.get (works_in (task_numbers drawn tasks) works m) (number_at (task_numbers drawn tasks) i) ≡ Some work
  in_new drawn i work [] works m h is = absurd (omega arith)
  in_new drawn i work (task ∷ tasks) [] m h is = absurd (none_not_some refl is)
  in_new drawn zero work (task ∷ tasks) (first ∷ works) m h is =
      inserted_here (works_in (task_numbers (drawn + 1 + taken (places_of task.inputs)) tasks) works m) (drawn + 1) (drawn + 1) first work refl (sym (same_some first work is))
  in_new drawn (suc i) work (task ∷ tasks) (first ∷ works) m h is =
      let rest : ℕ = drawn + 1 + taken (places_of task.inputs) in
      let low = (number_drawn rest i tasks (omega arith)).0 in
      inserted_other (works_in (task_numbers rest tasks) works m) (drawn + 1) (number_at (task_numbers rest tasks) i) first (λ same. omega arith)
      ∙ in_new rest i work tasks works m (omega arith) is

  pub in_from : (drawn q work : ℕ) (tasks : List (NewTask K)) (works : List ℕ) (m : map.FinMap nat_cmp ℕ)
      → map.get (works_in (task_numbers drawn tasks) works m) q ≡ Some work
      → (map.get m q ≡ Some work) ⊎ ((i : ℕ) × (i < length tasks) × (number_at (task_numbers drawn tasks) i ≡ q) × (slice_get works i ≡ Some work))
  in_from drawn q work [] works m is = inl is
  in_from drawn q work (task ∷ tasks) [] m is = inl is
  in_from drawn q work (task ∷ tasks) (first ∷ works) m is =
      let rest : ℕ = drawn + 1 + taken (places_of task.inputs) in
      elim (inserted_from (works_in (task_numbers rest tasks) works m) (drawn + 1) q first work is) [
        | inl here ↦ inr (0, omega arith, sym here.0, ap Some (sym here.1))
        | inr other ↦ elim (in_from rest q work tasks works m other.1) [
          | inl old ↦ inl old
          | inr new ↦ inr (suc new.0, (let h = new.1 in omega arith), new.2, new.3)
        ]
      ]

  pub in_total : (drawn : ℕ) (tasks : List (NewTask K)) (works : List ℕ) (m : map.FinMap nat_cmp ℕ) → length works ≡ length tasks
      → ((q : ℕ) → drawn < q → map.get m q ≡ None) → total (works_in (task_numbers drawn tasks) works m) ≡ sum works + total m
  in_total drawn [] [] m same none = omega arith
  in_total drawn [] (work ∷ works) m same none = absurd (omega arith)
  in_total drawn (task ∷ tasks) [] m same none = absurd (omega arith)
  in_total drawn (task ∷ tasks) (work ∷ works) m same none =
      let rest : ℕ = drawn + 1 + taken (places_of task.inputs) in
      let more = in_total rest tasks works m (omega arith) (λ q h. none q (omega arith)) in
      let first = total_inserted (works_in (task_numbers rest tasks) works m) (drawn + 1) work (in_low rest (drawn + 1) tasks works m (omega arith) ∙ none (drawn + 1) (omega arith)) in
      let whole = sum_by-cons (λ n. n) work works in
      omega arith
