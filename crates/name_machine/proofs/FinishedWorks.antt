-- What a finish makes of what is left to do.
use Rattle.std.proofs.Common.{◌≡◌, ℕ, suc, ◌+◌, ◌<◌, inl, inr, nat_cmp, List, [], ◌∷◌, map as each, length, slice_get, None, Some, refl, sym, ap, subst, ◌∙◌, arith}
use Rattle.std.specs.Option.{option_map}
use Rattle.std.specs.List.{sum, sum_by}
use Rattle.std.specs.FinMap as map
use Rattle.std.proofs.lemmas.List.Sums.{sum_by-cons}
use Rattle.std.proofs.lemmas.Option.{slice_get-map, slice_get_within}
use Rattle.task_types.specs.declared.outcome.NewTask.{NewTask}
use Rattle.task_types.specs.declared.outcome.Outcome.{Outcome}
use Rattle.task_types.specs.Tree.{Tree}
use Rattle.task_types.specs.Places.{places_of, task_shape}
use Rattle.task_types.specs.Meanings.{Meanings}
use Rattle.task_types.specs.Reading.{reading, Call, call_of, new_calls, new_trees}
use Rattle.task_types.specs.Sound.{IsSound, AddsUp, new_work}
use Rattle.task_types.proofs.InOrder.{length-in_order}
use Rattle.task_states.specs.States.{Unfinished, Graph, task_at}
use Rattle.name_states.proofs.Basics.{none_or_some, same_some, same_options, removed_other, removed_from}
use Rattle.task_states.proofs.Maps.{same_maps}
use Rattle.name_machine.specs.States.{Ask}
use Rattle.name_machine.specs.NewTasks.{number_at, task_numbers}
use Rattle.name_machine.specs.Steps.{tree_known}
use Rattle.name_machine.specs.Goals.{read_input, goal_within}
use Rattle.name_machine.proofs.Invariant.{known_trees, Keeps, own_readings, same_readings}
use Rattle.name_machine.proofs.Finishing.{final, later, goals, base, more, task_goals, chunk_trees, from_final, old_final, new_final, old_reads, new_reads, low_base, call_at, number_high, index_is, goals_after, kept_by_finish, one_there}
use Rattle.name_machine.proofs.Works.{works_by, work_by, work_from, work_to, works_alike}
use Rattle.name_machine.proofs.Totals.{total, total_removed}
use Rattle.name_machine.proofs.WorksIn.{works_in, in_low, in_new, in_from, in_total}

each_length : {X Y : Type 0} (f : X → Y) (xs : List X) → length (each f xs) ≡ length xs
each_length f [] = refl
each_length f (x ∷ xs) = ap suc (each_length f xs)

-- a sum over a list is the sum of what is made of each
sum_each : {X : Type 0} (f : X → ℕ) (xs : List X) → sum (each f xs) ≡ sum_by f xs
sum_each f [] = refl
sum_each f (x ∷ xs) =
    let rest = sum_each f xs in
    let one = sum_by-cons (λ n. n) (f x) (each f xs) in
    let two = sum_by-cons f x xs in
    omega arith

module _ {C K : Type 0} (lib : Meanings C K) (arity : C → ℕ) (drawn : ℕ) (graph : Graph (Tree C) K) (asks : map.FinMap nat_cmp (Ask (Tree C) (Tree C))) (keeps : Keeps lib drawn graph asks)
    (gone : ℕ) (ran : Unfinished (Tree C) K) (there : task_at graph gone ≡ Some ran) (worker : ℕ) (runs : ran.runner ≡ Some worker)
    (outcome : Outcome C K) (sound : IsSound arity lib ran.kind (each tree_known ran.inputs) outcome) where
  abbrev pub last : Graph (Tree C) K
  last = final lib arity drawn graph asks keeps gone ran there worker runs outcome sound

  abbrev goals_then : ℕ → Tree C
  goals_then = goals lib arity drawn graph asks keeps gone ran there worker runs outcome sound

  abbrev pub start : ℕ
  start = base lib arity drawn graph asks keeps gone ran there worker runs outcome sound

  abbrev pub end : ℕ
  end = start + more lib arity drawn graph asks keeps gone ran there worker runs outcome sound

  abbrev calls : List (Call C K)
  calls = new_calls lib.goal (each tree_known ran.inputs) outcome

  abbrev work_of_call : Call C K → ℕ
  work_of_call call = lib.work call.kind call.inputs

  -- works by the goals as far as what was drawn are works by the goals that are kept
  works_then : (c : ℕ) → works_by lib (goal_within lib end last) last c ≡ works_by lib goals_then last c
  works_then c =
      works_alike lib goals_then (goal_within lib end last) last last c
      (λ q t is own. (
        t,
        is,
        own,
        ap (lib.work t.kind) (own_readings lib end last (later lib arity drawn graph asks keeps gone ran there worker runs outcome sound) (kept_by_finish lib arity drawn graph asks keeps gone ran there worker runs outcome sound) q t is
            ∙ same_readings (kept_by_finish lib arity drawn graph asks keeps gone ran there worker runs outcome sound).goals goals_then t.inputs (λ p a n at. goals_after lib arity drawn graph asks keeps gone ran there worker runs outcome sound a)),
      ))
      (λ q u is own. (u, is, own))

  -- the works of another caller stay
  works_other : (c : ℕ) → (ran.caller ≡ c → ⊥) → works_by lib goals_then last c ≡ works_by lib keeps.goals graph c
  works_other c apart =
      works_alike lib keeps.goals goals_then graph last c
      (λ q t is own.
      let other : q ≡ gone → ⊥ = λ same. apart (ap (λ v. v.caller) (same_some ran t (sym there ∙ ap (task_at graph) (sym same) ∙ is)) ∙ own) in
      let u = old_final lib arity drawn graph asks keeps gone ran there worker runs outcome sound q t is other in
      elim (from_final lib arity drawn graph asks keeps gone ran there worker runs outcome sound q u.0 u.1) [
        | inl old ↦
            let same : old.before ≡ t = same_some old.before t (sym old.was ∙ is) in (
              u.0,
              u.1,
              u.2 ∙ own,
              (λ i. lib.work (old.kind i) (old_reads lib arity drawn graph asks keeps gone ran there worker runs outcome sound q u.0 old i)) ∙ ap (work_by lib keeps.goals) same,
            )
        | inr new ↦ absurd (apart (sym new.caller ∙ u.2 ∙ own))
      ])
      (λ q u is own. elim (from_final lib arity drawn graph asks keeps gone ran there worker runs outcome sound q u is) [
        | inl old ↦ (old.before, old.was, sym old.caller ∙ own)
        | inr new ↦ absurd (apart (sym new.caller ∙ own))
      ])

  abbrev rest : map.FinMap nat_cmp ℕ
  rest = map.remove (works_by lib keeps.goals graph ran.caller) gone

  abbrev new_works : List ℕ
  new_works = each work_of_call calls

  work_at : (i : ℕ) (task : NewTask K) → slice_get outcome.tasks i ≡ Some task
      → slice_get new_works i ≡ Some (lib.work task.kind (each (reading (each tree_known ran.inputs) (chunk_trees lib arity drawn graph asks keeps gone ran there worker runs outcome sound) (task_goals lib arity drawn graph asks keeps gone ran there worker runs outcome sound)) (places_of task.inputs)))
  work_at i task at =
      slice_get-map work_of_call calls i ∙ ap (option_map work_of_call) (call_at lib arity drawn graph asks keeps gone ran there worker runs outcome sound i task at)

  works_own : works_by lib goals_then last ran.caller ≡ works_in (task_numbers start outcome.tasks) new_works rest
  works_own =
      same_maps _ _ (λ q. same_options _ _
      (λ n is.
      let found = work_from lib goals_then last ran.caller q n is in
      elim (from_final lib arity drawn graph asks keeps gone ran there worker runs outcome sound q found.0 found.1) [
        | inl old ↦
            in_low start q outcome.tasks new_works rest (low_base lib arity drawn graph asks keeps gone ran there worker runs outcome sound q old.before old.was)
            ∙ removed_other (works_by lib keeps.goals graph ran.caller) gone q old.apart
            ∙ work_to lib keeps.goals graph ran.caller q old.before old.was (sym old.caller ∙ found.2)
            ∙ ap Some (sym (found.3 ∙ (λ i. lib.work (old.kind i) (old_reads lib arity drawn graph asks keeps gone ran there worker runs outcome sound q found.0 old i))))
        | inr new ↦
            ap (map.get (works_in (task_numbers start outcome.tasks) new_works rest)) (sym new.number)
            ∙ in_new start new.index n outcome.tasks new_works rest (slice_get_within outcome.tasks new.index new.task new.at)
            (work_at new.index new.task new.at ∙ ap Some (sym (found.3 ∙ (λ i. lib.work (new.kind i) (new_reads lib arity drawn graph asks keeps gone ran there worker runs outcome sound q found.0 new i)))))
      ])
      (λ n is. elim (in_from start q n outcome.tasks new_works rest is) [
        | inl old ↦
            let was = removed_from (works_by lib keeps.goals graph ran.caller) gone q n old in
            let found = work_from lib keeps.goals graph ran.caller q n was.1 in
            let u = old_final lib arity drawn graph asks keeps gone ran there worker runs outcome sound q found.0 found.1 was.0 in
            elim (from_final lib arity drawn graph asks keeps gone ran there worker runs outcome sound q u.0 u.1) [
              | inl kept ↦
                  work_to lib goals_then last ran.caller q u.0 u.1 (u.2 ∙ found.2)
                  ∙ ap Some ((λ i. lib.work (kept.kind i) (old_reads lib arity drawn graph asks keeps gone ran there worker runs outcome sound q u.0 kept i))
                  ∙ ap (work_by lib keeps.goals) (same_some kept.before found.0 (sym kept.was ∙ found.1)) ∙ sym found.3)
              | inr new ↦
                  absurd (let low = low_base lib arity drawn graph asks keeps gone ran there worker runs outcome sound q found.0 found.1 in
                  let high = (number_high lib arity drawn graph asks keeps gone ran there worker runs outcome sound new.index new.task new.at).0 in
                  let e = new.number in
                  omega arith)
            ]
        | inr new ↦
            let task = one_there outcome.tasks new.0 new.1 in
            let u = new_final lib arity drawn graph asks keeps gone ran there worker runs outcome sound new.0 task.0 task.1 in
            let one = u.2 in
            let reads = new_reads lib arity drawn graph asks keeps gone ran there worker runs outcome sound (number_at (task_numbers start outcome.tasks) new.0) u.0 one in
            ap (map.get (works_by lib goals_then last ran.caller)) (sym new.2)
            ∙ work_to lib goals_then last ran.caller (number_at (task_numbers start outcome.tasks) new.0) u.0 u.1 one.caller
            ∙ ap Some (λ i. lib.work (one.kind i) (reads i))
            ∙ sym (work_at one.index one.task one.at)
            ∙ ap (slice_get new_works) (index_is lib arity drawn graph asks keeps gone ran there worker runs outcome sound one.index new.0 one.task task.0 one.at task.1 one.number)
            ∙ new.3
      ]))

  -- a finish takes one off what is left to do for the task's caller
  pub finish_takes_one : AddsUp arity lib → 1 + total (works_by lib (goal_within lib end last) last ran.caller) ≡ total (works_by lib keeps.goals graph ran.caller)
  finish_takes_one adds =
      let trees : List (Tree C) = each tree_known ran.inputs in
      let reads : each (read_input keeps.goals) ran.inputs ≡ trees = known_trees keeps.goals ran.inputs (λ p a n is. keeps.runs_known gone p a n worker ran there runs is) in
      let defined = subst (lib.defined ran.kind) reads (keeps.defined gone ran there) in
      let its : work_by lib keeps.goals ran ≡ 1 + new_work lib trees outcome = ap (lib.work ran.kind) reads ∙ adds ran.kind trees outcome defined sound in
      let before = total_removed (works_by lib keeps.goals graph ran.caller) gone (work_by lib keeps.goals ran) (work_to lib keeps.goals graph ran.caller gone ran there refl) in
      let lengths : length new_works ≡ length outcome.tasks =
      each_length work_of_call calls ∙ length-in_order (call_of lib.goal trees (new_trees trees outcome)) [] (each task_shape outcome.tasks) ∙ (let h = each_length task_shape outcome.tasks in omega arith) in
      let high : (q : ℕ) → start < q → map.get rest q ≡ None = λ q h. elim (none_or_some (map.get rest q)) [
        | inl none ↦ none
        | inr some ↦
            absurd (let found = work_from lib keeps.goals graph ran.caller q some.0 (removed_from (works_by lib keeps.goals graph ran.caller) gone q some.0 some.1).1 in
            let low = low_base lib arity drawn graph asks keeps gone ran there worker runs outcome sound q found.0 found.1 in
            omega arith)
      ] in
      let after = in_total start outcome.tasks new_works rest lengths high in
      let all : total (works_by lib (goal_within lib end last) last ran.caller) ≡ total (works_in (task_numbers start outcome.tasks) new_works rest) = ap total (works_then ran.caller ∙ works_own) in
      let sums : sum new_works ≡ new_work lib trees outcome = sum_each work_of_call calls in
      omega arith

  -- and nothing off what is left for another
  pub finish_leaves_other : (c : ℕ) → (ran.caller ≡ c → ⊥) → total (works_by lib (goal_within lib end last) last c) ≡ total (works_by lib keeps.goals graph c)
  finish_leaves_other c apart = ap total (works_then c ∙ works_other c apart)
