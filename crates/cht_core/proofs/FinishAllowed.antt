-- A worker's start and finish, and that a sound outcome's finish is one that a replay allows.
use Rattle.std.proofs.Common.{◌≡◌, ℕ, zero, suc, ◌≤◌, Bool, true, false, not, List, [], ◌∷◌, map as each, length, take, slice_get, Option, None, Some, refl, sym, ap, subst, ◌∙◌, arith}
use Rattle.std.specs.Option.{option_map}
use Rattle.std.specs.List.{list_any}
use Rattle.std.specs.FinMap as map
use Rattle.cht_ids.specs.declared.refs.Ref.{Ref}
use Rattle.task_types.specs.declared.outcome.Place.{Place}
use Rattle.task_types.specs.declared.outcome.Places.{Places}
use Rattle.task_types.specs.declared.outcome.NewChunk.{NewChunk}
use Rattle.task_types.specs.declared.outcome.Outcome.{Outcome}
use Rattle.task_types.specs.Places.{places_of, shape_of, IsOneOf}
use Rattle.task_types.specs.Tree.{Tree}
use Rattle.task_types.specs.Presence.{Presence, presence_of}
use Rattle.task_types.specs.Meanings.{Meanings}
use Rattle.task_types.specs.Formed.{IsFormedChunk, IsFormed}
use Rattle.task_types.specs.Sound.{IsSound}
use Rattle.task_types.specs.Deciding.{same_kind, DecidesOneOf}
use Rattle.name_states.specs.States.{IsLiveRef}
use Rattle.name_states.specs.Rules.{IsSound as NamesSound}
use Rattle.name_states.specs.WithoutContents.{without_contents}
use Rattle.name_states.proofs.Basics.{same_from_test, test_same}
use Rattle.task_states.specs.States.{Input, Known, Awaits, Unfinished, task_at}
use Rattle.name_machine.specs.States.{Machine, Runs, IsIdle}
use Rattle.name_machine.specs.Steps.{tree_known, input_trees}
use Rattle.name_machine.specs.Control.{Control, ref_known}
use Rattle.name_machine.specs.Replay.{is_runner, presence_of_ref, is_run_by, runs_nothing, is_finish, is_allowed, arities}
use Rattle.name_machine.specs.Forgetting.{forgotten}
use Rattle.name_machine.specs.Standing.{input_shown, task_shown, machine_of, IsOrderly}
use Rattle.name_machine.proofs.Orderly.{input_is_live}
use Rattle.name_machine.proofs.Stand.{shown_at}
use Rattle.name_machine.proofs.Tasks.{mapped_from}
use Rattle.name_machine.proofs.Values.{any_to}
use Rattle.core_steps.specs.Conditions.{RunsTask, presences, IsFormedFor, bodies_of, finish_of}
use Rattle.cht_core.specs.Events.{plans_of}
use Rattle.cht_core.proofs.Mine.{both_of}
use Rattle.cht_core.proofs.PresenceShown.{presence_shown}

-- a test that is not false is true
is_so : (b : Bool) → (b ≡ true → ⊥) → not b ≡ true
is_so true never = absurd (never refl)
is_so false never = refl

pub runner_from : (worker : ℕ) (o : Option ℕ) → is_runner worker o ≡ true → o ≡ Some worker
runner_from worker None is = absurd (let clash : false ≡ true = is in cc)
runner_from worker (Some other) is = ap Some (same_from_test other worker is)

pub runner_to : (worker : ℕ) (o : Option ℕ) → o ≡ Some worker → is_runner worker o ≡ true
runner_to worker o is = ap (is_runner worker) is ∙ test_same worker

module _ {C K : Type 0} (lib : Meanings C K) (arity : C → ℕ) (control : Control C (Unit {0}) K) where
  abbrev shown : Machine C K
  shown = machine_of lib control

  pub there_from : (task : ℕ) (t : Unfinished (Tree C) K) → task_at shown.graph task ≡ Some t
      → (u : Unfinished Ref K) × (task_at control.graph task ≡ Some u) × (t ≡ task_shown control.names u)
  there_from task t is = mapped_from (task_shown control.names) (task_at control.graph task) t (sym (shown_at control.names control.graph task) ∙ is)

  -- a worker that runs nothing in the state that is stood for
  pub idle_runs_nothing : (worker : ℕ) → IsIdle shown worker → runs_nothing (forgotten arity control) worker ≡ true
  idle_runs_nothing worker idle =
      is_so (list_any (λ (task : Unfinished Ref K). is_runner worker task.runner) (map.values control.graph.tasks)) (λ is.
      let one = any_to (λ (task : Unfinished Ref K). is_runner worker task.runner) control.graph.tasks is in
      idle one.0 (task_shown control.names one.1, shown_at control.names control.graph one.0 ∙ ap (option_map (task_shown control.names)) one.2, runner_from worker one.1.runner one.3))

  -- a worker that runs a task there runs it in the control state, and the other way round
  pub runs_task : (worker task : ℕ) → Runs shown worker task → RunsTask control worker task
  runs_task worker task runs =
      let from = there_from task runs.0 runs.1 in
      ap (is_run_by worker) from.1 ∙ runner_to worker from.0.runner (ap (λ (t : Unfinished (Tree C) K). t.runner) (sym from.2) ∙ runs.2)

  run_by_from : (worker : ℕ) (o : Option (Unfinished Ref K)) → is_run_by worker o ≡ true → (u : Unfinished Ref K) × (o ≡ Some u) × (u.runner ≡ Some worker)
  run_by_from worker None is = absurd (let clash : false ≡ true = is in cc)
  run_by_from worker (Some u) is = (u, refl, runner_from worker u.runner is)

  pub task_runs : (worker task : ℕ) → RunsTask control worker task → Runs shown worker task
  task_runs worker task is =
      let from = run_by_from worker (task_at control.graph task) is in
      (task_shown control.names from.0, shown_at control.names control.graph task ∙ ap (option_map (task_shown control.names)) from.1, from.2)

  -- ---- A finish

  presences_same : (sound : NamesSound arity control.names) (inputs : List (Input Ref)) → ((p : ℕ) (r : Ref) → slice_get inputs p ≡ Some (Known r) → IsLiveRef control.names r)
      → each presence_of (each tree_known (each (input_shown control.names) inputs)) ≡ each (λ (input : Input Ref). presence_of_ref (without_contents arity control.names) (ref_known input)) inputs
  presences_same sound [] live = refl
  presences_same sound (Known r ∷ inputs) live =
      (λ i. presence_shown arity control.names sound r (live 0 r refl) i ∷ presences_same sound inputs (λ p s at. live (suc p) s at) i)
  presences_same sound (Awaits task number ∷ inputs) live =
      (λ i. presence_of_ref (without_contents arity control.names) (ref_known (Awaits task number)) ∷ presences_same sound inputs (λ p s at. live (suc p) s at) i)

  length_places : (a b c d : Place) (n : ℕ) → n ≤ 4 → length (take n (a ∷ b ∷ c ∷ d ∷ [])) ≡ n
  length_places a b c d zero low = refl
  length_places a b c d (suc zero) low = refl
  length_places a b c d (suc (suc zero)) low = refl
  length_places a b c d (suc (suc (suc zero))) low = refl
  length_places a b c d (suc (suc (suc (suc zero)))) low = refl
  length_places a b c d (suc (suc (suc (suc (suc n))))) low = absurd (omega arith)

  -- new chunks of a formed outcome have as many children as a replay reads off their places
  arities_same : (known : List Presence) (earlier : ℕ) (chunks : List (NewChunk C)) → ((i : ℕ) (chunk : NewChunk C) → slice_get chunks i ≡ Some chunk → (from : ℕ) × IsFormedChunk arity known from chunk)
      → each arity (each (λ (chunk : NewChunk C). chunk.body) chunks)
      ≡ each (λ (places : Places). length (places_of places)) (each (λ (chunk : NewChunk C). chunk.children) chunks)
  arities_same known earlier [] formed = refl
  arities_same known earlier (chunk ∷ chunks) formed =
      let one = (formed 0 chunk refl).1 in
      let places : Places = chunk.children in
      let head : arity chunk.body ≡ length (places_of places) =
      sym one.all_children ∙ sym (length_places places.first places.second places.third places.fourth places.count one.places.few) in
      (λ i. head i ∷ arities_same known earlier chunks (λ j c at. formed (suc j) c at) i)

  module _ (name : K → List ℕ) (height : K → ℕ) (decided : DecidesOneOf (same_kind name height)) (orderly : IsOrderly arity control) where
    -- what is known of a finish of a task that a worker runs, by an outcome that is sound for it
    pub record FinishIsFit (worker task : ℕ) (outcome : Outcome C K) : Type 0 where
      pub formed : IsFormedFor arity control worker task outcome
      pub allowed : is_allowed (plans_of lib name height) (forgotten arity control) (finish_of worker task outcome) ≡ true
      pub many : each arity (bodies_of outcome) ≡ arities (finish_of worker task outcome)

    finish_from : (worker task : ℕ) (outcome : Outcome C K) (u : Unfinished Ref K) → task_at control.graph task ≡ Some u → u.runner ≡ Some worker
        → IsSound arity lib u.kind (input_trees (task_shown control.names u)) outcome → FinishIsFit worker task outcome
    finish_from worker task outcome u there runs sound =
        let known_same : each presence_of (input_trees (task_shown control.names u)) ≡ presences arity control u =
        presences_same orderly.sound u.inputs (λ p r at. input_is_live arity control orderly task p u r there at) in
        let formed : IsFormed arity (presences arity control u) outcome = subst (λ known. IsFormed arity known outcome) known_same sound.formed in
        record {
          formed = record { unfinished = u; there = there; runner = runs; formed = formed };
          allowed =
              ap (is_finish (plans_of lib name height) (forgotten arity control) worker (each (λ (chunk : NewChunk C). chunk.children) outcome.chunks) outcome.tasks outcome.result) there
              ∙ both_of (is_runner worker u.runner) _ (runner_to worker u.runner runs)
              ((decided (shape_of outcome) (lib.plan u.kind (presences arity control u))).1 (subst (λ known. IsOneOf (shape_of outcome) (lib.plan u.kind known)) known_same sound.planned));
          many = arities_same (presences arity control u) 0 outcome.chunks (λ i chunk at. (i, formed.chunks_formed i chunk at));
        }

    pub finish_allowed : (worker task : ℕ) (outcome : Outcome C K) (t : Unfinished (Tree C) K) → task_at shown.graph task ≡ Some t → t.runner ≡ Some worker
        → IsSound arity lib t.kind (input_trees t) outcome → FinishIsFit worker task outcome
    finish_allowed worker task outcome t there runs sound =
        let from = there_from task t there in
        finish_from worker task outcome from.0 from.1 (ap (λ (u : Unfinished (Tree C) K). u.runner) (sym from.2) ∙ runs)
        (subst (λ (u : Unfinished (Tree C) K). IsSound arity lib u.kind (input_trees u) outcome) from.2 sound)
