-- The theorem of the engine: what it makes of a plan that gives what it must is sound.
use Rattle.std.proofs.Common.{◌≡◌, ℕ, ◌-◌, ◌≤◌, true, List, [], ◌∷◌, ◌++◌, length, map, refl, sym, ap, ◌∙◌, subst, ⊎_elim, arith, length-append}
use Rattle.std.specs.List.{AllByRecursion}
use Rattle.std.proofs.lemmas.Bool.{cond-true, cond-false, false≢true}
use Rattle.std.proofs.lemmas.List.{length-map}
use Rattle.task_types.specs.declared.outcome.Place.{Place}
use Rattle.task_types.specs.declared.outcome.Place.TheVariants.{Null, Input, Child, Chunk, Task}
use Rattle.task_types.specs.declared.outcome.NewTask.{NewTask}
use Rattle.task_types.specs.declared.outcome.Outcome.{Outcome}
use Rattle.task_types.specs.Tree.{Tree, Nothing}
use Rattle.task_types.specs.Presence.{Presence, presence_of}
use Rattle.task_types.specs.Places.{filled, Shape, shape_of, IsOneOf}
use Rattle.task_types.specs.Reading.{reading}
use Rattle.task_types.specs.Meanings.{Meanings}
use Rattle.task_types.specs.Sound.{IsSound}
use Rattle.task_plans.specs.declared.plan.Ending.{Ending}
use Rattle.task_plans.specs.declared.plan.Ending.TheVariants.{Joined, Single}
use Rattle.task_plans.specs.declared.sketch.Sketch.{Sketch}
use Rattle.task_plans.specs.Plans.{task_of, are_null}
use Rattle.task_plans.specs.Outcomes.{given}
use Rattle.task_plans.specs.Sketches.{all_sketched, outcome_of, blank}
use Rattle.task_plans.specs.Stage.{IsStage, trees_of}
use Rattle.task_plans.specs.Steps.{EndingGives}
use Rattle.task_plans.specs.Laws.{PlanIsSound}
use Rattle.task_plans.proofs.Lists.{true_or_false}
use Rattle.task_plans.proofs.Simple.{given_sound}
use Rattle.task_plans.proofs.Growth.{planned_tasks, planned_places, planned_chunks}
use Rattle.task_plans.proofs.Shapes.{shape_planned}
use Rattle.task_plans.proofs.Steps.{parts_step}
use Rattle.task_plans.proofs.Stage as stage

-- null places read as nothing
nothing_read : {C : Type 0} (inputs chunks tasks : List (Tree C)) (places : List Place) → are_null places ≡ true
    → AllByRecursion (λ (tree : Tree C). tree ≡ Nothing) (map (reading inputs chunks tasks) places)
nothing_read inputs chunks tasks [] e = tt
nothing_read inputs chunks tasks (Null ∷ places) e = (refl, nothing_read inputs chunks tasks places e)
nothing_read inputs chunks tasks (Input i ∷ places) e = absurd (false≢true e)
nothing_read inputs chunks tasks (Child i j ∷ places) e = absurd (false≢true e)
nothing_read inputs chunks tasks (Chunk i ∷ places) e = absurd (false≢true e)
nothing_read inputs chunks tasks (Task i ∷ places) e = absurd (false≢true e)

-- the one place
one_place : (places : List Place) → length places ≡ 1 → places ≡ (filled places).first ∷ []
one_place [] e = absurd (omega arith)
one_place (place ∷ []) e = refl
one_place (place ∷ other ∷ places) e = absurd (omega arith)

-- the ending of a sketch whose places read as trees of which it makes the goal
ended_sound : {C O K : Type 0} (arity : C → ℕ) (lib : Meanings C K) (kind : K) (inputs : List (Tree C)) (kinds : O → K) (ending : Ending O) (sketch : Sketch C K) (trees : List (Tree C))
    → length sketch.chunks ≤ 8 → length sketch.tasks ≤ 15 → length sketch.places ≤ 4
    → EndingGives lib kind kinds inputs ending trees
    → IsOneOf (shape_of (outcome_of kinds ending sketch)) (lib.plan kind (map presence_of inputs))
    → IsStage arity lib (lib.rank kind) inputs sketch.chunks sketch.tasks sketch.places trees
    → IsSound arity lib kind inputs (outcome_of kinds ending sketch)
ended_sound {C} {O} {K} arity lib kind inputs kinds (Joined what) sketch trees few_chunks few_tasks few_places gives planned drawn =
    let null = are_null sketch.places in
    let task : NewTask K = task_of (kinds what) (filled sketch.places) in
    let whole : Outcome C K = record { chunks = sketch.chunks; tasks = sketch.tasks ++ task ∷ []; result = Task (length sketch.tasks) } in
    let nothing : Outcome C K = given Null in
    let sound : Outcome C K → Type 0 = λ outcome. IsSound arity lib kind inputs outcome in
    let shaped : Outcome C K → Type 0 = λ outcome. IsOneOf (shape_of outcome) (lib.plan kind (map presence_of inputs)) in
    ⊎_elim
    (λ e. let same : outcome_of kinds (Joined what) sketch ≡ nothing = cond-true null nothing whole e in
    subst sound (sym same) (given_sound arity lib kind inputs Null refl (gives.1 (subst (AllByRecursion (λ (tree : Tree C). tree ≡ Nothing)) (drawn.read [] []) (nothing_read inputs (trees_of inputs sketch.chunks ++ []) (drawn.goals ++ []) sketch.places e))) (subst shaped same planned)))
    (λ e. let same : outcome_of kinds (Joined what) sketch ≡ whole = cond-false null nothing whole e in
    subst sound (sym same) (stage.finished arity lib kind inputs whole (lib.goal (kinds what) trees) few_chunks (omega (arith, length-append sketch.tasks (task ∷ []))) (subst shaped same planned) gives.0.same
    (stage.asked arity lib (lib.rank kind) inputs sketch.chunks sketch.tasks [] sketch.places [] trees (kinds what) refl few_places gives.0.may.defined gives.0.may.lower drawn)))
    (true_or_false null)
ended_sound {C} {O} {K} arity lib kind inputs kinds Single sketch trees few_chunks few_tasks few_places gives planned drawn =
    let goal : Tree C = lib.goal kind inputs in
    let one : IsStage arity lib (lib.rank kind) inputs sketch.chunks sketch.tasks sketch.places (goal ∷ []) = subst (λ (trees : List (Tree C)). IsStage arity lib (lib.rank kind) inputs sketch.chunks sketch.tasks sketch.places trees) gives drawn in
    let count : length sketch.places ≡ 1 = sym (length-map sketch.places (reading inputs (trees_of inputs sketch.chunks ++ []) (one.goals ++ []))) ∙ ap length (one.read [] []) in
    stage.finished arity lib kind inputs (outcome_of kinds Single sketch) goal few_chunks (omega arith) planned refl
    (subst (λ (places : List Place). IsStage arity lib (lib.rank kind) inputs sketch.chunks sketch.tasks places (goal ∷ [])) (one_place sketch.places count) one)

-- what the engine makes of a plan that gives what it must is sound
pub plan_is_sound : {C O K : Type 0} (arity : C → ℕ) (lib : Meanings C K) (kind_at : ℕ → O → K) → PlanIsSound arity lib kind_at
plan_is_sound {C} {O} {K} arity lib kind_at height kind plan portions inputs gives =
    let known : List Presence = map presence_of inputs in
    let kinds : O → K = kind_at (height - 1) in
    let sketch : Sketch C K = all_sketched kinds known (blank portions) plan.parts in
    ended_sound arity lib kind inputs (kind_at height) plan.ending sketch gives.trees
    (planned_chunks kinds known portions plan.parts gives.few) (planned_tasks kinds known portions plan.parts gives.few) (planned_places kinds known portions plan.parts gives.few)
    gives.ending
    (subst (λ (shape : Shape K). IsOneOf shape (lib.plan kind known)) (sym (shape_planned kind_at height plan portions known gives.chosen gives.agree)) gives.planned)
    (parts_step arity lib (lib.rank kind) inputs kinds (blank portions) [] plan.parts gives.trees gives.parts (stage.begun arity lib (lib.rank kind) inputs))
