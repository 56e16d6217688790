-- In a formed outcome the places of each new chunk and task may be read over all new chunks and tasks.
use Rattle.std.proofs.Common.{◌≡◌, ℕ, zero, suc, ◌<◌, true, Some, List, [], ◌∷◌, length, map, take, slice_get, refl, ap, ◌∙◌, arith}
use Rattle.std.specs.List.{list_all}
use Rattle.std.specs.Prelude.{option_map}
use Rattle.std.proofs.lemmas.Bool.{ltb-true}
use Rattle.std.proofs.lemmas.Option.{slice_get-map}
use Rattle.task_types.specs.declared.outcome.Place.{Place}
use Rattle.task_types.specs.declared.outcome.Place.TheVariants.{Null, Input, Child, Chunk, Task}
use Rattle.task_types.specs.declared.outcome.NewTask.{NewTask}
use Rattle.task_types.specs.declared.outcome.NewChunk.{NewChunk}
use Rattle.task_types.specs.declared.outcome.Outcome.{Outcome}
use Rattle.task_types.specs.Tree.{Tree, tree_at, rooted}
use Rattle.task_types.specs.Presence.{Presence}
use Rattle.task_types.specs.Places.{places_of, task_shape}
use Rattle.task_types.specs.Formed.{may_stand, AreFormedChunks, AreFormedTasks}
use Rattle.task_types.specs.Reading.{reading, chunk_tree, Call, goals_of, call_of, new_trees, new_calls}
use Rattle.task_types.proofs.FormedTest.{both_left, both_right}
use Rattle.task_types.proofs.InOrder.{slice_get-in_order}

-- the first trees of a list
pub tree_at-take : {C : Type 0} (trees : List (Tree C)) (i k : ℕ) → k < i → tree_at (take i trees) k ≡ tree_at trees k
tree_at-take [] zero k h = refl
tree_at-take [] (suc i) k h = refl
tree_at-take (tree ∷ trees) zero k h = absurd (omega arith)
tree_at-take (tree ∷ trees) (suc i) zero h = refl
tree_at-take (tree ∷ trees) (suc i) (suc k) h = tree_at-take trees i k (omega arith)

-- the tree at a place of a list
pub tree_at-some : {C : Type 0} (trees : List (Tree C)) (i : ℕ) (tree : Tree C) → slice_get trees i ≡ Some tree
    → tree_at trees i ≡ tree
tree_at-some [] i tree at = cc
tree_at-some (first ∷ trees) zero tree at = cc
tree_at-some (first ∷ trees) (suc i) tree at = tree_at-some trees i tree at

-- a place that names only the first new chunks and tasks reads the same where these are the same
pub reading-first : {C : Type 0} (known : List Presence) (inputs a b s t : List (Tree C)) (chunks tasks : ℕ)
    → ((k : ℕ) → k < chunks → tree_at a k ≡ tree_at b k) → ((k : ℕ) → k < tasks → tree_at s k ≡ tree_at t k)
    → (place : Place) → may_stand known chunks tasks place ≡ true
    → reading inputs a s place ≡ reading inputs b t place
reading-first known inputs a b s t chunks tasks p q Null e = refl
reading-first known inputs a b s t chunks tasks p q (Input i) e = refl
reading-first known inputs a b s t chunks tasks p q (Child i j) e = refl
reading-first known inputs a b s t chunks tasks p q (Chunk i) e = p i (ltb-true i chunks e)
reading-first known inputs a b s t chunks tasks p q (Task i) e = q i (ltb-true i tasks e)

pub readings-first : {C : Type 0} (known : List Presence) (inputs a b s t : List (Tree C)) (chunks tasks : ℕ)
    → ((k : ℕ) → k < chunks → tree_at a k ≡ tree_at b k) → ((k : ℕ) → k < tasks → tree_at s k ≡ tree_at t k)
    → (places : List Place) → list_all (may_stand known chunks tasks) places ≡ true
    → map (reading inputs a s) places ≡ map (reading inputs b t) places
readings-first known inputs a b s t chunks tasks p q [] e = refl
readings-first known inputs a b s t chunks tasks p q (place ∷ places) e =
    let here = may_stand known chunks tasks place in
    let rest = list_all (may_stand known chunks tasks) places in
    cc (reading-first known inputs a b s t chunks tasks p q place (both_left here rest e), readings-first known inputs a b s t chunks tasks p q places (both_right here rest e))

-- the tree of a new chunk, read over all new chunks
pub tree_at-new_trees : {C K : Type 0} (arity : C → ℕ) (known : List Presence) (inputs : List (Tree C)) (outcome : Outcome C K) (i : ℕ) (chunk : NewChunk C) → AreFormedChunks arity known outcome.chunks → slice_get outcome.chunks i ≡ Some chunk
    → tree_at (new_trees inputs outcome) i ≡ chunk_tree inputs (new_trees inputs outcome) chunk
tree_at-new_trees {C} {K} arity known inputs outcome i chunk formed at =
    let all : List (Tree C) = new_trees inputs outcome in
    let given = slice_get-in_order (chunk_tree inputs) outcome.chunks i chunk at in
    let few = (formed i chunk at).places.each in
    tree_at-some all i (chunk_tree inputs (take i all) chunk) given
    ∙ ap (rooted chunk.body) (readings-first known inputs (take i all) all [] [] i 0 (λ k h. tree_at-take all i k h) (λ k h. refl) (places_of chunk.children) few)

goals-take : {C K : Type 0} (goal : K → List (Tree C) → Tree C) (calls : List (Call C K)) (i k : ℕ) → k < i
    → tree_at (goals_of goal (take i calls)) k ≡ tree_at (goals_of goal calls) k
goals-take goal [] zero k h = refl
goals-take goal [] (suc i) k h = refl
goals-take goal (call ∷ calls) zero k h = absurd (omega arith)
goals-take goal (call ∷ calls) (suc i) zero h = refl
goals-take goal (call ∷ calls) (suc i) (suc k) h = goals-take goal calls i k (omega arith)

-- a new task on its inputs, read over all new chunks and the goals of all new tasks
pub slice_get-new_calls : {C K : Type 0} (goal : K → List (Tree C) → Tree C) (known : List Presence) (inputs : List (Tree C)) (outcome : Outcome C K) (i : ℕ) (task : NewTask K) → AreFormedTasks known (length outcome.chunks) outcome.tasks → slice_get outcome.tasks i ≡ Some task
    → slice_get (new_calls goal inputs outcome) i ≡ Some (call_of goal inputs (new_trees inputs outcome) (new_calls goal inputs outcome) (task_shape task))
slice_get-new_calls {C} {K} goal known inputs outcome i task formed at =
    let chunks : List (Tree C) = new_trees inputs outcome in
    let all : List (Call C K) = new_calls goal inputs outcome in
    let shape = slice_get-map task_shape outcome.tasks i ∙ ap (option_map task_shape) at in
    let given = slice_get-in_order (call_of goal inputs chunks) (map task_shape outcome.tasks) i (task_shape task) shape in
    let few = (formed i task at).each in
    given ∙ ap (λ trees. Some (record { kind = task.kind; inputs = trees })) (readings-first known inputs chunks chunks (goals_of goal (take i all)) (goals_of goal all) (length outcome.chunks) i (λ k h. refl) (λ k h. goals-take goal all i k h) (places_of task.inputs) few)
