-- Outcomes without new tasks are sound: a place that is given, and one new chunk.
use Rattle.std.proofs.Common.{◌≡◌, ℕ, zero, suc, ◌≤◌, Bool, true, false, List, [], ◌∷◌, ◌++◌, length, map, refl, sym, ap, ◌∙◌, subst, arith}
use Rattle.std.specs.Prelude.{if◌then◌else◌}
use Rattle.task_types.specs.declared.outcome.Place.{Place}
use Rattle.task_types.specs.declared.outcome.Place.TheVariants.{Null, Input, Chunk}
use Rattle.task_types.specs.Tree.{Tree, Nothing, Root, tree_at, rooted}
use Rattle.task_types.specs.Presence.{Presence, presence_of, presence_at, is_present}
use Rattle.task_types.specs.Places.{filled, shape_from, IsOneOf}
use Rattle.task_types.specs.Formed.{may_stand}
use Rattle.task_types.specs.Reading.{reading}
use Rattle.task_types.specs.Meanings.{Meanings}
use Rattle.task_types.specs.Sound.{IsSound}
use Rattle.task_plans.specs.Plans.{given_shape, chunk_shape, input_place}
use Rattle.task_plans.specs.Outcomes.{given, one_chunk}
use Rattle.task_plans.specs.Stage.{IsStage}
use Rattle.task_plans.specs.Steps.{alone_tree}
use Rattle.task_plans.proofs.Stage as stage

-- ---- Inputs

-- the tree of an input and what is known of it
pub presence_at-trees : {C : Type 0} (trees : List (Tree C)) (i : ℕ)
    → presence_at (map presence_of trees) i ≡ presence_of (tree_at trees i)
presence_at-trees [] i = refl
presence_at-trees (tree ∷ trees) zero = refl
presence_at-trees (tree ∷ trees) (suc i) = presence_at-trees trees i

input_stands : (known : List Presence) (i : ℕ) (there : Bool) → is_present (presence_at known i) ≡ there
    → may_stand known 0 0 (if there then Input i else Null) ≡ true
input_stands known i true e = e
input_stands known i false e = refl

-- an input that is there, or null, may stand
input_place_stands : (known : List Presence) (i : ℕ) → may_stand known 0 0 (input_place known i) ≡ true
input_place_stands known i = input_stands known i (is_present (presence_at known i)) refl

-- and reads as its tree
input_reads : {C : Type 0} (trees : List (Tree C)) (i : ℕ) (tree : Tree C) → tree_at trees i ≡ tree
    → reading trees [] [] (if is_present (presence_of tree) then Input i else Null) ≡ tree
input_reads trees i Nothing e = refl
input_reads trees i (Root content a b c d) e = e

input_place_reads : {C : Type 0} (trees : List (Tree C)) (i : ℕ)
    → reading trees [] [] (input_place (map presence_of trees) i) ≡ tree_at trees i
input_place_reads trees i =
    ap (λ presence. reading trees [] [] (if is_present presence then Input i else Null)) (presence_at-trees trees i)
    ∙ input_reads trees i (tree_at trees i) refl

-- one more place, of an input
pub input_given : {C K : Type 0} (arity : C → ℕ) (lib : Meanings C K) (rank : ℕ) (inputs : List (Tree C)) (places : List Place) (trees : List (Tree C)) (i : ℕ)
    → IsStage arity lib rank inputs [] [] places trees
    → IsStage arity lib rank inputs [] [] (places ++ input_place (map presence_of inputs) i ∷ []) (trees ++ tree_at inputs i ∷ [])
input_given {C} arity lib rank inputs places trees i before =
    let place : Place = input_place (map presence_of inputs) i in
    subst (λ (tree : Tree C). IsStage arity lib rank inputs [] [] (places ++ place ∷ []) (trees ++ tree ∷ [])) (input_place_reads inputs i)
    (stage.given arity lib rank inputs [] [] places trees place (input_place_stands (map presence_of inputs) i) before)

-- ---- Outcomes

-- a place that reads as the goal
pub given_sound : {C K : Type 0} (arity : C → ℕ) (lib : Meanings C K) (kind : K) (trees : List (Tree C)) (place : Place)
    → may_stand (map presence_of trees) 0 0 place ≡ true → reading trees [] [] place ≡ lib.goal kind trees
    → IsOneOf (given_shape place) (lib.plan kind (map presence_of trees))
    → IsSound arity lib kind trees (given place)
given_sound arity lib kind trees place stands reads planned =
    stage.finished arity lib kind trees (given place) (reading trees [] [] place) (omega arith) (omega arith) planned reads
    (stage.given arity lib (lib.rank kind) trees [] [] [] [] place stands (stage.begun arity lib (lib.rank kind) trees))

-- a content without children as the one chunk, whose tree is the goal
pub chunk_sound : {C K : Type 0} (arity : C → ℕ) (lib : Meanings C K) (kind : K) (trees : List (Tree C)) (content : C)
    → arity content ≡ 0 → alone_tree content ≡ lib.goal kind trees
    → IsOneOf chunk_shape (lib.plan kind (map presence_of trees))
    → IsSound arity lib kind trees (one_chunk content [])
chunk_sound arity lib kind trees content bare goal planned =
    stage.finished arity lib kind trees (one_chunk content []) (alone_tree content) (omega arith) (omega arith) planned goal
    (stage.made arity lib (lib.rank kind) trees [] [] [] [] [] [] content refl (omega arith) (sym bare) refl (stage.begun arity lib (lib.rank kind) trees))

-- a content over places that read as these trees as the one chunk, whose tree is the goal
pub node_sound : {C K : Type 0} (arity : C → ℕ) (lib : Meanings C K) (kind : K) (trees : List (Tree C)) (content : C) (places : List Place) (children : List (Tree C))
    → length places ≤ 4 → length places ≡ arity content → rooted content children ≡ lib.goal kind trees
    → IsOneOf (shape_from (filled places ∷ []) [] (Chunk 0)) (lib.plan kind (map presence_of trees))
    → IsStage arity lib (lib.rank kind) trees [] [] places children
    → IsSound arity lib kind trees (one_chunk content places)
node_sound arity lib kind trees content places children few full goal planned before =
    stage.finished arity lib kind trees (one_chunk content places) (rooted content children) (omega arith) (omega arith) planned goal
    (stage.made arity lib (lib.rank kind) trees [] [] [] places [] children content refl few full before.stand before)
