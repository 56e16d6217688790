-- How an outcome grows: a place is given, a chunk is made, a task is asked.
use Rattle.std.proofs.Common.{◌≡◌, ℕ, ◌+◌, ◌<◌, ◌≤◌, Bool, true, false, List, [], ◌∷◌, ◌++◌, length, map, drop, below_more, refl, sym, ap, ◌∙◌, subst, arith, append_assoc, append-nil, length-append}
use Rattle.std.specs.Prelude.{◌||◌, ◌==◌, nat_lt}
use Rattle.std.specs.List.{list_all}
use Rattle.std.proofs.lemmas.Bool.{false≢true, ltb-true, lt-ltb, eq-eqb}
use Rattle.std.proofs.lemmas.List.{map-append, length-map}
use Rattle.std.proofs.lemmas.List.Folds.{list_any-append}
use Rattle.std.proofs.Math.Bool.{or-false}
use Rattle.task_types.specs.declared.outcome.Place.{Place}
use Rattle.task_types.specs.declared.outcome.Place.TheVariants.{Null, Input, Child, Chunk, Task}
use Rattle.task_types.specs.declared.outcome.NewTask.{NewTask}
use Rattle.task_types.specs.declared.outcome.NewChunk.{NewChunk}
use Rattle.task_types.specs.declared.outcome.Outcome.{Outcome}
use Rattle.task_types.specs.Tree.{Tree, tree_at, rooted}
use Rattle.task_types.specs.Presence.{Presence, presence_of}
use Rattle.task_types.specs.Places.{places_of, filled, same_place, is_among, task_shape, shape_of, IsOneOf}
use Rattle.task_types.specs.Formed.{may_stand, MayStand, IsFormedChunk, is_child_of, is_input_of}
use Rattle.task_types.specs.Reading.{reading, in_order, chunk_tree, Call, goals_of, call_of}
use Rattle.task_types.specs.Meanings.{Meanings}
use Rattle.task_types.specs.Sound.{IsSound}
use Rattle.task_types.proofs.FormedTest.{both_left, both_right}
use Rattle.task_types.proofs.InOrder.{in_order-append, length-in_order}
use Rattle.task_types.proofs.Reading.{reading-first, readings-first}
use Rattle.task_plans.specs.Stage.{is_chunk_held, is_task_held, trees_of, calls_of, AreAsked, IsStage}
use Rattle.task_plans.proofs.Lists.{both_pass, list_all-weaker, list_all-both, list_all-first, list_all-second, all-both, facts_one_more, drop-one_more, same_fronts, same_backs, tree_at-after, tree_at-before}

-- ---- Places that may stand

-- a place that may stand may stand where more chunks and tasks may be named
pub may_stand-more : (known : List Presence) (chunks tasks m n : ℕ) → chunks ≤ m → tasks ≤ n → (place : Place)
    → may_stand known chunks tasks place ≡ true → may_stand known m n place ≡ true
may_stand-more known chunks tasks m n h k Null e = refl
may_stand-more known chunks tasks m n h k (Input i) e = e
may_stand-more known chunks tasks m n h k (Child i j) e = e
may_stand-more known chunks tasks m n h k (Chunk i) e =
    let before : i < chunks = ltb-true i chunks e in lt-ltb i m (omega arith)
may_stand-more known chunks tasks m n h k (Task i) e =
    let before : i < tasks = ltb-true i tasks e in lt-ltb i n (omega arith)

pub all_stand-more : (known : List Presence) (chunks tasks m n : ℕ) → chunks ≤ m → tasks ≤ n → (places : List Place)
    → list_all (may_stand known chunks tasks) places ≡ true → list_all (may_stand known m n) places ≡ true
all_stand-more known chunks tasks m n h k places e =
    list_all-weaker (may_stand known chunks tasks) (may_stand known m n) places (may_stand-more known chunks tasks m n h k) e

-- places that may name no task name none
pub no_task_among : (known : List Presence) (chunks i : ℕ) (places : List Place)
    → list_all (may_stand known chunks 0) places ≡ true → is_among (Task i) places ≡ false
no_task_among known chunks i [] e = refl
no_task_among known chunks i (Null ∷ places) e = no_task_among known chunks i places e
no_task_among known chunks i (Input k ∷ places) e =
    no_task_among known chunks i places (both_right (may_stand known chunks 0 (Input k)) (list_all (may_stand known chunks 0) places) e)
no_task_among known chunks i (Child k j ∷ places) e =
    no_task_among known chunks i places (both_right (may_stand known chunks 0 (Child k j)) (list_all (may_stand known chunks 0) places) e)
no_task_among known chunks i (Chunk k ∷ places) e =
    no_task_among known chunks i places (both_right (may_stand known chunks 0 (Chunk k)) (list_all (may_stand known chunks 0) places) e)
no_task_among known chunks i (Task k ∷ places) e =
    let before : k < 0 = ltb-true k 0 (both_left (nat_lt k 0) (list_all (may_stand known chunks 0) places) e) in absurd (omega arith)

-- at most four places, filled in and read back
pub places_of-filled : (places : List Place) → length places ≤ 4 → places_of (filled places) ≡ places
places_of-filled [] h = refl
places_of-filled (a ∷ []) h = refl
places_of-filled (a ∷ b ∷ []) h = refl
places_of-filled (a ∷ b ∷ c ∷ []) h = refl
places_of-filled (a ∷ b ∷ c ∷ d ∷ []) h = refl
places_of-filled (a ∷ b ∷ c ∷ d ∷ e ∷ places) h = absurd (omega arith)

-- ---- Uses

pub is_among-both : (place : Place) (kept taken : List Place)
    → is_among place (kept ++ taken) ≡ (is_among place kept || is_among place taken)
is_among-both place kept taken = list_any-append (same_place place) kept taken

-- a place is the same as itself
pub same_place-self : (place : Place) → same_place place place ≡ true
same_place-self Null = refl
same_place-self (Input i) = eq-eqb i i refl
same_place-self (Child i j) = both_pass (i == i) (j == j) (eq-eqb i i refl) (eq-eqb j j refl)
same_place-self (Chunk i) = eq-eqb i i refl
same_place-self (Task i) = eq-eqb i i refl

-- how a use stays one: there are more places; or a taken place goes into a chunk, or into a task
use_more : (a k n : Bool) → (a || k) ≡ true → (a || (k || n)) ≡ true
use_more true k n e = refl
use_more false true n e = refl
use_more false false n e = absurd (false≢true e)

use_in_chunk : (a b k t n : Bool) → ((a || b) || (k || t)) ≡ true → (((a || (t || false)) || b) || (k || n)) ≡ true
use_in_chunk true b k t n e = refl
use_in_chunk false true k true n e = refl
use_in_chunk false true k false n e = refl
use_in_chunk false false k true n e = refl
use_in_chunk false false true false n e = refl
use_in_chunk false false false false n e = absurd (false≢true e)

use_in_task : (a b k t n : Bool) → ((a || b) || (k || t)) ≡ true → ((a || (b || (t || false))) || (k || n)) ≡ true
use_in_task true b k t n e = refl
use_in_task false true k t n e = refl
use_in_task false false k true n e = refl
use_in_task false false true false n e = refl
use_in_task false false false false n e = absurd (false≢true e)

use_kept : (a k t n : Bool) → t ≡ false → (a || (k || t)) ≡ true → (a || (k || n)) ≡ true
use_kept true k t n f e = refl
use_kept false true t n f e = refl
use_kept false false t n f e = absurd (false≢true (sym f ∙ e))

use_taken : (a k t n : Bool) → (a || (k || t)) ≡ true → ((a || (t || false)) || (k || n)) ≡ true
use_taken true k t n e = refl
use_taken false k true n e = refl
use_taken false true false n e = refl
use_taken false false false n e = absurd (false≢true e)

use_last : (a k s : Bool) → s ≡ true → (a || (k || (s || false))) ≡ true
use_last true k s e = refl
use_last false true s e = refl
use_last false false true e = refl
use_last false false false e = absurd (false≢true e)

-- ---- Steps

-- nothing so far
pub begun : {C K : Type 0} (arity : C → ℕ) (lib : Meanings C K) (rank : ℕ) (inputs : List (Tree C))
    → IsStage arity lib rank inputs [] [] [] []
begun arity lib rank inputs = record {
  chunks_formed = λ i chunk at. cc;
  tasks_formed = λ i task at. cc;
  stand = refl;
  chunks_held = λ i h. absurd (omega arith);
  tasks_held = λ i h. absurd (omega arith);
  goals = [];
  asked = λ later. record { defined = tt; lower = tt; same = refl };
  read = λ later more. refl;
}

-- one more place, which is null or names an input or a child that is there
pub given : {C K : Type 0} (arity : C → ℕ) (lib : Meanings C K) (rank : ℕ) (inputs : List (Tree C)) (chunks : List (NewChunk C)) (tasks : List (NewTask K)) (places : List Place) (trees : List (Tree C)) (place : Place) → may_stand (map presence_of inputs) 0 0 place ≡ true → IsStage arity lib rank inputs chunks tasks places trees
    → IsStage arity lib rank inputs chunks tasks (places ++ place ∷ []) (trees ++ reading inputs [] [] place ∷ [])
given {C} {K} arity lib rank inputs chunks tasks places trees place stands stage =
    let known : List Presence = map presence_of inputs in
    record {
      chunks_formed = stage.chunks_formed;
      tasks_formed = stage.tasks_formed;
      stand = list_all-both (may_stand known (length chunks) (length tasks)) places (place ∷ []) stage.stand (both_pass (may_stand known (length chunks) (length tasks) place) true (may_stand-more known 0 0 (length chunks) (length tasks) (omega arith) (omega arith) place stands) refl);
      chunks_held = λ i h. ap (λ x. (is_child_of (Chunk i) (drop (i + 1) chunks) || is_input_of (Chunk i) tasks) || x) (is_among-both (Chunk i) places (place ∷ [])) ∙ use_more (is_child_of (Chunk i) (drop (i + 1) chunks) || is_input_of (Chunk i) tasks) (is_among (Chunk i) places) (is_among (Chunk i) (place ∷ [])) (stage.chunks_held i h);
      tasks_held = λ i h. ap (λ x. is_input_of (Task i) (drop (i + 1) tasks) || x) (is_among-both (Task i) places (place ∷ [])) ∙ use_more (is_input_of (Task i) (drop (i + 1) tasks)) (is_among (Task i) places) (is_among (Task i) (place ∷ [])) (stage.tasks_held i h);
      goals = stage.goals;
      asked = stage.asked;
      read = λ later more. map-append (reading inputs (trees_of inputs chunks ++ later) (stage.goals ++ more)) places (place ∷ []) ∙ ap (λ read. read ++ reading inputs (trees_of inputs chunks ++ later) (stage.goals ++ more) place ∷ []) (stage.read later more) ∙ ap (λ tree. trees ++ tree ∷ []) (reading-first known inputs (trees_of inputs chunks ++ later) [] (stage.goals ++ more) [] 0 0 (λ k h. absurd (omega arith)) (λ k h. absurd (omega arith)) place stands);
    }

-- the uses among the inputs of one more task, and among the children of one more chunk
input_of_last : {K : Type 0} (place : Place) (tasks : List (NewTask K)) (kind : K) (taken : List Place) → length taken ≤ 4
    → is_input_of place (tasks ++ record { kind = kind; inputs = filled taken } ∷ []) ≡ (is_input_of place tasks || (is_among place taken || false))
input_of_last {K} place tasks kind taken few =
    list_any-append (λ (task : NewTask K). is_among place (places_of task.inputs)) tasks (record { kind = kind; inputs = filled taken } ∷ []) ∙ ap (λ (places : List Place). is_input_of place tasks || (is_among place places || false)) (places_of-filled taken few)

child_of_last : {C : Type 0} (place : Place) (chunks : List (NewChunk C)) (content : C) (taken : List Place) → length taken ≤ 4
    → is_child_of place (chunks ++ record { body = content; children = filled taken } ∷ []) ≡ (is_child_of place chunks || (is_among place taken || false))
child_of_last {C} place chunks content taken few =
    list_any-append (λ (chunk : NewChunk C). is_among place (places_of chunk.children)) chunks (record { body = content; children = filled taken } ∷ []) ∙ ap (λ (places : List Place). is_child_of place chunks || (is_among place places || false)) (places_of-filled taken few)

-- what the kept places read as, and what the taken ones do
kept_read : {C : Type 0} (read : Place → Tree C) (kept taken : List Place) (have need : List (Tree C))
    → length kept ≡ length have → map read (kept ++ taken) ≡ have ++ need → map read kept ≡ have
kept_read read kept taken have need l e =
    same_fronts (map read kept) have (map read taken) need (length-map kept read ∙ l) (sym (map-append read kept taken) ∙ e)

taken_read : {C : Type 0} (read : Place → Tree C) (kept taken : List Place) (have need : List (Tree C))
    → length kept ≡ length have → map read (kept ++ taken) ≡ have ++ need → map read taken ≡ need
taken_read read kept taken have need l e =
    same_backs (map read kept) have (map read taken) need (length-map kept read ∙ l) (sym (map-append read kept taken) ∙ e)

-- the new tasks have one goal each
goals_count : {C K : Type 0} (goal : K → List (Tree C) → Tree C) (inputs chunks : List (Tree C)) (tasks : List (NewTask K)) (goals : List (Tree C)) → goals_of goal (calls_of goal inputs chunks tasks) ≡ goals → length tasks ≡ length goals
goals_count {C} {K} goal inputs chunks tasks goals e =
    let calls : List (Call C K) = calls_of goal inputs chunks tasks in
    let a : length (goals_of goal calls) ≡ length calls = length-map calls (λ (call : Call C K). goal call.kind call.inputs) in
    let b : length calls ≡ 0 + length (map task_shape tasks) = length-in_order (call_of goal inputs chunks) [] (map task_shape tasks) in
    omega (arith, a, b, length-map tasks task_shape, ap length e)

-- one more task, on the last places
asked_more : {C K : Type 0} (lib : Meanings C K) (rank : ℕ) (inputs chunks : List (Tree C)) (tasks : List (NewTask K)) (goals : List (Tree C)) (kind : K) (taken : List Place) (need : List (Tree C)) → length taken ≤ 4 → lib.defined kind need → lib.rank kind < rank → map (reading inputs chunks (goals ++ [])) taken ≡ need → AreAsked lib rank (calls_of lib.goal inputs chunks tasks) goals
    → AreAsked lib rank (calls_of lib.goal inputs chunks (tasks ++ record { kind = kind; inputs = filled taken } ∷ [])) (goals ++ lib.goal kind need ∷ [])
asked_more {C} {K} lib rank inputs chunks tasks goals kind taken need few defined lower read asked =
    let task : NewTask K = record { kind = kind; inputs = filled taken } in
    let calls : List (Call C K) = calls_of lib.goal inputs chunks tasks in
    let call : Call C K = record { kind = kind; inputs = need } in
    let step = call_of lib.goal inputs chunks in
    let given_inputs : map (reading inputs chunks (goals_of lib.goal calls)) (places_of (filled taken)) ≡ need = ap (map (reading inputs chunks (goals_of lib.goal calls))) (places_of-filled taken few) ∙ ap (λ (goals : List (Tree C)). map (reading inputs chunks goals) taken) (asked.same ∙ sym (append-nil goals)) ∙ read in
    let split : calls_of lib.goal inputs chunks (tasks ++ task ∷ []) ≡ calls ++ step calls (task_shape task) ∷ [] = ap (in_order step []) (map-append task_shape tasks (task ∷ [])) ∙ in_order-append step [] (map task_shape tasks) (task_shape task ∷ []) in
    let all : calls_of lib.goal inputs chunks (tasks ++ task ∷ []) ≡ calls ++ call ∷ [] = split ∙ ap (λ (inputs : List (Tree C)). calls ++ record { kind = kind; inputs = inputs } ∷ []) given_inputs in
    subst (λ (calls : List (Call C K)). AreAsked lib rank calls (goals ++ lib.goal kind need ∷ [])) (sym all) (record {
      defined = all-both (λ (call : Call C K). lib.defined call.kind call.inputs) calls (call ∷ []) asked.defined (defined, tt);
      lower = all-both (λ (call : Call C K). lib.rank call.kind < rank) calls (call ∷ []) asked.lower (lower, tt);
      same = map-append (λ (call : Call C K). lib.goal call.kind call.inputs) calls (call ∷ []) ∙ ap (λ (goals : List (Tree C)). goals ++ lib.goal kind need ∷ []) asked.same;
    })

-- A task of lower rank whose goal is defined takes the last places, and leaves that of its output.
pub asked : {C K : Type 0} (arity : C → ℕ) (lib : Meanings C K) (rank : ℕ) (inputs : List (Tree C)) (chunks : List (NewChunk C)) (tasks : List (NewTask K)) (kept taken : List Place) (have need : List (Tree C)) (kind : K) → length kept ≡ length have → length taken ≤ 4 → lib.defined kind need → lib.rank kind < rank → IsStage arity lib rank inputs chunks tasks (kept ++ taken) (have ++ need)
    → IsStage arity lib rank inputs chunks (tasks ++ record { kind = kind; inputs = filled taken } ∷ []) (kept ++ Task (length tasks) ∷ []) (have ++ lib.goal kind need ∷ [])
asked {C} {K} arity lib rank inputs chunks tasks kept taken have need kind l few defined lower stage =
    let known : List Presence = map presence_of inputs in
    let task : NewTask K = record { kind = kind; inputs = filled taken } in
    let goal : Tree C = lib.goal kind need in
    let n = length tasks in
    let more_tasks : length (tasks ++ task ∷ []) ≡ n + 1 = length-append tasks (task ∷ []) in
    let stands = may_stand known (length chunks) n in
    let count : n ≡ length stage.goals = goals_count lib.goal inputs (trees_of inputs chunks ++ []) tasks stage.goals (stage.asked []).same in
    let held : (i : ℕ) → i < n → is_task_held (tasks ++ task ∷ []) (kept ++ Task n ∷ []) i ≡ true = λ i h. ap (λ (later : List (NewTask K)). is_input_of (Task i) later || is_among (Task i) (kept ++ Task n ∷ [])) (drop-one_more tasks task i h) ∙ ap (λ x. x || is_among (Task i) (kept ++ Task n ∷ [])) (input_of_last (Task i) (drop (i + 1) tasks) kind taken few) ∙ ap (λ x. (is_input_of (Task i) (drop (i + 1) tasks) || (is_among (Task i) taken || false)) || x) (is_among-both (Task i) kept (Task n ∷ [])) ∙ use_taken (is_input_of (Task i) (drop (i + 1) tasks)) (is_among (Task i) kept) (is_among (Task i) taken) (is_among (Task i) (Task n ∷ [])) (ap (λ x. is_input_of (Task i) (drop (i + 1) tasks) || x) (sym (is_among-both (Task i) kept taken)) ∙ stage.tasks_held i h) in
    let last : is_task_held (tasks ++ task ∷ []) (kept ++ Task n ∷ []) n ≡ true = ap (λ x. is_input_of (Task n) (drop (n + 1) (tasks ++ task ∷ [])) || x) (is_among-both (Task n) kept (Task n ∷ [])) ∙ use_last (is_input_of (Task n) (drop (n + 1) (tasks ++ task ∷ []))) (is_among (Task n) kept) (n == n) (eq-eqb n n refl) in
    record {
      chunks_formed = stage.chunks_formed;
      tasks_formed = facts_one_more (λ i (task : NewTask K). MayStand known (length chunks) i task.inputs) tasks task stage.tasks_formed (record { few = few; each = ap (list_all stands) (places_of-filled taken few) ∙ list_all-second stands kept taken stage.stand });
      stand = list_all-both (may_stand known (length chunks) (length (tasks ++ task ∷ []))) kept (Task n ∷ []) (all_stand-more known (length chunks) n (length chunks) (length (tasks ++ task ∷ [])) (omega arith) (omega arith) kept (list_all-first stands kept taken stage.stand)) (both_pass (nat_lt n (length (tasks ++ task ∷ []))) true (lt-ltb n (length (tasks ++ task ∷ [])) (omega arith)) refl);
      chunks_held = λ i h. ap (λ x. (is_child_of (Chunk i) (drop (i + 1) chunks) || x) || is_among (Chunk i) (kept ++ Task n ∷ [])) (input_of_last (Chunk i) tasks kind taken few) ∙ ap (λ x. (is_child_of (Chunk i) (drop (i + 1) chunks) || (is_input_of (Chunk i) tasks || (is_among (Chunk i) taken || false))) || x) (is_among-both (Chunk i) kept (Task n ∷ [])) ∙ use_in_task (is_child_of (Chunk i) (drop (i + 1) chunks)) (is_input_of (Chunk i) tasks) (is_among (Chunk i) kept) (is_among (Chunk i) taken) (is_among (Chunk i) (Task n ∷ [])) (ap (λ x. (is_child_of (Chunk i) (drop (i + 1) chunks) || is_input_of (Chunk i) tasks) || x) (sym (is_among-both (Chunk i) kept taken)) ∙ stage.chunks_held i h);
      tasks_held = λ i h. below_more (λ i. is_task_held (tasks ++ task ∷ []) (kept ++ Task n ∷ []) i ≡ true) n held last i (omega arith);
      goals = stage.goals ++ goal ∷ [];
      asked = λ later. asked_more lib rank inputs (trees_of inputs chunks ++ later) tasks stage.goals kind taken need few defined lower (taken_read (reading inputs (trees_of inputs chunks ++ later) (stage.goals ++ [])) kept taken have need l (stage.read later [])) (stage.asked later);
      read = λ later more. ap (λ (goals : List (Tree C)). map (reading inputs (trees_of inputs chunks ++ later) goals) (kept ++ Task n ∷ [])) (append_assoc stage.goals (goal ∷ []) more) ∙ map-append (reading inputs (trees_of inputs chunks ++ later) (stage.goals ++ goal ∷ more)) kept (Task n ∷ []) ∙ ap (λ (trees : List (Tree C)). trees ++ tree_at (stage.goals ++ goal ∷ more) n ∷ []) (kept_read (reading inputs (trees_of inputs chunks ++ later) (stage.goals ++ goal ∷ more)) kept taken have need l (stage.read later (goal ∷ more))) ∙ ap (λ (tree : Tree C). have ++ tree ∷ []) (tree_at-after stage.goals goal more n count);
    }

-- A chunk takes the last places as its children, none of which names a task, and leaves its own.
pub made : {C K : Type 0} (arity : C → ℕ) (lib : Meanings C K) (rank : ℕ) (inputs : List (Tree C)) (chunks : List (NewChunk C)) (tasks : List (NewTask K)) (kept taken : List Place) (have need : List (Tree C)) (content : C) → length kept ≡ length have → length taken ≤ 4 → length taken ≡ arity content → list_all (may_stand (map presence_of inputs) (length chunks) 0) taken ≡ true → IsStage arity lib rank inputs chunks tasks (kept ++ taken) (have ++ need)
    → IsStage arity lib rank inputs (chunks ++ record { body = content; children = filled taken } ∷ []) tasks (kept ++ Chunk (length chunks) ∷ []) (have ++ rooted content need ∷ [])
made {C} {K} arity lib rank inputs chunks tasks kept taken have need content l few full stands stage =
    let known : List Presence = map presence_of inputs in
    let chunk : NewChunk C = record { body = content; children = filled taken } in
    let tree : Tree C = rooted content need in
    let trees : List (Tree C) = trees_of inputs chunks in
    let n = length chunks in
    let m = length (chunks ++ chunk ∷ []) in
    let more_chunks : m ≡ n + 1 = length-append chunks (chunk ∷ []) in
    let stood = may_stand known n (length tasks) in
    let counted : length trees ≡ 0 + n = length-in_order (chunk_tree inputs) [] chunks in
    let count : n ≡ length trees = omega (arith, counted) in
    let children : map (reading inputs trees []) (places_of (filled taken)) ≡ need = ap (map (reading inputs trees [])) (places_of-filled taken few) ∙ readings-first known inputs trees (trees ++ []) [] (stage.goals ++ []) n 0 (λ k h. sym (tree_at-before trees [] k (omega arith))) (λ k h. absurd (omega arith)) taken stands ∙ taken_read (reading inputs (trees ++ []) (stage.goals ++ [])) kept taken have need l (stage.read [] []) in
    let grown : trees_of inputs (chunks ++ chunk ∷ []) ≡ trees ++ tree ∷ [] = in_order-append (chunk_tree inputs) [] chunks (chunk ∷ []) ∙ ap (λ (children : List (Tree C)). trees ++ rooted content children ∷ []) children in
    let later_trees : (later : List (Tree C)) → trees_of inputs (chunks ++ chunk ∷ []) ++ later ≡ trees ++ tree ∷ later = λ later. ap (λ (trees : List (Tree C)). trees ++ later) grown ∙ append_assoc trees (tree ∷ []) later in
    let held : (i : ℕ) → i < n → is_chunk_held (chunks ++ chunk ∷ []) tasks (kept ++ Chunk n ∷ []) i ≡ true = λ i h. ap (λ (later : List (NewChunk C)). (is_child_of (Chunk i) later || is_input_of (Chunk i) tasks) || is_among (Chunk i) (kept ++ Chunk n ∷ [])) (drop-one_more chunks chunk i h) ∙ ap (λ x. (x || is_input_of (Chunk i) tasks) || is_among (Chunk i) (kept ++ Chunk n ∷ [])) (child_of_last (Chunk i) (drop (i + 1) chunks) content taken few) ∙ ap (λ x. ((is_child_of (Chunk i) (drop (i + 1) chunks) || (is_among (Chunk i) taken || false)) || is_input_of (Chunk i) tasks) || x) (is_among-both (Chunk i) kept (Chunk n ∷ [])) ∙ use_in_chunk (is_child_of (Chunk i) (drop (i + 1) chunks)) (is_input_of (Chunk i) tasks) (is_among (Chunk i) kept) (is_among (Chunk i) taken) (is_among (Chunk i) (Chunk n ∷ [])) (ap (λ x. (is_child_of (Chunk i) (drop (i + 1) chunks) || is_input_of (Chunk i) tasks) || x) (sym (is_among-both (Chunk i) kept taken)) ∙ stage.chunks_held i h) in
    let last : is_chunk_held (chunks ++ chunk ∷ []) tasks (kept ++ Chunk n ∷ []) n ≡ true = ap (λ x. (is_child_of (Chunk n) (drop (n + 1) (chunks ++ chunk ∷ [])) || is_input_of (Chunk n) tasks) || x) (is_among-both (Chunk n) kept (Chunk n ∷ [])) ∙ use_last (is_child_of (Chunk n) (drop (n + 1) (chunks ++ chunk ∷ [])) || is_input_of (Chunk n) tasks) (is_among (Chunk n) kept) (n == n) (eq-eqb n n refl) in
    record {
      chunks_formed = facts_one_more (λ i (chunk : NewChunk C). IsFormedChunk arity known i chunk) chunks chunk stage.chunks_formed (record { all_children = full; places = record { few = few; each = ap (list_all (may_stand known n 0)) (places_of-filled taken few) ∙ stands } });
      tasks_formed = λ i task at. record { few = (stage.tasks_formed i task at).few; each = all_stand-more known n i m i (omega arith) (omega arith) (places_of task.inputs) (stage.tasks_formed i task at).each };
      stand = list_all-both (may_stand known m (length tasks)) kept (Chunk n ∷ []) (all_stand-more known n (length tasks) m (length tasks) (omega arith) (omega arith) kept (list_all-first stood kept taken stage.stand)) (both_pass (nat_lt n m) true (lt-ltb n m (omega arith)) refl);
      chunks_held = λ i h. below_more (λ i. is_chunk_held (chunks ++ chunk ∷ []) tasks (kept ++ Chunk n ∷ []) i ≡ true) n held last i (omega arith);
      tasks_held = λ i h. ap (λ x. is_input_of (Task i) (drop (i + 1) tasks) || x) (is_among-both (Task i) kept (Chunk n ∷ [])) ∙ use_kept (is_input_of (Task i) (drop (i + 1) tasks)) (is_among (Task i) kept) (is_among (Task i) taken) (is_among (Task i) (Chunk n ∷ [])) (no_task_among known n i taken stands) (ap (λ x. is_input_of (Task i) (drop (i + 1) tasks) || x) (sym (is_among-both (Task i) kept taken)) ∙ stage.tasks_held i h);
      goals = stage.goals;
      asked = λ later. subst (λ (trees : List (Tree C)). AreAsked lib rank (calls_of lib.goal inputs trees tasks) stage.goals) (sym (later_trees later)) (stage.asked (tree ∷ later));
      read = λ later more. ap (λ (trees : List (Tree C)). map (reading inputs trees (stage.goals ++ more)) (kept ++ Chunk n ∷ [])) (later_trees later) ∙ map-append (reading inputs (trees ++ tree ∷ later) (stage.goals ++ more)) kept (Chunk n ∷ []) ∙ ap (λ (read : List (Tree C)). read ++ tree_at (trees ++ tree ∷ later) n ∷ []) (kept_read (reading inputs (trees ++ tree ∷ later) (stage.goals ++ more)) kept taken have need l (stage.read (tree ∷ later) more)) ∙ ap (λ (read : Tree C). have ++ read ∷ []) (tree_at-after trees tree later n count);
    }

-- ---- The end

-- With one place left, which reads as the goal of the kind, an outcome of the plan's shape is sound.
pub finished : {C K : Type 0} (arity : C → ℕ) (lib : Meanings C K) (kind : K) (inputs : List (Tree C)) (outcome : Outcome C K) (tree : Tree C) → length outcome.chunks ≤ 8 → length outcome.tasks ≤ 16 → IsOneOf (shape_of outcome) (lib.plan kind (map presence_of inputs)) → tree ≡ lib.goal kind inputs → IsStage arity lib (lib.rank kind) inputs outcome.chunks outcome.tasks (outcome.result ∷ []) (tree ∷ [])
    → IsSound arity lib kind inputs outcome
finished {C} {K} arity lib kind inputs outcome tree few_chunks few_tasks planned goal stage =
    let known : List Presence = map presence_of inputs in
    let chunks : List (NewChunk C) = outcome.chunks in
    let tasks : List (NewTask K) = outcome.tasks in
    let trees : List (Tree C) = trees_of inputs chunks in
    let given_trees : trees ++ [] ≡ trees = append-nil trees in
    let asked : AreAsked lib (lib.rank kind) (calls_of lib.goal inputs trees tasks) stage.goals = subst (λ (trees : List (Tree C)). AreAsked lib (lib.rank kind) (calls_of lib.goal inputs trees tasks) stage.goals) given_trees (stage.asked []) in
    let read : reading inputs (trees ++ []) (stage.goals ++ []) outcome.result ≡ tree = cc (stage.read [] []) in
    record {
      formed = record {
        few_chunks = few_chunks;
        few_tasks = few_tasks;
        chunks_formed = stage.chunks_formed;
        tasks_formed = stage.tasks_formed;
        result_stands = both_left (may_stand known (length chunks) (length tasks) outcome.result) true stage.stand;
        chunks_used = λ i h. ap (λ x. (is_child_of (Chunk i) (drop (i + 1) chunks) || is_input_of (Chunk i) tasks) || x) (sym (or-false (same_place (Chunk i) outcome.result))) ∙ stage.chunks_held i h;
        tasks_used = λ i h. ap (λ x. is_input_of (Task i) (drop (i + 1) tasks) || x) (sym (or-false (same_place (Task i) outcome.result))) ∙ stage.tasks_held i h;
      };
      planned = planned;
      defined = asked.defined;
      lower = asked.lower;
      goal = ap (λ (goals : List (Tree C)). reading inputs trees goals outcome.result) (asked.same ∙ sym (append-nil stage.goals)) ∙ ap (λ (trees : List (Tree C)). reading inputs trees (stage.goals ++ []) outcome.result) (sym given_trees) ∙ read ∙ goal;
    }
