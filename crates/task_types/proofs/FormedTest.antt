-- The rules of a formed outcome as a test that computes: an outcome that passes it keeps the rules.
use Rattle.std.proofs.Common.{◌≡◌, ℕ, zero, suc, ◌+◌, ◌<◌, Bool, true, false, ◌&&◌, Some, List, [], ◌∷◌, length, slice_get, refl, subst, below_more, arith}
use Rattle.std.specs.Prelude.{nat_le, ◌==◌, IsTrue}
use Rattle.std.specs.List.{list_all}
use Rattle.std.proofs.lemmas.Bool.{false≢true, eqb-true, leb-true}
use Rattle.task_types.specs.declared.outcome.Place.{Place}
use Rattle.task_types.specs.declared.outcome.Places.{Places}
use Rattle.task_types.specs.declared.outcome.NewTask.{NewTask}
use Rattle.task_types.specs.declared.outcome.NewChunk.{NewChunk}
use Rattle.task_types.specs.Presence.{Presence}
use Rattle.task_types.specs.Places.{places_of}
use Rattle.task_types.specs.Formed.{may_stand, MayStand, IsFormedChunk, is_chunk_used, is_task_used, KeepsRules}

-- at most four places, each of which may stand
abbrev pub places_pass : List Presence → ℕ → ℕ → Places → Bool
places_pass known chunks tasks places =
    nat_le places.count 4 && list_all (may_stand known chunks tasks) (places_of places)

-- new chunks from number i on
abbrev pub chunks_pass : {C : Type 0} → (C → ℕ) → List Presence → ℕ → List (NewChunk C) → Bool
chunks_pass arity known i [] = true
chunks_pass arity known i (chunk ∷ chunks) =
    (chunk.children.count == arity chunk.body) && (places_pass known i 0 chunk.children && chunks_pass arity known (suc i) chunks)

-- new tasks from number i on, after so many new chunks
abbrev pub tasks_pass : {K : Type 0} → List Presence → ℕ → ℕ → List (NewTask K) → Bool
tasks_pass known chunks i [] = true
tasks_pass known chunks i (task ∷ tasks) =
    places_pass known chunks i task.inputs && tasks_pass known chunks (suc i) tasks

-- each number below n passes a test
abbrev pub each_below : ℕ → (ℕ → Bool) → Bool
each_below zero test = true
each_below (suc n) test = test n && each_below n test

-- all rules
abbrev pub rules_pass : {C K : Type 0} → (C → ℕ) → List Presence → List (NewChunk C) → List (NewTask K) → Place → Bool
rules_pass arity known chunks tasks result =
    nat_le (length chunks) 8 && (nat_le (length tasks) 16 && (chunks_pass arity known 0 chunks && (tasks_pass known (length chunks) 0 tasks
    && (may_stand known (length chunks) (length tasks) result && (each_below (length chunks) (is_chunk_used chunks tasks result) && each_below (length tasks) (is_task_used tasks result))))))

pub both_left : (a b : Bool) → (a && b) ≡ true → a ≡ true
both_left true b e = refl
both_left false b e = e

pub both_right : (a b : Bool) → (a && b) ≡ true → b ≡ true
both_right true b e = e
both_right false b e = absurd (false≢true e)

places_kept : (known : List Presence) (chunks tasks : ℕ) (places : Places)
    → places_pass known chunks tasks places ≡ true → MayStand known chunks tasks places
places_kept known chunks tasks places e =
    let each = list_all (may_stand known chunks tasks) (places_of places) in
    record { few = leb-true places.count 4 (both_left (nat_le places.count 4) each e); each = both_right (nat_le places.count 4) each e }

chunk_kept : {C : Type 0} (arity : C → ℕ) (known : List Presence) (i : ℕ) (chunk : NewChunk C)
    → (chunk.children.count == arity chunk.body) ≡ true → places_pass known i 0 chunk.children ≡ true
    → IsFormedChunk arity known i chunk
chunk_kept arity known i chunk e f =
    record { all_children = eqb-true chunk.children.count (arity chunk.body) e; places = places_kept known i 0 chunk.children f }

-- a chunk of a list that has its first at number i
chunks_kept : {C : Type 0} (arity : C → ℕ) (known : List Presence) (i : ℕ) (chunks : List (NewChunk C))
    → chunks_pass arity known i chunks ≡ true
    → (k n : ℕ) (chunk : NewChunk C) → n ≡ k + i → slice_get chunks k ≡ Some chunk → IsFormedChunk arity known n chunk
chunks_kept arity known i [] e k n chunk p at = cc
chunks_kept arity known i (first ∷ chunks) e zero n chunk p at =
    let same : first ≡ chunk = cc in
    let here : i ≡ n = omega arith in
    let rest = places_pass known i 0 first.children && chunks_pass arity known (suc i) chunks in
    let formed = chunk_kept arity known i first (both_left (first.children.count == arity first.body) rest e) (both_left (places_pass known i 0 first.children) (chunks_pass arity known (suc i) chunks) (both_right (first.children.count == arity first.body) rest e)) in
    subst (λ m. IsFormedChunk arity known m chunk) here (subst (λ other. IsFormedChunk arity known i other) same formed)
chunks_kept arity known i (first ∷ chunks) e (suc k) n chunk p at =
    let rest = places_pass known i 0 first.children && chunks_pass arity known (suc i) chunks in
    chunks_kept arity known (suc i) chunks (both_right (places_pass known i 0 first.children) (chunks_pass arity known (suc i) chunks) (both_right (first.children.count == arity first.body) rest e)) k n chunk (omega arith) at

-- a task of a list that has its first at number i
tasks_kept : {K : Type 0} (known : List Presence) (chunks i : ℕ) (tasks : List (NewTask K))
    → tasks_pass known chunks i tasks ≡ true
    → (k n : ℕ) (task : NewTask K) → n ≡ k + i → slice_get tasks k ≡ Some task → MayStand known chunks n task.inputs
tasks_kept known chunks i [] e k n task p at = cc
tasks_kept known chunks i (first ∷ tasks) e zero n task p at =
    let same : first ≡ task = cc in
    let here : i ≡ n = omega arith in
    let kept = places_kept known chunks i first.inputs (both_left (places_pass known chunks i first.inputs) (tasks_pass known chunks (suc i) tasks) e) in
    subst (λ m. MayStand known chunks m task.inputs) here (subst (λ other. MayStand known chunks i other.inputs) same kept)
tasks_kept known chunks i (first ∷ tasks) e (suc k) n task p at =
    tasks_kept known chunks (suc i) tasks (both_right (places_pass known chunks i first.inputs) (tasks_pass known chunks (suc i) tasks) e) k n task (omega arith) at

below_suc : (n : ℕ) (P : ℕ → Type 0) → ((i : ℕ) → i < n → P i) → P n → (i : ℕ) → i < suc n → P i
below_suc n P before here i h = below_more P n before here i (omega arith)

below_kept : (n : ℕ) (test : ℕ → Bool) → each_below n test ≡ true → (i : ℕ) → i < n → IsTrue (test i)
below_kept zero test e i h = absurd (omega arith)
below_kept (suc n) test e i h =
    below_suc n (λ i. IsTrue (test i)) (below_kept n test (both_right (test n) (each_below n test) e)) (both_left (test n) (each_below n test) e) i h

-- an outcome that passes keeps the rules
pub KeepsRules-from_test : {C K : Type 0} (arity : C → ℕ) (known : List Presence) (chunks : List (NewChunk C)) (tasks : List (NewTask K)) (result : Place) → rules_pass arity known chunks tasks result ≡ true → KeepsRules arity known chunks tasks result
KeepsRules-from_test {C} {K} arity known chunks tasks result e =
    let t1 = nat_le (length chunks) 8 in
    let t2 = nat_le (length tasks) 16 in
    let t3 = chunks_pass arity known 0 chunks in
    let t4 = tasks_pass known (length chunks) 0 tasks in
    let t5 = may_stand known (length chunks) (length tasks) result in
    let t6 = each_below (length chunks) (is_chunk_used chunks tasks result) in
    let t7 = each_below (length tasks) (is_task_used tasks result) in
    let e1 = both_right t1 (t2 && (t3 && (t4 && (t5 && (t6 && t7))))) e in
    let e2 = both_right t2 (t3 && (t4 && (t5 && (t6 && t7)))) e1 in
    let e3 = both_right t3 (t4 && (t5 && (t6 && t7))) e2 in
    let e4 = both_right t4 (t5 && (t6 && t7)) e3 in
    let e5 = both_right t5 (t6 && t7) e4 in
    record {
      few_chunks = leb-true (length chunks) 8 (both_left t1 (t2 && (t3 && (t4 && (t5 && (t6 && t7))))) e);
      few_tasks = leb-true (length tasks) 16 (both_left t2 (t3 && (t4 && (t5 && (t6 && t7)))) e1);
      chunks_formed = λ i chunk at. chunks_kept arity known 0 chunks (both_left t3 (t4 && (t5 && (t6 && t7))) e2) i i chunk (omega arith) at;
      tasks_formed = λ i task at. tasks_kept known (length chunks) 0 tasks (both_left t4 (t5 && (t6 && t7)) e3) i i task (omega arith) at;
      result_stands = both_left t5 (t6 && t7) e4;
      chunks_used = below_kept (length chunks) (is_chunk_used chunks tasks result) (both_left t6 t7 e5);
      tasks_used = below_kept (length tasks) (is_task_used tasks result) (both_right t6 t7 e5);
    }
