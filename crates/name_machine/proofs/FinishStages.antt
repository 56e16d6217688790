-- The stages of a finish over references alone: after the new chunks, and after the new tasks; and what the finished task holds then.
-- They hang on a state in order and on a formed outcome, and on no library. The trees of the inputs may be any that they lead to.
use Rattle.std.proofs.Common.{◌≡◌, ℕ, zero, suc, ◌+◌, ◌≤◌, inl, inr, true, false, List, [], ◌∷◌, ◌++◌, map as each, slice_get, length, None, Some, refl, sym, ap, subst, ◌∙◌, arith}
use Rattle.cht_ids.specs.declared.refs.Id.{Id}
use Rattle.cht_ids.specs.declared.refs.Ref.{Ref}
use Rattle.cht_ids.specs.declared.refs.Ref.TheVariants.{Null as NullRef, Id as Held}
use Rattle.task_types.specs.declared.outcome.Place.{Place}
use Rattle.task_types.specs.declared.outcome.Places.{Places}
use Rattle.task_types.specs.declared.outcome.NewChunk.{NewChunk}
use Rattle.task_types.specs.declared.outcome.Outcome.{Outcome}
use Rattle.task_types.specs.Tree.{Tree}
use Rattle.task_types.specs.Presence.{Presence}
use Rattle.task_types.specs.Formed.{may_stand, IsFormed}
use Rattle.task_types.specs.Reading.{reading, new_trees}
use Rattle.name_states.specs.declared.holder.Holder.{Holder}
use Rattle.name_states.specs.declared.holder.Holder.TheVariants.{Caller as ByCaller, Task as ByTask, Body as ByBody}
use Rattle.name_states.specs.States.{NameState, IdRecord, id_at, IsLiveRef, AreLive}
use Rattle.name_states.specs.Reached.{swept}
use Rattle.name_states.specs.Rules.{IsSound, AreReached}
use Rattle.name_states.specs.Trees.{tree_of}
use Rattle.name_states.proofs.Basics.{same_some, same_from_test, test_same}
use Rattle.name_states.proofs.Within.{AreMore}
use Rattle.task_states.specs.States.{Input, Known, Awaits, Unfinished, task_at}
use Rattle.name_machine.specs.NewTasks.{drawn_by_chunks, drawn_by_tasks, task_numbers}
use Rattle.name_machine.specs.Control.{Control, Grown, ref_known, is_task, is_held_by, without_ids, with_chunks, with_new_tasks}
use Rattle.name_machine.specs.Standing.{IsRefOf, IsOrderly}
use Rattle.name_machine.proofs.Added.{old_stays}
use Rattle.name_machine.proofs.Ends.{inputs_at}
use Rattle.name_machine.proofs.Ordered.{input_from}
use Rattle.name_machine.proofs.Orderly.{held_entry, input_is_live}
use Rattle.name_machine.proofs.FinishNames.{IsIn, in_left, in_right, in_either}
use Rattle.name_machine.proofs.FinishNamesOrder.{deleted_all, deleted_are}
use Rattle.name_machine.proofs.FinishNamesRead.{place_read, near_if}
use Rattle.name_machine.proofs.FinishMiddle.{ref_more, middle_of}
use Rattle.name_machine.proofs.FinishChunks.{good_chunk, all_near, ChunkStage, with_grown, all_chunks, chunks_draw}
use Rattle.name_machine.proofs.FinishTasks.{value_ref, good_kept, IsGood}
use Rattle.name_machine.proofs.FinishAdded.{AllGood, TaskStage, all_tasks}

-- ---- Lists of references

-- the numbers of references that are not null
abbrev pub numbers_of : List Ref → List ℕ
numbers_of [] = []
numbers_of (NullRef ∷ refs) = numbers_of refs
numbers_of (Held id ∷ refs) = id.number ∷ numbers_of refs

in_numbers : (id : Id) (refs : List Ref) → IsIn (Held id) refs → IsIn id.number (numbers_of refs)
in_numbers id [] among = absurd among
in_numbers id (NullRef ∷ refs) (inl here) = absurd (let clash : Held id ≡ NullRef = here in cc)
in_numbers id (NullRef ∷ refs) (inr rest) = in_numbers id refs rest
in_numbers id (Held other ∷ refs) (inl here) =
    let heads : Held id ≡ Held other = here in
    let same : id ≡ other = cc in
    inl (ap (λ (i : Id). i.number) same)
in_numbers id (Held other ∷ refs) (inr rest) = inr (in_numbers id refs rest)

numbers_in : (q : ℕ) (refs : List Ref) → IsIn q (numbers_of refs) → (id : Id) × IsIn (Held id) refs × (id.number ≡ q)
numbers_in q [] among = absurd among
numbers_in q (NullRef ∷ refs) among = let rest = numbers_in q refs among in (rest.0, inr rest.1, rest.2)
numbers_in q (Held id ∷ refs) (inl here) = (id, inl refl, sym here)
numbers_in q (Held id ∷ refs) (inr among) = let rest = numbers_in q refs among in (rest.0, inr rest.1, rest.2)

input_in : (inputs : List (Input Ref)) (p : ℕ) (r : Ref) → slice_get inputs p ≡ Some (Known r) → IsIn r (each ref_known inputs)
input_in [] p r is = absurd (let clash : None ≡ Some (Known r) = is in cc)
input_in (input ∷ inputs) zero r is = inl (sym (ap ref_known (same_some input (Known r) is)))
input_in (input ∷ inputs) (suc p) r is = inr (input_in inputs p r is)

held_by_task : (gone : ℕ) (holder : Holder) → is_task gone holder ≡ true → holder ≡ ByTask gone
held_by_task gone (ByCaller caller) is = absurd (let clash : false ≡ true = is in cc)
held_by_task gone (ByTask task) is = ap ByTask (same_from_test task gone is)
held_by_task gone (ByBody body) is = absurd (let clash : false ≡ true = is in cc)

module _ {C : Type 0} (names : NameState C) where
  known_live : (inputs : List (Input Ref)) → ((p : ℕ) (r : Ref) → slice_get inputs p ≡ Some (Known r) → IsLiveRef names r) → AreLive names (each ref_known inputs)
  known_live [] live = tt
  known_live (Known r ∷ inputs) live = (live 0 r refl, known_live inputs (λ p s is. live (suc p) s is))
  known_live (Awaits task number ∷ inputs) live = (tt, known_live inputs (λ p s is. live (suc p) s is))

  known_held : (holder : Holder) (inputs : List (Input Ref)) → ((p : ℕ) (r : Ref) → slice_get inputs p ≡ Some (Known r) → IsRefOf names holder r) → (r : Ref) → IsIn r (each ref_known inputs) → IsRefOf names holder r
  known_held holder [] held r among = absurd among
  known_held holder (Known x ∷ inputs) held r (inl here) = subst (IsRefOf names holder) (sym here) (held 0 x refl)
  known_held holder (Awaits task number ∷ inputs) held r (inl here) = subst (IsRefOf names holder) (sym here) tt
  known_held holder (input ∷ inputs) held r (inr rest) = known_held holder inputs (λ p s is. held (suc p) s is) r rest

module _ {C K : Type 0} (arity : C → ℕ) (control : Control C (Unit {0}) K) (orderly : IsOrderly arity control)
    (numbered : (q : ℕ) (t : Unfinished Ref K) → task_at control.graph q ≡ Some t → q ≤ control.drawn)
    (gone : ℕ) (ran : Unfinished Ref K) (there : task_at control.graph gone ≡ Some ran) (worker : ℕ) (outcome : Outcome C K) (known : List Presence) (formed : IsFormed arity known outcome)
    (trees : List (Tree C)) (trees_are : each (tree_of control.names) (each ref_known ran.inputs) ≡ trees) where
  abbrev pub inputs : List Ref
  inputs = each ref_known ran.inputs

  abbrev pub made : List (Tree C)
  made = new_trees trees outcome

  abbrev pub contents : List C
  contents = each (λ (chunk : NewChunk C). chunk.body) outcome.chunks

  abbrev pub chunks : List Places
  chunks = each (λ (chunk : NewChunk C). chunk.children) outcome.chunks

  -- ---- Chunks

  abbrev none_grown : Grown C
  none_grown = record { names = control.names; drawn = control.drawn; chunks = [] }

  abbrev pub grown : Grown C
  grown = with_chunks control worker gone inputs contents chunks

  chunk_start : ChunkStage arity gone control worker inputs trees none_grown []
  chunk_start = record {
    middle = middle_of arity gone control orderly numbered (numbered gone ran there);
    keeps = record { ids = λ q e is. is; bodies = λ q b is. is };
    from = λ q entry caller is held. is;
    live_inputs = known_live control.names ran.inputs (λ p r at. input_is_live arity control orderly gone p ran r there at);
    read_inputs = trees_are;
    live = tt;
    read = refl;
    own = λ q entry is held. inl is;
    held = λ r among. absurd among;
    up = omega arith;
  }

  pub chunk_stage : ChunkStage arity gone control worker inputs trees grown made
  chunk_stage = all_chunks arity gone control worker inputs trees outcome.chunks none_grown [] chunk_start (λ i chunk at. good_chunk arity known i chunk (formed.chunks_formed i chunk at))

  pub drawn_grown : grown.drawn ≡ control.drawn + drawn_by_chunks chunks
  drawn_grown = chunks_draw arity gone control worker inputs trees outcome.chunks none_grown

  abbrev pub with_its_chunks : Control C (Unit {0}) K
  with_its_chunks = with_grown arity gone control worker inputs trees grown

  -- ---- Tasks

  abbrev pub numbers : List ℕ
  numbers = task_numbers grown.drawn outcome.tasks

  abbrev pub with_its_tasks : Control C (Unit {0}) K
  with_its_tasks = with_new_tasks control ran.caller inputs outcome.tasks grown

  -- what a place names once the chunks are there is live, and leads to the tree that the place reads as
  pub good_place : (place : Place) → may_stand known (length outcome.chunks) (length outcome.tasks) place ≡ true → IsGood arity grown.names inputs grown.chunks trees made numbers grown.names place
  good_place place may =
      let one = place_read arity grown.names inputs grown.chunks chunk_stage.middle.sound chunk_stage.live_inputs chunk_stage.live place (near_if known (length outcome.chunks) (length outcome.tasks) place may) in
      let given = chunk_stage.read_inputs in
      let new = chunk_stage.read in
      (one.0, one.1 ∙ (λ i. reading (given i) (new i) [] place))

  all_good : AllGood arity gone grown.names inputs grown.chunks trees made numbers ran.caller grown.names outcome.tasks
  all_good i p task place is at =
      let one = place_read arity grown.names inputs grown.chunks chunk_stage.middle.sound chunk_stage.live_inputs chunk_stage.live place (all_near known (length outcome.chunks) i task.inputs (formed.tasks_formed i task is) p place at) in
      let given = chunk_stage.read_inputs in
      let new = chunk_stage.read in
      (one.0, one.1 ∙ (λ j. reading (given j) (new j) [] place))

  pub task_stage : TaskStage arity gone grown.names inputs grown.chunks trees made numbers ran.caller with_its_chunks with_its_tasks outcome.tasks
  task_stage = all_tasks arity gone grown.names inputs grown.chunks trees made numbers ran.caller outcome.tasks with_its_chunks (grown.drawn + drawn_by_tasks outcome.tasks) chunk_stage.middle all_good refl

  -- all that there was is there still
  pub more : AreMore control.names with_its_tasks.names
  more = record {
    ids = λ q e is. task_stage.keeps.ids q e (chunk_stage.keeps.ids q e is);
    bodies = λ q b is. task_stage.keeps.bodies q b (chunk_stage.keeps.bodies q b is);
  }

  pub still_there : task_at with_its_tasks.graph gone ≡ Some ran
  still_there =
      old_stays (value_ref arity grown.names inputs grown.chunks trees made numbers) numbers ran.caller grown.drawn outcome.tasks control.graph gone
      (let low = numbered gone ran there in let up = chunk_stage.up in omega arith)
      ∙ there

  -- what a place names is live and leads to the same tree once the tasks are there
  pub kept_good : (place : Place) → may_stand known (length outcome.chunks) (length outcome.tasks) place ≡ true → IsGood arity grown.names inputs grown.chunks trees made numbers with_its_tasks.names place
  kept_good place may =
      good_kept arity grown.names inputs grown.chunks trees made numbers grown.names with_its_tasks.names chunk_stage.middle.sound task_stage.keeps place (good_place place may)

  -- ---- What the finished task holds: its inputs and its new chunks

  abbrev pub held_numbers : List ℕ
  held_numbers = numbers_of (inputs ++ grown.chunks)

  -- it holds each of them
  pub listed_held : (r : Ref) → IsIn r (inputs ++ grown.chunks) → IsRefOf with_its_tasks.names (ByTask gone) r
  listed_held r among = elim (in_either r inputs grown.chunks among) [
    | inl input ↦
        ref_more control.names with_its_tasks.names (ByTask gone) r more
        (known_held control.names (ByTask gone) ran.inputs (λ p s at. orderly.held.inputs gone p s (inputs_at control.graph gone p ran there ∙ at)) r input)
    | inr chunk ↦ ref_more grown.names with_its_tasks.names (ByTask gone) r task_stage.keeps (chunk_stage.held r chunk)
  ]

  -- and nothing else
  pub held_listed : (q : ℕ) (entry : IdRecord) → id_at with_its_tasks.names q ≡ Some entry → entry.holder ≡ ByTask gone → IsIn q held_numbers
  held_listed q entry is held =
      let id : Id = record { owner = entry.owner; number = q } in
      in_numbers id (inputs ++ grown.chunks)
      (elim (chunk_stage.own q entry (task_stage.own q entry is held) held) [
        | inl old ↦
            let place = orderly.held.nothing_else q gone entry old held in
            let t = input_from control.graph gone place.0 (Known (Held id)) place.1 in
            let same : t.0 ≡ ran = same_some t.0 ran (sym t.1 ∙ there) in
            in_left (Held id) inputs grown.chunks (input_in ran.inputs place.0 (Held id) (ap (λ (v : Unfinished Ref K). slice_get v.inputs place.0) (sym same) ∙ t.2))
        | inr chunk ↦ in_right (Held id) inputs grown.chunks chunk
      ])

  -- So a finish may delete its inputs and its new chunks one after the other, with a sweep after each: from these names, or from any that
  -- have more, where the task holds no more.
  pub deleted_is : (names : NameState C) → IsSound arity names → AreReached names → AreMore with_its_tasks.names names
      → ((q : ℕ) (entry : IdRecord) → id_at names q ≡ Some entry → entry.holder ≡ ByTask gone → id_at with_its_tasks.names q ≡ Some entry)
      → deleted_all names held_numbers ≡ swept (without_ids names (is_held_by gone))
  deleted_is names sound reached greater own =
      deleted_are arity names (is_held_by gone) held_numbers sound reached
      (λ q entry is among.
      let one = numbers_in q (inputs ++ grown.chunks) among in
      let its = held_entry names (ByTask gone) one.0 (ref_more with_its_tasks.names names (ByTask gone) (Held one.0) greater (listed_held (Held one.0) one.1)) in
      let same : its.0 ≡ entry = same_some its.0 entry (sym its.1 ∙ ap (id_at names) one.2 ∙ is) in
      ap (λ (e : IdRecord). is_task gone e.holder) (sym same) ∙ ap (is_task gone) its.3 ∙ test_same gone)
      (λ q entry is goes.
      let held = held_by_task gone entry.holder goes in
      held_listed q entry (own q entry is held) held)
