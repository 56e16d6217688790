-- The new chunks of a task that is finished: each is a register that the task holds.
use Rattle.std.proofs.Common.{◌≡◌, ℕ, zero, suc, ◌+◌, ◌≤◌, ◌⊎◌, inl, inr, Bool, true, List, [], ◌∷◌, ◌++◌, map as each, slice_get, take, length, Some, is_some, IsSome, refl, sym, ap, subst, ◌∙◌, arith}
use Rattle.std.specs.List.{list_all}
use Rattle.std.specs.FinMap as map
use Rattle.cht_ids.specs.declared.refs.Id.{Id}
use Rattle.cht_ids.specs.declared.refs.Ref.{Ref}
use Rattle.cht_ids.specs.declared.refs.Ref.TheVariants.{Id as Held}
use Rattle.task_types.specs.declared.outcome.Place.{Place}
use Rattle.task_types.specs.declared.outcome.Place.TheVariants.{Null, Input as AtInput, Child, Chunk, Task}
use Rattle.task_types.specs.declared.outcome.NewChunk.{NewChunk}
use Rattle.task_types.specs.declared.outcome.Places.{Places}
use Rattle.task_types.specs.Tree.{Tree, rooted}
use Rattle.task_types.specs.Presence.{Presence}
use Rattle.task_types.specs.Places.{places_of}
use Rattle.task_types.specs.Formed.{may_stand, MayStand, IsFormedChunk}
use Rattle.task_types.specs.Reading.{reading, in_order, chunk_tree}
use Rattle.task_types.proofs.FormedTest.{both_left, both_right}
use Rattle.name_states.specs.declared.holder.Holder.TheVariants.{Caller as ByCaller, Task as ByTask, Body as ByBody}
use Rattle.name_states.specs.States.{NameState, IdRecord, BodyRecord, id_at, AreLive}
use Rattle.name_states.specs.Steps.{present, drawn_by, numbered, numbered_ref}
use Rattle.name_states.specs.Steps as names
use Rattle.name_states.specs.Reached.{IsReached, Outside}
use Rattle.name_states.specs.Rules.{IsSound, AreReached, AreWithin}
use Rattle.name_states.specs.Trees.{tree_of}
use Rattle.name_states.proofs.Basics.{none_not_some, same_some, same_or_not, inserted_other}
use Rattle.name_states.proofs.Within.{AreMore, within-more, number-naming, all-live-kept, drawn_few}
use Rattle.name_states.proofs.Copies.{bodies-linked}
use Rattle.name_states.proofs.Sound.{sound-registered, new-naming, more-registered, registered-within, naming-from}
use Rattle.name_states.proofs.TreeRegistered.{tree-registered}
use Rattle.name_states.proofs.Trees.{tree-kept}
use Rattle.name_states.proofs.Reaching.{reached-more}
use Rattle.name_machine.specs.Control.{Control, Grown, ref_named, chunk_more, chunks_more}
use Rattle.name_machine.specs.NewTasks.{taken, drawn_by_chunks}
use Rattle.name_machine.proofs.AskOrdered.{numbered_above}
use Rattle.name_machine.specs.Standing.{IsRefOf}
use Rattle.name_machine.proofs.Orderly.{entry_held}
use Rattle.name_machine.proofs.FinishNames.{IsIn, in_left, in_right, in_either}
use Rattle.name_machine.proofs.FinishNamesRead.{IsNear, near_if, live_more, place_read}
use Rattle.name_machine.proofs.FinishMiddle.{Middle, ref_more, middle_more}

-- ---- Lists

pub passes_at : {X : Type 0} (p : X → Bool) (xs : List X) (i : ℕ) (x : X) → list_all p xs ≡ true → slice_get xs i ≡ Some x → p x ≡ true
passes_at p [] i x all is = absurd (none_not_some refl is)
passes_at p (y ∷ xs) zero x all is = ap p (sym (same_some y x is)) ∙ both_left (p y) (list_all p xs) all
passes_at p (y ∷ xs) (suc i) x all is = passes_at p xs i x (both_right (p y) (list_all p xs) all) is

length_each : {X Y : Type 0} (f : X → Y) (xs : List X) → length (each f xs) ≡ length xs
length_each f [] = refl
length_each f (x ∷ xs) = ap suc (length_each f xs)

each_more : {X Y : Type 0} (f : X → Y) (xs : List X) (y : X) → each f (xs ++ y ∷ []) ≡ each f xs ++ f y ∷ []
each_more f [] y = refl
each_more f (x ∷ xs) y = ap (λ rest. f x ∷ rest) (each_more f xs y)

length_taken : {X : Type 0} (n : ℕ) (xs : List X) → n ≤ length xs → length (take n xs) ≡ n
length_taken zero xs low = refl
length_taken (suc n) [] low = absurd (omega arith)
length_taken (suc n) (x ∷ xs) low = ap suc (length_taken n xs (omega arith))

-- all places that may stand are near
pub all_near : (known : List Presence) (chunks tasks : ℕ) (places : Places) → MayStand known chunks tasks places → (p : ℕ) (place : Place) → slice_get (places_of places) p ≡ Some place → IsNear place
all_near known chunks tasks places may p place at = near_if known chunks tasks place (passes_at (may_stand known chunks tasks) (places_of places) p place may.each at)

task_is : (a b : ℕ) → ByTask a ≡ ByTask b → a ≡ b
task_is a b same = cc

-- a new chunk has as many near places as its content wants
pub record IsGoodChunk {C : Type 0} (arity : C → ℕ) (chunk : NewChunk C) : Type 0 where
  pub many : length (places_of chunk.children) ≡ arity chunk.body
  pub near : (p : ℕ) (place : Place) → slice_get (places_of chunk.children) p ≡ Some place → IsNear place

pub good_chunk : {C : Type 0} (arity : C → ℕ) (known : List Presence) (earlier : ℕ) (chunk : NewChunk C) → IsFormedChunk arity known earlier chunk → IsGoodChunk arity chunk
good_chunk arity known earlier chunk formed = record {
  many = length_taken chunk.children.count (chunk.children.first ∷ chunk.children.second ∷ chunk.children.third ∷ chunk.children.fourth ∷ []) formed.places.few ∙ formed.all_children;
  near = all_near known earlier 0 chunk.children formed.places;
}

module _ {C : Type 0} where
  -- references of places draw no more numbers than the places
  present_few : (state : NameState C) (inputs chunks : List Ref) (places : List Place) → present (each (ref_named state inputs chunks) places) ≤ taken places
  present_few state inputs chunks [] = omega arith
  present_few state inputs chunks (Null ∷ places) = let rest = present_few state inputs chunks places in omega arith
  present_few state inputs chunks (AtInput i ∷ places) =
      let rest = present_few state inputs chunks places in let one = drawn_few (ref_named state inputs chunks (AtInput i)) in omega arith
  present_few state inputs chunks (Child i j ∷ places) =
      let rest = present_few state inputs chunks places in let one = drawn_few (ref_named state inputs chunks (Child i j)) in omega arith
  present_few state inputs chunks (Chunk i ∷ places) =
      let rest = present_few state inputs chunks places in let one = drawn_few (ref_named state inputs chunks (Chunk i)) in omega arith
  present_few state inputs chunks (Task i ∷ places) = let rest = present_few state inputs chunks places in omega arith

  -- references of places are live, and lead to the trees of the places
  places_read : (arity : C → ℕ) (state : NameState C) (inputs chunks : List Ref) → IsSound arity state → AreLive state inputs → AreLive state chunks → (places : List Place)
      → ((p : ℕ) (place : Place) → slice_get places p ≡ Some place → IsNear place)
      → AreLive state (each (ref_named state inputs chunks) places)
      × (each (tree_of state) (each (ref_named state inputs chunks) places) ≡ each (reading (each (tree_of state) inputs) (each (tree_of state) chunks) []) places)
  places_read arity state inputs chunks sound live there [] near = (tt, refl)
  places_read arity state inputs chunks sound live there (place ∷ places) near =
      let one = place_read arity state inputs chunks sound live there place (near 0 place refl) in
      let rest = places_read arity state inputs chunks sound live there places (λ p other at. near (suc p) other at) in
      let head = one.1 in
      let tail = rest.1 in
      ((one.0, rest.0), λ i. head i ∷ tail i)

  -- live references lead where they led
  pub trees_kept : (arity : C → ℕ) (state more : NameState C) → IsSound arity state → AreMore state more → (refs : List Ref) → AreLive state refs → each (tree_of more) refs ≡ each (tree_of state) refs
  trees_kept arity state more sound are_more [] live = refl
  trees_kept arity state more sound are_more (r ∷ refs) live =
      let head = tree-kept arity state more sound are_more r live.0 in
      let tail = trees_kept arity state more sound are_more refs live.1 in
      λ i. head i ∷ tail i

  -- all bodies are reached after a register
  reached_registered : (state : NameState C) (drawn gone worker : ℕ) (content : C) (refs : List Ref) → AreWithin state drawn → AreReached state
      → AreReached (names.registered state drawn (ByTask gone) worker content refs)
  reached_registered state drawn gone worker content refs within reached q some =
      let after : NameState C = names.registered state drawn (ByTask gone) worker content refs in
      let entry : IdRecord = record { owner = worker; body = drawn + 1; holder = ByTask gone } in
      let new_body : BodyRecord C = record { owner = worker; content = content; children = numbered (drawn + 2) refs } in
      let base : NameState C = names.with_id (names.with_body state (drawn + 1) new_body) (drawn + 2) entry in
      elim (same_or_not q (drawn + 1)) [
        | inl same ↦ subst (IsReached after) (sym same) (Outside (drawn + 2) entry (new-naming state drawn (ByTask gone) worker content refs within) tt)
        | inr apart ↦
            reached-more state after q (more-registered state drawn (ByTask gone) worker content refs within).ids
            (reached q (subst (λ o. IsSome o) (ap (λ bodies. map.get bodies q) (bodies-linked base (drawn + 2) (ByBody (drawn + 1)) refs) ∙ inserted_other state.bodies (drawn + 1) q new_body apart) some))
      ]

module _ {C K : Type 0} (arity : C → ℕ) (gone : ℕ) (control : Control C (Unit {0}) K) (worker : ℕ) (inputs : List Ref) (trees : List (Tree C)) where
  -- the state with new chunks
  abbrev pub with_grown : Grown C → Control C (Unit {0}) K
  with_grown grown = record control { drawn = grown.drawn; names = grown.names }

  -- what new chunks give: callers hold what they held, and the references lead to these trees
  pub record ChunkStage (grown : Grown C) (made : List (Tree C)) : Type 0 where
    pub middle : Middle arity gone (with_grown grown)
    pub keeps : AreMore control.names grown.names
    pub from : (q : ℕ) (entry : IdRecord) (caller : ℕ) → id_at grown.names q ≡ Some entry → entry.holder ≡ ByCaller caller → id_at control.names q ≡ Some entry
    pub live_inputs : AreLive grown.names inputs
    pub read_inputs : each (tree_of grown.names) inputs ≡ trees
    pub live : AreLive grown.names grown.chunks
    pub read : each (tree_of grown.names) grown.chunks ≡ made
    pub own : (q : ℕ) (entry : IdRecord) → id_at grown.names q ≡ Some entry → entry.holder ≡ ByTask gone
        → (id_at control.names q ≡ Some entry) ⊎ IsIn (Held (record { owner = entry.owner; number = q })) grown.chunks
    pub held : (r : Ref) → IsIn r grown.chunks → IsRefOf grown.names (ByTask gone) r
    pub up : control.drawn ≤ grown.drawn

  one_chunk : (grown : Grown C) (made : List (Tree C)) → ChunkStage grown made → (content : C) (places : List Place) → ((p : ℕ) (place : Place) → slice_get places p ≡ Some place → IsNear place)
      → length places ≡ arity content → ChunkStage (chunk_more worker gone inputs content places grown) (made ++ rooted content (each (reading trees made []) places) ∷ [])
  one_chunk grown made stage content places near many =
      let state : NameState C = grown.names in
      let drawn : ℕ = grown.drawn in
      let sound = stage.middle.sound in
      let within = stage.middle.within in
      let refs : List Ref = each (ref_named state inputs grown.chunks) places in
      let reads = places_read arity state inputs grown.chunks sound stage.live_inputs stage.live places near in
      let after : NameState C = names.registered state drawn (ByTask gone) worker content refs in
      let are_more : AreMore state after = more-registered state drawn (ByTask gone) worker content refs within in
      let entry : IdRecord = record { owner = worker; body = drawn + 1; holder = ByTask gone } in
      let id : Id = record { owner = worker; number = drawn + 2 } in
      let few = present_few state inputs grown.chunks places in
      record {
        middle =
            middle_more arity gone (with_grown grown) stage.middle after (drawn + 2 + taken places) (omega arith) are_more
            (sound-registered arity state drawn (ByTask gone) worker content refs sound within tt reads.0 (length_each (ref_named state inputs grown.chunks) places ∙ many))
            (reached_registered state drawn gone worker content refs within stage.middle.reached)
            (within-more after (drawn + 2 + present refs) (drawn + 2 + taken places) (registered-within state drawn (ByTask gone) worker content refs within) (omega arith))
            (λ q e is. elim (naming-from state drawn (ByTask gone) worker content refs within reads.0 q e is) [
              | inl was ↦ inl was
              | inr new ↦ elim new [
                | inl first ↦ inr (let at = first.0 in omega arith, λ t held. task_is t gone (sym held ∙ ap (λ (n : IdRecord). n.holder) first.1))
                | inr copy ↦
                    inr (
                      let high = numbered_above (drawn + 2) refs copy.2 (record { owner = copy.0.owner; number = q }) copy.5 in omega arith,
                      λ t held. absurd (let clash : ByTask t ≡ ByBody (drawn + 1) = sym held ∙ ap (λ (n : IdRecord). n.holder) copy.4 in cc),
                    )
              ]
            ]);
        keeps = record {
          ids = λ q e is. are_more.ids q e (stage.keeps.ids q e is);
          bodies = λ q b is. are_more.bodies q b (stage.keeps.bodies q b is);
        };
        from = λ q e caller is held. elim (naming-from state drawn (ByTask gone) worker content refs within reads.0 q e is) [
          | inl was ↦ stage.from q e caller was held
          | inr new ↦ elim new [
            | inl first ↦ absurd (let clash : ByCaller caller ≡ ByTask gone = sym held ∙ ap (λ (n : IdRecord). n.holder) first.1 in cc)
            | inr copy ↦ absurd (let clash : ByCaller caller ≡ ByBody (drawn + 1) = sym held ∙ ap (λ (n : IdRecord). n.holder) copy.4 in cc)
          ]
        ];
        live_inputs = all-live-kept state after inputs are_more.ids stage.live_inputs;
        read_inputs = trees_kept arity state after sound are_more inputs stage.live_inputs ∙ stage.read_inputs;
        live =
            live_more after grown.chunks (Held id) (all-live-kept state after grown.chunks are_more.ids stage.live)
            (ap is_some (number-naming after id entry (new-naming state drawn (ByTask gone) worker content refs within) refl));
        read =
            each_more (tree_of after) grown.chunks (Held id)
            ∙ (let old = trees_kept arity state after sound are_more grown.chunks stage.live ∙ stage.read in
            let given = stage.read_inputs in
            let before = stage.read in
            let new : tree_of after (Held id) ≡ rooted content (each (reading trees made []) places) =
            tree-registered arity state drawn (ByTask gone) worker content refs sound within reads.0
            ∙ ap (rooted content) (reads.1 ∙ (λ i. each (reading (given i) (before i) []) places)) in
            λ i. old i ++ new i ∷ []);
        own = λ q e is held. elim (naming-from state drawn (ByTask gone) worker content refs within reads.0 q e is) [
          | inl was ↦ elim (stage.own q e was held) [
            | inl old ↦ inl old
            | inr among ↦ inr (in_left (Held (record { owner = e.owner; number = q })) grown.chunks (Held id ∷ []) among)
          ]
          | inr new ↦ elim new [
            | inl first ↦
                let number = first.0 in
                let owner : e.owner ≡ worker = ap (λ (n : IdRecord). n.owner) first.1 in
                inr (in_right (Held (record { owner = e.owner; number = q })) grown.chunks (Held id ∷ []) (inl (λ i. Held (record { owner = owner i; number = number i }))))
            | inr copy ↦ absurd (let clash : ByTask gone ≡ ByBody (drawn + 1) = sym held ∙ ap (λ (n : IdRecord). n.holder) copy.4 in cc)
          ]
        ];
        held = λ r among. elim (in_either r grown.chunks (Held id ∷ []) among) [
          | inl old ↦ ref_more state after (ByTask gone) r are_more (stage.held r old)
          | inr new ↦ elim new [
            | inl here ↦ subst (IsRefOf after (ByTask gone)) (sym here) (entry_held after (ByTask gone) id entry (new-naming state drawn (ByTask gone) worker content refs within) refl refl)
            | inr never ↦ absurd never
          ]
        ];
        up = let low = stage.up in omega arith;
      }

  abbrev body_of : NewChunk C → C
  body_of chunk = chunk.body

  abbrev children_of : NewChunk C → Places
  children_of chunk = chunk.children

  -- all new chunks
  pub all_chunks : (chunks : List (NewChunk C)) (grown : Grown C) (made : List (Tree C)) → ChunkStage grown made
      → ((i : ℕ) (chunk : NewChunk C) → slice_get chunks i ≡ Some chunk → IsGoodChunk arity chunk)
      → ChunkStage (chunks_more worker gone inputs (each body_of chunks) (each children_of chunks) grown) (in_order (chunk_tree trees) made chunks)
  all_chunks [] grown made stage good = stage
  all_chunks (chunk ∷ chunks) grown made stage good =
      let one = good 0 chunk refl in
      all_chunks chunks (chunk_more worker gone inputs chunk.body (places_of chunk.children) grown) (made ++ chunk_tree trees made chunk ∷ [])
      (one_chunk grown made stage chunk.body (places_of chunk.children) one.near one.many) (λ i other at. good (suc i) other at)

  -- how many numbers they draw
  pub chunks_draw : (chunks : List (NewChunk C)) (grown : Grown C)
      → (chunks_more worker gone inputs (each body_of chunks) (each children_of chunks) grown).drawn ≡ grown.drawn + drawn_by_chunks (each children_of chunks)
  chunks_draw [] grown = omega arith
  chunks_draw (chunk ∷ chunks) grown =
      let rest = chunks_draw chunks (chunk_more worker gone inputs chunk.body (places_of chunk.children) grown) in omega arith
