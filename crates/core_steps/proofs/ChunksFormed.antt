-- The new chunks of an outcome that is formed can be registered where a finish begins: each place that is not null names something.
use Rattle.std.proofs.Common.{◌≡◌, ℕ, zero, suc, ◌+◌, ◌<◌, true, false, List, [], ◌∷◌, ◌++◌, map as each, slice_get, Option, None, Some, refl, sym, ap, subst, ◌∙◌, ltb-true, arith}
use Rattle.std.specs.Option.{option_map}
use Rattle.std.specs.List.{list_all}
use Rattle.cht_ids.specs.declared.refs.Id.{Id}
use Rattle.cht_ids.specs.declared.refs.Ref.{Ref}
use Rattle.cht_ids.specs.declared.refs.Ref.TheVariants.{Null as NullRef, Id as Held}
use Rattle.task_types.specs.declared.outcome.Place.{Place}
use Rattle.task_types.specs.declared.outcome.Place.TheVariants.{Null, Input as AtInput, Child, Chunk, Task}
use Rattle.task_types.specs.declared.outcome.NewChunk.{NewChunk}
use Rattle.task_types.specs.declared.outcome.Outcome.{Outcome}
use Rattle.task_types.specs.Presence.{Presence, is_present, has_child, presence_at}
use Rattle.task_types.specs.Places.{places_of}
use Rattle.task_types.specs.Formed.{may_stand, IsFormedChunk}
use Rattle.task_types.proofs.FormedTest.{both_left, both_right}
use Rattle.name_states.specs.declared.holder.Holder.TheVariants.{Task as ByTask}
use Rattle.name_states.specs.States.{NameState, IdRecord, BodyRecord, record_of, body_at, body_named, children_in, IsLiveRef, AreLive}
use Rattle.name_states.specs.Steps.{drawn_by, present, registered}
use Rattle.name_states.specs.Rules.{IsSound, AreWithin}
use Rattle.name_states.specs.WithoutContents.{without_content, without_contents}
use Rattle.name_states.proofs.Basics.{some_value}
use Rattle.name_states.proofs.Values.{get_each_value}
use Rattle.name_states.proofs.Within.{AreMore, naming_of-kept, naming-number}
use Rattle.name_states.proofs.Sound.{more-registered, registered-within}
use Rattle.task_states.specs.States.{Input, Known, Awaits, Unfinished}
use Rattle.name_machine.specs.Control.{Control, Grown, ref_at, ref_known, child_named, ref_named, chunk_more, with_chunks}
use Rattle.name_machine.specs.NewTasks.{drawn_for, taken}
use Rattle.name_machine.specs.Replay.{is_held, presence_of_ref}
use Rattle.name_machine.proofs.Orderly.{input_is_live}
use Rattle.name_machine.proofs.FinishNamesRead.{live_at}
use Rattle.core_steps.specs.Conditions.{presences, bodies_of}
use Rattle.core_steps.specs.Begin.{CanFinish}
use Rattle.core_steps.specs.Registrable.{grown_so_far, children_places, AreRegistrable, all_grown}

-- ---- What is known of inputs

presence_each : (names : NameState ℕ) (inputs : List (Input Ref)) (i : ℕ)
    → presence_at (each (λ input. presence_of_ref names (ref_known input)) inputs) i ≡ presence_of_ref names (ref_at (each ref_known inputs) i)
presence_each names [] i = refl
presence_each names (input ∷ inputs) zero = refl
presence_each names (input ∷ inputs) (suc i) = presence_each names inputs i

present_held : (names : NameState ℕ) (r : Ref) → is_present (presence_of_ref names r) ≡ true → is_held r ≡ true
present_held names NullRef is = is
present_held names (Held id) is = refl

child_held : (names : NameState ℕ) (r : Ref) (j : ℕ) → has_child (presence_of_ref names r) j ≡ true → is_held (child_named names r j) ≡ true
child_held names NullRef j is = is
child_held names (Held id) zero is = is
child_held names (Held id) (suc zero) is = is
child_held names (Held id) (suc (suc zero)) is = is
child_held names (Held id) (suc (suc (suc zero))) is = is
child_held names (Held id) (suc (suc (suc (suc j)))) is = absurd (let clash : false ≡ true = is in cc)

held_draws : (r : Ref) → is_held r ≡ true → drawn_by r ≡ 1
held_draws NullRef is = absurd (let clash : false ≡ true = is in cc)
held_draws (Held id) is = refl

-- ---- So many references, none of which is null

abbrev AreHeld : ℕ → List Ref → Type 0
AreHeld zero [] = Unit {0}
AreHeld zero (r ∷ refs) = ⊥
AreHeld (suc n) [] = ⊥
AreHeld (suc n) (r ∷ refs) = (is_held r ≡ true) × AreHeld n refs

held_more : (n : ℕ) (refs : List Ref) (id : Id) → AreHeld n refs → AreHeld (suc n) (refs ++ Held id ∷ [])
held_more zero [] id held = (refl, tt)
held_more zero (r ∷ refs) id held = absurd held
held_more (suc n) [] id held = absurd held
held_more (suc n) (r ∷ refs) id held = (held.0, held_more n refs id held.1)

held_at : (n i : ℕ) (refs : List Ref) → AreHeld n refs → i < n → is_held (ref_at refs i) ≡ true
held_at zero i refs held low = absurd (omega arith)
held_at (suc n) i [] held low = absurd held
held_at (suc n) zero (r ∷ refs) held low = held.0
held_at (suc n) (suc i) (r ∷ refs) held low = held_at n i refs held.1 (omega arith)

module _ {C : Type 0} where
  -- ---- Children without contents, and as names grow

  children_same : (arity : C → ℕ) (o : Option (BodyRecord C)) → children_in (option_map (without_content arity) o) ≡ children_in o
  children_same arity None = refl
  children_same arity (Some body) = refl

  named_same : (arity : C → ℕ) (names : NameState C) (o : Option IdRecord) → children_in (body_named (without_contents arity names) o) ≡ children_in (body_named names o)
  named_same arity names None = refl
  named_same arity names (Some entry) = ap children_in (get_each_value (without_content arity) names.bodies entry.body) ∙ children_same arity (body_at names entry.body)

  child_without : (arity : C → ℕ) (names : NameState C) (r : Ref) (j : ℕ) → child_named (without_contents arity names) r j ≡ child_named names r j
  child_without arity names NullRef j = refl
  child_without arity names (Held id) j = ap (λ refs. ref_at refs j) (named_same arity names (record_of names id))

  child_kept : (arity : C → ℕ) (names more : NameState C) → IsSound arity names → AreMore names more → (r : Ref) (j : ℕ) → IsLiveRef names r → child_named more r j ≡ child_named names r j
  child_kept arity names more sound are_more NullRef j live = refl
  child_kept arity names more sound are_more (Held id) j live =
      let found = some_value (record_of names id) live in
      let leads = sound.named id.number found.0 (naming-number names id found.0 found.1).0 in
      let now : body_named more (record_of more id) ≡ Some leads.0 =
      ap (body_named more) (naming_of-kept names more id are_more.ids live ∙ found.1) ∙ are_more.bodies found.0.body leads.0 leads.1 in
      let was : body_named names (record_of names id) ≡ Some leads.0 = ap (body_named names) found.1 ∙ leads.1 in
      ap (λ o. ref_at (children_in o) j) (now ∙ sym was)

module _ {C K : Type 0} (arity : C → ℕ) (control : Control C (Unit {0}) K) (worker task : ℕ) (ran : Unfinished Ref K) (outcome : Outcome C K) (can : CanFinish arity control worker task ran outcome) where
  abbrev inputs : List Ref
  inputs = each ref_known ran.inputs

  abbrev known : List Presence
  known = presences arity control ran

  all_live : (given : List (Input Ref)) → ((p : ℕ) (r : Ref) → slice_get given p ≡ Some (Known r) → IsLiveRef control.names r) → AreLive control.names (each ref_known given)
  all_live [] live = tt
  all_live (Known r ∷ given) live = (live 0 r refl, all_live given (λ p s at. live (suc p) s at))
  all_live (Awaits awaited number ∷ given) live = (tt, all_live given (λ p s at. live (suc p) s at))

  inputs_live : AreLive control.names inputs
  inputs_live = all_live ran.inputs (λ p r at. input_is_live arity control can.orderly task p ran r can.there at)

  -- ---- Places

  -- names with the chunks so far
  record AreFurther (earlier : ℕ) (grown : Grown C) : Type 0 where
    more : AreMore control.names grown.names
    within : AreWithin grown.names grown.drawn
    held : AreHeld earlier grown.chunks

  place_draws : (earlier : ℕ) (grown : Grown C) → AreFurther earlier grown → (place : Place) → may_stand known earlier 0 place ≡ true
      → drawn_by (ref_named grown.names inputs grown.chunks place) ≡ drawn_for place
  place_draws earlier grown further Null is = refl
  place_draws earlier grown further (AtInput i) is =
      let bare : NameState ℕ = without_contents arity control.names in
      held_draws (ref_at inputs i) (present_held bare (ref_at inputs i) (ap is_present (sym (presence_each bare ran.inputs i)) ∙ is))
  place_draws earlier grown further (Child i j) is =
      let bare : NameState ℕ = without_contents arity control.names in
      let r : Ref = ref_at inputs i in
      held_draws (child_named grown.names r j)
      (ap is_held (child_kept arity control.names grown.names can.orderly.sound further.more r j (live_at control.names inputs i inputs_live) ∙ sym (child_without arity control.names r j))
      ∙ child_held bare r j (ap (λ presence. has_child presence j) (sym (presence_each bare ran.inputs i)) ∙ is))
  place_draws earlier grown further (Chunk i) is = held_draws (ref_at grown.chunks i) (held_at earlier i grown.chunks further.held (ltb-true i earlier is))
  place_draws earlier grown further (Task i) is = absurd (let low = ltb-true i 0 is in omega arith)

  places_draw : (earlier : ℕ) (grown : Grown C) → AreFurther earlier grown → (places : List Place) → list_all (may_stand known earlier 0) places ≡ true
      → present (each (ref_named grown.names inputs grown.chunks) places) ≡ taken places
  places_draw earlier grown further [] all = refl
  places_draw earlier grown further (place ∷ places) all =
      let head = place_draws earlier grown further place (both_left (may_stand known earlier 0 place) (list_all (may_stand known earlier 0) places) all) in
      let tail = places_draw earlier grown further places (both_right (may_stand known earlier 0 place) (list_all (may_stand known earlier 0) places) all) in
      λ i. head i + tail i

  -- ---- Chunks

  further_more : (earlier : ℕ) (grown : Grown C) → AreFurther earlier grown → (content : C) (places : List Place)
      → present (each (ref_named grown.names inputs grown.chunks) places) ≡ taken places → AreFurther (suc earlier) (chunk_more worker task inputs content places grown)
  further_more earlier grown further content places there =
      let refs : List Ref = each (ref_named grown.names inputs grown.chunks) places in
      let step = more-registered grown.names grown.drawn (ByTask task) worker content refs further.within in
      record {
        more = record {
          ids = λ q entry is. step.ids q entry (further.more.ids q entry is);
          bodies = λ q body is. step.bodies q body (further.more.bodies q body is);
        };
        within =
            subst (λ n. AreWithin (registered grown.names grown.drawn (ByTask task) worker content refs) (grown.drawn + 2 + n)) there
            (registered-within grown.names grown.drawn (ByTask task) worker content refs further.within);
        held = held_more earlier grown.chunks (record { owner = worker; number = grown.drawn + 2 }) further.held;
      }

  all_registrable : (chunks : List (NewChunk C)) (earlier : ℕ) (grown : Grown C) → AreFurther earlier grown
      → ((i number : ℕ) (chunk : NewChunk C) → slice_get chunks i ≡ Some chunk → number ≡ earlier + i → IsFormedChunk arity known number chunk)
      → AreRegistrable arity worker task inputs chunks grown
  all_registrable [] earlier grown further formed = tt
  all_registrable (chunk ∷ chunks) earlier grown further formed =
      let first = formed 0 earlier chunk refl (omega arith) in
      let there = places_draw earlier grown further (places_of chunk.children) first.places.each in (
        record { few = first.places.few; all_children = first.all_children; there = there },
        all_registrable chunks (suc earlier) (chunk_more worker task inputs chunk.body (places_of chunk.children) grown)
            (further_more earlier grown further chunk.body (places_of chunk.children) there)
            (λ i number other at same. formed (suc i) number other at (omega arith)),
      )

  -- What a finish knows when it registers its chunks, over names, a number of numbers that were drawn, and the references of the inputs.
  pub record ChunksCanGrow (names : NameState C) (drawn : ℕ) (held : List Ref) : Type 0 where
    pub live : AreLive names held
    pub formed : AreRegistrable arity worker task held outcome.chunks (grown_so_far names drawn [])
    pub within : AreWithin names drawn
    pub grown : all_grown worker task held outcome.chunks (grown_so_far names drawn [])
        ≡ with_chunks control worker task inputs (bodies_of outcome) (children_places outcome.chunks)

  chunks_begin : ChunksCanGrow control.names control.drawn inputs
  chunks_begin = record {
    live = inputs_live;
    formed =
        all_registrable outcome.chunks 0 (grown_so_far control.names control.drawn [])
        (record { more = record { ids = λ q entry is. is; bodies = λ q body is. is }; within = can.orderly.within; held = tt })
        (λ i number chunk at same. subst (λ n. IsFormedChunk arity known n chunk) (omega arith) (can.formed.chunks_formed i chunk at));
    within = can.orderly.within;
    grown = refl;
  }

  -- so where these are those of a control state in which a finish begins
  pub chunks_can_grow : (names : NameState C) (drawn : ℕ) (held : List Ref) → control.names ≡ names → control.drawn ≡ drawn → inputs ≡ held → ChunksCanGrow names drawn held
  chunks_can_grow names drawn held same_names same_drawn same_inputs =
      subst (λ n. ChunksCanGrow n drawn held) same_names
      (subst (λ d. ChunksCanGrow control.names d held) same_drawn
      (subst (λ refs. ChunksCanGrow control.names control.drawn refs) same_inputs chunks_begin))
