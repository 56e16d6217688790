-- What a finished task holds: its inputs and its new chunks, each once.
use Rattle.std.proofs.Common.{◌≡◌, ℕ, zero, suc, ◌+◌, ◌<◌, ◌≤◌, ◌⊎◌, inl, inr, List, [], ◌∷◌, ◌++◌, map as each, length, slice_get, Some, is_some, refl, sym, ap, ◌∙◌, arith}
use Rattle.cht_ids.specs.declared.refs.Id.{Id}
use Rattle.cht_ids.specs.declared.refs.Ref.{Ref}
use Rattle.cht_ids.specs.declared.refs.Ref.TheVariants.{Null, Id as Held}
use Rattle.task_types.specs.declared.outcome.NewChunk.{NewChunk}
use Rattle.task_types.specs.declared.outcome.Outcome.{Outcome}
use Rattle.task_types.specs.declared.outcome.Places.{Places}
use Rattle.task_types.specs.Places.{places_of}
use Rattle.name_states.specs.declared.holder.Holder.TheVariants.{Task as ByTask}
use Rattle.name_states.specs.States.{NameState, IdRecord, id_at}
use Rattle.name_states.proofs.Basics.{none_not_some, same_some}
use Rattle.name_states.proofs.Within.{AreMore}
use Rattle.task_states.specs.States.{Input, Known, Awaits, Unfinished}
use Rattle.name_machine.specs.Control.{Control, Grown, ref_known, chunk_more, chunks_more}
use Rattle.name_machine.specs.NewTasks.{taken}
use Rattle.name_machine.proofs.Ends.{inputs_at}
use Rattle.name_machine.proofs.Orderly.{held_entry}
use Rattle.name_machine.proofs.FinishNames.{IsIn}
use Rattle.name_machine.proofs.FinishMiddle.{ref_more}
use Rattle.core_steps.specs.Begin.{CanFinish}
use Rattle.core_steps.specs.Ending.{HoldsExactly}
use Rattle.core_steps.proofs.Course as course
use Rattle.core_steps.proofs.Endings.{number_from}

-- ---- Lists behind each other

module _ {X : Type 0} where
  in_place : (xs : List X) (p : ℕ) (x : X) → slice_get xs p ≡ Some x → IsIn x xs
  in_place [] p x is = absurd (none_not_some refl is)
  in_place (y ∷ xs) zero x is = inl (sym (same_some y x is))
  in_place (y ∷ xs) (suc p) x is = inr (in_place xs p x is)

  pub either_place : (xs ys : List X) (p : ℕ) (x : X) → slice_get (xs ++ ys) p ≡ Some x
      → (slice_get xs p ≡ Some x) ⊎ ((o : ℕ) × (p ≡ length xs + o) × (slice_get ys o ≡ Some x))
  either_place [] ys p x is = inr (p, omega arith, is)
  either_place (y ∷ xs) ys zero x is = inl is
  either_place (y ∷ xs) ys (suc p) x is = elim (either_place xs ys p x is) [
    | inl first ↦ inl first
    | inr second ↦ (let e = second.1 in inr (second.0, omega arith, second.2))
  ]

-- the numbers of references are above one number and up to another, and each stands once
record Rise (low high : ℕ) (refs : List Ref) : Type 0 where
  pub within : (p : ℕ) (id : Id) → slice_get refs p ≡ Some (Held id) → (low < id.number) × (id.number ≤ high)
  pub once : (p q : ℕ) (one two : Id) → slice_get refs p ≡ Some (Held one) → slice_get refs q ≡ Some (Held two) → one.number ≡ two.number → p ≡ q

held_same : (one two : Id) → Held one ≡ Held two → one.number ≡ two.number
held_same one two same = let ids : one ≡ two = cc in ap (λ (i : Id). i.number) ids

one_place : (r s : Ref) (o : ℕ) → slice_get (r ∷ []) o ≡ Some s → (o ≡ 0) × (r ≡ s)
one_place r s zero is = (refl, same_some r s is)
one_place r s (suc o) is = absurd (none_not_some refl is)

rise_more : (low high next : ℕ) (refs : List Ref) (id : Id) → Rise low high refs → low ≤ high → high < id.number → id.number ≤ next → Rise low next (refs ++ Held id ∷ [])
rise_more low high next refs id rise up above below = record {
  within = λ p one is. elim (either_place refs (Held id ∷ []) p (Held one) is) [
    | inl old ↦ (let was = rise.within p one old in let a = was.0 in let b = was.1 in (omega arith, omega arith))
    | inr new ↦ (let same = held_same id one (one_place (Held id) (Held one) new.0 new.2).1 in (omega arith, omega arith))
  ];
  once = λ p q one two is at same. elim (either_place refs (Held id ∷ []) p (Held one) is) [
    | inl old ↦ elim (either_place refs (Held id ∷ []) q (Held two) at) [
      | inl rest ↦ rise.once p q one two old rest same
      | inr new ↦ absurd (
          let two_is = held_same id two (one_place (Held id) (Held two) new.0 new.2).1 in
          let low_one = (rise.within p one old).1 in
          omega arith)
    ]
    | inr first ↦ elim (either_place refs (Held id ∷ []) q (Held two) at) [
      | inl rest ↦ absurd (
          let one_is = held_same id one (one_place (Held id) (Held one) first.0 first.2).1 in
          let low_two = (rise.within q two rest).1 in
          omega arith)
      | inr new ↦ (
          let p_is = first.1 in
          let q_is = new.1 in
          let p_end = (one_place (Held id) (Held one) first.0 first.2).0 in
          let q_end = (one_place (Held id) (Held two) new.0 new.2).0 in
          omega arith)
    ]
  ];
}

module _ {C : Type 0} (worker task : ℕ) (inputs : List Ref) where
  chunks_rise : (contents : List C) (chunks : List Places) (grown : Grown C) (low : ℕ) → low ≤ grown.drawn → Rise low grown.drawn grown.chunks
      → Rise low (chunks_more worker task inputs contents chunks grown).drawn (chunks_more worker task inputs contents chunks grown).chunks
  chunks_rise contents [] grown low up rise = rise
  chunks_rise [] (places ∷ chunks) grown low up rise = rise
  chunks_rise (content ∷ contents) (places ∷ chunks) grown low up rise =
      chunks_rise contents chunks (chunk_more worker task inputs content (places_of places) grown) low (omega arith)
      (rise_more low grown.drawn (grown.drawn + 2 + taken (places_of places)) grown.chunks (record { owner = worker; number = grown.drawn + 2 }) rise up (omega arith) (omega arith))

-- a known input is the reference in its place
known_at : (inputs : List (Input Ref)) (p : ℕ) (id : Id) → slice_get (each ref_known inputs) p ≡ Some (Held id) → slice_get inputs p ≡ Some (Known (Held id))
known_at [] p id is = absurd (none_not_some refl is)
known_at (Known r ∷ inputs) zero id is = ap (λ x. Some (Known x)) (same_some r (Held id) is)
known_at (Awaits task number ∷ inputs) zero id is = absurd (let clash : Null ≡ Held id = same_some Null (Held id) is in cc)
known_at (input ∷ inputs) (suc p) id is = known_at inputs p id is

module _ {C K : Type 0} (arity : C → ℕ) (control : Control C (Unit {0}) K) (worker task : ℕ) (ran : Unfinished Ref K) (outcome : Outcome C K)
    (can : CanFinish arity control worker task ran outcome) where
  abbrev refs : List Ref
  refs = course.inputs arity control worker task ran outcome can ++ (course.grown arity control worker task ran outcome can).chunks

  rises : Rise control.drawn (course.grown arity control worker task ran outcome can).drawn (course.grown arity control worker task ran outcome can).chunks
  rises =
      chunks_rise worker task (each ref_known ran.inputs) (each (λ (chunk : NewChunk C). chunk.body) outcome.chunks) (each (λ (chunk : NewChunk C). chunk.children) outcome.chunks)
      (record { names = control.names; drawn = control.drawn; chunks = [] }) control.drawn (omega arith)
      (record { within = λ p id is. absurd (none_not_some refl is); once = λ p q one two is at same. absurd (none_not_some refl is) })

  input_low : (p : ℕ) (id : Id) → slice_get (each ref_known ran.inputs) p ≡ Some (Held id) → id.number ≤ control.drawn
  input_low p id is =
      let held = can.orderly.held.inputs task p (Held id) (inputs_at control.graph task p ran can.there ∙ known_at ran.inputs p id is) in
      let entry = held_entry control.names (ByTask task) id held in
      can.orderly.within.ids id.number (ap is_some entry.1)

  once : (p q : ℕ) (one two : Id) → slice_get refs p ≡ Some (Held one) → slice_get refs q ≡ Some (Held two) → one.number ≡ two.number → p ≡ q
  once p q one two is at same = elim (either_place (each ref_known ran.inputs) (course.grown arity control worker task ran outcome can).chunks p (Held one) is) [
    | inl old ↦ elim (either_place (each ref_known ran.inputs) (course.grown arity control worker task ran outcome can).chunks q (Held two) at) [
      | inl rest ↦
          can.orderly.held.apart task p q one two (inputs_at control.graph task p ran can.there ∙ known_at ran.inputs p one old)
          (inputs_at control.graph task q ran can.there ∙ known_at ran.inputs q two rest) same
      | inr new ↦ absurd (let low = input_low p one old in let high = (rises.within new.0 two new.2).0 in omega arith)
    ]
    | inr first ↦ elim (either_place (each ref_known ran.inputs) (course.grown arity control worker task ran outcome can).chunks q (Held two) at) [
      | inl rest ↦ absurd (let low = input_low q two rest in let high = (rises.within first.0 one first.2).0 in omega arith)
      | inr new ↦ (let e = rises.once first.0 new.0 one two first.2 new.2 same in let a = first.1 in let b = new.1 in omega arith)
    ]
  ]

  -- In names that have more, where the task holds no more, it holds its inputs and its new chunks, each once.
  pub exact : (names : NameState C) → AreMore (course.second arity control worker task ran outcome can).names names
      → ((q : ℕ) (entry : IdRecord) → id_at names q ≡ Some entry → entry.holder ≡ ByTask task → id_at (course.second arity control worker task ran outcome can).names q ≡ Some entry)
      → HoldsExactly names task refs
  exact names greater own = record {
    held = λ p id is. ref_more (course.second arity control worker task ran outcome can).names names (ByTask task) (Held id) greater (course.listed_held arity control worker task ran outcome can (Held id) (in_place refs p (Held id) is));
    once = once;
    all = λ q entry is held.
        let at = number_from q refs (course.held_listed arity control worker task ran outcome can q entry (own q entry is held) held) in
        let mine = ref_more (course.second arity control worker task ran outcome can).names names (ByTask task) (Held at.1) greater (course.listed_held arity control worker task ran outcome can (Held at.1) (in_place refs at.0 (Held at.1) at.2)) in
        let its = held_entry names (ByTask task) at.1 mine in
        let same : its.0 ≡ entry = same_some its.0 entry (sym its.1 ∙ ap (id_at names) at.3 ∙ is) in
        let owner : at.1.owner ≡ entry.owner = sym its.2 ∙ ap (λ (e : IdRecord). e.owner) same in
        let id_is : at.1 ≡ record { owner = entry.owner; number = q } = (λ i. record { owner = owner i; number = at.3 i }) in
        (at.0, at.2 ∙ ap (λ i. Some (Held i)) id_is);
  }
