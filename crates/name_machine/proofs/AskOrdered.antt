-- An ask leaves a control state in order.
use Rattle.std.proofs.Common.{◌≡◌, ℕ, zero, suc, ◌+◌, ◌<◌, ◌≤◌, ◌⊎◌, inl, inr, List, [], ◌∷◌, map as each, slice_get, None, Some, refl, sym, ap, subst, ◌∙◌, arith}
use Rattle.std.specs.FinMap as map
use Rattle.cht_ids.specs.declared.refs.Id.{Id}
use Rattle.cht_ids.specs.declared.refs.Ref.{Ref}
use Rattle.cht_ids.specs.declared.refs.Ref.TheVariants.{Null, Id as Held}
use Rattle.name_states.specs.declared.holder.Holder.{Holder}
use Rattle.name_states.specs.declared.holder.Holder.TheVariants.{Caller, Task}
use Rattle.name_states.specs.States.{NameState, IdRecord, id_at, AreLive}
use Rattle.name_states.specs.Steps.{present, numbered, linked}
use Rattle.name_states.specs.Rules.{AreWithin}
use Rattle.name_states.proofs.Basics.{none_not_some, same_some, same_or_not, inserted_here, inserted_other, inserted_from}
use Rattle.name_states.proofs.Within.{AreMore, within-more, unnamed-next}
use Rattle.name_states.proofs.Copies.{AreCopies, linked-copies, linked-from, linked-within}
use Rattle.task_states.specs.States.{Input, Known, Awaits, Unfinished, task_at, input_at}
use Rattle.task_states.specs.Steps.{added}
use Rattle.name_machine.specs.States.{Ask}
use Rattle.name_machine.specs.Control.{Control, ask_event}
use Rattle.name_machine.specs.Standing.{IsRefOf, AwaitsUnder, IsOrderly}
use Rattle.name_machine.proofs.Linking.{sound_linked, more_linked, reached_linked}
use Rattle.name_machine.proofs.Orderly.{entry_held, ref_kept}
use Rattle.name_machine.proofs.Ordered.{none_if, input_in, inputs_unchanged, input_from}

-- numbers of copies rise
pub numbered_above : (drawn : ℕ) (refs : List Ref) (p : ℕ) (id : Id) → slice_get (numbered drawn refs) p ≡ Some (Held id) → drawn < id.number
numbered_above drawn [] p id is = absurd (none_not_some refl is)
numbered_above drawn (Null ∷ refs) zero id is = absurd (let clash : Null ≡ Held id = same_some Null (Held id) is in cc)
numbered_above drawn (Null ∷ refs) (suc p) id is = let rest = numbered_above (drawn + 0) refs p id is in omega arith
numbered_above drawn (Held child ∷ refs) zero id is =
    let new : Id = record { owner = child.owner; number = drawn + 1 } in
    let same : Held new ≡ Held id = same_some (Held new) (Held id) is in
    let one : new ≡ id = cc in
    let number : drawn + 1 ≡ id.number = ap (λ (i : Id). i.number) one in
    omega arith
numbered_above drawn (Held child ∷ refs) (suc p) id is = let rest = numbered_above (drawn + 1) refs p id is in omega arith

first_number : (drawn : ℕ) (child id : Id) → Some (Held (record { owner = child.owner; number = drawn + 1 })) ≡ Some (Held id) → id.number ≡ drawn + 1
first_number drawn child id is =
    let new : Id = record { owner = child.owner; number = drawn + 1 } in
    let same : Held new ≡ Held id = same_some (Held new) (Held id) is in
    let one : new ≡ id = cc in
    sym (ap (λ (i : Id). i.number) one)

-- no two copies have one number
pub numbered_apart : (drawn : ℕ) (refs : List Ref) (p q : ℕ) (one two : Id) → slice_get (numbered drawn refs) p ≡ Some (Held one) → slice_get (numbered drawn refs) q ≡ Some (Held two)
    → one.number ≡ two.number → p ≡ q
numbered_apart drawn [] p q one two is at same = absurd (none_not_some refl is)
numbered_apart drawn (Null ∷ refs) zero q one two is at same = absurd (let clash : Null ≡ Held one = same_some Null (Held one) is in cc)
numbered_apart drawn (Null ∷ refs) (suc p) zero one two is at same = absurd (let clash : Null ≡ Held two = same_some Null (Held two) at in cc)
numbered_apart drawn (Null ∷ refs) (suc p) (suc q) one two is at same = ap suc (numbered_apart (drawn + 0) refs p q one two is at same)
numbered_apart drawn (Held child ∷ refs) zero zero one two is at same = refl
numbered_apart drawn (Held child ∷ refs) zero (suc q) one two is at same =
    absurd (let a = first_number drawn child one is in let b = numbered_above (drawn + 1) refs q two at in omega arith)
numbered_apart drawn (Held child ∷ refs) (suc p) zero one two is at same =
    absurd (let a = first_number drawn child two at in let b = numbered_above (drawn + 1) refs p one is in omega arith)
numbered_apart drawn (Held child ∷ refs) (suc p) (suc q) one two is at same = ap suc (numbered_apart (drawn + 1) refs p q one two is at same)

-- a known input among references
pub known_at : (refs : List Ref) (p : ℕ) (r : Ref) → slice_get (each Known refs) p ≡ Some (Known r) → slice_get refs p ≡ Some r
known_at [] p r is = absurd (none_not_some refl is)
known_at (own ∷ refs) zero r is = let same : Known own ≡ Known r = same_some _ _ is in let one : own ≡ r = cc in ap Some one
known_at (own ∷ refs) (suc p) r is = known_at refs p r is

pub at_known : (refs : List Ref) (p : ℕ) (r : Ref) → slice_get refs p ≡ Some r → slice_get (each Known refs) p ≡ Some (Known r)
at_known [] p r is = absurd (none_not_some refl is)
at_known (own ∷ refs) zero r is = ap Some (ap Known (same_some own r is))
at_known (own ∷ refs) (suc p) r is = at_known refs p r is

pub known_awaits : (refs : List Ref) (p a n : ℕ) → slice_get (each Known refs) p ≡ Some (Awaits a n) → ⊥
known_awaits [] p a n is = none_not_some refl is
known_awaits (own ∷ refs) zero a n is = let clash : Known own ≡ Awaits a n = same_some _ _ is in cc
known_awaits (own ∷ refs) (suc p) a n is = known_awaits refs p a n is

-- copies are held by whom they are made for
pub copies_held : {C : Type 0} (before after : NameState C) (holder : Holder) (refs own : List Ref) → AreCopies before after holder refs own → (p : ℕ) (r : Ref) → slice_get own p ≡ Some r → IsRefOf after holder r
copies_held before after holder [] [] copies p r is = absurd (none_not_some refl is)
copies_held before after holder [] (own ∷ more) copies p r is = absurd copies
copies_held before after holder (Null ∷ refs) [] copies p r is = absurd copies
copies_held before after holder (Null ∷ refs) (Null ∷ own) copies zero r is = subst (IsRefOf after holder) (same_some Null r is) tt
copies_held before after holder (Null ∷ refs) (Null ∷ own) copies (suc p) r is = copies_held before after holder refs own copies p r is
copies_held before after holder (Null ∷ refs) (Held id ∷ own) copies p r is = absurd copies
copies_held before after holder (Held child ∷ refs) [] copies p r is = absurd copies
copies_held before after holder (Held child ∷ refs) (Null ∷ own) copies p r is = absurd copies
copies_held before after holder (Held child ∷ refs) (Held id ∷ own) copies zero r is =
    let c = copies.0 in
    subst (IsRefOf after holder) (same_some (Held id) r is) (entry_held after holder id (record c.0 { holder = holder }) c.4 (c.2 ∙ sym c.3) refl)
copies_held before after holder (Held child ∷ refs) (Held id ∷ own) copies (suc p) r is = copies_held before after holder refs own copies.1 p r is

module _ {C K : Type 0} (arity : C → ℕ) (control : Control C (Unit {0}) K) (orderly : IsOrderly arity control)
    (numbers : (q : ℕ) (t : Unfinished Ref K) → task_at control.graph q ≡ Some t → q ≤ control.drawn)
    (caller : ℕ) (kind : K) (inputs : List Ref) (live : AreLive control.names inputs) where
  abbrev number : ℕ
  number = control.drawn + 1

  abbrev out : ℕ
  out = control.drawn + 2 + present inputs

  abbrev more : NameState C
  more = linked control.names number (Task number) inputs

  abbrev own : List Ref
  own = numbered number inputs

  abbrev after : Control C (Unit {0}) K
  after = ask_event control caller tt kind inputs

  abbrev new : Unfinished Ref K
  new = record { caller = caller; kind = kind; inputs = each Known own; runner = None; asked = None }

  abbrev new_ask : Ask (Unit {0}) Ref
  new_ask = record { caller = caller; number = out; goal = tt; delivered = None }

  within : AreWithin control.names number
  within = within-more control.names control.drawn number orderly.within (omega arith)

  is_more : AreMore control.names more
  is_more = more_linked control.names number (Task number) inputs within

  -- ---- Inputs

  unchanged : (q p : ℕ) → input_at after.graph q p ≡ input_at (added control.graph number caller kind (each Known own)) q p
  unchanged q p = inputs_unchanged (added control.graph number caller kind (each Known own)) number (λ t. record t { asked = Some out }) (λ t. refl) q p

  new_inputs : (p : ℕ) → input_at after.graph number p ≡ slice_get (each Known own) p
  new_inputs p = unchanged number p ∙ ap (λ o. input_in o p) (inserted_here control.graph.tasks number number new new refl refl)

  old_inputs : (q p : ℕ) → (q ≡ number → ⊥) → input_at after.graph q p ≡ input_at control.graph q p
  old_inputs q p apart = unchanged q p ∙ ap (λ o. input_in o p) (inserted_other control.graph.tasks number q new apart)

  kept_input : (q p : ℕ) (input : Input Ref) → input_at control.graph q p ≡ Some input → input_at after.graph q p ≡ Some input
  kept_input q p input is =
      let t = input_from control.graph q p input is in
      let low = numbers q t.0 t.1 in
      old_inputs q p (λ same. omega arith) ∙ is

  input_was : (q p : ℕ) (input : Input Ref) → input_at after.graph q p ≡ Some input
      → ((q ≡ number) × (slice_get (each Known own) p ≡ Some input)) ⊎ ((q ≡ number → ⊥) × (input_at control.graph q p ≡ Some input))
  input_was q p input is =
      elim (same_or_not q number) [
        | inl same ↦ inl (same, sym (new_inputs p) ∙ ap (λ k. input_at after.graph k p) (sym same) ∙ is)
        | inr apart ↦ inr (apart, sym (old_inputs q p apart) ∙ is)
      ]

  awaits_was : (q p a n : ℕ) → input_at after.graph q p ≡ Some (Awaits a n) → input_at control.graph q p ≡ Some (Awaits a n)
  awaits_was q p a n is =
      elim (input_was q p (Awaits a n) is) [
        | inl here ↦ absurd (known_awaits own p a n here.1)
        | inr old ↦ old.1
      ]

  -- ---- Names

  from : (q : ℕ) (e : IdRecord) → id_at more q ≡ Some e → (id_at control.names q ≡ Some e)
      ⊎ ((number < q) × (e.holder ≡ Task number) × (p : ℕ) × (slice_get own p ≡ Some (Held (record { owner = e.owner; number = q }))))
  from q e is =
      elim (linked-from control.names control.names number (Task number) inputs within (λ n other at. at) live q e is) [
        | inl old ↦ inl old
        | inr copy ↦
            let owner : copy.0.owner ≡ e.owner = sym (ap (λ (x : IdRecord). x.owner) copy.4) in
            inr (
              numbered_above number inputs copy.2 (record { owner = copy.0.owner; number = q }) copy.5,
              ap (λ (x : IdRecord). x.holder) copy.4,
              copy.2,
              copy.5 ∙ ap (λ o. Some (Held (record { owner = o; number = q }))) owner,
            )
      ]

  still_none : (q : ℕ) → q ≤ number → id_at control.names q ≡ None → id_at more q ≡ None
  still_none q low none = none_if (id_at more q) (λ e is. elim (from q e is) [
    | inl old ↦ none_not_some none old
    | inr copy ↦ (let high = copy.0 in omega arith)
  ])

  ask_was : (k : ℕ) (a : Ask (Unit {0}) Ref) → map.get after.asks k ≡ Some a → (a ≡ new_ask) ⊎ (map.get control.asks k ≡ Some a)
  ask_was k a is = elim (inserted_from control.asks number k new_ask a is) [ inl here ↦ inl here.1 | inr old ↦ inr old.1 ]

  pub ask_order : IsOrderly arity (ask_event control caller tt kind inputs)
  ask_order = record {
    sound = sound_linked arity control.names number (Task number) inputs orderly.sound within tt live;
    reached = reached_linked control.names number (Task number) inputs within orderly.reached;
    within = within-more more (number + present inputs) out (linked-within control.names number (Task number) inputs within) (omega arith);
    held = record {
      inputs = λ task place r is. elim (input_was task place (Known r) is) [
        | inl here ↦
            subst (λ n. IsRefOf more (Task n) r) (sym here.0)
            (copies_held control.names more (Task number) inputs own (linked-copies control.names control.names number (Task number) inputs within (λ q e at. at) live) place r (known_at own place r here.1))
        | inr old ↦
            ref_kept control.names more (Task task) r (λ id e same at held. is_more.ids id.number e at) (orderly.held.inputs task place r old.1)
      ];
      apart = λ task place other one two is at same. elim (input_was task place (Known (Held one)) is) [
        | inl here ↦ elim (input_was task other (Known (Held two)) at) [
          | inl there ↦ numbered_apart number inputs place other one two (known_at own place (Held one) here.1) (known_at own other (Held two) there.1) same
          | inr old ↦ absurd (old.0 here.0)
        ]
        | inr old ↦ elim (input_was task other (Known (Held two)) at) [
          | inl there ↦ absurd (old.0 there.0)
          | inr also ↦ orderly.held.apart task place other one two old.1 also.1 same
        ]
      ];
      nothing_else = λ n task e is held. elim (from n e is) [
        | inl old ↦
            let was = orderly.held.nothing_else n task e old held in
            (was.0, kept_input task was.0 (Known (Held (record { owner = e.owner; number = n }))) was.1)
        | inr copy ↦
            let clash : Task number ≡ Task task = sym copy.1 ∙ held in
            let same : number ≡ task = cc in
            (copy.2, ap (λ k. input_at after.graph k copy.2) (sym same) ∙ new_inputs copy.2 ∙ at_known own copy.2 (Held (record { owner = e.owner; number = n })) copy.3)
      ];
      outputs = λ k a r is done. elim (ask_was k a is) [
        | inl here ↦ absurd (none_not_some (ap (λ b. b.delivered) here) done)
        | inr old ↦
            let was = orderly.held.outputs k a r old done in
            (ref_kept control.names more (Caller a.caller) r (λ id e same at held. is_more.ids id.number e at) was.0, was.1)
      ];
    };
    aside = record {
      inputs = λ n awaits.
          let was = orderly.aside.inputs n (awaits.0, awaits.1, awaits.2, awaits_was awaits.0 awaits.1 awaits.2 n awaits.3) in
          let low = was.0 in
          (omega arith, still_none n (omega arith) was.1);
      outputs = λ k a is none. elim (ask_was k a is) [
        | inl here ↦
            ap (id_at more) (ap (λ b. b.number) here)
            ∙ unnamed-next more (number + present inputs) out (linked-within control.names number (Task number) inputs within) (omega arith)
        | inr old ↦ (let low = orderly.aside.drawn k a old in still_none a.number (omega arith) (orderly.aside.outputs k a old none))
      ];
      drawn = λ k a is. elim (ask_was k a is) [
        | inl here ↦ (let n = ap (λ b. b.number) here in omega arith)
        | inr old ↦ (let low = orderly.aside.drawn k a old in omega arith)
      ];
      one_place = λ task place awaited other place_of_other by_other n is at.
          orderly.aside.one_place task place awaited other place_of_other by_other n (awaits_was task place awaited n is) (awaits_was other place_of_other by_other n at);
      unasked = λ k a is awaits.
          let was : AwaitsUnder control.graph a.number = (awaits.0, awaits.1, awaits.2, awaits_was awaits.0 awaits.1 awaits.2 a.number awaits.3) in
          elim (ask_was k a is) [
            | inl here ↦ (let low = (orderly.aside.inputs a.number was).0 in let n = ap (λ b. b.number) here in omega arith)
            | inr old ↦ orderly.aside.unasked k a old was
          ];
    };
  }
