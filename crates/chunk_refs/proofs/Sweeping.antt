-- One step of a deletion after another, down to what is reached.
use Rattle.std.proofs.Common.{◌≡◌, ℕ, zero, suc, cond, List, [], ◌∷◌, Some, None, is_some, refl, sym, ap, subst, ◌∙◌}
use Rattle.std.specs.Prelude.{slice_get}
use Rattle.std.specs.Cmp.{nat_cmp_total}
use Rattle.std.specs.FinMap as map
use Rattle.cht_ids.specs.declared.refs.Id.{Id}
use Rattle.cht_ids.specs.declared.refs.Ref.{Ref}
use Rattle.cht_ids.specs.declared.refs.Ref.TheVariants.{Null, Id as Held}
use Rattle.name_states.specs.declared.holder.Holder.{Holder}
use Rattle.name_states.specs.declared.holder.Holder.TheVariants.{Caller, Task, Body}
use Rattle.name_states.specs.States.{NameState, IdRecord, BodyRecord, id_at, body_at}
use Rattle.name_states.specs.Steps.{without_id, without_body}
use Rattle.name_states.specs.Reached.{IsReached, is_reached, is_kept, swept}
use Rattle.name_states.specs.Rules.{IsSound, AreReached}
use Rattle.name_states.specs.Reached.{IsHeldUp}
use Rattle.chunk_refs.specs.Deleting.{IsPartial, IsTaken, without_refs}
use Rattle.name_states.proofs.Basics.{same_some, none_not_some, same_options, removed_from, removed_other}
use Rattle.name_states.proofs.Reaching.{reached-by, reached-from-test, reached-to-test, reached-more}
use Rattle.name_states.proofs.Swept.{cond-some, naming_at-swept, body_at-swept, up-to-keep, up-from-keep, kept-naming}

-- no reference of these has a number
abbrev AreOther : List Ref → ℕ → Type 0
AreOther refs number = (j : ℕ) (id : Id) → slice_get refs j ≡ Some (Held id) → id.number ≡ number → ⊥

other-null : (refs : List Ref) (number : ℕ) → AreOther refs number → AreOther (Null ∷ refs) number
other-null refs number other zero id at same = let clash : Some Null ≡ Some (Held id) = at in cc
other-null refs number other (suc j) id at same = other j id at same

other-held : (first : Id) (refs : List Ref) (number : ℕ) → (first.number ≡ number → ⊥) → AreOther refs number → AreOther (Held first ∷ refs) number
other-held first refs number apart other zero id at same = apart (let heads : Held first ≡ Held id = same_some (Held first) (Held id) at in let ids : first ≡ id = cc in ap (λ (x : Id). x.number) ids ∙ same)
other-held first refs number apart other (suc j) id at same = other j id at same

same-body : (a b : ℕ) → Body a ≡ Body b → a ≡ b
same-body a b same = cc

module _ {C : Type 0} where
  bodies-without_refs : (names : NameState C) (refs : List Ref) → (without_refs names refs).bodies ≡ names.bodies
  bodies-without_refs names [] = refl
  bodies-without_refs names (Null ∷ refs) = bodies-without_refs names refs
  bodies-without_refs names (Held id ∷ refs) = bodies-without_refs (without_id names id.number) refs

  -- an identifier that is left was there, and is not among the references
  left-was : (names : NameState C) (refs : List Ref) (number : ℕ) (naming : IdRecord) → id_at (without_refs names refs) number ≡ Some naming
      → (id_at names number ≡ Some naming) × AreOther refs number
  left-was names [] number naming is = (is, λ j id at same. none_not_some refl at)
  left-was names (Null ∷ refs) number naming is =
      let rest = left-was names refs number naming is in
      (rest.0, other-null refs number rest.1)
  left-was names (Held id ∷ refs) number naming is =
      let rest = left-was (without_id names id.number) refs number naming is in
      let was = removed_from names.ids id.number number naming rest.0 in
      (was.1, other-held id refs number (λ same. was.0 (sym same)) rest.1)

  -- and the other way round
  left-is : (names : NameState C) (refs : List Ref) (number : ℕ) (naming : IdRecord) → id_at names number ≡ Some naming → AreOther refs number
      → id_at (without_refs names refs) number ≡ Some naming
  left-is names [] number naming is apart = is
  left-is names (Null ∷ refs) number naming is apart = left-is names refs number naming is (λ j id at. apart (suc j) id at)
  left-is names (Held id ∷ refs) number naming is apart =
      left-is (without_id names id.number) refs number naming (removed_other names.ids id.number number (λ same. apart 0 id refl (sym same)) ∙ is) (λ j other at. apart (suc j) other at)

  -- after one step: what was left, and what is left
  pub taken-naming : (before after : NameState C) (taken : IsTaken before after) (number : ℕ) (naming : IdRecord) → id_at after number ≡ Some naming
      → (id_at before number ≡ Some naming) × AreOther taken.1.children number
  taken-naming before after taken number naming is =
      left-was (without_body before taken.0) taken.1.children number naming (ap (λ (n : NameState C). id_at n number) (sym taken.4) ∙ is)

  pub naming-left : (before after : NameState C) (taken : IsTaken before after) (number : ℕ) (naming : IdRecord) → id_at before number ≡ Some naming → AreOther taken.1.children number
      → id_at after number ≡ Some naming
  naming-left before after taken number naming is other =
      ap (λ (n : NameState C). id_at n number) taken.4 ∙ left-is (without_body before taken.0) taken.1.children number naming is other

  pub body_at-taken : (before after : NameState C) (taken : IsTaken before after) (number : ℕ) → body_at after number ≡ map.get (map.remove before.bodies taken.0) number
  body_at-taken before after taken number =
      ap (λ (n : NameState C). body_at n number) taken.4 ∙ ap (λ b. map.get b number) (bodies-without_refs (without_body before taken.0) taken.1.children)

  pub taken-body : (before after : NameState C) (taken : IsTaken before after) (number : ℕ) (body : BodyRecord C) → body_at after number ≡ Some body
      → (number ≡ taken.0 → ⊥) × (body_at before number ≡ Some body)
  taken-body before after taken number body is = removed_from before.bodies taken.0 number body (sym (body_at-taken before after taken number) ∙ is)

  pub body-left : (before after : NameState C) (taken : IsTaken before after) (number : ℕ) (body : BodyRecord C) → body_at before number ≡ Some body → (number ≡ taken.0 → ⊥)
      → body_at after number ≡ Some body
  body-left before after taken number body is apart = body_at-taken before after taken number ∙ removed_other before.bodies taken.0 number apart ∙ is

  -- an identifier that another body than the one taken holds is no child of that one
  other-holder : (arity : C → ℕ) (before after : NameState C) (taken : IsTaken before after) (number : ℕ) (naming : IdRecord) → IsSound arity before → id_at before number ≡ Some naming
      → (naming.holder ≡ Body taken.0 → ⊥) → AreOther taken.1.children number
  other-holder arity before after taken number naming sound is apart j id at same =
      let by = sound.children taken.0 taken.1 j id taken.2 at in
      apart (ap (λ (n : IdRecord). n.holder) (same_some naming by.0 (sym is ∙ ap (id_at before) (sym same) ∙ by.1)) ∙ by.3)

  -- the rules hold after one step
  pub sound-taken : (arity : C → ℕ) (before after : NameState C) → IsSound arity before → IsTaken before after → IsSound arity after
  sound-taken arity before after sound taken = record {
    named = λ number naming is.
        let was = taken-naming before after taken number naming is in
        let body = sound.named number naming was.0 in
        (body.0, body-left before after taken naming.body body.0 body.1 (taken.3 number naming was.0), body.2);
    children = λ number body j id there at.
        let was = taken-body before after taken number body there in
        let by = sound.children number body j id was.1 at in
        (by.0, naming-left before after taken id.number by.0 by.1 (other-holder arity before after taken id.number by.0 sound by.1 (λ held. was.0 (same-body number taken.0 (sym by.3 ∙ held)))), by.2, by.3, by.4);
    held = λ number naming holder is held.
        let was = taken-naming before after taken number naming is in
        let child = sound.held number naming holder was.0 held in (
          child.0,
          child.1,
          body-left before after taken holder child.0 child.2 (λ same.
              was.1 child.1 (record { owner = naming.owner; number = number })
              (ap (λ (b : BodyRecord C). slice_get b.children child.1) (same_some taken.1 child.0 (sym taken.2 ∙ ap (body_at before) (sym same) ∙ child.2)) ∙ child.3) refl),
          child.3,
        );
    all_children = λ number body there. sound.all_children number body (taken-body before after taken number body there).1;
  }

  -- a deletion begins
  pub partial-start : (arity : C → ℕ) (names : NameState C) → IsSound arity names → IsPartial arity names names
  partial-start arity names sound = record {
    sound = sound;
    ids = λ number naming is. is;
    bodies = λ number body is. is;
    ids_stay = λ number naming is up. is;
    bodies_stay = λ number body is reached. is;
  }

  -- what is taken out was not reached
  unreached : (arity : C → ℕ) (before now after : NameState C) → IsPartial arity before now → (taken : IsTaken now after) → IsReached before taken.0 → ⊥
  unreached arity before now after partial taken reached =
      let by = reached-by before taken.0 reached in
      taken.3 by.0 by.1 (partial.ids_stay by.0 by.1 by.2 by.4) by.3

  not-up : (arity : C → ℕ) (before now after : NameState C) → IsPartial arity before now → (taken : IsTaken now after) → (holder : Holder) → IsHeldUp before holder → holder ≡ Body taken.0 → ⊥
  not-up arity before now after partial taken holder up held = unreached arity before now after partial taken (subst (IsHeldUp before) held up)

  -- a deletion goes on
  pub partial-step : (arity : C → ℕ) (before now after : NameState C) → IsPartial arity before now → IsTaken now after → IsPartial arity before after
  partial-step arity before now after partial taken = record {
    sound = sound-taken arity now after partial.sound taken;
    ids = λ number naming is. partial.ids number naming (taken-naming now after taken number naming is).0;
    bodies = λ number body is. partial.bodies number body (taken-body now after taken number body is).1;
    ids_stay = λ number naming is up.
        let still = partial.ids_stay number naming is up in
        naming-left now after taken number naming still (other-holder arity now after taken number naming partial.sound still (not-up arity before now after partial taken naming.holder up));
    bodies_stay = λ number body is reached.
        body-left now after taken number body (partial.bodies_stay number body is reached) (λ same. unreached arity before now after partial taken (subst (IsReached before) same reached));
  }

  -- an identifier that is left is held up
  left-up : (arity : C → ℕ) (before now : NameState C) → IsPartial arity before now → AreReached now → (number : ℕ) (naming : IdRecord) → id_at now number ≡ Some naming
      → (holder : Holder) → naming.holder ≡ holder → IsHeldUp before holder
  left-up arity before now partial reached number naming is (Caller caller) held = tt
  left-up arity before now partial reached number naming is (Task task) held = tt
  left-up arity before now partial reached number naming is (Body holder) held =
      reached-more now before holder partial.ids (reached holder (ap is_some (partial.sound.held number naming holder is held).2))

  same-ids : (arity : C → ℕ) (before now : NameState C) → IsSound arity before → IsPartial arity before now → AreReached now → (number : ℕ) → id_at now number ≡ id_at (swept before) number
  same-ids arity before now sound partial reached number =
      same_options (id_at now number) (id_at (swept before) number)
      (λ naming is.
      let was = partial.ids number naming is in
      naming_at-swept before number
      ∙ ap (λ b. cond b (id_at before number) None) (kept-naming before (id_at before number) naming was ∙ up-to-keep arity before naming.holder sound (left-up arity before now partial reached number naming is naming.holder refl))
      ∙ was)
      (λ naming is.
      let both = cond-some (is_kept before (id_at before number)) (id_at before number) naming (sym (naming_at-swept before number) ∙ is) in
      partial.ids_stay number naming both.1 (up-from-keep before naming.holder (sym (kept-naming before (id_at before number) naming both.1) ∙ both.0)))

  same-bodies : (arity : C → ℕ) (before now : NameState C) → IsSound arity before → IsPartial arity before now → AreReached now → (number : ℕ) → body_at now number ≡ body_at (swept before) number
  same-bodies arity before now sound partial reached number =
      same_options (body_at now number) (body_at (swept before) number)
      (λ body is.
      body_at-swept before number
      ∙ ap (λ b. cond b (body_at before number) None) (reached-to-test arity before number sound (reached-more now before number partial.ids (reached number (ap is_some is))))
      ∙ partial.bodies number body is)
      (λ body is.
      let both = cond-some (is_reached before number) (body_at before number) body (sym (body_at-swept before number) ∙ is) in
      partial.bodies_stay number body both.1 (reached-from-test before number both.0))

  -- a deletion that has come to where all is reached has left exactly what was reached
  pub partial-end : (arity : C → ℕ) (before now : NameState C) → IsSound arity before → IsPartial arity before now → AreReached now → now ≡ swept before
  partial-end arity before now sound partial reached =
      let ids = map.same_map nat_cmp_total map.nat_cmp-IsAntisymmetric now.ids (swept before).ids (same-ids arity before now sound partial reached) in
      let bodies = map.same_map nat_cmp_total map.nat_cmp-IsAntisymmetric now.bodies (swept before).bodies (same-bodies arity before now sound partial reached) in
      λ i. record { ids = ids i; bodies = bodies i }
