-- Names without some identifiers that callers and tasks hold, before and after a sweep.
use Rattle.std.proofs.Common.{◌≡◌, ℕ, Bool, false, cond, not, Option, None, Some, sym, ap, subst, ◌∙◌}
use Rattle.std.specs.FinMap as map
use Rattle.name_states.specs.declared.holder.Holder.{Holder}
use Rattle.name_states.specs.declared.holder.Holder.TheVariants.{Body}
use Rattle.name_states.specs.States.{NameState, IdRecord, id_at}
use Rattle.name_states.specs.Steps.{IsOutside}
use Rattle.name_states.specs.Reached.{swept}
use Rattle.name_states.specs.Rules.{IsSound, AreReached}
use Rattle.name_states.proofs.Basics.{get_retained}
use Rattle.name_states.proofs.Reaching.{sound-down, up_from_outside}
use Rattle.name_states.proofs.Swept.{cond-some, id-left, id-kept, body-left}
use Rattle.name_states.proofs.SweptOnce.{all-reached-swept, sound-swept}
use Rattle.name_states.proofs.Within.{AreMore}
use Rattle.name_machine.specs.Control.{without_ids}
use Rattle.name_machine.proofs.Stand.{not_true}

module _ {C : Type 0} (names : NameState C) (goes : ℕ → Option IdRecord → Bool) where
  abbrev stay : ℕ → Bool
  stay number = not (goes number (id_at names number))

  -- what is left was there, and was not to go
  pub left_at : (q : ℕ) (e : IdRecord) → id_at (without_ids names goes) q ≡ Some e → (id_at names q ≡ Some e) × (goes q (Some e) ≡ false)
  left_at q e is =
      let both = cond-some (stay q) (id_at names q) e (sym (get_retained names.ids stay q) ∙ is) in
      (both.1, ap (goes q) (sym both.1) ∙ not_true (goes q (id_at names q)) both.0)

  -- what is not to go is left
  pub stays_at : (q : ℕ) (e : IdRecord) → id_at names q ≡ Some e → goes q (Some e) ≡ false → id_at (without_ids names goes) q ≡ Some e
  stays_at q e is fixed =
      get_retained names.ids stay q ∙ ap (λ b. cond (not b) (id_at names q) None) (ap (goes q) is ∙ fixed) ∙ is

  -- the rules hold still, where no body's identifier goes
  pub sound_without_ids : (arity : C → ℕ) → IsSound arity names → ((q : ℕ) (e : IdRecord) (body : ℕ) → e.holder ≡ Body body → goes q (Some e) ≡ false) → IsSound arity (without_ids names goes)
  sound_without_ids arity sound never = record {
    named = λ q e is. sound.named q e (left_at q e is).0;
    children = λ n body j id there at.
        let by = sound.children n body j id there at in
        (by.0, stays_at id.number by.0 by.1 (never id.number by.0 n by.3), by.2, by.3, by.4);
    held = λ q e holder is held. sound.held q e holder (left_at q e is).0 held;
    all_children = sound.all_children;
  }

-- what is swept of sound names that are fewer than others
module _ {C : Type 0} (arity : C → ℕ) (names base : NameState C) (sound : IsSound arity base) (fewer : (q : ℕ) (e : IdRecord) → id_at base q ≡ Some e → id_at names q ≡ Some e)
    (bodies_same : base.bodies ≡ names.bodies) where
  pub swept_sound : IsSound arity (swept base)
  swept_sound = sound-swept arity base sound

  pub swept_reached : AreReached (swept base)
  swept_reached = all-reached-swept arity base sound

  pub swept_fewer : AreMore (swept base) names
  swept_fewer = record {
    ids = λ q e is. fewer q e (id-left base q e is).0;
    bodies = λ q body is. ap (λ bodies. map.get bodies q) (sym bodies_same) ∙ (body-left base q body is).0;
  }

  -- what a caller or a task holds stays through a sweep
  pub outside_stays : (q : ℕ) (e : IdRecord) (holder : Holder) → id_at base q ≡ Some e → e.holder ≡ holder → IsOutside holder → id_at (swept base) q ≡ Some e
  outside_stays q e holder is held outside =
      id-kept base (sound-down arity base sound) q e is (up_from_outside base e.holder (subst IsOutside (sym held) outside))
