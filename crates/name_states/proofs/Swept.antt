-- What a sweep leaves, number by number.
use Rattle.std.proofs.Common.{◌≡◌, ℕ, Bool, true, false, cond, Option, Some, None, refl, sym, ap, ◌∙◌}
use Rattle.std.specs.FinMap as map
use Rattle.name_states.specs.declared.holder.Holder.{Holder}
use Rattle.name_states.specs.declared.holder.Holder.TheVariants.{Caller, Task, Body}
use Rattle.name_states.specs.States.{NameState, IdRecord, BodyRecord, id_at, body_at}
use Rattle.name_states.specs.Reached.{IsReached, IsHeldUp, keeps_up, is_reached, is_kept, swept}
use Rattle.name_states.specs.Rules.{IsSound}
use Rattle.name_states.proofs.Basics.{none_not_some}
use Rattle.name_states.proofs.Reaching.{LeadsDown, sound-down, reached-finds, reached-from-test}

-- which side of a choice holds a value
pub cond-some : {X : Type 0} (b : Bool) (x : Option X) (v : X) → cond b x None ≡ Some v → (b ≡ true) × (x ≡ Some v)
cond-some true x v is = (refl, is)
cond-some false x v is = absurd (none_not_some refl is)

module _ {C : Type 0} where
  pub up-keeps : (names : NameState C) (holder : Holder) → LeadsDown names → IsHeldUp names holder → keeps_up (is_reached names) holder ≡ true
  up-keeps names (Caller caller) down up = refl
  up-keeps names (Task task) down up = refl
  up-keeps names (Body body) down up = reached-finds names body down up

  pub up-to-keep : (arity : C → ℕ) (names : NameState C) (holder : Holder) → IsSound arity names → IsHeldUp names holder → keeps_up (is_reached names) holder ≡ true
  up-to-keep arity names holder sound up = up-keeps names holder (sound-down arity names sound) up

  pub up-from-keep : (names : NameState C) (holder : Holder) → keeps_up (is_reached names) holder ≡ true → IsHeldUp names holder
  up-from-keep names (Caller caller) keeps = tt
  up-from-keep names (Task task) keeps = tt
  up-from-keep names (Body body) keeps = reached-from-test names body keeps

  pub kept-naming : (names : NameState C) (found : Option IdRecord) (naming : IdRecord) → found ≡ Some naming → is_kept names found ≡ keeps_up (is_reached names) naming.holder
  kept-naming names found naming is = ap (is_kept names) is

  -- what a sweep leaves, key by key
  pub body_at-swept : (names : NameState C) (number : ℕ) → body_at (swept names) number ≡ cond (is_reached names number) (body_at names number) None
  body_at-swept names number = map.get-retain_keys names.bodies (is_reached names) number (λ x tied. ap (is_reached names) (sym (map.nat_cmp-IsAntisymmetric number x tied)))

  pub naming_at-swept : (names : NameState C) (number : ℕ) → id_at (swept names) number ≡ cond (is_kept names (id_at names number)) (id_at names number) None
  naming_at-swept names number =
      map.get-retain_keys names.ids (λ n. is_kept names (id_at names n)) number (λ x tied. ap (λ n. is_kept names (id_at names n)) (sym (map.nat_cmp-IsAntisymmetric number x tied)))

  -- what stays is held up, and what is held up stays
  pub id-left : (names : NameState C) (q : ℕ) (entry : IdRecord) → id_at (swept names) q ≡ Some entry → (id_at names q ≡ Some entry) × IsHeldUp names entry.holder
  id-left names q entry is =
      let both = cond-some (is_kept names (id_at names q)) (id_at names q) entry (sym (naming_at-swept names q) ∙ is) in
      (both.1, up-from-keep names entry.holder (sym (kept-naming names (id_at names q) entry both.1) ∙ both.0))

  pub id-kept : (names : NameState C) → LeadsDown names → (q : ℕ) (entry : IdRecord) → id_at names q ≡ Some entry → IsHeldUp names entry.holder → id_at (swept names) q ≡ Some entry
  id-kept names down q entry is up =
      naming_at-swept names q
      ∙ ap (λ b. cond b (id_at names q) None) (kept-naming names (id_at names q) entry is ∙ up-keeps names entry.holder down up)
      ∙ is

  pub body-left : (names : NameState C) (q : ℕ) (body : BodyRecord C) → body_at (swept names) q ≡ Some body → (body_at names q ≡ Some body) × IsReached names q
  body-left names q body is =
      let both = cond-some (is_reached names q) (body_at names q) body (sym (body_at-swept names q) ∙ is) in
      (both.1, reached-from-test names q both.0)

  pub body-kept : (names : NameState C) → LeadsDown names → (q : ℕ) (body : BodyRecord C) → body_at names q ≡ Some body → IsReached names q → body_at (swept names) q ≡ Some body
  body-kept names down q body is reached =
      body_at-swept names q ∙ ap (λ b. cond b (body_at names q) None) (reached-finds names q down reached) ∙ is
