-- When to sweep: at the end is enough, and where all is reached nothing goes.
use Rattle.std.proofs.Common.{◌≡◌, ℕ, Some, None, is_some, IsSome, true, refl, sym, ap, subst, ◌∙◌}
use Rattle.std.specs.Cmp.{nat_cmp_total}
use Rattle.std.specs.FinMap as map
use Rattle.name_states.specs.declared.holder.Holder.{Holder}
use Rattle.name_states.specs.declared.holder.Holder.TheVariants.{Caller, Task, Body}
use Rattle.name_states.specs.States.{NameState, IdRecord, id_at, body_at}
use Rattle.name_states.specs.Steps.{IsOutside, copied, without_id}
use Rattle.name_states.specs.Reached.{IsReached, Outside, Inside, IsHeldUp, swept}
use Rattle.name_states.specs.Rules.{IsSound, AreReached}
use Rattle.name_states.proofs.Basics.{some_value, same_options, removed_from, removed_other}
use Rattle.name_states.proofs.Reaching.{LeadsDown, sound-down, reached-from, reached-more, up-more, up_from_outside}
use Rattle.name_states.proofs.Sound.{sound-copied}
use Rattle.name_states.proofs.Swept.{id-left, id-kept, body-left, body-kept}

module _ {C : Type 0} where
  -- states with the same look-ups are the same
  pub same_state : (one other : NameState C) → ((q : ℕ) → id_at one q ≡ id_at other q) → ((q : ℕ) → body_at one q ≡ body_at other q) → one ≡ other
  same_state one other same_ids same_bodies =
      let ids = map.same_map nat_cmp_total map.nat_cmp-IsAntisymmetric one.ids other.ids same_ids in
      let bodies = map.same_map nat_cmp_total map.nat_cmp-IsAntisymmetric one.bodies other.bodies same_bodies in
      λ i. record { ids = ids i; bodies = bodies i }

  -- ending an identifier leaves what leads down leading down, and so does sweeping
  down-without : (names : NameState C) (number : ℕ) → LeadsDown names → LeadsDown (without_id names number)
  down-without names number down = record {
    there = λ q entry is. down.there q entry (removed_from names.ids number q entry is).1;
    below = λ q entry holder is held. down.below q entry holder (removed_from names.ids number q entry is).1 held;
  }

  there-swept : (names : NameState C) (number : ℕ) → LeadsDown names → IsSome (body_at names number) → IsReached names number → IsSome (body_at (swept names) number)
  there-swept names number down there reached =
      elim (body_at names number) as (λ found. body_at names number ≡ found → is_some found ≡ true → IsSome (body_at (swept names) number)) [
        | None ↦ λ is some. absurd (cc)
        | Some body ↦ λ is some. ap is_some (body-kept names down number body is reached)
      ] refl there

  down-swept : (names : NameState C) → LeadsDown names → LeadsDown (swept names)
  down-swept names down = record {
    there = λ q entry is.
        let was = id-left names q entry is in
        there-swept names entry.body down (down.there q entry was.0) (reached-from names q entry was.0 was.1);
    below = λ q entry holder is held. down.below q entry holder (id-left names q entry is).0 held;
  }

  module _ (names : NameState C) (number : ℕ) (down : LeadsDown names) where
    -- an identifier that is held up after an end of another one stays in a sweep before that end
    stays : (q : ℕ) (entry : IdRecord) → id_at (without_id names number) q ≡ Some entry → IsHeldUp (without_id names number) entry.holder
        → id_at (without_id (swept names) number) q ≡ Some entry
    stays q entry is up =
        let was = removed_from names.ids number q entry is in
        removed_other (swept names).ids number q was.0
        ∙ id-kept names down q entry was.1 (up-more (without_id names number) names entry.holder (λ n other at. (removed_from names.ids number n other at).1) up)

    fewer : (q : ℕ) (entry : IdRecord) → id_at (without_id (swept names) number) q ≡ Some entry → id_at (without_id names number) q ≡ Some entry
    fewer q entry is =
        let was = removed_from (swept names).ids number q entry is in
        removed_other names.ids number q was.0 ∙ (id-left names q entry was.1).0

    -- so the same bodies are reached
    reached-still : (body : ℕ) → IsReached (without_id names number) body → IsReached (without_id (swept names) number) body
    reached-still body (Outside q entry is outside) =
        Outside q entry (stays q entry is (up_from_outside (without_id names number) entry.holder outside)) outside
    reached-still body (Inside q entry holder is held reached) =
        Inside q entry holder (stays q entry is (subst (IsHeldUp (without_id names number)) (sym held) reached)) held (reached-still holder reached)

    up-still : (holder : Holder) → IsHeldUp (without_id names number) holder → IsHeldUp (without_id (swept names) number) holder
    up-still (Caller caller) up = tt
    up-still (Task task) up = tt
    up-still (Body body) up = reached-still body up

    reached-was : (body : ℕ) → IsReached (without_id (swept names) number) body → IsReached (without_id names number) body
    reached-was body reached = reached-more (without_id (swept names) number) (without_id names number) body fewer reached

    pub once-down : swept (without_id (swept names) number) ≡ swept (without_id names number)
    once-down =
        let early = without_id (swept names) number in
        let late = without_id names number in
        let down-late = down-without names number down in
        let down-early = down-without (swept names) number (down-swept names down) in
        same_state (swept early) (swept late)
        (λ q. same_options (id_at (swept early) q) (id_at (swept late) q)
        (λ entry is.
        let was = id-left early q entry is in
        id-kept late down-late q entry (fewer q entry was.0) (up-more early late entry.holder fewer was.1))
        (λ entry is.
        let was = id-left late q entry is in
        id-kept early down-early q entry (stays q entry was.0 was.1) (up-still entry.holder was.1)))
        (λ q. same_options (body_at (swept early) q) (body_at (swept late) q)
        (λ body is.
        let was = body-left early q body is in
        body-kept late down-late q body (body-left names q body was.0).0 (reached-was q was.1))
        (λ body is.
        let was = body-left late q body is in
        body-kept early down-early q body
        (body-kept names down q body was.0 (reached-more late names q (λ n other at. (removed_from names.ids number n other at).1) was.1))
        (reached-still q was.1)))

  pub swept_once : (arity : C → ℕ) (names : NameState C) (number : ℕ) → IsSound arity names
      → swept (without_id (swept names) number) ≡ swept (without_id names number)
  swept_once arity names number sound = once-down names number (sound-down arity names sound)

  -- where all is reached every identifier is held up
  all-up : (arity : C → ℕ) (names : NameState C) → IsSound arity names → AreReached names
      → (q : ℕ) (entry : IdRecord) → id_at names q ≡ Some entry → (holder : Holder) → entry.holder ≡ holder → IsHeldUp names holder
  all-up arity names sound reached q entry is (Caller caller) held = tt
  all-up arity names sound reached q entry is (Task task) held = tt
  all-up arity names sound reached q entry is (Body holder) held =
      reached holder (ap is_some (sound.held q entry holder is held).2)

  pub nothing_goes : (arity : C → ℕ) (names : NameState C) → IsSound arity names → AreReached names → swept names ≡ names
  nothing_goes arity names sound reached =
      let down = sound-down arity names sound in
      same_state (swept names) names
      (λ q. same_options (id_at (swept names) q) (id_at names q)
      (λ entry is. (id-left names q entry is).0)
      (λ entry is. id-kept names down q entry is (all-up arity names sound reached q entry is entry.holder refl)))
      (λ q. same_options (body_at (swept names) q) (body_at names q)
      (λ body is. (body-left names q body is).0)
      (λ body is. body-kept names down q body is (reached q (ap is_some is))))

  reached-swept : (names : NameState C) → LeadsDown names → (body : ℕ) → IsReached names body → IsReached (swept names) body
  reached-swept names down body (Outside q entry is outside) =
      Outside q entry (id-kept names down q entry is (up_from_outside names entry.holder outside)) outside
  reached-swept names down body (Inside q entry holder is held reached) =
      Inside q entry holder (id-kept names down q entry is (subst (IsHeldUp names) (sym held) reached)) held (reached-swept names down holder reached)

  -- what a sweep leaves is reached
  pub all-reached-swept : (arity : C → ℕ) (names : NameState C) → IsSound arity names → AreReached (swept names)
  all-reached-swept arity names sound number there =
      let body = some_value (body_at (swept names) number) there in
      reached-swept names (sound-down arity names sound) number (body-left names number body.0 body.1).1

  -- a sweep keeps the rules
  pub sound-swept : (arity : C → ℕ) (names : NameState C) → IsSound arity names → IsSound arity (swept names)
  sound-swept arity names sound =
      let down = sound-down arity names sound in
      record {
        named = λ q entry is.
            let was = id-left names q entry is in
            let body = sound.named q entry was.0 in
            (body.0, body-kept names down entry.body body.0 body.1 (reached-from names q entry was.0 was.1), body.2);
        children = λ q body j id there at.
            let was = body-left names q body there in
            let by = sound.children q body j id was.0 at in
            (by.0, id-kept names down id.number by.0 by.1 (subst (IsHeldUp names) (sym by.3) was.1), by.2, by.3, by.4);
        held = λ q entry holder is held.
            let was = id-left names q entry is in
            let child = sound.held q entry holder was.0 held in
            (child.0, child.1, body-kept names down holder child.0 child.2 (subst (IsHeldUp names) held was.1), child.3);
        all_children = λ q body there. sound.all_children q body (body-left names q body there).0;
      }

  -- a copy of a live identifier keeps the rules
  pub copy-keeps : (arity : C → ℕ) (names : NameState C) (from number : ℕ) (holder : Holder) → IsSound arity names → IsOutside holder → IsSome (id_at names from) → id_at names number ≡ None
      → IsSound arity (copied names from number holder)
  copy-keeps arity names from number holder sound outside live free =
      let source = some_value (id_at names from) live in
      sound-copied arity names from number holder source.0 sound outside source.1 free
