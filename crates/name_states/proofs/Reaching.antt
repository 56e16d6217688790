-- Which bodies are reached: the relation and the test agree, and where each body has an identifier all are reached.
use Rattle.std.proofs.Common.{◌≡◌, ℕ, zero, suc, ◌+◌, ◌<◌, ◌≤◌, ◌==◌, max, Bool, true, false, ◌&&◌, ◌||◌, ◌⊎◌, inl, inr, List, [], ◌∷◌, Option, Some, None, is_some, IsSome, refl, sym, ap, subst, ◌∙◌, arith}
use Rattle.std.specs.List.{list_any, fold}
use Rattle.std.specs.Ordering.{nat_cmp, eq_by_cmp}
use Rattle.std.specs.Cmp.{unsigned_tied}
use Rattle.std.specs.FinMap as map
use Rattle.name_states.specs.declared.holder.Holder.{Holder}
use Rattle.name_states.specs.declared.holder.Holder.TheVariants.{Caller, Task, Body}
use Rattle.name_states.specs.States.{NameState, IdRecord, id_at, body_at}
use Rattle.name_states.specs.Steps.{IsOutside}
use Rattle.name_states.specs.Reached.{IsReached, Outside, Inside, keeps_up, leads_up, is_reached_within, greatest_body, is_reached}
use Rattle.name_states.specs.Rules.{IsSound, AreReached}
use Rattle.name_states.specs.Reached.{IsHeldUp}
use Rattle.name_states.proofs.Basics.{same_some, same_from_test, test_same, one_of}

pub up_from_outside : {C : Type 0} (names : NameState C) (holder : Holder) → IsOutside holder → IsHeldUp names holder
up_from_outside names (Caller caller) outside = tt
up_from_outside names (Task task) outside = tt
up_from_outside names (Body body) outside = absurd outside

both_tests : (a b : Bool) → (a && b) ≡ true → (a ≡ true) × (b ≡ true)
both_tests true b is = (refl, is)
both_tests false b is = absurd (cc)

and_true : (a b : Bool) → a ≡ true → b ≡ true → (a && b) ≡ true
and_true a b p q = ap (λ x. x && b) p ∙ q

or_left : (a b : Bool) → a ≡ true → (a || b) ≡ true
or_left a b p = ap (λ x. x || b) p

or_right : (a b : Bool) → b ≡ true → (a || b) ≡ true
or_right true b p = refl
or_right false b p = p

any_passes : (test : ℕ → Bool) (keys : List ℕ) → list_any test keys ≡ true → (key : ℕ) × (test key ≡ true)
any_passes test [] is = absurd (cc)
any_passes test (key ∷ keys) is = elim (one_of (test key) (list_any test keys) is) [
  | inl here ↦ (key, here)
  | inr later ↦ any_passes test keys later
]

any_from : (test : ℕ → Bool) (keys : List ℕ) (key : ℕ) → list_any (eq_by_cmp nat_cmp key) keys ≡ true → test key ≡ true → list_any test keys ≡ true
any_from test [] key among is = absurd (cc)
any_from test (other ∷ keys) key among is = elim (one_of (eq_by_cmp nat_cmp key other) (list_any (eq_by_cmp nat_cmp key) keys) among) [
  | inl here ↦ or_left (test other) (list_any test keys) (ap test (sym (same_from_test key other (sym (unsigned_tied key other) ∙ here))) ∙ is)
  | inr later ↦ or_right (test other) (list_any test keys) (any_from test keys key later is)
]

-- the greatest number of a body
◌≤greatest : (es : List ℕ) (number most : ℕ) → most ≤ fold max most es × (list_any (eq_by_cmp nat_cmp number) es ≡ true → number ≤ fold max most es)
◌≤greatest [] number most = (omega arith, λ on. absurd (cc))
◌≤greatest (e ∷ es) number most =
    let rest = ◌≤greatest es number (max most e) in (
      omega (arith, rest.0),
      λ on. elim (one_of (eq_by_cmp nat_cmp number e) (list_any (eq_by_cmp nat_cmp number) es) on) [
        | inl here ↦ omega (arith, rest.0, same_from_test number e (sym (unsigned_tied number e) ∙ here))
        | inr later ↦ rest.1 later
      ],
    )

pub outside-passes : (passes : ℕ → Bool) (holder : Holder) → IsOutside holder → keeps_up passes holder ≡ true
outside-passes passes (Caller caller) outside = refl
outside-passes passes (Task task) outside = refl
outside-passes passes (Body body) outside = absurd outside

leads-naming : (passes : ℕ → Bool) (body : ℕ) (found : Option IdRecord) → leads_up passes body found ≡ true → (naming : IdRecord) × (found ≡ Some naming) × (naming.body ≡ body) × (keeps_up passes naming.holder ≡ true)
leads-naming passes body None is = absurd (cc)
leads-naming passes body (Some naming) is =
    let both = both_tests (naming.body == body) (keeps_up passes naming.holder) is in
    (naming, refl, same_from_test naming.body body both.0, both.1)

leads-here : (passes : ℕ → Bool) (found : Option IdRecord) (naming : IdRecord) → found ≡ Some naming → keeps_up passes naming.holder ≡ true → leads_up passes naming.body found ≡ true
leads-here passes found naming is up = ap (leads_up passes naming.body) is ∙ and_true (naming.body == naming.body) (keeps_up passes naming.holder) (test_same naming.body) up

up-to-test : (passes : ℕ → Bool) (holder : Holder) → ((body : ℕ) → holder ≡ Body body → passes body ≡ true) → keeps_up passes holder ≡ true
up-to-test passes (Caller caller) complete = refl
up-to-test passes (Task task) complete = refl
up-to-test passes (Body body) complete = complete body refl

-- a caller or a task, or a body
pub holder-kinds : (holder : Holder) → IsOutside holder ⊎ ((body : ℕ) × (holder ≡ Body body))
holder-kinds (Caller caller) = inl tt
holder-kinds (Task task) = inl tt
holder-kinds (Body body) = inr (body, refl)

module _ {C : Type 0} where
  -- how a body is reached
  pub reached-by : (names : NameState C) (body : ℕ) → IsReached names body → (number : ℕ) × (naming : IdRecord) × (id_at names number ≡ Some naming) × (naming.body ≡ body) × IsHeldUp names naming.holder
  reached-by names body (Outside number naming is outside) = (number, naming, is, refl, up_from_outside names naming.holder outside)
  reached-by names body (Inside number naming holder is held reached) = (number, naming, is, refl, subst (IsHeldUp names) (sym held) reached)

  -- an identifier that is held up reaches its body
  pub reached-from : (names : NameState C) (number : ℕ) (naming : IdRecord) → id_at names number ≡ Some naming → IsHeldUp names naming.holder → IsReached names naming.body
  reached-from names number naming is up =
      elim naming.holder as (λ holder. naming.holder ≡ holder → IsHeldUp names holder → IsReached names naming.body) [
        | Caller caller ↦ λ held reached. Outside number naming is (subst IsOutside (sym held) tt)
        | Task task ↦ λ held reached. Outside number naming is (subst IsOutside (sym held) tt)
        | Body holder ↦ λ held reached. Inside number naming holder is held reached
      ] refl up

  -- fewer names reach fewer bodies
  pub reached-more : (fewer more : NameState C) (body : ℕ) → ((number : ℕ) (naming : IdRecord) → id_at fewer number ≡ Some naming → id_at more number ≡ Some naming) → IsReached fewer body → IsReached more body
  reached-more fewer more body stays (Outside number naming is outside) = Outside number naming (stays number naming is) outside
  reached-more fewer more body stays (Inside number naming holder is held reached) = Inside number naming holder (stays number naming is) held (reached-more fewer more holder stays reached)

  pub up-more : (fewer more : NameState C) (holder : Holder) → ((number : ℕ) (naming : IdRecord) → id_at fewer number ≡ Some naming → id_at more number ≡ Some naming) → IsHeldUp fewer holder → IsHeldUp more holder
  up-more fewer more (Caller caller) stays up = tt
  up-more fewer more (Task task) stays up = tt
  up-more fewer more (Body body) stays up = reached-more fewer more body stays up

  pub body-within : (names : NameState C) (number : ℕ) → IsSome (body_at names number) → number ≤ greatest_body names
  body-within names number some = (◌≤greatest (map.keys names.bodies) number 0).1 (sym (map.contains_key-keys names.bodies number) ∙ some)

  up-from-test : (names : NameState C) (passes : ℕ → Bool) (holder : Holder) → ((body : ℕ) → passes body ≡ true → IsReached names body) → keeps_up passes holder ≡ true → IsHeldUp names holder
  up-from-test names passes (Caller caller) sound is = tt
  up-from-test names passes (Task task) sound is = tt
  up-from-test names passes (Body body) sound is = sound body is

  reached-within : (depth : ℕ) (names : NameState C) (body : ℕ) → is_reached_within depth names body ≡ true → IsReached names body
  reached-within zero names body is = absurd (cc)
  reached-within (suc depth) names body is =
      let key = any_passes (λ number. leads_up (is_reached_within depth names) body (id_at names number)) (map.keys names.ids) is in
      let found = leads-naming (is_reached_within depth names) body (id_at names key.0) key.1 in
      subst (IsReached names) found.2 (reached-from names key.0 found.0 found.1 (up-from-test names (is_reached_within depth names) found.0.holder (reached-within depth names) found.3))

  -- what the test finds is reached
  pub reached-from-test : (names : NameState C) (body : ℕ) → is_reached names body ≡ true → IsReached names body
  reached-from-test names body is = reached-within (suc (greatest_body names)) names body is

  step-within : (depth : ℕ) (names : NameState C) (number : ℕ) (naming : IdRecord) → id_at names number ≡ Some naming → keeps_up (is_reached_within depth names) naming.holder ≡ true
      → is_reached_within (suc depth) names naming.body ≡ true
  step-within depth names number naming is up =
      any_from (λ n. leads_up (is_reached_within depth names) naming.body (id_at names n)) (map.keys names.ids) number
      (sym (map.contains_key-keys names.ids number) ∙ ap is_some is) (leads-here (is_reached_within depth names) (id_at names number) naming is up)

  -- Each identifier names a body that is there, and one that a body holds names a body with a lower number.
  pub record LeadsDown (names : NameState C) : Type 0 where
    pub there : (number : ℕ) (naming : IdRecord) → id_at names number ≡ Some naming → IsSome (body_at names naming.body)
    pub below : (number : ℕ) (naming : IdRecord) (holder : ℕ) → id_at names number ≡ Some naming → naming.holder ≡ Body holder → naming.body < holder

  -- an identifier that a body holds names a body with a lower number
  pub held-below : (arity : C → ℕ) (names : NameState C) (number : ℕ) (naming : IdRecord) (holder : ℕ) → IsSound arity names → id_at names number ≡ Some naming → naming.holder ≡ Body holder → naming.body < holder
  held-below arity names number naming holder sound is held =
      let child = sound.held number naming holder is held in
      let by = sound.children holder child.0 child.1 (record { owner = naming.owner; number = number }) child.2 child.3 in
      subst (λ (n : IdRecord). n.body < holder) (same_some by.0 naming (sym by.1 ∙ is)) by.4

  -- so it is where the rules hold
  pub sound-down : (arity : C → ℕ) (names : NameState C) → IsSound arity names → LeadsDown names
  sound-down arity names sound = record {
    there = λ number naming is. ap is_some (sound.named number naming is).1;
    below = λ number naming holder is held. held-below arity names number naming holder sound is held;
  }

  within-reached : (names : NameState C) (body : ℕ) → LeadsDown names → IsReached names body → (depth : ℕ) → greatest_body names < body + depth → is_reached_within depth names body ≡ true
  within-reached names body down (Outside number naming is outside) zero deep =
      absurd (omega (arith, deep, body-within names naming.body (down.there number naming is)))
  within-reached names body down (Outside number naming is outside) (suc depth) deep =
      step-within depth names number naming is (outside-passes (is_reached_within depth names) naming.holder outside)
  within-reached names body down (Inside number naming holder is held reached) zero deep =
      absurd (omega (arith, deep, body-within names naming.body (down.there number naming is)))
  within-reached names body down (Inside number naming holder is held reached) (suc depth) deep =
      step-within depth names number naming is
      (ap (keeps_up (is_reached_within depth names)) held ∙ within-reached names holder down reached depth (omega (arith, deep, down.below number naming holder is held)))

  -- and the test finds all that is reached
  pub reached-finds : (names : NameState C) (body : ℕ) → LeadsDown names → IsReached names body → is_reached names body ≡ true
  reached-finds names body down reached = within-reached names body down reached (suc (greatest_body names)) (omega arith)

  pub reached-to-test : (arity : C → ℕ) (names : NameState C) (body : ℕ) → IsSound arity names → IsReached names body → is_reached names body ≡ true
  reached-to-test arity names body sound reached = reached-finds names body (sound-down arity names sound) reached

  reach : (arity : C → ℕ) (names : NameState C) → IsSound arity names
      → ((number : ℕ) → IsSome (body_at names number) → (id : ℕ) × (naming : IdRecord) × (id_at names id ≡ Some naming) × (naming.body ≡ number))
      → (depth number : ℕ) → greatest_body names < number + depth → IsSome (body_at names number) → IsReached names number
  reach arity names sound named zero number deep there = absurd (omega (arith, deep, body-within names number there))
  reach arity names sound named (suc depth) number deep there =
      let id = named number there in
      subst (IsReached names) id.3 (elim (holder-kinds id.1.holder) [
        | inl outside ↦ Outside id.0 id.1 id.2 outside
        | inr held ↦
            Inside id.0 id.1 held.0 id.2 held.1
            (reach arity names sound named depth held.0 (omega (arith, deep, id.3, held-below arity names id.0 id.1 held.0 sound id.2 held.1)) (ap is_some (sound.held id.0 id.1 held.0 id.2 held.1).2))
      ])

  -- where each body has an identifier, each is reached: by induction from the greatest number down
  pub all-reached : (arity : C → ℕ) (names : NameState C) → IsSound arity names
      → ((number : ℕ) → IsSome (body_at names number) → (id : ℕ) × (naming : IdRecord) × (id_at names id ≡ Some naming) × (naming.body ≡ number))
      → AreReached names
  all-reached arity names sound named number there = reach arity names sound named (suc (greatest_body names)) number (omega arith) there
