-- A task that is gone leaves what it holds: fewer names, and a state in order.
use Rattle.std.proofs.Common.{◌≡◌, ℕ, inl, inr, false, true, None, Some, is_some, refl, sym, ap, subst, ◌∙◌}
use Rattle.cht_ids.specs.declared.refs.Ref.{Ref}
use Rattle.name_states.specs.declared.holder.Holder.{Holder}
use Rattle.name_states.specs.declared.holder.Holder.TheVariants.{Caller as ByCaller, Task as ByTask, Body as ByBody}
use Rattle.name_states.specs.States.{NameState, IdRecord, id_at, body_at}
use Rattle.name_states.specs.Steps.{IsOutside}
use Rattle.name_states.specs.Reached.{swept}
use Rattle.name_states.specs.Rules.{IsSound, AreReached, AreWithin}
use Rattle.name_states.specs.Trees.{body_tree, tree_of}
use Rattle.name_states.proofs.Basics.{none_not_some, none_or_some, some_value, test_same, test_apart}
use Rattle.name_states.proofs.Within.{AreMore}
use Rattle.name_states.proofs.Trees.{tree-kept, body-tree-kept}
use Rattle.name_states.proofs.Reaching.{sound-down, up_from_outside}
use Rattle.name_states.proofs.Swept.{id-left, id-kept, body-left}
use Rattle.name_states.proofs.SweptOnce.{all-reached-swept, sound-swept}
use Rattle.task_states.specs.States.{Known, task_at, input_at}
use Rattle.name_machine.specs.Control.{Control, is_task, is_held_by, without_ids}
use Rattle.name_machine.specs.Standing.{IsRefOf, IsOrderly}
use Rattle.name_machine.proofs.Ordered.{input_from}
use Rattle.name_machine.proofs.Orderly.{ref_is_live, ref_kept}
use Rattle.name_machine.proofs.Fewer.{left_at, stays_at, sound_without_ids}
use Rattle.name_machine.proofs.FinishMiddle.{Middle}

not_the_task : (gone : ℕ) (holder : Holder) → (holder ≡ ByTask gone → ⊥) → is_task gone holder ≡ false
not_the_task gone (ByCaller caller) apart = refl
not_the_task gone (ByTask other) apart = test_apart other gone (λ same. apart (ap ByTask same))
not_the_task gone (ByBody body) apart = refl

is_the_task : (gone : ℕ) (holder : Holder) → is_task gone holder ≡ false → holder ≡ ByTask gone → ⊥
is_the_task gone holder not held = let clash : true ≡ false = sym (ap (is_task gone) held ∙ test_same gone) ∙ not in cc

module _ {C : Type 0} (arity : C → ℕ) (gone : ℕ) (names : NameState C) (sound : IsSound arity names) where
  -- the names without what the task holds, and without what is not reached then
  abbrev pub fewer : NameState C
  fewer = without_ids names (is_held_by gone)

  abbrev pub left : NameState C
  left = swept fewer

  fewer_sound : IsSound arity fewer
  fewer_sound = sound_without_ids names (is_held_by gone) arity sound (λ q entry body held. ap (is_task gone) held)

  pub end_sound : IsSound arity left
  end_sound = sound-swept arity fewer fewer_sound

  pub end_reached : AreReached left
  end_reached = all-reached-swept arity fewer fewer_sound

  pub end_was : (q : ℕ) (entry : IdRecord) → id_at left q ≡ Some entry → (id_at names q ≡ Some entry) × (entry.holder ≡ ByTask gone → ⊥)
  end_was q entry is =
      let was = left_at names (is_held_by gone) q entry (id-left fewer q entry is).0 in
      (was.0, is_the_task gone entry.holder was.1)

  pub end_stays : (q : ℕ) (entry : IdRecord) → id_at names q ≡ Some entry → IsOutside entry.holder → (entry.holder ≡ ByTask gone → ⊥) → id_at left q ≡ Some entry
  end_stays q entry is outside apart =
      id-kept fewer (sound-down arity fewer fewer_sound) q entry (stays_at names (is_held_by gone) q entry is (not_the_task gone entry.holder apart)) (up_from_outside fewer entry.holder outside)

  pub end_more : AreMore left names
  end_more = record { ids = λ q entry is. (end_was q entry is).0; bodies = λ q body is. (body-left fewer q body is).0 }

  pub end_within : (drawn : ℕ) → AreWithin names drawn → AreWithin left drawn
  end_within drawn within = record {
    ids = λ q some. let entry = some_value (id_at left q) some in within.ids q (ap is_some (end_more.ids q entry.0 entry.1));
    bodies = λ q some. let body = some_value (body_at left q) some in within.bodies q (ap is_some (end_more.bodies q body.0 body.1));
  }

  -- a number that was free is free
  pub end_free : (m : ℕ) → id_at names m ≡ None → id_at left m ≡ None
  end_free m none = elim (none_or_some (id_at left m)) [
    | inl still ↦ still
    | inr some ↦ absurd (none_not_some none (end_was m some.0 some.1).0)
  ]

  -- what others hold they hold still, and it leads where it led
  pub end_ref : (holder : Holder) (r : Ref) → IsOutside holder → (holder ≡ ByTask gone → ⊥) → IsRefOf names holder r → IsRefOf left holder r
  end_ref holder r outside apart is =
      ref_kept names left holder r (λ id entry same at held. end_stays id.number entry at (subst IsOutside (sym held) outside) (λ gone_too. apart (sym held ∙ gone_too))) is

  pub end_tree : (holder : Holder) (r : Ref) → IsOutside holder → (holder ≡ ByTask gone → ⊥) → IsRefOf names holder r → tree_of left r ≡ tree_of names r
  end_tree holder r outside apart is = sym (tree-kept arity left names end_sound end_more r (ref_is_live left holder r (end_ref holder r outside apart is)))

  pub end_entry_tree : (q : ℕ) (entry : IdRecord) → id_at left q ≡ Some entry → body_tree left entry.body ≡ body_tree names entry.body
  end_entry_tree q entry is = sym (body-tree-kept arity left names end_sound end_more entry.body (ap is_some (end_sound.named q entry is).1))

module _ {C K : Type 0} (arity : C → ℕ) (gone : ℕ) (control : Control C (Unit {0}) K) (middle : Middle arity gone control) (none : task_at control.graph gone ≡ None) where
  -- the state with fewer names
  abbrev pub ended : Control C (Unit {0}) K
  ended = record control { names = left arity gone control.names middle.sound }

  pub not_gone : (task place : ℕ) (r : Ref) → input_at control.graph task place ≡ Some (Known r) → ByTask task ≡ ByTask gone → ⊥
  not_gone task place r is same =
      let task_is : task ≡ gone = cc in
      let t = input_from control.graph task place (Known r) is in
      none_not_some (ap (task_at control.graph) task_is ∙ none) t.1

  not_task : (caller : ℕ) → ByCaller caller ≡ ByTask gone → ⊥
  not_task caller same = cc

  pub end_orderly : IsOrderly arity ended
  end_orderly = record {
    sound = end_sound arity gone control.names middle.sound;
    reached = end_reached arity gone control.names middle.sound;
    within = end_within arity gone control.names middle.sound control.drawn middle.within;
    held = record {
      inputs = λ task place r is. end_ref arity gone control.names middle.sound (ByTask task) r tt (not_gone task place r is) (middle.inputs task place r is);
      apart = middle.apart;
      nothing_else = λ number task entry is held.
          let was = end_was arity gone control.names middle.sound number entry is in
          middle.nothing_else number task entry (λ same. was.1 (held ∙ ap ByTask same)) was.0 held;
      outputs = λ key ask r is done.
          let own = middle.outputs key ask r is done in
          (end_ref arity gone control.names middle.sound (ByCaller ask.caller) r tt (not_task ask.caller) own.0, own.1);
    };
    aside = record {
      inputs = λ m awaits. let own = middle.aside.inputs m awaits in (own.0, end_free arity gone control.names middle.sound m own.1);
      outputs = λ key ask is no_output. end_free arity gone control.names middle.sound ask.number (middle.aside.outputs key ask is no_output);
      drawn = middle.aside.drawn;
      one_place = middle.aside.one_place;
      unasked = middle.aside.unasked;
    };
  }

  -- known inputs and outputs lead where they led
  pub end_input_tree : (task place : ℕ) (r : Ref) → input_at control.graph task place ≡ Some (Known r) → tree_of (left arity gone control.names middle.sound) r ≡ tree_of control.names r
  end_input_tree task place r is = end_tree arity gone control.names middle.sound (ByTask task) r tt (not_gone task place r is) (middle.inputs task place r is)

  pub end_output_tree : (caller : ℕ) (r : Ref) → IsRefOf control.names (ByCaller caller) r → tree_of (left arity gone control.names middle.sound) r ≡ tree_of control.names r
  end_output_tree caller r is = end_tree arity gone control.names middle.sound (ByCaller caller) r tt (not_task caller) is
