-- Leaving contents out commutes with every step and with sweeping, and keeps the rules.
use Rattle.std.proofs.Common.{◌≡◌, ℕ, suc, zero, ◌+◌, Bool, List, [], ◌∷◌, Option, Some, None, max, refl, sym, ap, ◌∙◌}
use Rattle.std.specs.Prelude.{◌↔◌, slice_get, length}
use Rattle.std.specs.Option.{option_map}
use Rattle.std.specs.List.{fold, list_any}
use Rattle.std.specs.FinMap as map
use Rattle.cht_ids.specs.declared.refs.Ref.{Ref}
use Rattle.cht_ids.specs.declared.refs.Ref.TheVariants.{Null, Id as Held}
use Rattle.name_states.specs.declared.holder.Holder.{Holder}
use Rattle.name_states.specs.declared.holder.Holder.TheVariants.{Body}
use Rattle.name_states.specs.States.{NameState, IdRecord, BodyRecord, id_at, body_at}
use Rattle.name_states.specs.Steps.{registered, copied, linked, linked_ref, with_id, with_body, with_copy, drawn_by, numbered}
use Rattle.name_states.specs.Reached.{IsReached, Outside, Inside, swept, is_reached, is_reached_within, greatest_body, is_kept, keeps_up, leads_up}
use Rattle.name_states.specs.Rules.{IsSound}
use Rattle.name_states.specs.WithoutContents.{without_content, without_contents}
use Rattle.name_states.specs.Laws.{itself}
use Rattle.name_states.proofs.Basics.{same_some}
use Rattle.name_states.proofs.Values.{each_value_inserted, each_value_retained, keys_each_value, get_each_value}

module _ {C : Type 0} (arity : C → ℕ) where
  found_copied : (names : NameState C) (number : ℕ) (holder : Holder) (found : Option IdRecord)
      → without_contents arity (with_copy names number holder found) ≡ with_copy (without_contents arity names) number holder found
  found_copied names number holder None = refl
  found_copied names number holder (Some entry) = refl

  pub without_copied : (names : NameState C) (from number : ℕ) (holder : Holder)
      → without_contents arity (copied names from number holder) ≡ copied (without_contents arity names) from number holder
  without_copied names from number holder = found_copied names number holder (id_at names from)

  without_linked_ref : (names : NameState C) (drawn : ℕ) (holder : Holder) (child : Ref)
      → without_contents arity (linked_ref names drawn holder child) ≡ linked_ref (without_contents arity names) drawn holder child
  without_linked_ref names drawn holder Null = refl
  without_linked_ref names drawn holder (Held id) = without_copied names id.number (drawn + 1) holder

  without_linked : (names : NameState C) (drawn : ℕ) (holder : Holder) (refs : List Ref)
      → without_contents arity (linked names drawn holder refs) ≡ linked (without_contents arity names) drawn holder refs
  without_linked names drawn holder [] = refl
  without_linked names drawn holder (child ∷ refs) =
      without_linked (linked_ref names drawn holder child) (drawn + drawn_by child) holder refs
      ∙ ap (λ n. linked n (drawn + drawn_by child) holder refs) (without_linked_ref names drawn holder child)

  without_with_body : (names : NameState C) (number : ℕ) (body : BodyRecord C)
      → without_contents arity (with_body names number body) ≡ with_body (without_contents arity names) number (without_content arity body)
  without_with_body names number body =
      ap (λ bodies. let n : NameState ℕ = record { ids = names.ids; bodies = bodies } in n) (each_value_inserted (without_content arity) names.bodies number body)

  pub without_registered : (names : NameState C) (drawn : ℕ) (holder : Holder) (worker : ℕ) (content : C) (refs : List Ref)
      → without_contents arity (registered names drawn holder worker content refs) ≡ registered (without_contents arity names) drawn holder worker (arity content) refs
  without_registered names drawn holder worker content refs =
      let body : BodyRecord C = record { owner = worker; content = content; children = numbered (drawn + 2) refs } in
      let entry : IdRecord = record { owner = worker; body = drawn + 1; holder = holder } in
      without_linked (with_id (with_body names (drawn + 1) body) (drawn + 2) entry) (drawn + 2) (Body (drawn + 1)) refs
      ∙ ap (λ n. linked (with_id n (drawn + 2) entry) (drawn + 2) (Body (drawn + 1)) refs) (without_with_body names (drawn + 1) body)

  -- what is reached hangs on the identifiers alone
  same_within : (names : NameState C) (depth body : ℕ) → is_reached_within depth names body ≡ is_reached_within depth (without_contents arity names) body
  same_within names zero body = refl
  same_within names (suc depth) body =
      ap (λ (passes : ℕ → Bool). list_any (λ number. leads_up passes body (id_at names number)) (map.keys names.ids)) (λ i. λ n. same_within names depth n i)

  same_greatest : (names : NameState C) → greatest_body names ≡ greatest_body (without_contents arity names)
  same_greatest names = ap (fold max 0) (sym (keys_each_value (without_content arity) names.bodies))

  same_reached : (names : NameState C) (body : ℕ) → is_reached names body ≡ is_reached (without_contents arity names) body
  same_reached names body =
      same_within names (suc (greatest_body names)) body ∙ ap (λ depth. is_reached_within (suc depth) (without_contents arity names) body) (same_greatest names)

  same_kept : (names : NameState C) (found : Option IdRecord) → is_kept names found ≡ is_kept (without_contents arity names) found
  same_kept names None = refl
  same_kept names (Some entry) = ap (λ (passes : ℕ → Bool). keeps_up passes entry.holder) (λ i. λ n. same_reached names n i)

  pub without_swept : (names : NameState C) → without_contents arity (swept names) ≡ swept (without_contents arity names)
  without_swept names =
      let bodies = each_value_retained (without_content arity) names.bodies (is_reached names) (is_reached (without_contents arity names)) (same_reached names) in
      λ i. record {
        ids = map.retain_keys names.ids (λ number. same_kept names (id_at names number) i);
        bodies = bodies i;
      }

  -- a body is there without its content exactly where it is there with it
  without_there : (names : NameState C) (number : ℕ) (body : BodyRecord C) → body_at names number ≡ Some body
      → body_at (without_contents arity names) number ≡ Some (without_content arity body)
  without_there names number body is = get_each_value (without_content arity) names.bodies number ∙ ap (option_map (without_content arity)) is

  behind : (found : Option (BodyRecord C)) (bare : BodyRecord ℕ) → option_map (without_content arity) found ≡ Some bare
      → (body : BodyRecord C) × (found ≡ Some body) × (bare ≡ without_content arity body)
  behind None bare is = let clash : None ≡ Some bare = is in absurd (cc)
  behind (Some body) bare is = (body, refl, same_some bare (without_content arity body) (sym is))

  was_there : (names : NameState C) (number : ℕ) (bare : BodyRecord ℕ) → body_at (without_contents arity names) number ≡ Some bare
      → (body : BodyRecord C) × (body_at names number ≡ Some body) × (bare ≡ without_content arity body)
  was_there names number bare is =
      behind (body_at names number) bare (sym (get_each_value (without_content arity) names.bodies number) ∙ is)

  pub without_sound : (names : NameState C) → IsSound arity names → IsSound itself (without_contents arity names)
  without_sound names sound = record {
    named = λ number entry is.
        let body = sound.named number entry is in
        (without_content arity body.0, without_there names entry.body body.0 body.1, body.2);
    children = λ number bare j id there at.
        let was = was_there names number bare there in
        sound.children number was.0 j id was.1 (ap (λ (b : BodyRecord ℕ). slice_get b.children j) (sym was.2) ∙ at);
    held = λ number entry holder is held.
        let child = sound.held number entry holder is held in
        (without_content arity child.0, child.1, without_there names holder child.0 child.2, child.3);
    all_children = λ number bare there.
        let was = was_there names number bare there in
        ap (λ (b : BodyRecord ℕ). length b.children) was.2 ∙ sound.all_children number was.0 was.1 ∙ ap (λ (b : BodyRecord ℕ). b.content) (sym was.2);
  }

  reached_without : (names : NameState C) (body : ℕ) → IsReached names body → IsReached (without_contents arity names) body
  reached_without names body (Outside q entry is outside) = Outside q entry is outside
  reached_without names body (Inside q entry holder is held reached) = Inside q entry holder is held (reached_without names holder reached)

  reached_with : (names : NameState C) (body : ℕ) → IsReached (without_contents arity names) body → IsReached names body
  reached_with names body (Outside q entry is outside) = Outside q entry is outside
  reached_with names body (Inside q entry holder is held reached) = Inside q entry holder is held (reached_with names holder reached)

  pub same_reaching : (names : NameState C) (body : ℕ) → IsReached names body ↔ IsReached (without_contents arity names) body
  same_reaching names body = (reached_without names body, reached_with names body)
