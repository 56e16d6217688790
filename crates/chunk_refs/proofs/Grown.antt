-- What identifiers lead to after each call.
use Rattle.std.proofs.Common.{◌≡◌, ℕ, sym, ap, ◌∙◌}
use Rattle.std.specs.Option.{option_map}
use Rattle.cht_ids.specs.declared.refs.Id.{Id}
use Rattle.cht_ids.specs.declared.refs.Ref.TheVariants.{Id as Held}
use Rattle.name_states.specs.States.{NameState, IdRecord, BodyRecord, record_of, body_record_of, body_named, children_in, IsLive}
use Rattle.chunk_refs.specs.Others.{IsAsBefore}
use Rattle.name_states.specs.Rules.{IsSound}
use Rattle.name_states.proofs.Within.{AreMore, naming_of-kept, naming-number}
use Rattle.name_states.proofs.Basics.{some_value}
use Rattle.name_states.proofs.Trees.{tree-kept}

module _ {C : Type 0} where
  body-kept : (arity : C → ℕ) (names more : NameState C) → IsSound arity names → AreMore names more
      → (id : Id) → IsLive names id → body_record_of more id ≡ body_record_of names id
  body-kept arity names more sound is_more id live =
      let entry = some_value (record_of names id) live in
      let known = naming-number names id entry.0 entry.1 in
      let body = sound.named id.number entry.0 known.0 in
      ap (body_named more) (naming_of-kept names more id is_more.ids live ∙ entry.1)
      ∙ is_more.bodies entry.0.body body.0 body.1
      ∙ sym (ap (body_named names) entry.1 ∙ body.1)

  -- what was live is held by whom it was, names what it named, and leads where it led
  pub others-kept : (arity : C → ℕ) (names more : NameState C) → IsSound arity names → AreMore names more
      → (id : Id) → IsLive names id → IsAsBefore names more id
  others-kept arity names more sound is_more id live =
      let entry = naming_of-kept names more id is_more.ids live in
      let body = body-kept arity names more sound is_more id live in
      record {
        holder = ap (option_map (λ (e : IdRecord). e.holder)) entry;
        body = ap (option_map (λ (e : IdRecord). e.body)) entry;
        content = ap (option_map (λ (b : BodyRecord C). b.content)) body;
        children = ap children_in body;
        tree = tree-kept arity names more sound is_more (Held id) live;
      }
