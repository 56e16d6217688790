-- What the caller mentions by what it sees, it may mention in the state, and it reads the same.
use Rattle.std.proofs.Common.{◌≡◌, ℕ, true, false, cond, ◌&&◌, nat_eq, List, [], ◌∷◌, map as each, Option, None, Some, refl, sym, ap, ◌∙◌}
use Rattle.std.specs.Option.{option_and_then, is_some}
use Rattle.std.specs.FinMap as map
use Rattle.cht_ids.specs.declared.refs.Id.{Id}
use Rattle.cht_ids.specs.declared.refs.Ref.{Ref}
use Rattle.cht_ids.specs.declared.refs.Ref.TheVariants.{Null, Id as Held}
use Rattle.task_types.specs.Meanings.{Meanings}
use Rattle.task_states.proofs.Maps.{get-chosen}
use Rattle.name_machine.specs.States.{Holding, mine, tree_of_holding}
use Rattle.name_machine.specs.States as machine
use Rattle.name_machine.specs.Parts.{Named, named_for}
use Rattle.core_state.specs.Contents.{Contents}
use Rattle.cht_core.specs.Events.{state}
use Rattle.cht_engine.specs.Seen.{of_owner, tree_of_named, Holds, MayMention, MayMentionAll, tree_named}
use Rattle.cht_engine.specs.Calls.{trees_named}
use Rattle.cht_plain.specs.Alone.{seen_of}

module _ {C : Type 0} where
  abbrev shown : ℕ → ℕ → Option (Holding C) → Option (Named C)
  shown caller number o = option_and_then (named_for caller number) o

  owned : (owner own : ℕ) (h : Holding C) → is_some {T = Named C} (cond (nat_eq own owner) (Some (record { owner = own; tree = h.tree })) None) ≡ true
      → is_some (cond (nat_eq own owner) (Some h) None) ≡ true
  owned owner own h is =
      elim (nat_eq own owner) as (λ b. is_some {T = Named C} (cond b (Some (record { owner = own; tree = h.tree })) None) ≡ true → is_some (cond b (Some h) None) ≡ true) [
        | true ↦ λ e. refl
        | false ↦ λ e. e
      ] is

  mine_shown : (caller owner number : ℕ) (o : Option (Holding C)) → is_some (of_owner owner (shown caller number o)) ≡ true
      → (is_some (mine caller owner o) ≡ true) × (tree_of_named (shown caller number o) ≡ tree_of_holding o)
  mine_shown caller owner number None is = absurd (let clash : false ≡ true = is in cc)
  mine_shown caller owner number (Some h) is =
      elim (nat_eq h.caller caller) as (λ b. is_some (of_owner owner (cond b (Some (record { owner = h.owner; tree = h.tree })) None)) ≡ true
      → (is_some (cond (b && nat_eq h.owner owner) (Some h) None) ≡ true) × (tree_of_named (cond b (Some (record { owner = h.owner; tree = h.tree })) None) ≡ h.tree)) [
        | true ↦ λ e. (owned owner h.owner h e, refl)
        | false ↦ λ e. absurd (let clash : false ≡ true = e in cc)
      ] is

module _ {C K : Type 0} (lib : Meanings C K) (core : Contents C K) where
  same_name : (number : ℕ) → map.get (seen_of lib core).names number ≡ shown 0 number (map.get (state lib core).holdings number)
  same_name number = get-chosen (named_for 0) (state lib core).holdings number

  both : (id : Id) → Holds (seen_of lib core) id
      → machine.Holds (state lib core) 0 id × (tree_named (seen_of lib core) (Held id) ≡ machine.tree_named (state lib core) (Held id))
  both id holds =
      let parts = mine_shown 0 id.owner id.number (map.get (state lib core).holdings id.number) (ap (λ o. is_some (of_owner id.owner o)) (sym (same_name id.number)) ∙ holds) in
      (parts.0, ap tree_of_named (same_name id.number) ∙ parts.1)

  pub holds_so : (id : Id) → Holds (seen_of lib core) id → machine.Holds (state lib core) 0 id
  holds_so id holds = (both id holds).0

  pub reads_so : (r : Ref) → MayMention (seen_of lib core) r → tree_named (seen_of lib core) r ≡ machine.tree_named (state lib core) r
  reads_so Null may = refl
  reads_so (Held id) may = (both id may).1

  mention_so : (r : Ref) → MayMention (seen_of lib core) r → machine.MayMention (state lib core) 0 r
  mention_so Null may = tt
  mention_so (Held id) may = holds_so id may

  pub mention_all_so : (refs : List Ref) → MayMentionAll (seen_of lib core) refs → machine.MayMentionAll (state lib core) 0 refs
  mention_all_so [] may = tt
  mention_all_so (r ∷ refs) may = (mention_so r may.0, mention_all_so refs may.1)

  pub trees_so : (refs : List Ref) → MayMentionAll (seen_of lib core) refs → trees_named (seen_of lib core) refs ≡ each (machine.tree_named (state lib core)) refs
  trees_so [] may = refl
  trees_so (r ∷ refs) may = let first = reads_so r may.0 in let rest = trees_so refs may.1 in (λ i. first i ∷ rest i)
