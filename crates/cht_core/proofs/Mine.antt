-- What is so in the state that a core stands for is so in its control state.
use Rattle.std.proofs.Common.{◌≡◌, ℕ, Bool, true, false, cond, not, ◌&&◌, nat_eq, List, [], ◌∷◌, Option, None, Some, refl, sym, ap, ◌∙◌}
use Rattle.std.specs.Option.{option_and_then, is_some}
use Rattle.std.specs.List.{list_all, list_any}
use Rattle.std.specs.FinMap as map
use Rattle.cht_ids.specs.declared.refs.Id.{Id}
use Rattle.cht_ids.specs.declared.refs.Ref.{Ref}
use Rattle.cht_ids.specs.declared.refs.Ref.TheVariants.{Null as NullRef, Id as Held}
use Rattle.task_types.specs.Meanings.{Meanings}
use Rattle.task_types.proofs.FormedTest.{both_left, both_right}
use Rattle.name_states.specs.declared.holder.Holder.{Holder}
use Rattle.name_states.specs.declared.holder.Holder.TheVariants.{Caller, Task, Body}
use Rattle.name_states.specs.States.{IdRecord, id_at, owned_by}
use Rattle.name_states.proofs.Basics.{same_from_test}
use Rattle.task_states.proofs.Maps.{get-chosen}
use Rattle.name_machine.specs.States.{mine, Holds, MayMention, MayMentionAll}
use Rattle.name_machine.specs.Control.{Control, is_uncollected}
use Rattle.name_machine.specs.Replay.{is_caller, is_callers, is_mine, may_mention}
use Rattle.name_machine.specs.Forgetting.{forgotten}
use Rattle.name_machine.specs.Standing.{is_output, holding_shown, held_shown, machine_of}

-- both of two tests
pub both_of : (a b : Bool) → a ≡ true → b ≡ true → a && b ≡ true
both_of a b first second = ap (λ x. x && b) first ∙ second

-- a choice that gives something was made
chosen_so : {X : Type 0} (b : Bool) (x : X) → is_some (cond b (Some x) None) ≡ true → b ≡ true
chosen_so true x is = refl
chosen_so false x is = is

module _ {C K : Type 0} (lib : Meanings C K) (arity : C → ℕ) (control : Control C (Unit {0}) K) where
  -- an identifier is of this owner, and its holder is the caller, by whom it is no output that waits
  record Parts (caller : ℕ) (id : Id) (entry : IdRecord) (holder : Holder) : Type 0 where
    pub owner : nat_eq entry.owner id.owner ≡ true
    pub own : is_caller caller holder && not (list_any (is_uncollected caller id.number) (map.values control.asks)) ≡ true

  no_output : (caller d : ℕ) (id : Id) (entry : IdRecord) (b : Bool) → list_any (is_uncollected d id.number) (map.values control.asks) ≡ b
      → is_some (mine caller id.owner (cond b None (holding_shown control.names entry (Caller d)))) ≡ true → Parts caller id entry (Caller d)
  no_output caller d id entry true uncollected is = absurd (let clash : false ≡ true = is in cc)
  no_output caller d id entry false uncollected is =
      let tests : nat_eq d caller && nat_eq entry.owner id.owner ≡ true = chosen_so (nat_eq d caller && nat_eq entry.owner id.owner) _ is in
      let same : d ≡ caller = same_from_test d caller (both_left (nat_eq d caller) (nat_eq entry.owner id.owner) tests) in
      record {
        owner = both_right (nat_eq d caller) (nat_eq entry.owner id.owner) tests;
        own = both_of (nat_eq d caller) (not (list_any (is_uncollected caller id.number) (map.values control.asks)))
            (both_left (nat_eq d caller) (nat_eq entry.owner id.owner) tests)
            (ap not (ap (λ c. list_any (is_uncollected c id.number) (map.values control.asks)) (sym same) ∙ uncollected));
      }

  parts_of : (caller : ℕ) (id : Id) (entry : IdRecord) (holder : Holder)
      → is_some (mine caller id.owner (cond (is_output control.asks id.number holder) None (holding_shown control.names entry holder))) ≡ true
      → Parts caller id entry holder
  parts_of caller id entry (Caller d) is = no_output caller d id entry (list_any (is_uncollected d id.number) (map.values control.asks)) refl is
  parts_of caller id entry (Task task) is = absurd (let clash : false ≡ true = is in cc)
  parts_of caller id entry (Body body) is = absurd (let clash : false ≡ true = is in cc)

  named : (caller : ℕ) (id : Id) (o : Option IdRecord) → is_some (mine caller id.owner (option_and_then (held_shown control.asks control.names id.number) o)) ≡ true
      → is_callers (forgotten arity control) caller id (owned_by id.owner o) ≡ true
  named caller id None is = absurd (let clash : false ≡ true = is in cc)
  named caller id (Some entry) is =
      let parts = parts_of caller id entry entry.holder is in
      ap (λ b. is_callers (forgotten arity control) caller id (cond b (Some entry) None)) parts.owner ∙ parts.own

  -- what a caller holds it may mention
  pub holds_mine : (caller : ℕ) (id : Id) → Holds (machine_of lib control) caller id → is_mine (forgotten arity control) caller id ≡ true
  holds_mine caller id holds =
      named caller id (id_at control.names id.number)
      (ap (λ o. is_some (mine caller id.owner o)) (sym (get-chosen (held_shown control.asks control.names) control.names.ids id.number)) ∙ holds)

  pub mention : (caller : ℕ) (r : Ref) → MayMention (machine_of lib control) caller r → may_mention (forgotten arity control) caller r ≡ true
  mention caller NullRef may = refl
  mention caller (Held id) may = holds_mine caller id may

  pub mention_all : (caller : ℕ) (refs : List Ref) → MayMentionAll (machine_of lib control) caller refs
      → list_all (may_mention (forgotten arity control) caller) refs ≡ true
  mention_all caller [] may = refl
  mention_all caller (r ∷ refs) may = both_of (may_mention (forgotten arity control) caller r) _ (mention caller r may.0) (mention_all caller refs may.1)
