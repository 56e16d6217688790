-- What each event of the caller makes of what it sees.
use Rattle.std.proofs.Common.{◌≡◌, ℕ, ◌+◌, ◌≤◌, List, map as each, None, Some, Result, Ok, Err, IfOk, OnOk, OnErr, inl, inr, refl, sym, ap, subst, ◌∙◌, arith}
use Rattle.std.specs.Option.{option_and_then}
use Rattle.std.specs.FinMap as map
use Rattle.cht_ids.specs.declared.memory.Memory.{Memory}
use Rattle.cht_ids.specs.declared.refs.Id.{Id}
use Rattle.cht_ids.specs.declared.refs.Ref.{Ref}
use Rattle.cht_ids.specs.declared.refs.Ref.TheVariants.{Id as Held}
use Rattle.task_types.specs.Tree.{rooted}
use Rattle.task_types.specs.Meanings.{Meanings}
use Rattle.task_states.proofs.Maps.{get-chosen}
use Rattle.name_states.proofs.Basics.{none_or_some, test_apart}
use Rattle.cht_history.specs.declared.event.Event.TheVariants.{Register, Copy, Delete}
use Rattle.name_machine.specs.States.{Machine, opening, tree_of_holding}
use Rattle.name_machine.specs.States as machine
use Rattle.name_machine.specs.Steps.{registered}
use Rattle.name_machine.specs.Parts.{named_for, names_of, asks_of}
use Rattle.name_machine.specs.Machine.{IsLegalRun}
use Rattle.name_machine.proofs.Small.{kept_at_opening}
use Rattle.name_machine.proofs.Held.{Held as HeldApart, mine_from, held_run, held_opening}
use Rattle.core_state.specs.Contents.{Contents}
use Rattle.cht_core.specs.Events.{state, Happens}
use Rattle.cht_engine.specs.Seen.{MayMention, MayMentionAll, tree_named}
use Rattle.cht_engine.specs.Calls.{trees_named, IsRegistered, IsCopied, deleted}
use Rattle.cht_plain.specs.Alone.{seen_of, IsAtRest}
use Rattle.cht_plain.proofs.Chosen.{chosen-insert, chosen-remove}
use Rattle.cht_plain.proofs.Kept.{alone_then, own_written}
use Rattle.cht_plain.proofs.Mentions.{reads_so, trees_so}

module _ {C K : Type 0} (lib : Meanings C K) (arity : C → ℕ) where
  -- a core's events lead to its state
  abbrev pub StandsSo : Contents C K → Type 0
  StandsSo core = IsLegalRun lib arity core.events (state lib core)

  -- what is held apart in the state of a core that stands
  pub apart_in : (core : Contents C K) → StandsSo core → HeldApart lib (state lib core)
  apart_in core stands = held_run lib arity opening (state lib core) core.events (kept_at_opening lib) (held_opening lib) stands

  -- the caller holds nothing under a number that was not drawn
  pub new_number : (core : Contents C K) (n : ℕ) → StandsSo core → (state lib core).drawn + 1 ≤ n → map.get (seen_of lib core).names n ≡ None
  new_number core n stands above =
      elim (none_or_some (map.get (state lib core).holdings n)) [
        | inl none ↦ get-chosen (named_for 0) (state lib core).holdings n ∙ ap (option_and_then (named_for 0 n)) none
        | inr some ↦ absurd (let low = (apart_in core stands).keys n some.0 some.1 in omega arith)
      ]

  register_seen : (before after : Contents C K) (body : C) (children : List Ref) (id : Id) → StandsSo before
      → MayMentionAll (seen_of lib before) children → Happens lib arity before after (Register 0 id children)
      → state lib after ≡ registered (state lib before) 0 0 body children → id ≡ record { owner = 0; number = (state lib before).drawn + 2 }
      → IsRegistered (seen_of lib before) (seen_of lib after) body children (Ok id)
  register_seen before after body children id stands held happens state_is id_is =
      let number : id.number ≡ (state lib before).drawn + 2 = ap (λ (x : Id). x.number) id_is in
      let owner : id.owner ≡ 0 = ap (λ (x : Id). x.owner) id_is in
      let trees = trees_so lib before children held in
      let names : (seen_of lib after).names ≡ map.insert (seen_of lib before).names id.number (record { owner = id.owner; tree = rooted body (trees_named (seen_of lib before) children) }) =
      ap (λ (m : Machine C K). names_of m.holdings 0) state_is
      ∙ chosen-insert (named_for 0) (state lib before).holdings ((state lib before).drawn + 2) (record { caller = 0; owner = 0; tree = rooted body (each (machine.tree_named (state lib before)) children) })
      (record { owner = 0; tree = rooted body (each (machine.tree_named (state lib before)) children) }) refl
      ∙ (λ i. map.insert (seen_of lib before).names (sym number i) (record { owner = sym owner i; tree = rooted body (sym trees i) })) in (
        new_number before id.number stands (omega arith),
        λ i. record {
          caller = 0;
          names = names i;
          asks = asks_of (state_is i).asks 0;
          account = happens.account 0 i;
          events = own_written lib arity before after (Register 0 id children) happens refl i;
        },
      )

  pub register_so : (before after : Contents C K) (body : C) (children : List Ref) (result : Result Id Memory) → StandsSo before
      → MayMentionAll (seen_of lib before) children → IfOk result (λ id. Happens lib arity before after (Register 0 id children))
      → OnOk result (state lib after ≡ registered (state lib before) 0 0 body children)
      → IfOk result (λ id. id ≡ record { owner = 0; number = (state lib before).drawn + 2 }) → OnErr result (after ≡ before)
      → IsRegistered (seen_of lib before) (seen_of lib after) body children result
  register_so before after body children (Ok id) stands held happens state_is id_is unchanged =
      register_seen before after body children id stands held happens state_is id_is
  register_so before after body children (Err e) stands held happens state_is id_is unchanged = ap (seen_of lib) unchanged

  pub register_rests : (before after : Contents C K) (body : C) (children : List Ref) (result : Result Id Memory) → IsAtRest lib before
      → IfOk result (λ id. Happens lib arity before after (Register 0 id children))
      → OnOk result (state lib after ≡ registered (state lib before) 0 0 body children) → OnErr result (after ≡ before) → IsAtRest lib after
  register_rests before after body children (Ok id) rest happens state_is unchanged = record {
    alone = alone_then lib arity before after (Register 0 id children) happens rest.alone (λ caller apart. test_apart 0 caller (λ same. apart (sym same))) refl;
    asks = ap (λ (m : Machine C K). asks_of m.asks 0) state_is ∙ rest.asks;
  }
  register_rests before after body children (Err e) rest happens state_is unchanged = subst (IsAtRest lib) (sym unchanged) rest

  -- ---- A copy

  pub copy_seen : (before after : Contents C K) (from to : Id) → StandsSo before → MayMention (seen_of lib before) (Held from)
      → Happens lib arity before after (Copy 0 from to) → to ≡ record { owner = from.owner; number = (state lib before).drawn + 1 }
      → IsCopied (seen_of lib before) (seen_of lib after) (Held from) (Ok (Held to))
  copy_seen before after from to stands held happens to_is =
      let step = happens.step in
      let number : to.number ≡ (state lib before).drawn + 1 = step.number in
      let was : map.get (state lib before).holdings from.number ≡ Some step.holding = (mine_from 0 from.owner (map.get (state lib before).holdings from.number) step.holding step.held).0 in
      let tree : step.holding.tree ≡ tree_named (seen_of lib before) (Held from) = sym (reads_so lib before (Held from) held ∙ ap tree_of_holding was) in
      let names : (seen_of lib after).names ≡ map.insert (seen_of lib before).names to.number (record { owner = to.owner; tree = tree_named (seen_of lib before) (Held from) }) =
      ap (λ (m : Machine C K). names_of m.holdings 0) step.after_is
      ∙ chosen-insert (named_for 0) (state lib before).holdings ((state lib before).drawn + 1) (record { caller = 0; owner = to.owner; tree = step.holding.tree })
      (record { owner = to.owner; tree = step.holding.tree }) refl
      ∙ (λ i. map.insert (seen_of lib before).names (sym number i) (record { owner = to.owner; tree = tree i })) in (
        new_number before to.number stands (omega arith),
        λ i. record {
          caller = 0;
          names = names i;
          asks = asks_of (step.after_is i).asks 0;
          account = happens.account 0 i;
          events = own_written lib arity before after (Copy 0 from to) happens refl i;
        },
      )

  pub copy_rests : (before after : Contents C K) (from to : Id) → IsAtRest lib before → Happens lib arity before after (Copy 0 from to) → IsAtRest lib after
  copy_rests before after from to rest happens = record {
    alone = alone_then lib arity before after (Copy 0 from to) happens rest.alone (λ caller apart. test_apart 0 caller (λ same. apart (sym same))) refl;
    asks = ap (λ (m : Machine C K). asks_of m.asks 0) happens.step.after_is ∙ rest.asks;
  }

  -- ---- A delete

  pub delete_seen : (before after : Contents C K) (id : Id) → Happens lib arity before after (Delete 0 id) → seen_of lib after ≡ deleted (seen_of lib before) (Held id)
  delete_seen before after id happens =
      let step = happens.step in
      let names : (seen_of lib after).names ≡ map.remove (seen_of lib before).names id.number =
      ap (λ (m : Machine C K). names_of m.holdings 0) step.after_is ∙ chosen-remove (named_for 0) (state lib before).holdings id.number in
      λ i. record {
        caller = 0;
        names = names i;
        asks = asks_of (step.after_is i).asks 0;
        account = happens.account 0 i;
        events = own_written lib arity before after (Delete 0 id) happens refl i;
      }

  pub delete_rests : (before after : Contents C K) (id : Id) → IsAtRest lib before → Happens lib arity before after (Delete 0 id) → IsAtRest lib after
  delete_rests before after id rest happens = record {
    alone = alone_then lib arity before after (Delete 0 id) happens rest.alone (λ caller apart. test_apart 0 caller (λ same. apart (sym same))) refl;
    asks = ap (λ (m : Machine C K). asks_of m.asks 0) happens.step.after_is ∙ rest.asks;
  }
