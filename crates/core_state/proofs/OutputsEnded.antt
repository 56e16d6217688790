-- The asks of a caller go one after the other, each with its output.
use Rattle.std.proofs.Common.{◌≡◌, ℕ, ◌+◌, ◌≤◌, ◌<◌, ◌-◌, ◌⊎◌, inl, inr, true, false, cond, not, Option, None, Some, IsSome, is_some, refl, sym, ap, subst, ◌∙◌, arith}
use Rattle.std.specs.Ordering.{nat_cmp}
use Rattle.std.specs.Cmp.{nat_cmp_total}
use Rattle.std.specs.FinMap as map
use Rattle.cht_ids.specs.declared.refs.Id.{Id}
use Rattle.cht_ids.specs.declared.refs.Ref.{Ref}
use Rattle.cht_ids.specs.declared.refs.Ref.TheVariants.{Null, Id as Held}
use Rattle.name_states.specs.declared.holder.Holder.{Holder}
use Rattle.name_states.specs.declared.holder.Holder.TheVariants.{Caller as ByCaller, Task as ByTask, Body as ByBody}
use Rattle.name_states.specs.States.{NameState, IdRecord, id_at}
use Rattle.name_states.specs.Reached.{swept}
use Rattle.name_states.specs.Rules.{IsSound, AreReached}
use Rattle.name_states.proofs.Basics.{none_not_some, none_or_some, same_some, same_options, removed_other, removed_from}
use Rattle.name_states.proofs.Reaching.{sound-down}
use Rattle.task_states.specs.Maps.{kept}
use Rattle.task_states.proofs.Maps.{same_maps}
use Rattle.name_machine.specs.States.{Ask, is_of, has_ask}
use Rattle.name_machine.specs.Control.{is_uncollected, without_ids}
use Rattle.name_machine.specs.Standing.{HasNumber, HasNoOutput, IsRefOf}
use Rattle.name_machine.proofs.Values.{any_from, any_to}
use Rattle.name_machine.proofs.Leaving.{left as asks_of_others, ask_was, ask_stays, uncollected_is, uncollected_caller}
use Rattle.name_machine.proofs.Grow.{false_or, uncollected_number}
use Rattle.core_state.specs.AskTable.{IsAskOf}
use Rattle.core_state.specs.Ended.{is_number_of, ref_delivered, is_output_by, is_output_for, due_for_ended, IsHeldOutside, HoldsOutputs}
use Rattle.core_state.specs.Needed.{due_for_id, due_for_ask, due_for_holder, total_by}
use Rattle.core_state.proofs.Collected.{has_one}
use Rattle.core_state.proofs.Ended.{was_at, still_none, still_ref, held_at, none_go, named_after, number_is, is_its_number, not_its_number}
use Rattle.core_state.proofs.Totals.{total_less, total_less_one, total_removed}

abbrev AskMap : Type 0
AskMap = map.FinMap nat_cmp (Ask (Unit {0}) Ref)

-- an ask less
pub asks_fewer : (asks : AskMap) (task : ℕ) → IsSome (map.get asks task) → map.len (map.remove asks task) < map.len asks
asks_fewer asks task there =
    let one : map.len (map.remove asks task) ≡ map.len asks - 1 = map.len-remove nat_cmp_total asks task ∙ ap (λ b. cond b (map.len asks - 1) (map.len asks)) there in
    let some : map.len asks ≡ 0 → ⊥ =
    λ none. let clash : true ≡ false = sym there ∙ ap (λ (m : AskMap). is_some (map.get m task)) (map.empty_of_len asks none) ∙ ap is_some (map.get-empty nat_cmp task) in cc in
    omega arith

-- an output that is an identifier was delivered
held_done : (o : Option Ref) (id : Id) → ref_delivered o ≡ Held id → is_some o ≡ true
held_done None id is = absurd (let clash : Null ≡ Held id = is in cc)
held_done (Some r) id is = refl

-- where an output is no identifier there is none
no_held : (o : Option Ref) → ((id : Id) → ref_delivered o ≡ Held id → ⊥) → HasNoOutput o
no_held None never = tt
no_held (Some Null) never = tt
no_held (Some (Held id)) never = never id refl

held_or_not : (o : Option Ref) → ((id : Id) × (ref_delivered o ≡ Held id)) ⊎ HasNoOutput o
held_or_not None = inr tt
held_or_not (Some Null) = inr tt
held_or_not (Some (Held id)) = inl (id, refl)

-- an output that was not collected is that of an ask
uncollected_by : (asks : AskMap) (caller number : ℕ) (holder : Holder) → is_output_by asks caller number holder ≡ true
    → (key : ℕ) × (ask : Ask (Unit {0}) Ref) × (map.get asks key ≡ Some ask) × (ask.caller ≡ caller) × (ask.number ≡ number)
uncollected_by asks caller number (ByCaller other) is =
    let one = any_to (is_uncollected caller number) asks is in
    (one.0, one.1, one.2, uncollected_caller caller number one.1 one.3, uncollected_number caller number one.1 one.3)
uncollected_by asks caller number (ByTask task) is = absurd (let clash : false ≡ true = is in cc)
uncollected_by asks caller number (ByBody body) is = absurd (let clash : false ≡ true = is in cc)

module _ {C : Type 0} where
  -- What is left to go of a caller's outputs, once some of its asks are gone, and for how many events room is owed then.
  pub record AsksLeft (start now : NameState C) (asks rest : AskMap) (caller owed left : ℕ) : Type 0 where
    pub same : swept (without_ids now (is_output_for asks caller)) ≡ swept (without_ids start (is_output_for asks caller))
    pub holds : HoldsOutputs now rest caller
    pub within : (key : ℕ) (ask : Ask (Unit {0}) Ref) → map.get rest key ≡ Some ask → map.get asks key ≡ Some ask
    pub others : (key : ℕ) (ask : Ask (Unit {0}) Ref) → map.get asks key ≡ Some ask → (ask.caller ≡ caller → ⊥) → map.get rest key ≡ Some ask
    pub waits : (number : ℕ) (entry : IdRecord) → id_at now number ≡ Some entry → is_output_by asks caller number entry.holder ≡ true
        → (key : ℕ) × (ask : Ask (Unit {0}) Ref) × (map.get rest key ≡ Some ask) × (ask.caller ≡ caller) × (ask.number ≡ number)
    pub less : left ≤ owed
    pub due : total_by due_for_id now.ids + total_by due_for_ask rest + owed ≤ total_by due_for_id start.ids + total_by due_for_ask asks + left

  pub asks_start : (names : NameState C) (asks : AskMap) (caller owed : ℕ) → HoldsOutputs names asks caller → AsksLeft names names asks asks caller owed owed
  asks_start names asks caller owed holds = record {
    same = refl;
    holds = holds;
    within = λ key ask is. is;
    others = λ key ask is other. is;
    waits = λ number entry is out. uncollected_by asks caller number entry.holder out;
    less = omega arith;
    due = omega arith;
  }

  module _ (start now : NameState C) (asks rest : AskMap) (caller owed left : ℕ) (remains : AsksLeft start now asks rest caller owed left) where
    module _ (task : ℕ) (one : IsAskOf rest caller task) where
      its_output : (o : Option Ref) → one.ask.delivered ≡ o → IsRefOf now (ByCaller caller) (ref_delivered o) × HasNumber one.ask.number (ref_delivered o)
      its_output None is = (tt, tt)
      its_output (Some r) is = remains.holds.outputs task one.ask r one.there one.own is

      its_number : (o : Option Ref) (id : Id) → one.ask.delivered ≡ o → ref_delivered o ≡ Held id → id.number ≡ one.ask.number
      its_number o id is held = subst (HasNumber one.ask.number) held (its_output o is).1

      -- what was delivered can go
      pub output_outside : (output : Option Ref) → output ≡ one.ask.delivered → IsHeldOutside now (ref_delivered output)
      output_outside output is = (ByCaller caller, tt, (its_output output (sym is)).0)

      module _ (arity : C → ℕ) (sound : IsSound arity now) (output : Option Ref) (output_is : output ≡ one.ask.delivered) where
        abbrev next : NameState C
        next = swept (without_ids now (is_number_of (ref_delivered output)))

        -- what goes is an output of the caller
        goes_so : (q : ℕ) (entry : IdRecord) → id_at now q ≡ Some entry → is_number_of (ref_delivered output) q (Some entry) ≡ true → is_output_by asks caller q entry.holder ≡ true
        goes_so q entry at its =
            let found = number_is (ref_delivered output) q (Some entry) its in
            let held = held_at now found.0 (ByCaller caller) (subst (IsRefOf now (ByCaller caller)) found.1 (its_output output (sym output_is)).0) in
            let holder : entry.holder ≡ ByCaller caller = ap (λ (e : IdRecord). e.holder) (same_some entry held.0 (sym at ∙ ap (id_at now) found.2 ∙ held.1)) ∙ held.3 in
            ap (is_output_by asks caller q) holder
            ∙ any_from (is_uncollected caller q) asks task one.ask (remains.within task one.ask one.there)
            (uncollected_is caller q one.ask one.own (sym (its_number output found.0 (sym output_is) found.1) ∙ sym found.2)
            (ap is_some (sym output_is) ∙ held_done output found.0 found.1))

        still_holds : HoldsOutputs next (map.remove rest task) caller
        still_holds = record {
          outputs = λ key ask r is own delivered.
              let was = removed_from rest task key ask is in
              let out = remains.holds.outputs key ask r was.1 own delivered in (
                still_ref now (is_number_of (ref_delivered output)) (ByCaller caller) r (sound-down arity now sound) tt out.0
                    (λ id entry r_is found held.
                    not_its_number (ref_delivered output) id.number (Some entry) (λ other its same.
                    let mine : id.number ≡ ask.number = subst (HasNumber ask.number) r_is out.1 in
                    let theirs = its_number output other (sym output_is) its in
                    was.0 (remains.holds.differ key task ask one.ask was.1 one.there own one.own (sym mine ∙ same ∙ theirs)))),
                out.1,
              );
          free = λ key ask is own none.
              still_none now (is_number_of (ref_delivered output)) ask.number (remains.holds.free key ask (removed_from rest task key ask is).1 own none);
          differ = λ key other a b first second mine theirs same.
              remains.holds.differ key other a b (removed_from rest task key a first).1 (removed_from rest task other b second).1 mine theirs same;
        }

        -- ---- What is owed

        within_next : (q : ℕ) (entry : IdRecord) → id_at next q ≡ Some entry → id_at now q ≡ Some entry
        within_next q entry is = (was_at now (is_number_of (ref_delivered output)) q entry is).0

        ids_less : (o : Option Ref) → output ≡ o → total_by due_for_id next.ids + due_for_ended o ≤ total_by due_for_id now.ids + due_for_ask one.ask
        ids_less None is =
            let less = total_less due_for_id next.ids now.ids within_next in
            let own : due_for_ask one.ask ≡ 2 = ap (λ d. due_for_ask (record one.ask { delivered = d })) (sym output_is ∙ is) in
            omega arith
        ids_less (Some Null) is =
            let less = total_less due_for_id next.ids now.ids within_next in
            let own : due_for_ask one.ask ≡ 1 = ap (λ d. due_for_ask (record one.ask { delivered = d })) (sym output_is ∙ is) in
            omega arith
        ids_less (Some (Held id)) is =
            let own : due_for_ask one.ask ≡ 1 = ap (λ d. due_for_ask (record one.ask { delivered = d })) (sym output_is ∙ is) in
            let held = held_at now id (ByCaller caller) (its_output (Some (Held id)) (sym output_is ∙ is)).0 in
            let due : due_for_id held.0 ≡ 1 = ap due_for_holder held.3 in
            let gone : id_at next id.number ≡ None =
            elim (none_or_some (id_at next id.number)) [
              | inl none ↦ none
              | inr some ↦
                  let was = was_at now (is_number_of (ref_delivered output)) id.number some.0 some.1 in
                  absurd (let clash : true ≡ false = sym (is_its_number (ref_delivered output) id (Some some.0) (ap ref_delivered is)) ∙ was.1 in cc)
            ] in
            let less = total_less_one due_for_id next.ids now.ids id.number held.0 held.1 gone within_next in
            omega arith

        due_less : total_by due_for_id next.ids + total_by due_for_ask (map.remove rest task) + due_for_ended output ≤ total_by due_for_id now.ids + total_by due_for_ask rest
        due_less =
            let ids = ids_less output refl in
            let asked = total_removed due_for_ask rest task one.ask one.there in
            omega arith

        -- what is owed for the ask and its output is part of what is owed
        pub owed_for_output : total_by due_for_id start.ids + total_by due_for_ask asks ≤ owed → due_for_ended output ≤ left
        owed_for_output enough = let less = due_less in let due = remains.due in omega arith

        -- ---- One ask goes

        pub asks_step : (names : NameState C) (after : AskMap) (lower : ℕ) → names ≡ next → after ≡ map.remove rest task → lower + due_for_ended output ≡ left
            → AsksLeft start names asks after caller owed lower
        asks_step names after lower names_is after_is lower_is =
            subst (λ n. AsksLeft start n asks after caller owed lower) (sym names_is)
            (subst (λ (m : AskMap). AsksLeft start next asks m caller owed lower) (sym after_is)
            (record {
              same = named_after now (is_number_of (ref_delivered output)) (is_output_for asks caller) (sound-down arity now sound) goes_so ∙ remains.same;
              holds = still_holds;
              within = λ key ask is. remains.within key ask (removed_from rest task key ask is).1;
              others = λ key ask is other.
                  removed_other rest task key (λ same.
                  other (ap (λ (a : Ask (Unit {0}) Ref). a.caller) (same_some ask one.ask (sym is ∙ ap (map.get asks) same ∙ remains.within task one.ask one.there)) ∙ one.own))
                  ∙ remains.others key ask is other;
              waits = λ number entry is out.
                  let was = was_at now (is_number_of (ref_delivered output)) number entry is in
                  let by = remains.waits number entry was.0 out in (
                    by.0,
                    by.1,
                    removed_other rest task by.0 (λ same.
                        let ask_is : by.1 ≡ one.ask = same_some by.1 one.ask (sym by.2 ∙ ap (map.get rest) same ∙ one.there) in
                        let number_is : one.ask.number ≡ number = ap (λ (a : Ask (Unit {0}) Ref). a.number) (sym ask_is) ∙ by.4 in
                        elim (held_or_not output) [
                          | inl held ↦
                              let at : number ≡ held.0.number = sym number_is ∙ sym (its_number output held.0 (sym output_is) held.1) in
                              let clash : true ≡ false = sym (is_its_number (ref_delivered output) held.0 (Some entry) held.1) ∙ ap (λ n. is_number_of (ref_delivered output) n (Some entry)) (sym at) ∙ was.1 in
                              cc
                          | inr none ↦ none_not_some (remains.holds.free task one.ask one.there one.own (subst HasNoOutput output_is none)) (ap (id_at now) number_is ∙ was.0)
                        ]) ∙ by.2,
                    by.3,
                    by.4,
                  );
              less = let was = remains.less in omega arith;
              due = let less = due_less in let was = remains.due in omega arith;
            }))

    -- ---- No ask is left

    module _ (none : false ≡ has_ask rest caller) where
      not_its : (key : ℕ) (ask : Ask (Unit {0}) Ref) → map.get rest key ≡ Some ask → ask.caller ≡ caller → ⊥
      not_its key ask is own = let clash : true ≡ false = sym (has_one rest key ask caller is own) ∙ sym none in cc

      pub asks_end : (arity : C → ℕ) → IsSound arity now → AreReached now → now ≡ swept (without_ids start (is_output_for asks caller))
      asks_end arity sound reached =
          sym (none_go arity now (is_output_for asks caller) sound reached (λ q entry at.
          false_or (is_output_by asks caller q entry.holder) (λ out.
          let by = remains.waits q entry at out in
          not_its by.0 by.1 by.2 by.3)))
          ∙ remains.same

      pub asks_left : rest ≡ kept (λ ask. not (is_of caller ask)) asks
      asks_left =
          same_maps rest (asks_of_others asks caller) (λ key. same_options _ _
          (λ ask is. ask_stays asks caller key ask (remains.within key ask is) (not_its key ask is))
          (λ ask is. let was = ask_was asks caller key ask is in remains.others key ask was.0 was.1))
