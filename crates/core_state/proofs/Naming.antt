-- What a caller may mention, and what the events on names make of the control state.
use Rattle.std.proofs.Common.{◌≡◌, ℕ, ◌+◌, Bool, true, false, not, ◌&&◌, nat_eq, List, [], ◌∷◌, ◌++◌, length, Option, None, Some, is_some, refl, sym, ap, subst, ◌∙◌}
use Rattle.std.specs.Option.{option_map, ForSome}
use Rattle.std.specs.List.{list_any, list_all}
use Rattle.std.specs.FinMap as map
use Rattle.cht_ids.specs.declared.refs.Id.{Id}
use Rattle.cht_ids.specs.declared.refs.Ref.{Ref}
use Rattle.cht_ids.specs.declared.refs.Ref.TheVariants.{Null, Id as Held}
use Rattle.chunk_refs.specs.Room.{Contents as Names}
use Rattle.name_states.specs.declared.holder.Holder.{Holder}
use Rattle.name_states.specs.declared.holder.Holder.TheVariants.{Caller as ByCaller, Task as ByTask, Body as ByBody}
use Rattle.name_states.specs.States.{NameState, IdRecord, id_at, record_of, holder_of, IsLive, AreLive}
use Rattle.name_states.specs.Steps.{IsOutside, present, copied, registered}
use Rattle.name_states.specs.Reached.{swept}
use Rattle.name_states.specs.Rules.{IsSound, AreReached}
use Rattle.name_states.proofs.Basics.{same_some, same_from_test}
use Rattle.name_states.proofs.SweptOnce.{nothing_goes}
use Rattle.name_states.proofs.Within.{naming-number}
use Rattle.task_states.specs.States.{Graph}
use Rattle.cht_history.specs.History.{History}
use Rattle.cht_history.specs.declared.event.Event.{Event}
use Rattle.cht_history.specs.declared.event.Event.TheVariants.{Register, Copy}
use Rattle.name_machine.specs.Control.{Control, is_uncollected}
use Rattle.name_machine.specs.Forgetting.{forgotten}
use Rattle.name_machine.specs.Replay.{is_caller, is_callers, is_mine, may_mention}
use Rattle.core_state.specs.AskTable.{AskTable}
use Rattle.core_state.specs.Contents.{after_event}
use Rattle.core_state.specs.Inside.{contents_of}

both : (a b : Bool) → (a && b) ≡ true → (a ≡ true) × (b ≡ true)
both true b is = (refl, is)
both false b is = absurd (let clash : false ≡ true = is in cc)

caller_is : (caller : ℕ) (holder : Holder) → is_caller caller holder ≡ true → holder ≡ ByCaller caller
caller_is caller (ByCaller other) is = ap ByCaller (same_from_test other caller is)
caller_is caller (ByTask task) is = absurd (let clash : false ≡ true = is in cc)
caller_is caller (ByBody body) is = absurd (let clash : false ≡ true = is in cc)

module _ {C K : Type 0} (arity : C → ℕ) (control : Control C (Unit {0}) K) where
  -- what a caller holds is live, and the caller's
  pub mine_is : (caller : ℕ) (id : Id) → is_mine (forgotten arity control) caller id ≡ true
      → (entry : IdRecord) × (record_of control.names id ≡ Some entry) × (entry.holder ≡ ByCaller caller)
  mine_is caller id is =
      elim (record_of control.names id) as (λ found. record_of control.names id ≡ found → is_callers (forgotten arity control) caller id found ≡ true
      → (entry : IdRecord) × (record_of control.names id ≡ Some entry) × (entry.holder ≡ ByCaller caller)) [
        | None ↦ λ found mine. absurd (let clash : false ≡ true = mine in cc)
        | Some entry ↦ λ found mine. (entry, found, caller_is caller entry.holder (both _ _ mine).0)
      ] refl is

  pub mine_live : (caller : ℕ) (id : Id) → is_mine (forgotten arity control) caller id ≡ true → IsLive control.names id
  mine_live caller id is = let mine = mine_is caller id is in ap is_some mine.1

  pub mine_outside : (caller : ℕ) (id : Id) → is_mine (forgotten arity control) caller id ≡ true → ForSome (holder_of control.names id) IsOutside
  mine_outside caller id is =
      let mine = mine_is caller id is in
      let held : holder_of control.names id ≡ Some (ByCaller caller) = ap (option_map (λ (entry : IdRecord). entry.holder)) mine.1 ∙ ap Some mine.2 in
      λ holder is_held. subst IsOutside (same_some (ByCaller caller) holder (sym held ∙ is_held)) tt

  pub mine_at : (caller : ℕ) (id : Id) → is_mine (forgotten arity control) caller id ≡ true
      → (entry : IdRecord) × (id_at control.names id.number ≡ Some entry) × (entry.holder ≡ ByCaller caller)
  mine_at caller id is = let mine = mine_is caller id is in (mine.0, (naming-number control.names id mine.0 mine.1).0, mine.2)

  pub all_live : (caller : ℕ) (refs : List Ref) → list_all (may_mention (forgotten arity control) caller) refs ≡ true → AreLive control.names refs
  all_live caller [] is = tt
  all_live caller (Null ∷ refs) is = (tt, all_live caller refs is)
  all_live caller (Held id ∷ refs) is = let parts = both _ _ is in (mine_live caller id parts.0, all_live caller refs parts.1)

-- whether a holder is a caller, and the identifier no output that it has not collected
abbrev pub mine_by : {C K : Type 0} → Control C (Unit {0}) K → ℕ → ℕ → Option Holder → Bool
mine_by control caller number None = false
mine_by control caller number (Some (ByCaller owner)) = nat_eq owner caller && not (list_any (is_uncollected caller number) (map.values control.asks))
mine_by control caller number (Some (ByTask task)) = false
mine_by control caller number (Some (ByBody body)) = false

of_holder : {C K : Type 0} (arity : C → ℕ) (control : Control C (Unit {0}) K) (caller : ℕ) (id : Id) (entry : IdRecord) (holder : Holder) → entry.holder ≡ holder
    → is_callers (forgotten arity control) caller id (Some entry) ≡ mine_by control caller id.number (Some holder)
of_holder arity control caller id entry (ByCaller owner) is = ap (λ h. is_caller caller h && not (list_any (is_uncollected caller id.number) (map.values control.asks))) is
of_holder arity control caller id entry (ByTask task) is = ap (λ h. is_caller caller h && not (list_any (is_uncollected caller id.number) (map.values control.asks))) is
of_holder arity control caller id entry (ByBody body) is = ap (λ h. is_caller caller h && not (list_any (is_uncollected caller id.number) (map.values control.asks))) is

-- what a caller holds, by the holder
pub holds_is : {C K : Type 0} (arity : C → ℕ) (control : Control C (Unit {0}) K) (caller : ℕ) (id : Id) (found : Option Holder) → found ≡ holder_of control.names id
    → mine_by control caller id.number found ≡ is_mine (forgotten arity control) caller id
holds_is arity control caller id found is =
    ap (mine_by control caller id.number) is
    ∙ elim (record_of control.names id) as (λ o. mine_by control caller id.number (option_map (λ (entry : IdRecord). entry.holder) o) ≡ is_callers (forgotten arity control) caller id o) [
      | None ↦ refl
      | Some entry ↦ sym (of_holder arity control caller id entry entry.holder refl)
    ]

module _ {C K : Type 0} (drawn drawn2 : ℕ) (names names2 : Names C) (table : AskTable) (graph : Graph Ref K) (history history2 : History K) (callers : ℕ) (running : List (Option ℕ)) where
  -- other names and more numbers
  renamed_is : (kept : NameState C) (event : Event K) → names2.names ≡ kept → history2.events ≡ history.events ++ event ∷ []
      → contents_of drawn2 names2 table graph history2 callers running
      ≡ record {
        control = record { drawn = drawn2; names = kept; asks = table.asks; graph = graph };
        events = history.events ++ event ∷ [];
        callers = callers;
        workers = length running;
      }
  renamed_is kept event names_is events = cc

  pub register_is : (arity : C → ℕ) (caller : ℕ) (body : C) (id : Id) (children : List Ref) → drawn2 ≡ drawn + 2 + present children
      → names2.names ≡ registered names.names drawn (ByCaller caller) 0 body children → IsSound arity names2.names → AreReached names2.names
      → history2.events ≡ history.events ++ Register caller id children ∷ []
      → contents_of drawn2 names2 table graph history2 callers running
      ≡ after_event (contents_of drawn names table graph history callers running) (body ∷ []) (Register caller id children)
  register_is arity caller body id children drawn_is names_is sound reached events =
      let kept : names2.names ≡ swept (registered names.names drawn (ByCaller caller) 0 body children) = sym (nothing_goes arity names2.names sound reached) ∙ ap swept names_is in
      renamed_is _ (Register caller id children) kept events
      ∙ ap (λ n. record {
        control = record { drawn = n; names = swept (registered names.names drawn (ByCaller caller) 0 body children); asks = table.asks; graph = graph };
        events = history.events ++ Register caller id children ∷ [];
        callers = callers;
        workers = length running;
      }) drawn_is

  pub copy_is : (arity : C → ℕ) (caller : ℕ) (from to : Id) → drawn2 ≡ drawn + 1
      → names2.names ≡ copied names.names from.number (drawn + 1) (ByCaller caller) → IsSound arity names2.names → AreReached names2.names
      → history2.events ≡ history.events ++ Copy caller from to ∷ []
      → contents_of drawn2 names2 table graph history2 callers running
      ≡ after_event (contents_of drawn names table graph history callers running) [] (Copy caller from to)
  copy_is arity caller from to drawn_is names_is sound reached events =
      let kept : names2.names ≡ swept (copied names.names from.number (drawn + 1) (ByCaller caller)) = sym (nothing_goes arity names2.names sound reached) ∙ ap swept names_is in
      renamed_is _ (Copy caller from to) kept events
      ∙ ap (λ n. record {
        control = record { drawn = n; names = swept (copied names.names from.number (drawn + 1) (ByCaller caller)); asks = table.asks; graph = graph };
        events = history.events ++ Copy caller from to ∷ [];
        callers = callers;
        workers = length running;
      }) drawn_is
