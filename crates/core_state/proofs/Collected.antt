-- What is owed where an output is collected, and what hangs together then.
use Rattle.std.proofs.Common.{◌≡◌, ℕ, ◌+◌, ◌<◌, ◌≤◌, Bool, true, false, cond, ◌&&◌, nat_eq, List, [], ◌∷◌, ◌++◌, Option, None, Some, length, refl, sym, ap, ◌∙◌, arith}
use Rattle.std.specs.Ordering.{nat_cmp}
use Rattle.std.specs.FinMap as map
use Rattle.cht_ids.specs.declared.refs.Ref.{Ref}
use Rattle.cht_ids.specs.declared.refs.Ref.TheVariants.{Null, Id as Held}
use Rattle.chunk_refs.specs.Room.{Contents as Names}
use Rattle.name_states.proofs.Basics.{none_not_some, same_some, same_from_test, test_same, removed_other, removed_from}
use Rattle.task_states.specs.States.{Graph, is_stopped}
use Rattle.cht_history.specs.History.{History}
use Rattle.cht_history.specs.declared.event.Event.{Event}
use Rattle.name_machine.specs.States.{Ask, has_ask, is_of}
use Rattle.name_machine.specs.Replay.{is_delivered, delivered_is, same_ref}
use Rattle.name_machine.proofs.Values.{any_from, any_to}
use Rattle.core_state.specs.AskTable.{AskTable}
use Rattle.core_state.specs.Needed.{due_for_output, due_for_ask, due_for_caller, total_by, total_below}
use Rattle.core_state.specs.Inside.{IsKept}
use Rattle.core_state.proofs.Totals.{total_removed, below_but_one}
use Rattle.core_state.proofs.Needs.{more_events}
use Rattle.core_state.proofs.Stopped.{due_at}

same_bools : (a b : Bool) → (a ≡ true → b ≡ true) → (b ≡ true → a ≡ true) → a ≡ b
same_bools true b f g = sym (f refl)
same_bools false true f g = g refl
same_bools false false f g = refl

has_within : (asks more : map.FinMap nat_cmp (Ask (Unit {0}) Ref)) (caller : ℕ)
    → ((k : ℕ) (a : Ask (Unit {0}) Ref) → map.get asks k ≡ Some a → a.caller ≡ caller → map.get more k ≡ Some a) → has_ask asks caller ≡ true → has_ask more caller ≡ true
has_within asks more caller within has =
    let one = any_to (is_of caller) asks has in
    any_from (is_of caller) more one.0 one.1 (within one.0 one.1 one.2 (same_from_test one.1.caller caller one.3)) one.3

-- a caller has an ask in both or in neither, where the same asks of it are in both
pub same_has : (asks more : map.FinMap nat_cmp (Ask (Unit {0}) Ref)) (caller : ℕ)
    → ((k : ℕ) (a : Ask (Unit {0}) Ref) → map.get asks k ≡ Some a → a.caller ≡ caller → map.get more k ≡ Some a)
    → ((k : ℕ) (a : Ask (Unit {0}) Ref) → map.get more k ≡ Some a → a.caller ≡ caller → map.get asks k ≡ Some a) → has_ask asks caller ≡ has_ask more caller
same_has asks more caller to from = same_bools (has_ask asks caller) (has_ask more caller) (has_within asks more caller to) (has_within more asks caller from)

-- an ask of a caller is one that it has
pub has_one : (asks : map.FinMap nat_cmp (Ask (Unit {0}) Ref)) (k : ℕ) (a : Ask (Unit {0}) Ref) (caller : ℕ) → map.get asks k ≡ Some a → a.caller ≡ caller
    → has_ask asks caller ≡ true
has_one asks k a caller is own = any_from (is_of caller) asks k a is (ap (λ n. nat_eq n caller) own ∙ test_same caller)

due_delivered : (o : Option Ref) (r : Ref) → o ≡ Some r → due_for_output o ≡ 1
due_delivered None r is = absurd (none_not_some refl is)
due_delivered (Some Null) r is = refl
due_delivered (Some (Held id)) r is = refl

both_true : (a b : Bool) → a ≡ true → b ≡ true → (a && b) ≡ true
both_true a b p q = ap (λ x. x && b) p ∙ q

same_itself : (r : Ref) → same_ref r r ≡ true
same_itself Null = refl
same_itself (Held id) = both_true (nat_eq id.owner id.owner) (nat_eq id.number id.number) (test_same id.owner) (test_same id.number)

-- what was delivered is what is answered
pub output_is : (caller : ℕ) (got : Ref) (found : Option (Ask (Unit {0}) Ref)) (ask : Ask (Unit {0}) Ref) → found ≡ Some ask → ask.caller ≡ caller → ask.delivered ≡ Some got
    → is_delivered caller got found ≡ true
output_is caller got found ask is own delivered =
    ap (is_delivered caller got) is
    ∙ both_true (nat_eq ask.caller caller) (delivered_is got ask.delivered) (ap (λ n. nat_eq n caller) own ∙ test_same caller) (ap (delivered_is got) delivered ∙ same_itself got)

module _ {C K : Type 0} (drawn : ℕ) (names : Names C) (table : AskTable) (graph : Graph Ref K) (history : History K) (callers : ℕ) (running : List (Option ℕ)) (owed : ℕ)
    (kept : IsKept drawn names table graph history callers running owed) (caller task : ℕ) (ask : Ask (Unit {0}) Ref) (got : Ref) (within : caller < callers)
    (goes : is_stopped graph caller ≡ false) (there : map.get table.asks task ≡ Some ask) (own : ask.caller ≡ caller) (delivered : ask.delivered ≡ Some got) where
  abbrev left : map.FinMap nat_cmp (Ask (Unit {0}) Ref)
  left = map.remove table.asks task

  others : (q : ℕ) → (q ≡ caller → ⊥) → has_ask left q ≡ has_ask table.asks q
  others q apart =
      same_has left table.asks q (λ k a is of. (removed_from table.asks task k a is).1)
      (λ k a is of. removed_other table.asks task k (λ same. apart (sym of ∙ ap (λ (x : Ask (Unit {0}) Ref). x.caller) (same_some a ask (sym is ∙ ap (map.get table.asks) same ∙ there)) ∙ own)) ∙ is)

  less : (b : Bool) → has_ask left caller ≡ b
      → total_by due_for_ask left + total_below callers (due_for_caller left (is_stopped graph)) + cond b 1 3
      ≡ total_by due_for_ask table.asks + total_below callers (due_for_caller table.asks (is_stopped graph))
  less true has =
      let removed = total_removed due_for_ask table.asks task ask there in
      let one : due_for_ask ask ≡ 1 = due_delivered ask.delivered got delivered in
      let before = due_at table.asks (is_stopped graph) caller false (has_one table.asks task ask caller there own) goes in
      let after = due_at left (is_stopped graph) caller false has goes in
      let all = below_but_one callers (due_for_caller left (is_stopped graph)) (due_for_caller table.asks (is_stopped graph)) caller within
      (λ q apart. ap (λ b. cond b (cond (is_stopped graph q) 1 2) 0) (others q apart)) in
      omega arith
  less false has =
      let removed = total_removed due_for_ask table.asks task ask there in
      let one : due_for_ask ask ≡ 1 = due_delivered ask.delivered got delivered in
      let before = due_at table.asks (is_stopped graph) caller false (has_one table.asks task ask caller there own) goes in
      let after : due_for_caller left (is_stopped graph) caller ≡ 0 = ap (λ x. cond x (cond (is_stopped graph caller) 1 2) 0) has in
      let all = below_but_one callers (due_for_caller left (is_stopped graph)) (due_for_caller table.asks (is_stopped graph)) caller within
      (λ q apart. ap (λ b. cond b (cond (is_stopped graph q) 1 2) 0) (others q apart)) in
      omega arith

  -- the collect is owed, with the stop and the abandon where it is the caller's last ask
  pub owed_for_collect : (b : Bool) → has_ask left caller ≡ b → cond b 1 3 ≤ owed
  owed_for_collect b has = let due = less b has in let was = kept.enough in omega arith

  pub one_owed : (b : Bool) → has_ask left caller ≡ b → 1 ≤ owed
  one_owed true has = let due = less true has in let was = kept.enough in omega arith
  one_owed false has = let due = less false has in let was = kept.enough in omega arith

  lower : (b : Bool) (m n : ℕ) → m + cond b 1 3 ≡ n → m + 1 ≤ n
  lower true m n is = omega arith
  lower false m n is = omega arith

  pub collected_kept : (b : Bool) (table2 : AskTable) (history2 : History K) (owed2 : ℕ) (event : Event K) → has_ask left caller ≡ b
      → table2.asks ≡ left → length table2.rooms ≡ length table.rooms
      → owed2 + cond b 1 3 ≡ owed → history2.spare + 1 ≡ history.spare → history2.events ≡ history.events ++ event ∷ []
      → IsKept drawn names table2 graph history2 callers running owed2
  collected_kept b table2 history2 owed2 event has asks_is rooms less_owed spare events =
      let due = less b has in
      let asked : total_by due_for_ask table2.asks ≡ total_by due_for_ask left = ap (total_by due_for_ask) asks_is in
      let shares : total_below callers (due_for_caller table2.asks (is_stopped graph)) ≡ total_below callers (due_for_caller left (is_stopped graph)) =
      ap (λ (m : map.FinMap nat_cmp (Ask (Unit {0}) Ref)). total_below callers (due_for_caller m (is_stopped graph))) asks_is in
      let low = lower b owed2 owed less_owed in
      let room = kept.room in
      record {
        few_callers = kept.few_callers;
        few_workers = kept.few_workers;
        some_worker = kept.some_worker;
        stores = kept.stores;
        lists = rooms ∙ kept.lists;
        tasks = kept.tasks;
        asks = λ q a is. kept.asks q a (removed_from table.asks task q a (sym (ap (λ (m : map.FinMap nat_cmp (Ask (Unit {0}) Ref)). map.get m q) asks_is) ∙ is)).1;
        run = kept.run;
        few = more_events drawn names table graph history callers running owed kept history2 event 0 drawn events (omega arith) (omega arith);
        room = omega arith;
        enough = let was = kept.enough in omega arith;
      }
