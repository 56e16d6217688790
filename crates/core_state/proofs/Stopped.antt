-- What is owed where a caller is stopped, and what hangs together then.
use Rattle.std.proofs.Common.{◌≡◌, ℕ, ◌+◌, ◌<◌, ◌≤◌, Bool, true, false, ◌||◌, cond, nat_eq, List, [], ◌∷◌, ◌++◌, Option, sym, ap, subst, ◌∙◌, arith}
use Rattle.std.specs.Ordering.{nat_cmp}
use Rattle.std.specs.Cmp.{nat_cmp_total, unsigned_tied}
use Rattle.std.specs.FinMap as map
use Rattle.std.specs.FinSet as numbers
use Rattle.cht_ids.specs.declared.refs.Ref.{Ref}
use Rattle.chunk_refs.specs.Room.{Contents as Names}
use Rattle.name_states.proofs.Basics.{test_same, test_apart}
use Rattle.task_states.specs.States.{Graph, is_stopped}
use Rattle.task_states.specs.Steps.{with_stopped}
use Rattle.cht_history.specs.History.{History}
use Rattle.cht_history.specs.declared.event.Event.{Event}
use Rattle.name_machine.specs.States.{Ask, has_ask}
use Rattle.core_state.specs.AskTable.{AskTable}
use Rattle.core_state.specs.Needed.{due_for_caller, total_below}
use Rattle.core_state.specs.Inside.{IsKept}
use Rattle.core_state.proofs.Totals.{below_but_one}
use Rattle.core_state.proofs.Needs.{more_events}

module _ {K : Type 0} (graph : Graph Ref K) (caller : ℕ) where
  stopped_test : (q : ℕ) → is_stopped (with_stopped graph caller) q ≡ (nat_eq q caller || is_stopped graph q)
  stopped_test q = numbers.contains-insert nat_cmp_total graph.stopped caller q ∙ ap (λ b. b || is_stopped graph q) (unsigned_tied q caller)

  now_stopped : is_stopped (with_stopped graph caller) caller ≡ true
  now_stopped = stopped_test caller ∙ ap (λ b. b || is_stopped graph caller) (test_same caller)

  as_before : (q : ℕ) → (q ≡ caller → ⊥) → is_stopped (with_stopped graph caller) q ≡ is_stopped graph q
  as_before q apart = stopped_test q ∙ ap (λ b. b || is_stopped graph q) (test_apart q caller apart)

-- what is due for a caller with an ask
pub due_at : (asks : map.FinMap nat_cmp (Ask (Unit {0}) Ref)) (stopped : ℕ → Bool) (caller : ℕ) (b : Bool) → has_ask asks caller ≡ true → stopped caller ≡ b
    → due_for_caller asks stopped caller ≡ cond b 1 2
due_at asks stopped caller b has is = ap (λ x. cond x (cond (stopped caller) 1 2) 0) has ∙ ap (λ x. cond x 1 2) is

module _ {C K : Type 0} (drawn : ℕ) (names : Names C) (table : AskTable) (graph : Graph Ref K) (history : History K) (callers : ℕ) (running : List (Option ℕ)) (owed : ℕ)
    (kept : IsKept drawn names table graph history callers running owed) (caller : ℕ) (within : caller < callers)
    (has : has_ask table.asks caller ≡ true) (goes : is_stopped graph caller ≡ false) where
  one_less : total_below callers (due_for_caller table.asks (is_stopped (with_stopped graph caller))) + 1 ≡ total_below callers (due_for_caller table.asks (is_stopped graph))
  one_less =
      let before = due_at table.asks (is_stopped graph) caller false has goes in
      let after = due_at table.asks (is_stopped (with_stopped graph caller)) caller true has (now_stopped graph caller) in
      let all = below_but_one callers (due_for_caller table.asks (is_stopped (with_stopped graph caller))) (due_for_caller table.asks (is_stopped graph)) caller within
      (λ q apart. ap (λ b. cond (has_ask table.asks q) (cond b 1 2) 0) (as_before graph caller q apart)) in
      omega arith

  -- the stop is owed
  pub owed_for_stop : 1 ≤ owed
  owed_for_stop = let less = one_less in let was = kept.enough in omega arith

  pub stopped_kept : (graph2 : Graph Ref K) (history2 : History K) (owed2 : ℕ) (event : Event K) → graph2 ≡ with_stopped graph caller
      → owed2 + 1 ≡ owed → history2.spare + 1 ≡ history.spare → history2.events ≡ history.events ++ event ∷ []
      → IsKept drawn names table graph2 history2 callers running owed2
  stopped_kept graph2 history2 owed2 event graph_is less left events =
      let due = one_less in
      let room = kept.room in
      subst (λ (gr : Graph Ref K). IsKept drawn names table gr history2 callers running owed2) (sym graph_is)
      (record {
        few_callers = kept.few_callers;
        few_workers = kept.few_workers;
        some_worker = kept.some_worker;
        stores = kept.stores;
        lists = kept.lists;
        tasks = kept.tasks;
        asks = kept.asks;
        run = record { runner = kept.run.runner; task = kept.run.task };
        few = more_events drawn names table graph history callers running owed kept history2 event 0 drawn events (omega arith) (omega arith);
        room = omega arith;
        enough = let was = kept.enough in omega arith;
      })
