-- A core that nothing happened to.
use Rattle.std.proofs.Common.{◌≡◌, ℕ, zero, suc, ◌≤◌, true, false, cond, nat_eq, List, [], ◌∷◌, ◌++◌, length, count_by, Option, None, Some, is_some, refl, sym, ap, ◌∙◌, arith}
use Rattle.std.specs.Prelude.{slice_get}
use Rattle.std.specs.Option.{option_map}
use Rattle.std.specs.Map.{lookup}
use Rattle.std.specs.Ordering.{nat_cmp}
use Rattle.std.specs.FinMap as map
use Rattle.std.proofs.lemmas.List.Sums.{sum_by-cons}
use Rattle.cht_ids.specs.declared.refs.Ref.{Ref}
use Rattle.chunk_refs.specs.Room.{Contents as Names, workers_of}
use Rattle.name_states.specs.States.{NameState, no_names}
use Rattle.name_states.proofs.Basics.{none_not_some, same_some}
use Rattle.task_states.specs.States.{Graph, no_tasks, is_stopped}
use Rattle.task_states.proofs.Maps.{same_maps}
use Rattle.cht_history.specs.History.{History}
use Rattle.name_machine.specs.States.{Ask, has_ask, is_of}
use Rattle.name_machine.proofs.Values.{any_to}
use Rattle.core_state.specs.declared.asked.Kept.{Kept}
use Rattle.core_state.specs.AskTable.{AskTable}
use Rattle.core_state.specs.Lists.{is_listed, AreIdle}
use Rattle.core_state.specs.Asked.{shown_ask, asks_of, AreListed}
use Rattle.core_state.specs.Needed.{due_for_id, due_for_ask, due_for_caller, total_by}
use Rattle.core_state.specs.Inside.{IsKept}
use Rattle.core_state.proofs.Totals.{total_empty, below_nothing}
use Rattle.core_state.proofs.Asking.{get-asks_of}

pub idle_more : (xs : List (Option ℕ)) → AreIdle xs → AreIdle (xs ++ None ∷ [])
idle_more [] idle = (refl, tt)
idle_more (x ∷ xs) idle = (idle.0, idle_more xs idle.1)

none_idle : (xs : List (Option ℕ)) → AreIdle xs → (i task : ℕ) → slice_get xs i ≡ Some (Some task) → ⊥
none_idle [] idle i task is = none_not_some refl is
none_idle (x ∷ xs) idle zero task is = none_not_some refl (sym idle.0 ∙ same_some x (Some task) is)
none_idle (x ∷ xs) idle (suc i) task is = none_idle xs idle.1 i task is

count_idle : (xs : List (Option ℕ)) → AreIdle xs → count_by is_some xs ≡ 0
count_idle [] idle = refl
count_idle (x ∷ xs) idle =
    let first = sum_by-cons (λ (o : Option ℕ). cond (is_some o) 1 0) x xs in
    let none : ◌≡◌ {A = ℕ} (cond {A = ℕ} (is_some x) 1 0) 0 = ap (λ (o : Option ℕ). cond {A = ℕ} (is_some o) 1 0) idle.0 in
    let rest = count_idle xs idle.1 in
    omega arith

-- nobody has an ask where there is none
pub no_ask : (asks : map.FinMap nat_cmp (Ask (Unit {0}) Ref)) → asks ≡ map.empty → (caller : ℕ) → has_ask asks caller ≡ false
no_ask asks is caller =
    elim (has_ask asks caller) as (λ b. has_ask asks caller ≡ b → b ≡ false) [
      | true ↦ λ has.
          let one = any_to (is_of {G = Unit {0}} {X = Ref} caller) asks has in
          absurd (none_not_some (ap (λ (m : map.FinMap nat_cmp (Ask (Unit {0}) Ref)). map.get m one.0) is ∙ map.get-empty nat_cmp one.0) one.2)
      | false ↦ λ none. refl
    ] refl

pub nothing_asked : (es : List (ℕ × Kept)) → es ≡ [] → asks_of es ≡ map.empty
nothing_asked es is = same_maps (asks_of es) map.empty (λ q. get-asks_of es q ∙ ap (λ xs. option_map shown_ask (lookup (nat_eq q) xs)) is ∙ sym (map.get-empty nat_cmp q))

pub nothing_listed : (es : List (ℕ × Kept)) (outputs : List (ℕ × ℕ)) (lists : List (List ℕ)) → es ≡ [] → outputs ≡ [] → ((caller task : ℕ) → is_listed lists caller task ≡ false)
    → AreListed es outputs lists
nothing_listed es outputs lists no_asks no_outputs none = record {
  output = λ task kept is. absurd (none_not_some (ap (lookup (nat_eq task)) no_asks) is);
  asked = λ number task is. absurd (none_not_some (ap (lookup (nat_eq number)) no_outputs) is);
  listed = λ task kept is. absurd (none_not_some (ap (lookup (nat_eq task)) no_asks) is);
  own = λ caller task is. absurd (let clash : false ≡ true = sym (none caller task) ∙ is in cc);
}

pub fresh_kept : {C K : Type 0} (drawn : ℕ) (names : Names C) (table : AskTable) (graph : Graph Ref K) (history : History K) (callers workers : ℕ) (running : List (Option ℕ))
    → drawn ≡ 0 → names.names ≡ no_names → table.asks ≡ map.empty → graph ≡ no_tasks
    → callers ≤ 64 → workers ≤ 64 → 1 ≤ workers → workers_of names ≡ workers → length table.rooms ≡ callers → length running ≡ workers → AreIdle running
    → IsKept drawn names table graph history callers running 0
fresh_kept {C} {K} drawn names table graph history callers workers running drawn_is names_is asks_is graph_is few_callers few_workers some stores rooms long idle =
    let no_task : (q : ℕ) → map.get graph.tasks q ≡ None = λ q. ap (λ (gr : Graph Ref K). map.get gr.tasks q) graph_is ∙ map.get-empty nat_cmp q in
    let ids = ap (λ (n : NameState C). total_by due_for_id n.ids) names_is ∙ total_empty due_for_id in
    let asked = ap (λ (m : map.FinMap nat_cmp (Ask (Unit {0}) Ref)). total_by due_for_ask m) asks_is ∙ total_empty due_for_ask in
    let dues = below_nothing callers (due_for_caller table.asks (is_stopped graph)) (λ q. ap (λ b. cond b (cond (is_stopped graph q) 1 2) 0) (no_ask table.asks asks_is q)) in
    let runs = count_idle running idle in
    record {
      few_callers = few_callers;
      few_workers = omega arith;
      some_worker = omega arith;
      stores = stores ∙ sym long;
      lists = rooms;
      tasks = λ q u is. absurd (none_not_some (no_task q) is);
      asks = λ q ask is. absurd (none_not_some (ap (λ (m : map.FinMap nat_cmp (Ask (Unit {0}) Ref)). map.get m q) asks_is ∙ map.get-empty nat_cmp q) is);
      run = record {
        runner = λ q w u is r. absurd (none_not_some (no_task q) is);
        task = λ w q is. absurd (none_idle running idle w q is);
      };
      few = omega arith;
      room = omega arith;
      enough = omega arith;
    }
