-- What an abandon answers.
use Rattle.std.proofs.Common.{◌≡◌, ℕ, suc, Bool, true, false, cond, not, ◌&&◌, nat_eq, nat_cmp, List, [], ◌∷◌, length, Option, None, Some, is_some, refl, sym, ap, subst, ◌∙◌}
use Rattle.std.specs.Cmp.{nat_cmp_total, unsigned_tied}
use Rattle.std.specs.Option.{option_map, option_and_then}
use Rattle.std.specs.FinMap as map
use Rattle.std.specs.FinSet as numbers
use Rattle.cht_ids.specs.declared.refs.Ref.{Ref}
use Rattle.task_types.specs.Tree.{Tree}
use Rattle.task_types.specs.Meanings.{Meanings}
use Rattle.task_types.specs.Sound.{AddsUp}
use Rattle.name_states.specs.States.{NameState}
use Rattle.name_states.specs.WithoutContents.{each_value}
use Rattle.name_states.proofs.Basics.{same_from_test, test_same}
use Rattle.name_states.proofs.Values.{replaced, entries_replaced, get_each_value}
use Rattle.task_states.specs.declared.states.TaskStatus.TheVariants.{Waiting, Ready, Running}
use Rattle.task_states.specs.Maps.{kept}
use Rattle.task_states.specs.States.{Unfinished, Graph, task_at, caller_of, is_running, is_run_for, is_stopped, running}
use Rattle.task_states.specs.Steps.{abandoned}
use Rattle.task_states.proofs.Maps.{same_maps, get-kept}
use Rattle.cht_history.specs.declared.event.Event.TheVariants.{Abandon}
use Rattle.name_machine.specs.States.{Machine, is_of, has_ask}
use Rattle.name_machine.specs.Steps.{gave_up}
use Rattle.name_machine.specs.Facts.{HoldsTogether}
use Rattle.name_machine.specs.Standing.{task_shown, graph_shown}
use Rattle.name_machine.proofs.Grow.{false_or}
use Rattle.name_machine.proofs.Leaving.{task_was, left, ask_was}
use Rattle.name_machine.proofs.Stand.{shown_at, awaiting_shown, ask_shown_has}
use Rattle.name_machine.proofs.Tasks.{mapped_from}
use Rattle.name_machine.proofs.Values.{any_to}
use Rattle.core_state.specs.Contents.{Contents, after_event}
use Rattle.cht_core.specs.Events.{state}
use Rattle.cht_core.specs.Answers.{HasNothingOpen, IsGone}
use Rattle.cht_core.proofs.AskCalls.{true_not_false}
use Rattle.cht_core.proofs.Calls.{IsCore, abandon_made}
use Rattle.cht_core.proofs.Together.{has_ask_from, ends_asked}

-- ---- Maps of one size

length_replaced : {X Y : Type 0} (f : X → Y) (es : List (ℕ × X)) → length (replaced f es) ≡ length es
length_replaced f [] = refl
length_replaced f (e ∷ es) = ap (λ n. suc n) (length_replaced f es)

len_each : {X Y : Type 0} (f : X → Y) (m : map.FinMap nat_cmp X) → map.len (each_value f m) ≡ map.len m
len_each f m = map.len-entries (each_value f m) ∙ ap length (entries_replaced f m) ∙ length_replaced f (map.entries m) ∙ sym (map.len-entries m)

both_there : {X Y : Type 0} (o : Option X) (p : Option Y) → is_some o ≡ is_some p → option_map {U = Bool} (λ x. true) o ≡ option_map (λ y. true) p
both_there None None is = refl
both_there None (Some y) is = absurd (let clash : false ≡ true = is in cc)
both_there (Some x) None is = absurd (let clash : true ≡ false = is in cc)
both_there (Some x) (Some y) is = refl

-- maps with the same keys have as many
same_len : {X Y : Type 0} (m : map.FinMap nat_cmp X) (n : map.FinMap nat_cmp Y) → ((q : ℕ) → is_some (map.get m q) ≡ is_some (map.get n q)) → map.len m ≡ map.len n
same_len m n same =
    sym (len_each (λ x. true) m)
    ∙ ap map.len (same_maps (each_value (λ x. true) m) (each_value (λ y. true) n)
    (λ q. get_each_value (λ x. true) m q ∙ both_there (map.get m q) (map.get n q) (same q) ∙ sym (get_each_value (λ y. true) n q)))
    ∙ len_each (λ y. true) n

-- ---- How many tasks are Running

module _ {C K : Type 0} (names : NameState C) (caller : ℕ) where
  run_shown : (t : Unfinished Ref K) → is_run_for caller (task_shown names t) ≡ is_run_for caller t
  run_shown t = ap (λ b. nat_eq t.caller caller && is_running (cond b Waiting (cond (is_some t.runner) Running Ready))) (awaiting_shown names t.inputs)

  kept_there : (b : Bool) (t : Unfinished Ref K) → is_some (cond b (Some (task_shown names t)) None) ≡ is_some (cond b (Some t) None)
  kept_there true t = refl
  kept_there false t = refl

  kept_shown : (o : Option (Unfinished Ref K))
      → is_some (option_and_then (λ (t : Unfinished (Tree C) K). cond (is_run_for caller t) (Some t) None) (option_map (task_shown names) o))
      ≡ is_some (option_and_then (λ (t : Unfinished Ref K). cond (is_run_for caller t) (Some t) None) o)
  kept_shown None = refl
  kept_shown (Some t) = ap (λ b. is_some (cond b (Some (task_shown names t)) None)) (run_shown t) ∙ kept_there (is_run_for caller t) t

  pub running_shown : (graph : Graph Ref K) → running (graph_shown names graph) caller ≡ running graph caller
  running_shown graph =
      same_len (kept (is_run_for caller) (graph_shown names graph).tasks) (kept (is_run_for caller) graph.tasks)
      (λ q.
      ap is_some (get-kept (is_run_for caller) (graph_shown names graph).tasks q ∙ ap (option_and_then (λ (t : Unfinished (Tree C) K). cond (is_run_for caller t) (Some t) None)) (shown_at names graph q))
      ∙ kept_shown (task_at graph q)
      ∙ ap is_some (sym (get-kept (is_run_for caller) graph.tasks q)))

-- ---- Nothing of a caller is open

-- a task of a caller
task_of : {X K : Type 0} (graph : Graph X K) (task caller : ℕ) → caller_of graph task ≡ Some caller → (t : Unfinished X K) × (task_at graph task ≡ Some t) × (t.caller ≡ caller)
task_of {X} {K} graph task caller is =
    let found = mapped_from (λ (t : Unfinished X K). t.caller) (task_at graph task) caller is in (found.0, found.1, sym found.2)

module _ {C K : Type 0} where
  after_giving_up : (machine : Machine C K) (caller : ℕ) → HasNothingOpen (gave_up machine caller) caller
  after_giving_up machine caller = record {
    no_tasks = λ task is.
        (let t = task_of (abandoned machine.graph caller) task caller is in
        (task_was machine.graph caller task t.0 t.1).1 t.2);
    no_asks =
        false_or (has_ask (left machine.asks caller) caller) (λ has.
        let one = any_to (is_of caller) (left machine.asks caller) has in
        (ask_was machine.asks caller one.0 one.1 one.2).1 (same_from_test one.1.caller caller one.3));
    goes_on =
        numbers.contains-remove nat_cmp_total machine.graph.stopped caller caller
        ∙ ap (λ b. not b && is_stopped machine.graph caller) (unsigned_tied caller caller ∙ test_same caller);
  }

  without_asks : (lib : Meanings C K) (machine : Machine C K) (caller : ℕ) → HoldsTogether lib machine → has_ask machine.asks caller ≡ false → HasNothingOpen machine caller
  without_asks lib machine caller facts none = record {
    no_tasks = λ task is.
        (let t = task_of machine.graph task caller is in
        true_not_false (ap (has_ask machine.asks) (sym t.2) ∙ ends_asked machine.graph machine.asks t.0.caller task (facts.awaited task t.0 t.1)) none);
    no_asks = none;
    goes_on = false_or (is_stopped machine.graph caller) (λ is. true_not_false (facts.stopped caller is) none);
  }

module _ {C K : Type 0} (lib : Meanings C K) (arity : C → ℕ) (name : K → List ℕ) (height : K → ℕ) (adds_up : AddsUp arity lib)
    (before now after : Contents C K) (view : before ≡ now) (stands : IsCore lib arity name height adds_up before) where
  -- as many as are Running
  pub running_now : (c : ℕ) → running before.control.graph c ≡ running (state lib now).graph c
  running_now c =
      sym (running_shown before.control.names c before.control.graph) ∙ ap (λ (core : Contents C K). running (state lib core).graph c) view

  pub abandon_answer : (c : ℕ) → has_ask before.control.asks c ≡ true → running before.control.graph c ≡ 0 → after ≡ after_event before [] (Abandon c)
      → IsGone lib arity now after c
  abandon_answer c asked none after_is =
      let made = abandon_made lib arity name height adds_up before now after view stands c asked none after_is in
      record {
        none_run = sym (running_now c) ∙ none;
        gives_up = λ has. made.happens;
        nothing_asked = λ nothing.
            absurd (true_not_false (subst (λ (core : Contents C K). has_ask (state lib core).asks c ≡ true) view (ask_shown_has lib before.control c asked)) nothing);
        nothing_open = subst (λ (machine : Machine C K). HasNothingOpen machine c) (sym made.happens.step.after_is) (after_giving_up (state lib now) c);
      }

  pub abandon_none : (c : ℕ) → has_ask before.control.asks c ≡ false → running before.control.graph c ≡ 0 → IsGone lib arity now now c
  abandon_none c none idle =
      let nothing : (has_ask (state lib now).asks c ≡ true) → ⊥ =
      λ has. true_not_false (has_ask_from lib before.control stands.facts c (subst (λ (core : Contents C K). has_ask (state lib core).asks c ≡ true) (sym view) has)) none in
      record {
        none_run = sym (running_now c) ∙ idle;
        gives_up = λ has. absurd (nothing has);
        nothing_asked = λ not_asked. refl;
        nothing_open =
            without_asks lib (state lib now) c (subst (λ (core : Contents C K). HoldsTogether lib (state lib core)) view stands.facts) (false_or (has_ask (state lib now).asks c) nothing);
      }
