-- A delete and an abandon of a control state are the machine's.
use Rattle.std.proofs.Common.{◌≡◌, ℕ, inl, inr, true, false, cond, not, ◌&&◌, nat_eq, nat_cmp, Option, None, Some, is_some, refl, sym, ap, subst, ◌∙◌, arith}
use Rattle.std.specs.Option.{option_map}
use Rattle.std.specs.List.{list_any}
use Rattle.std.specs.FinMap as map
use Rattle.std.specs.FinSet as numbers
use Rattle.cht_ids.specs.declared.refs.Id.{Id}
use Rattle.cht_ids.specs.declared.refs.Ref.{Ref}
use Rattle.task_types.specs.Tree.{Tree}
use Rattle.task_types.specs.Meanings.{Meanings}
use Rattle.task_types.proofs.FormedTest.{both_left, both_right}
use Rattle.name_states.specs.declared.holder.Holder.{Holder}
use Rattle.name_states.specs.declared.holder.Holder.TheVariants.{Caller, Task, Body}
use Rattle.name_states.specs.States.{NameState, IdRecord, id_at}
use Rattle.name_states.specs.Reached.{swept}
use Rattle.name_states.specs.Trees.{tree_of}
use Rattle.name_states.proofs.Basics.{none_not_some, same_some, same_options, same_from_test, removed_from, removed_other}
use Rattle.name_states.proofs.Swept.{id-left}
use Rattle.name_states.proofs.Within.{AreMore}
use Rattle.task_states.specs.declared.states.TaskStatus.TheVariants.{Waiting, Ready, Running}
use Rattle.task_states.specs.Maps.{chosen, kept}
use Rattle.task_states.specs.States.{Unfinished, Graph, task_at, input_at, is_running, is_run_for, running}
use Rattle.task_states.specs.Steps.{abandoned}
use Rattle.task_states.proofs.Maps.{same_maps, get-kept}
use Rattle.cht_history.specs.declared.event.Event.TheVariants.{Abandon}
use Rattle.name_machine.specs.States.{Holding, Ask, is_of, has_ask}
use Rattle.name_machine.specs.Steps.{gave_up, deleted}
use Rattle.name_machine.specs.Goals.{goal_within}
use Rattle.name_machine.specs.Facts.{HasLevels, AwaitsOwn, HoldsTogether}
use Rattle.name_machine.specs.Machine.{Deletes, GivesUp}
use Rattle.name_machine.specs.Control.{Control, tidied, is_uncollected, goes_with, delete_event, abandon_event}
use Rattle.name_machine.specs.Replay.{Plans, is_mine, is_allowed}
use Rattle.name_machine.specs.Forgetting.{forgotten}
use Rattle.name_machine.specs.Standing.{task_shown, graph_shown, is_output, holding_shown, held_shown, asked_among, goal_shown, ask_shown, machine_of, IsOrderly}
use Rattle.name_machine.proofs.Values.{any_from, any_to}
use Rattle.name_machine.proofs.Ends.{inputs_at}
use Rattle.name_machine.proofs.Tasks.{mapped_from, passed_from, passed_to}
use Rattle.name_machine.proofs.Works.{chosen_from, chosen_to}
use Rattle.name_machine.proofs.Empty.{none_in, no_len}
use Rattle.name_machine.proofs.Stand.{shown_at, awaiting_shown, ask_shown_has}
use Rattle.name_machine.proofs.Grow.{graph_grown, asks_grown, held_same, IsMine, mine_of, mine_held, false_or, uncollected_number}
use Rattle.name_machine.proofs.AskedFor.{asked_is, added_same}
use Rattle.name_machine.proofs.Linking.{same_bools}
use Rattle.name_machine.proofs.Orderly.{output_holder}
use Rattle.name_machine.proofs.Ordered.{input_from}
use Rattle.name_machine.proofs.Fewer.{left_at}
use Rattle.name_machine.proofs.Leaving.{task_was, task_stays, left, ask_was, ask_stays, uncollected_caller}
use Rattle.name_machine.proofs.KeepsOrder.{deleting, deleting_fewer, deleting_stays, delete_order, leaving, leaving_fewer, leaving_stays, abandon_order}

-- what is shown of an identifier is a caller's, and no output
pub shown_by : {C G : Type 0} (asks : map.FinMap nat_cmp (Ask G Ref)) (names : NameState C) (q : ℕ) (e : IdRecord) (holder : Holder) (h : Holding C)
    → cond (is_output asks q holder) None (holding_shown names e holder) ≡ Some h → (c : ℕ) × (holder ≡ Caller c) × (is_output asks q (Caller c) ≡ false)
shown_by {C} asks names q e (Caller c) h is =
    elim (is_output asks q (Caller c)) as (λ b. is_output asks q (Caller c) ≡ b → cond b None (holding_shown names e (Caller c)) ≡ Some h
    → (o : ℕ) × (Caller c ≡ Caller o) × (is_output asks q (Caller o) ≡ false)) [
      | true ↦ λ at found. absurd (none_not_some refl found)
      | false ↦ λ at found. (c, refl, at)
    ] refl is
shown_by asks names q e (Task task) h is = absurd (none_not_some refl is)
shown_by asks names q e (Body body) h is = absurd (none_not_some refl is)

module _ {C K : Type 0} (lib : Meanings C K) (arity : C → ℕ) (control : Control C (Unit {0}) K) (orderly : IsOrderly arity control) (facts : HoldsTogether lib (machine_of lib control)) where
  abbrev shown : Graph (Tree C) K
  shown = graph_shown control.names control.graph

  -- ---- A delete

  module _ (caller : ℕ) (id : Id) (its : IsMine lib arity control orderly caller id) where
    abbrev less : NameState C
    less = swept (deleting lib arity control orderly id)

    abbrev end : Control C (Unit {0}) K
    end = tidied (delete_event control id)

    ordered : IsOrderly arity end
    ordered = delete_order lib arity control orderly caller id its

    fewer : AreMore less control.names
    fewer = deleting_fewer lib arity control orderly caller id its

    deleted_graph : graph_shown less control.graph ≡ shown
    deleted_graph = sym (graph_grown lib arity end ordered control.names fewer)

    deleted_asks : (machine_of lib end).asks ≡ (machine_of lib control).asks
    deleted_asks =
        sym (asks_grown lib arity end ordered control.names fewer control.drawn (omega arith) (subst (λ g. HasLevels g control.drawn) (sym deleted_graph) facts.levels))

    deleted_holdings : (machine_of lib end).holdings ≡ map.remove (machine_of lib control).holdings id.number
    deleted_holdings =
        same_maps _ _ (λ q. same_options _ _
        (λ x is.
        let found = chosen_from (held_shown control.asks less) less.ids q x is in
        let was = removed_from control.names.ids id.number q found.0 (id-left (deleting lib arity control orderly id) q found.0 found.1).0 in
        removed_other (machine_of lib control).holdings id.number q was.0
        ∙ chosen_to (held_shown control.asks control.names) control.names.ids q found.0 x was.1 (held_same lib arity end ordered control.names fewer q found.0 found.1 ∙ found.2))
        (λ x is.
        let was = removed_from (machine_of lib control).holdings id.number q x is in
        let found = chosen_from (held_shown control.asks control.names) control.names.ids q x was.1 in
        let by = shown_by control.asks control.names q found.0 found.0.holder x found.2 in
        let stays = deleting_stays lib arity control orderly caller id its q found.0 (Caller by.0) was.0 found.1 by.1 tt in
        chosen_to (held_shown control.asks less) less.ids q found.0 x stays (sym (held_same lib arity end ordered control.names fewer q found.0 stays) ∙ found.2)))

    pub delete_is : machine_of lib (tidied (delete_event control id)) ≡ deleted (machine_of lib control) id.number
    delete_is = λ i. record { drawn = control.drawn; holdings = deleted_holdings i; asks = deleted_asks i; graph = deleted_graph i }

  pub delete_stands : (caller : ℕ) (id : Id) → is_mine (forgotten arity control) caller id ≡ true
      → Deletes lib arity (machine_of lib control) (machine_of lib (tidied (delete_event control id))) caller id
  delete_stands caller id allowed =
      let its = mine_of lib arity control orderly caller id allowed in
      record { held = ap is_some (mine_held lib arity control orderly caller id its); after_is = delete_is caller id its }

  -- ---- An abandon

  module _ (caller : ℕ) where
    abbrev few : NameState C
    few = swept (leaving lib arity control orderly caller)

    abbrev rest : Control C (Unit {0}) K
    rest = tidied (abandon_event control caller)

    abbrev rest_asks : map.FinMap nat_cmp (Ask (Unit {0}) Ref)
    rest_asks = left control.asks caller

    abbrev rest_graph : Graph (Tree C) K
    rest_graph = abandoned shown caller

    in_order : IsOrderly arity rest
    in_order = abandon_order lib arity control orderly facts caller

    are_more : AreMore few control.names
    are_more = leaving_fewer lib arity control orderly caller

    -- tasks are left alike
    abandoned_shown : graph_shown control.names (abandoned control.graph caller) ≡ rest_graph
    abandoned_shown =
        let tasks_are : (graph_shown control.names (abandoned control.graph caller)).tasks ≡ rest_graph.tasks =
        same_maps _ _ (λ q. same_options _ _
        (λ x is.
        let found = mapped_from (task_shown control.names) (task_at (abandoned control.graph caller) q) x (sym (shown_at control.names (abandoned control.graph caller) q) ∙ is) in
        let was = task_was control.graph caller q found.0 found.1 in
        task_stays shown caller q (task_shown control.names found.0) (shown_at control.names control.graph q ∙ ap (option_map (task_shown control.names)) was.0) was.1 ∙ ap Some (sym found.2))
        (λ x is.
        let was = task_was shown caller q x is in
        let found = mapped_from (task_shown control.names) (task_at control.graph q) x (sym (shown_at control.names control.graph q) ∙ was.0) in
        shown_at control.names (abandoned control.graph caller) q
        ∙ ap (option_map (task_shown control.names)) (task_stays control.graph caller q found.0 found.1 (λ same. was.1 (ap (λ (t : Unfinished (Tree C) K). t.caller) found.2 ∙ same)))
        ∙ ap Some (sym found.2))) in
        λ i. record { tasks = tasks_are i; stopped = numbers.remove control.graph.stopped caller }

    left_graph : graph_shown few (abandoned control.graph caller) ≡ rest_graph
    left_graph = sym (graph_grown lib arity rest in_order control.names are_more) ∙ abandoned_shown

    was_input : (q p : ℕ) (input : _) → input_at rest_graph q p ≡ Some input → input_at shown q p ≡ Some input
    was_input q p input is =
        let t = input_from rest_graph q p input is in
        inputs_at shown q p t.0 (task_was shown caller q t.0 t.1).0 ∙ t.2

    left_levels : HasLevels rest_graph control.drawn
    left_levels = record {
      level = facts.levels.level;
      few = λ q t is. facts.levels.few q t (task_was shown caller q t is).0;
      falls = λ q awaited awaits. facts.levels.falls q awaited (awaits.0, awaits.1, was_input q awaits.0 _ awaits.2);
    }

    left_own : AwaitsOwn rest_graph
    left_own q awaited t is awaits =
        let was = task_was shown caller q t is in
        let other = facts.own q awaited t was.0 (awaits.0, awaits.1, was_input q awaits.0 _ awaits.2) in
        (other.0, task_stays shown caller awaited other.0 other.1 (λ same. was.1 (sym other.2 ∙ same)), other.2)

    -- the goal of an ask that is left is still read off its task
    left_goal : (k : ℕ) (a : Ask (Unit {0}) Ref) → map.get control.asks k ≡ Some a → (a.caller ≡ caller → ⊥) → (o : Option Ref) → a.delivered ≡ o
        → goal_shown lib control.drawn control.names rest_graph a.number o ≡ goal_shown lib control.drawn control.names shown a.number o
    left_goal k a is apart (Some r) at = refl
    left_goal k a is apart None at =
        let whole : Ask (Tree C) (Tree C) = ask_shown lib control.drawn control.names shown a in
        let there = chosen_to (λ task ask. Some (ask_shown lib control.drawn control.names shown ask)) control.asks k a whole is refl in
        elim (facts.served k whole there) [
          | inl done ↦ absurd (none_not_some (ap (option_map (tree_of control.names)) at) done)
          | inr waits ↦
              let q : ℕ = waits.1 in
              let t : Unfinished (Tree C) K = waits.2 in
              let stays : task_at rest_graph q ≡ Some t = task_stays shown caller q t waits.3 (λ same. apart (sym waits.5 ∙ same)) in
              let here : asked_among a.number (map.entries shown.tasks) ≡ q =
              asked_is a.number shown q t waits.3 waits.4 (λ r u at_r asked. facts.asked.differ r q a.number u t at_r waits.3 asked waits.4) in
              let after : asked_among a.number (map.entries rest_graph.tasks) ≡ q =
              asked_is a.number rest_graph q t stays waits.4 (λ r u at_r asked. facts.asked.differ r q a.number u t (task_was shown caller r u at_r).0 waits.3 asked waits.4) in
              ap (goal_within lib control.drawn rest_graph) after
              ∙ sym (added_same lib control.drawn rest_graph shown left_own (λ r u at_r. (task_was shown caller r u at_r).0) q t stays)
              ∙ ap (goal_within lib control.drawn shown) (sym here)
        ]

    left_asks : (machine_of lib rest).asks ≡ kept (λ ask. not (is_of caller ask)) (machine_of lib control).asks
    left_asks =
        let before : ℕ → Ask (Unit {0}) Ref → Option (Ask (Tree C) (Tree C)) = λ task ask. Some (ask_shown lib control.drawn control.names shown ask) in
        let after : ℕ → Ask (Unit {0}) Ref → Option (Ask (Tree C) (Tree C)) = λ task ask. Some (ask_shown lib control.drawn control.names rest_graph ask) in
        let alike : (k : ℕ) (a : Ask (Unit {0}) Ref) → map.get control.asks k ≡ Some a → (a.caller ≡ caller → ⊥) → after k a ≡ before k a = λ k a is apart.
        (let goal = left_goal k a is apart a.delivered refl in
        λ i. Some (record { caller = a.caller; number = a.number; goal = goal i; delivered = option_map (tree_of control.names) a.delivered })) in
        let first : chosen (λ task ask. Some (ask_shown lib control.drawn control.names (graph_shown control.names rest.graph) ask)) rest_asks ≡ (machine_of lib rest).asks =
        asks_grown lib arity rest in_order control.names are_more control.drawn (omega arith) (subst (λ g. HasLevels g control.drawn) (sym left_graph) left_levels) in
        let second : chosen (λ task ask. Some (ask_shown lib control.drawn control.names (graph_shown control.names rest.graph) ask)) rest_asks ≡ chosen after rest_asks =
        ap (λ g. chosen (λ task ask. Some (ask_shown lib control.drawn control.names g ask)) rest_asks) abandoned_shown in
        let third : chosen after rest_asks ≡ kept (λ ask. not (is_of caller ask)) (machine_of lib control).asks =
        same_maps _ _ (λ q. same_options _ _
        (λ x is.
        let found = chosen_from after rest_asks q x is in
        let was = ask_was control.asks caller q found.0 found.1 in
        let same : before q found.0 ≡ Some x = sym (alike q found.0 was.0 was.1) ∙ found.2 in
        ask_stays (machine_of lib control).asks caller q x (chosen_to before control.asks q found.0 x was.0 same)
        (λ own. was.1 (ap (λ (b : Ask (Tree C) (Tree C)). b.caller) (same_some _ x same) ∙ own)))
        (λ x is.
        let was = ask_was (machine_of lib control).asks caller q x is in
        let found = chosen_from before control.asks q x was.0 in
        let apart : found.0.caller ≡ caller → ⊥ = λ own. was.1 (sym (ap (λ (b : Ask (Tree C) (Tree C)). b.caller) (same_some _ x found.2)) ∙ own) in
        chosen_to after rest_asks q found.0 x (ask_stays control.asks caller q found.0 found.1 apart) (alike q found.0 found.1 apart ∙ found.2))) in
        sym first ∙ second ∙ third

    -- an output of another caller is one still, and no other
    left_output : (q c : ℕ) → list_any (is_uncollected caller q) (map.values control.asks) ≡ false → is_output rest_asks q (Caller c) ≡ is_output control.asks q (Caller c)
    left_output q c none =
        same_bools (is_output rest_asks q (Caller c)) (is_output control.asks q (Caller c))
        (λ is.
        let one = any_to (is_uncollected c q) rest_asks is in
        any_from (is_uncollected c q) control.asks one.0 one.1 (ask_was control.asks caller one.0 one.1 one.2).0 one.3)
        (λ is.
        let one = any_to (is_uncollected c q) control.asks is in
        any_from (is_uncollected c q) rest_asks one.0 one.1
        (ask_stays control.asks caller one.0 one.1 one.2 (λ own.
        let which : c ≡ caller = sym (uncollected_caller c q one.1 one.3) ∙ own in
        let clash : true ≡ false = sym is ∙ ap (λ m. list_any (is_uncollected m q) (map.values control.asks)) which ∙ none in
        cc)) one.3)

    left_shown : (q : ℕ) (e : IdRecord) (c : ℕ) → e.holder ≡ Caller c → list_any (is_uncollected caller q) (map.values control.asks) ≡ false
        → held_shown rest_asks control.names q e ≡ held_shown control.asks control.names q e
    left_shown q e c held none =
        (λ i. cond (is_output rest_asks q (held i)) None (holding_shown control.names e (held i)))
        ∙ ap (λ b. cond b None (holding_shown control.names e (Caller c))) (left_output q c none)
        ∙ (λ i. cond (is_output control.asks q (sym held i)) None (holding_shown control.names e (sym held i)))

    left_holdings : (machine_of lib rest).holdings ≡ (machine_of lib control).holdings
    left_holdings =
        same_maps _ _ (λ q. same_options _ _
        (λ x is.
        let found = chosen_from (held_shown rest_asks few) few.ids q x is in
        let by = shown_by rest_asks few q found.0 found.0.holder x found.2 in
        let at = left_at control.names (goes_with control caller) q found.0 (id-left (leaving lib arity control orderly caller) q found.0 found.1).0 in
        let none : list_any (is_uncollected caller q) (map.values control.asks) ≡ false = sym (ap (λ holder. goes_with control caller q (Some (record found.0 { holder = holder }))) by.1) ∙ at.1 in
        chosen_to (held_shown control.asks control.names) control.names.ids q found.0 x at.0
        (sym (left_shown q found.0 by.0 by.1 none) ∙ held_same lib arity rest in_order control.names are_more q found.0 found.1 ∙ found.2))
        (λ x is.
        let found = chosen_from (held_shown control.asks control.names) control.names.ids q x is in
        let by = shown_by control.asks control.names q found.0 found.0.holder x found.2 in
        let none : list_any (is_uncollected caller q) (map.values control.asks) ≡ false =
        false_or (list_any (is_uncollected caller q) (map.values control.asks)) (λ any. its_output q found.0 by.0 found.1 by.1 by.2 any) in
        let stays = leaving_stays lib arity control orderly caller q found.0 (Caller by.0) found.1 by.1 tt none in
        chosen_to (held_shown rest_asks few) few.ids q found.0 x stays
        (sym (held_same lib arity rest in_order control.names are_more q found.0 stays) ∙ left_shown q found.0 by.0 by.1 none ∙ found.2)))
      where
        its_output : (q : ℕ) (e : IdRecord) (c : ℕ) → id_at control.names q ≡ Some e → e.holder ≡ Caller c → is_output control.asks q (Caller c) ≡ false
            → list_any (is_uncollected caller q) (map.values control.asks) ≡ true → ⊥
        its_output q e c is held fresh any =
            let one = any_to (is_uncollected caller q) control.asks any in
            let holder = output_holder arity control orderly one.0 q one.1 e one.2 (uncollected_number caller q one.1 one.3) (both_right _ (is_some one.1.delivered) one.3) is in
            let own : one.1.caller ≡ caller = uncollected_caller caller q one.1 one.3 in
            let both : Caller c ≡ Caller one.1.caller = sym held ∙ holder in
            let which : c ≡ one.1.caller = cc in
            let clash : true ≡ false = sym any ∙ ap (λ m. list_any (is_uncollected m q) (map.values control.asks)) (sym own ∙ sym which) ∙ fresh in
            cc

    pub abandon_is : machine_of lib (tidied (abandon_event control caller)) ≡ gave_up (machine_of lib control) caller
    abandon_is = λ i. record { drawn = control.drawn; holdings = left_holdings i; asks = left_asks i; graph = left_graph i }

    run_shown : (t : Unfinished Ref K) → is_run_for caller (task_shown control.names t) ≡ is_run_for caller t
    run_shown t = ap (λ b. nat_eq t.caller caller && is_running (cond b Waiting (cond (is_some t.runner) Running Ready))) (awaiting_shown control.names t.inputs)

    none_run : running control.graph caller ≡ 0 → running shown caller ≡ 0
    none_run none =
        no_len (kept (is_run_for caller) shown.tasks) (λ q x is.
        let passed = passed_from (is_run_for caller) (task_at shown q) x (sym (get-kept (is_run_for caller) shown.tasks q) ∙ is) in
        let found = mapped_from (task_shown control.names) (task_at control.graph q) x (sym (shown_at control.names control.graph q) ∙ passed.0) in
        let runs : is_run_for caller found.0 ≡ true = sym (run_shown found.0) ∙ ap (is_run_for caller) (sym found.2) ∙ passed.1 in
        none_in (kept (is_run_for caller) control.graph.tasks) none q found.0
        (get-kept (is_run_for caller) control.graph.tasks q ∙ passed_to (is_run_for caller) (task_at control.graph q) found.0 found.1 runs))

  pub abandon_stands : (plans : Plans K) (caller : ℕ) → is_allowed plans (forgotten arity control) (Abandon caller) ≡ true
      → GivesUp lib arity (machine_of lib control) (machine_of lib (tidied (abandon_event control caller))) caller
  abandon_stands plans caller allowed = record {
    has_one = ask_shown_has lib control caller (both_left (has_ask control.asks caller) (nat_eq (running control.graph caller) 0) allowed);
    none_run = none_run caller (same_from_test (running control.graph caller) 0 (both_right (has_ask control.asks caller) (nat_eq (running control.graph caller) 0) allowed));
    after_is = abandon_is caller;
  }
