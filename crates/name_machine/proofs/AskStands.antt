-- An ask of a control state is the machine's ask.
use Rattle.std.proofs.Common.{◌≡◌, ℕ, ◌+◌, ◌⊎◌, inl, inr, true, cond, not, ◌&&◌, nat_eq, List, [], ◌∷◌, map as each, Option, None, Some, refl, sym, ap, ◌∙◌, arith}
use Rattle.std.specs.Option.{option_map}
use Rattle.std.specs.List.{list_all}
use Rattle.std.specs.FinMap as map
use Rattle.cht_ids.specs.declared.refs.Ref.{Ref}
use Rattle.task_types.specs.Tree.{Tree}
use Rattle.task_types.specs.Meanings.{Meanings}
use Rattle.task_types.proofs.FormedTest.{both_left, both_right}
use Rattle.name_states.specs.declared.holder.Holder.TheVariants.{Task}
use Rattle.name_states.specs.States.{NameState, IdRecord, id_at, AreLive}
use Rattle.name_states.specs.Steps.{present, numbered, linked}
use Rattle.name_states.specs.Rules.{IsSound, AreReached, AreWithin}
use Rattle.name_states.specs.Trees.{tree_of}
use Rattle.name_states.proofs.Basics.{none_not_some, same_some, same_or_not, same_options, same_from_test, inserted_here, inserted_other, inserted_from}
use Rattle.name_states.proofs.Within.{AreMore, within-more}
use Rattle.name_states.proofs.Copies.{linked-from}
use Rattle.name_states.proofs.Trees.{tree-kept}
use Rattle.name_states.proofs.SweptOnce.{nothing_goes}
use Rattle.task_states.specs.Maps.{chosen}
use Rattle.task_states.specs.States.{Input, Known, Unfinished, Graph, task_at, is_stopped}
use Rattle.task_states.specs.Steps.{added, with_asked}
use Rattle.task_states.proofs.Maps.{same_maps}
use Rattle.cht_history.specs.declared.event.Event.TheVariants.{Ask as AskEvent}
use Rattle.name_machine.specs.States.{Ask}
use Rattle.name_machine.specs.States as machine
use Rattle.name_machine.specs.Steps.{asked}
use Rattle.name_machine.specs.Goals.{goal_within}
use Rattle.name_machine.specs.Machine.{Asks}
use Rattle.name_machine.specs.Facts.{HoldsTogether}
use Rattle.name_machine.specs.Control.{Control, tidied, ask_event}
use Rattle.name_machine.specs.Replay.{Plans, may_mention, is_allowed}
use Rattle.name_machine.specs.Forgetting.{forgotten}
use Rattle.name_machine.specs.Standing.{input_shown, task_shown, graph_shown, held_shown, asked_among, goal_shown, holding_shown, ask_shown, machine_of, IsOrderly}
use Rattle.name_machine.proofs.Tasks.{changed_here, changed_other}
use Rattle.name_machine.proofs.Asking.{known_read}
use Rattle.name_machine.proofs.Works.{chosen_from, chosen_to}
use Rattle.name_machine.proofs.Stand.{shown_at, shown_changed, not_true}
use Rattle.name_machine.proofs.Orderly.{output_is_live, output_is_drawn}
use Rattle.name_machine.proofs.Grow.{drawn_deeper, graph_grown, held_same, may_all}
use Rattle.name_machine.proofs.Linking.{sound_linked, more_linked, reached_linked, linked_read, is_output_more}
use Rattle.name_machine.proofs.AskedFor.{asked_is, added_same, known_goal}

known_shown : {C : Type 0} (names : NameState C) (refs : List Ref) → each (input_shown names) (each Known refs) ≡ each Known (each (tree_of names) refs)
known_shown names [] = refl
known_shown names (r ∷ refs) = ap (λ rest. Known (tree_of names r) ∷ rest) (known_shown names refs)

module _ {C K : Type 0} (lib : Meanings C K) (arity : C → ℕ) (control : Control C (Unit {0}) K) (orderly : IsOrderly arity control) (facts : HoldsTogether lib (machine_of lib control))
    (caller : ℕ) (kind : K) (inputs : List Ref) (live : AreLive control.names inputs)
    (reads : each (machine.tree_named (machine_of lib control)) inputs ≡ each (tree_of control.names) inputs) where
  abbrev number : ℕ
  number = control.drawn + 1

  abbrev out : ℕ
  out = control.drawn + 2 + present inputs

  abbrev shown : Graph (Tree C) K
  shown = graph_shown control.names control.graph

  abbrev more : NameState C
  more = linked control.names number (Task number) inputs

  abbrev trees : List (Tree C)
  trees = each (machine.tree_named (machine_of lib control)) inputs

  abbrev new_ask : Ask (Unit {0}) Ref
  new_ask = record { caller = caller; number = out; goal = tt; delivered = None }

  abbrev new : Unfinished (Tree C) K
  new = record { caller = caller; kind = kind; inputs = each Known trees; runner = None; asked = Some out }

  abbrev bare : Unfinished (Tree C) K
  bare = record { caller = caller; kind = kind; inputs = each Known trees; runner = None; asked = None }

  abbrev ask_under : Unfinished (Tree C) K → Unfinished (Tree C) K
  ask_under t = record t { asked = Some out }

  abbrev final : Graph (Tree C) K
  final = with_asked (added shown number caller kind (each Known trees)) number out

  within : AreWithin control.names number
  within = within-more control.names control.drawn number orderly.within (omega arith)

  is_more : AreMore control.names more
  is_more = more_linked control.names number (Task number) inputs within

  -- ---- Tasks

  final_new : task_at final number ≡ Some new
  final_new = changed_here (added shown number caller kind (each Known trees)) number ask_under ∙ ap (option_map ask_under) (inserted_here shown.tasks number number bare bare refl refl)

  final_other : (q : ℕ) → (q ≡ number → ⊥) → task_at final q ≡ task_at shown q
  final_other q apart = changed_other (added shown number caller kind (each Known trees)) number q ask_under apart ∙ inserted_other shown.tasks number q bare apart

  final_old : (q : ℕ) (t : Unfinished (Tree C) K) → task_at shown q ≡ Some t → task_at final q ≡ Some t
  final_old q t is = let low = facts.numbered.tasks q t is in final_other q (λ same. omega arith) ∙ is

  final_from : (q : ℕ) (t : Unfinished (Tree C) K) → task_at final q ≡ Some t → ((q ≡ number) × (t ≡ new)) ⊎ (task_at shown q ≡ Some t)
  final_from q t is =
      elim (same_or_not q number) [
        | inl same ↦ inl (same, same_some t new (sym is ∙ ap (task_at final) same ∙ final_new))
        | inr apart ↦ inr (sym (final_other q apart) ∙ is)
      ]

  added_shown : (ins : List (Input Ref)) → graph_shown more (added control.graph number caller kind ins) ≡ added (graph_shown more control.graph) number caller kind (each (input_shown more) ins)
  added_shown ins =
      let one : Unfinished Ref K = record { caller = caller; kind = kind; inputs = ins; runner = None; asked = None } in
      let tasks_are : (graph_shown more (added control.graph number caller kind ins)).tasks ≡ (added (graph_shown more control.graph) number caller kind (each (input_shown more) ins)).tasks =
      same_maps _ _ (λ q. elim (same_or_not q number) [
        | inl same ↦
            shown_at more (added control.graph number caller kind ins) q
            ∙ ap (option_map (task_shown more)) (inserted_here control.graph.tasks number q one one same refl)
            ∙ sym (inserted_here (graph_shown more control.graph).tasks number q (task_shown more one) (task_shown more one) same refl)
        | inr apart ↦
            shown_at more (added control.graph number caller kind ins) q
            ∙ ap (option_map (task_shown more)) (inserted_other control.graph.tasks number q one apart)
            ∙ sym (shown_at more control.graph q)
            ∙ sym (inserted_other (graph_shown more control.graph).tasks number q (task_shown more one) apart)
      ]) in
      λ i. record { tasks = tasks_are i; stopped = control.graph.stopped }

  inputs_shown : each (input_shown more) (each Known (numbered number inputs)) ≡ each Known trees
  inputs_shown =
      known_shown more (numbered number inputs)
      ∙ ap (each Known) (linked_read arity control.names number (Task number) inputs orderly.sound within live ∙ sym reads)

  graph_is : graph_shown more (with_asked (added control.graph number caller kind (each Known (numbered number inputs))) number out) ≡ final
  graph_is =
      shown_changed more (added control.graph number caller kind (each Known (numbered number inputs))) number (λ t. record t { asked = Some out }) ask_under (λ t. refl)
      ∙ ap (λ g. with_asked g number out) (added_shown (each Known (numbered number inputs)))
      ∙ (λ i. with_asked (added (graph_grown lib arity control orderly more is_more i) number caller kind (inputs_shown i)) number out)

  -- ---- Asks

  new_goal : goal_within lib out final (asked_among out (map.entries final.tasks)) ≡ lib.goal kind trees
  new_goal =
      ap (goal_within lib out final) (asked_is out final number new final_new refl (λ r u is asked. elim (final_from r u is) [
        | inl here ↦ here.0
        | inr old ↦
            absurd (let ask = facts.asked.asks r out u old asked in
            let low = (facts.numbered.asks ask.0 ask.1 ask.2).1 in
            let same = ask.4 in
            omega arith)
      ]))
      ∙ known_goal lib out final number new trees (omega arith) final_new (λ goals. known_read goals trees)

  abbrev before : ℕ → Ask (Unit {0}) Ref → Option (Ask (Tree C) (Tree C))
  before task ask = Some (ask_shown lib control.drawn control.names shown ask)

  abbrev after : ℕ → Ask (Unit {0}) Ref → Option (Ask (Tree C) (Tree C))
  after task ask = Some (ask_shown lib out more final ask)

  ask_at : (k : ℕ) (a : Ask (Unit {0}) Ref) → map.get control.asks k ≡ Some a → map.get (machine_of lib control).asks k ≡ Some (ask_shown lib control.drawn control.names shown a)
  ask_at k a is = chosen_to before control.asks k a (ask_shown lib control.drawn control.names shown a) is refl

  open_goal : (k : ℕ) (a : Ask (Unit {0}) Ref) → map.get control.asks k ≡ Some a → a.delivered ≡ None
      → goal_within lib out final (asked_among a.number (map.entries final.tasks)) ≡ (ask_shown lib control.drawn control.names shown a).goal
  open_goal k a is none =
      elim (facts.served k (ask_shown lib control.drawn control.names shown a) (ask_at k a is)) [
        | inl done ↦ absurd (none_not_some (ap (option_map (tree_of control.names)) none) done)
        | inr waits ↦
            let n : ℕ = waits.1 in
            let low = output_is_drawn arity control orderly k a is in
            ap (goal_within lib out final) (asked_is a.number final n waits.2 (final_old n waits.2 waits.3) waits.4 (λ r u at asked. elim (final_from r u at) [
              | inl here ↦ absurd (let same : out ≡ a.number = same_some out a.number (sym (ap (λ v. v.asked) here.1) ∙ asked) in omega arith)
              | inr old ↦ facts.asked.differ r n a.number u waits.2 old waits.3 asked waits.4
            ]))
            ∙ added_same lib out shown final facts.own final_old n waits.2 waits.3
            ∙ drawn_deeper lib control.drawn out shown facts.levels (omega arith) n
            ∙ waits.6
      ]

  old_ask : (k : ℕ) (a : Ask (Unit {0}) Ref) → map.get control.asks k ≡ Some a → (o : Option Ref) → a.delivered ≡ o → after k a ≡ before k a
  old_ask k a is None none =
      let goal : (ask_shown lib out more final a).goal ≡ (ask_shown lib control.drawn control.names shown a).goal = open_shown none ∙ open_goal k a is none in
      let output : option_map (tree_of more) a.delivered ≡ option_map (tree_of control.names) a.delivered = ap (option_map (tree_of more)) none ∙ sym (ap (option_map (tree_of control.names)) none) in
      λ i. Some (record { caller = a.caller; number = a.number; goal = goal i; delivered = output i })
    where
      open_shown : a.delivered ≡ None → (ask_shown lib out more final a).goal ≡ goal_within lib out final (asked_among a.number (map.entries final.tasks))
      open_shown e = ap (goal_shown lib out more final a.number) e
  old_ask k a is (Some r) done =
      let same = tree-kept arity control.names more orderly.sound is_more r (output_is_live arity control orderly k a r is done) in
      let goal : (ask_shown lib out more final a).goal ≡ (ask_shown lib control.drawn control.names shown a).goal =
      ap (goal_shown lib out more final a.number) done ∙ same ∙ sym (ap (goal_shown lib control.drawn control.names shown a.number) done) in
      let output : option_map (tree_of more) a.delivered ≡ option_map (tree_of control.names) a.delivered = ap (option_map (tree_of more)) done ∙ ap Some same ∙ sym (ap (option_map (tree_of control.names)) done) in
      λ i. Some (record { caller = a.caller; number = a.number; goal = goal i; delivered = output i })

  abbrev asked_ask : Ask (Tree C) (Tree C)
  asked_ask = record { caller = caller; number = out; goal = lib.goal kind trees; delivered = None }

  free_ask : (b : Ask (Tree C) (Tree C)) → map.get (machine_of lib control).asks number ≡ Some b → ⊥
  free_ask b is = let low = (facts.numbered.asks number b is).0 in omega arith

  free_ref : (b : Ask (Unit {0}) Ref) → map.get control.asks number ≡ Some b → ⊥
  free_ref b is = free_ask (ask_shown lib control.drawn control.names shown b) (ask_at number b is)

  asks_are : chosen after (map.insert control.asks number new_ask) ≡ map.insert (machine_of lib control).asks number asked_ask
  asks_are =
      let shown_new : after number new_ask ≡ Some asked_ask = ap (λ goal. Some (record { caller = caller; number = out; goal = goal; delivered = None })) new_goal in
      same_maps _ _ (λ q. same_options _ _
      (λ x is.
      let found = chosen_from after (map.insert control.asks number new_ask) q x is in
      elim (inserted_from control.asks number q new_ask found.0 found.1) [
        | inl here ↦
            inserted_here (machine_of lib control).asks number q asked_ask x here.0 (same_some x asked_ask (sym found.2 ∙ ap (after q) here.1 ∙ shown_new))
        | inr old ↦
            inserted_other (machine_of lib control).asks number q asked_ask old.0
            ∙ chosen_to before control.asks q found.0 x old.1 (sym (old_ask q found.0 old.1 found.0.delivered refl) ∙ found.2)
      ])
      (λ x is. elim (inserted_from (machine_of lib control).asks number q asked_ask x is) [
        | inl here ↦
            chosen_to after (map.insert control.asks number new_ask) q new_ask x (inserted_here control.asks number q new_ask new_ask here.0 refl) (shown_new ∙ ap Some (sym here.1))
        | inr old ↦
            let found = chosen_from before control.asks q x old.1 in
            chosen_to after (map.insert control.asks number new_ask) q found.0 x (inserted_other control.asks number q new_ask old.0 ∙ found.1) (old_ask q found.0 found.1 found.0.delivered refl ∙ found.2)
      ]))

  -- ---- What callers hold

  held_still : (q : ℕ) (e : IdRecord) → id_at control.names q ≡ Some e → held_shown (map.insert control.asks number new_ask) more q e ≡ held_shown control.asks control.names q e
  held_still q e is =
      ap (λ b. cond b None (holding_shown more e e.holder)) (is_output_more control.asks number new_ask q e.holder refl free_ref)
      ∙ held_same lib arity control orderly more is_more q e is

  holdings_are : chosen (held_shown (map.insert control.asks number new_ask) more) more.ids ≡ (machine_of lib control).holdings
  holdings_are =
      let choice = held_shown (map.insert control.asks number new_ask) more in
      same_maps _ _ (λ q. same_options _ _
      (λ x is.
      let found = chosen_from choice more.ids q x is in
      elim (linked-from control.names control.names number (Task number) inputs within (λ n e at. at) live q found.0 found.1) [
        | inl old ↦ chosen_to (held_shown control.asks control.names) control.names.ids q found.0 x old (sym (held_still q found.0 old) ∙ found.2)
        | inr copy ↦ absurd (none_not_some (ap (choice q) copy.4) found.2)
      ])
      (λ x is.
      let found = chosen_from (held_shown control.asks control.names) control.names.ids q x is in
      chosen_to choice more.ids q found.0 x (is_more.ids q found.0 found.1) (held_still q found.0 found.1 ∙ found.2)))

  ask_is : machine_of lib (tidied (ask_event control caller tt kind inputs)) ≡ asked lib (machine_of lib control) caller kind inputs
  ask_is =
      let sound : IsSound arity more = sound_linked arity control.names number (Task number) inputs orderly.sound within tt live in
      let reached : AreReached more = reached_linked control.names number (Task number) inputs within orderly.reached in
      let event : Control C (Unit {0}) K = ask_event control caller tt kind inputs in
      ap (λ (n : NameState C). machine_of lib (record event { names = n })) (nothing_goes arity more sound reached)
      ∙ (λ i. record {
        drawn = out;
        holdings = holdings_are i;
        asks = (ap (λ g. chosen (λ (task : ℕ) (ask : Ask (Unit {0}) Ref). Some (ask_shown lib out more g ask)) (map.insert control.asks number new_ask)) graph_is ∙ asks_are) i;
        graph = graph_is i;
      })

module _ {C K : Type 0} (lib : Meanings C K) (arity : C → ℕ) where
  pub ask_stands : (control : Control C (Unit {0}) K) (plans : Plans K) (caller task : ℕ) (kind : K) (inputs : List Ref) → IsOrderly arity control → HoldsTogether lib (machine_of lib control)
      → lib.defined kind (each (machine.tree_named (machine_of lib control)) inputs) → is_allowed plans (forgotten arity control) (AskEvent caller task kind inputs) ≡ true
      → Asks lib arity (machine_of lib control) (machine_of lib (tidied (ask_event control caller tt kind inputs))) caller task kind inputs
  ask_stands control plans caller task kind inputs orderly facts defined allowed =
      let front = not (is_stopped control.graph caller) && list_all (may_mention (forgotten arity control) caller) inputs in
      let first = both_left front (nat_eq task (control.drawn + 1)) allowed in
      let mentioned = may_all lib arity control orderly caller inputs (both_right (not (is_stopped control.graph caller)) (list_all (may_mention (forgotten arity control) caller) inputs) first) in
      record {
        goes_on = not_true (is_stopped control.graph caller) (both_left (not (is_stopped control.graph caller)) (list_all (may_mention (forgotten arity control) caller) inputs) first);
        mentioned = mentioned.0.0;
        defined = defined;
        number = same_from_test task (control.drawn + 1) (both_right front (nat_eq task (control.drawn + 1)) allowed);
        after_is = ask_is lib arity control orderly facts caller kind inputs mentioned.0.1 mentioned.1;
      }
