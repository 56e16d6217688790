-- Once a task is finished the control state stands for what the machine's step leaves.
use Rattle.std.proofs.Common.{◌≡◌, ℕ, suc, inl, inr, Bool, true, false, cond, nat_eq, nat_cmp, ◌&&◌, List, [], ◌∷◌, map as each, slice_get, Option, None, Some, is_some, refl, sym, ap, subst, ◌∙◌}
use Rattle.std.specs.Option.{option_map}
use Rattle.std.specs.List.{list_any}
use Rattle.std.specs.FinMap as map
use Rattle.cht_ids.specs.declared.refs.Ref.{Ref}
use Rattle.task_types.specs.Tree.{Tree}
use Rattle.task_types.specs.Meanings.{Meanings}
use Rattle.name_states.specs.declared.holder.Holder.TheVariants.{Caller as ByCaller, Task as ByTask}
use Rattle.name_states.specs.States.{NameState, IdRecord, id_at, IsLiveRef}
use Rattle.name_states.specs.Steps.{IsOutside}
use Rattle.name_states.specs.Trees.{tree_of}
use Rattle.name_states.proofs.Basics.{none_not_some, same_or_not, test_same, test_apart, removed_here}
use Rattle.name_states.proofs.Within.{AreMore}
use Rattle.name_states.proofs.Trees.{tree-kept, body-tree-kept}
use Rattle.task_states.specs.Maps.{chosen, each_changed}
use Rattle.task_states.specs.States.{Input, Known, Awaits, Unfinished, Graph, task_at, input_at, asked_of}
use Rattle.task_states.specs.Steps.{settled, redirected, all_delivered, inputs_redirected, asked_moved, forwarded, removed}
use Rattle.task_states.proofs.Maps.{get-each_changed, same_maps}
use Rattle.name_machine.specs.States.{Machine, Ask, is_of}
use Rattle.name_machine.specs.Steps.{answered}
use Rattle.name_machine.specs.Facts.{HoldsTogether}
use Rattle.name_machine.specs.Control.{Control, with_number, is_uncollected, answered_with, tidied, settled_to, without_task}
use Rattle.name_machine.specs.Standing.{input_shown, task_shown, graph_shown, is_output, held_shown, ask_shown, machine_of, IsOrderly}
use Rattle.name_machine.proofs.Values.{any_from, any_to}
use Rattle.name_machine.proofs.Tasks.{mapped_from}
use Rattle.name_machine.proofs.Ends.{inputs_at}
use Rattle.name_machine.proofs.Invariant.{IsAskFor}
use Rattle.name_machine.proofs.Stands.{ByValue, ByTask as StandsTask, asked_then, become, stood_at}
use Rattle.name_machine.proofs.Answered.{answer_caller, answer_number, answer_other, answer_here}
use Rattle.name_machine.proofs.Grow.{uncollected_number}
use Rattle.name_machine.proofs.Linking.{same_bools}
use Rattle.name_machine.proofs.Stand.{shown_at}
use Rattle.name_machine.proofs.Orderly.{ref_is_live}
use Rattle.name_machine.proofs.FinishMiddle.{Middle, ref_more}
use Rattle.name_machine.proofs.FinishSettled.{deliver, settled_at, settled_here, IsAnswered, Answered, Stays, answer_is, copied, settled_graph, answered_asks, settled_control, settled_middle, settled_more, settled_from, input_copy, asked_copy, asked_free, answered_was, ends, forwarded_graph, forwarded_control, forwarded_middle, forward_ends}
use Rattle.name_machine.proofs.FinishEnd.{left, ended, end_orderly, end_stays, end_was, end_tree, end_entry_tree}
use Rattle.name_machine.proofs.FinishFacts.{ShowsAs, asks_by_facts, HeldOn, holdings_alike}

-- ---- Inputs

module _ {C : Type 0} (one two : NameState C) (gone : ℕ) where
  settled_inputs : (value : ℕ → Ref) (x : Tree C) (inputs : List (Input Ref)) → ((p : ℕ) (r : Ref) → slice_get inputs p ≡ Some (Known r) → tree_of two r ≡ tree_of one r)
      → ((p n : ℕ) → slice_get inputs p ≡ Some (Awaits gone n) → tree_of two (value n) ≡ x)
      → each (input_shown two) (each (settled gone value) inputs) ≡ each (settled gone (λ n. x)) (each (input_shown one) inputs)
  settled_inputs value x [] known copy = refl
  settled_inputs value x (Known r ∷ inputs) known copy =
      let head = known 0 r refl in
      let tail = settled_inputs value x inputs (λ p s is. known (suc p) s is) (λ p n is. copy (suc p) n is) in
      λ i. Known (head i) ∷ tail i
  settled_inputs value x (Awaits a n ∷ inputs) known copy =
      let tail = settled_inputs value x inputs (λ p s is. known (suc p) s is) (λ p m is. copy (suc p) m is) in
      let head : input_shown two (settled gone value (Awaits a n)) ≡ settled gone (λ m. x) (Awaits a n) =
      elim (same_or_not a gone) [
        | inl same ↦
            ap (λ k. input_shown two (settled gone value (Awaits k n))) same
            ∙ ap (input_shown two) (settled_here gone value n)
            ∙ ap Known (copy 0 n (ap (λ k. Some (Awaits k n)) same))
            ∙ sym (settled_here gone (λ m. x) n)
            ∙ ap (λ k. settled gone (λ m. x) (Awaits k n)) (sym same)
        | inr apart ↦
            ap (λ b. input_shown two (cond b (Known (value n)) (Awaits a n))) (test_apart a gone apart)
            ∙ sym (ap (λ b. cond b (Known x) (Awaits a n)) (test_apart a gone apart))
      ] in
      λ i. head i ∷ tail i

  redirected_inputs : (to : ℕ) (inputs : List (Input Ref)) → ((p : ℕ) (r : Ref) → slice_get inputs p ≡ Some (Known r) → tree_of two r ≡ tree_of one r)
      → each (input_shown two) (each (redirected gone to) inputs) ≡ each (redirected gone to) (each (input_shown one) inputs)
  redirected_inputs to [] known = refl
  redirected_inputs to (Known r ∷ inputs) known =
      let head = known 0 r refl in
      let tail = redirected_inputs to inputs (λ p s is. known (suc p) s is) in
      λ i. Known (head i) ∷ tail i
  redirected_inputs to (Awaits a n ∷ inputs) known =
      ap (λ rest. Awaits (cond (nat_eq a gone) to a) n ∷ rest) (redirected_inputs to inputs (λ p s is. known (suc p) s is))

asked_alike : (X Y : Type 0) (to q : ℕ) (asked own : Option ℕ) → asked_then {X = X} (StandsTask to) asked q own ≡ asked_then {X = Y} (StandsTask to) asked q own
asked_alike X Y to q None own = refl
asked_alike X Y to q (Some n) own = refl

module _ {X K : Type 0} where
  moved_stopped : (graph : Graph X K) (task to : ℕ) (o : Option ℕ) → (asked_moved graph task to o).stopped ≡ graph.stopped
  moved_stopped graph task to None = refl
  moved_stopped graph task to (Some n) = refl

  abbrev asked_in : Option (Unfinished X K) → Option ℕ
  asked_in o = elim o as (λ x. Option ℕ) [ None ↦ None | Some task ↦ task.asked ]

all_three : (a b c : Bool) → a ≡ true → b ≡ true → c ≡ true → (a && b && c) ≡ true
all_three a b c p q r = (λ i. p i && q i && r i)

module _ {C K : Type 0} (lib : Meanings C K) (arity : C → ℕ) (gone : ℕ) (control : Control C (Unit {0}) K) (middle : Middle arity gone control) (ran : Unfinished Ref K) (there : task_at control.graph gone ≡ Some ran)
    (own_ask : (n : ℕ) → ran.asked ≡ Some n → IsAskFor control.asks ran.caller n)
    (differ : (k l : ℕ) (a b : Ask (Unit {0}) Ref) → map.get control.asks k ≡ Some a → map.get control.asks l ≡ Some b → a.number ≡ b.number → k ≡ l)
    (machine : Machine C K) (drawn_is : control.drawn ≡ machine.drawn) (graph_is : graph_shown control.names control.graph ≡ machine.graph)
    (holdings_are : chosen (held_shown control.asks control.names) control.names.ids ≡ machine.holdings)
    (asks_to : (k : ℕ) (a : Ask (Unit {0}) Ref) → map.get control.asks k ≡ Some a → (b : Ask (Tree C) (Tree C)) × (map.get machine.asks k ≡ Some b) × ShowsAs control.names a b)
    (asks_back : (k : ℕ) (b : Ask (Tree C) (Tree C)) → map.get machine.asks k ≡ Some b → (a : Ask (Unit {0}) Ref) × (map.get control.asks k ≡ Some a)) where
  shown_asked : asked_of (graph_shown control.names control.graph) gone ≡ ran.asked
  shown_asked = ap asked_in (shown_at control.names control.graph gone ∙ ap (option_map (task_shown control.names)) there)

  machine_asked : asked_of machine.graph gone ≡ ran.asked
  machine_asked = ap (λ (g : Graph (Tree C) K). asked_of g gone) (sym graph_is) ∙ shown_asked

  control_asked : asked_of control.graph gone ≡ ran.asked
  control_asked = ap asked_in there

  caller_apart : (by : ℕ) → ByCaller by ≡ ByTask gone → ⊥
  caller_apart by same = cc

  task_apart : (q : ℕ) → (q ≡ gone → ⊥) → ByTask q ≡ ByTask gone → ⊥
  task_apart q apart same = apart (let task_is : q ≡ gone = cc in task_is)

  -- ---- A result that is a reference

  module _ (r : Ref) (live : IsLiveRef control.names r) (x : Tree C) (reads : tree_of control.names r ≡ x) where
    abbrev copies : NameState C
    copies = copied arity gone control middle ran there own_ask differ r live

    abbrev graph_then : Graph Ref K
    graph_then = settled_graph arity gone control middle ran there own_ask differ r live

    abbrev asks_then : map.FinMap nat_cmp (Ask (Unit {0}) Ref)
    asks_then = answered_asks arity gone control middle ran there own_ask differ r live

    abbrev then_control : Control C (Unit {0}) K
    then_control = settled_control arity gone control middle ran there own_ask differ r live

    then_middle : Middle arity gone then_control
    then_middle = settled_middle arity gone control middle ran there own_ask differ r live

    none : task_at graph_then gone ≡ None
    none = (ends arity gone control middle ran there own_ask differ r live).none

    abbrev last_names : NameState C
    last_names = left arity gone copies then_middle.sound

    abbrev last : Control C (Unit {0}) K
    last = ended arity gone then_control then_middle none

    -- what the machine's step leaves
    abbrev pub machine_then : Machine C K
    machine_then = record {
      drawn = machine.drawn;
      holdings = machine.holdings;
      asks = each_changed (answered (asked_of machine.graph gone) x) machine.asks;
      graph = removed (all_delivered machine.graph gone (λ number. x)) gone;
    }

    more : AreMore control.names copies
    more = settled_more arity gone control middle ran there own_ask differ r live

    -- known inputs and copies
    known_tree : (q p : ℕ) (s : Ref) → (q ≡ gone → ⊥) → input_at control.graph q p ≡ Some (Known s) → tree_of last_names s ≡ tree_of control.names s
    known_tree q p s apart is =
        let own = middle.inputs q p s is in
        end_tree arity gone copies then_middle.sound (ByTask q) s tt (task_apart q apart) (ref_more control.names copies (ByTask q) s more own)
        ∙ tree-kept arity control.names copies middle.sound more s (ref_is_live control.names (ByTask q) s own)

    copy_tree : (q p n : ℕ) → (q ≡ gone → ⊥) → input_at control.graph q p ≡ Some (Awaits gone n) → tree_of last_names (with_number r n) ≡ x
    copy_tree q p n apart is =
        let copy = input_copy arity gone control middle ran there own_ask differ r live q p n is in
        end_tree arity gone copies then_middle.sound (ByTask q) (with_number r n) tt (task_apart q apart) copy.0 ∙ copy.1 ∙ reads

    core : (q : ℕ) → (q ≡ gone → ⊥) → (o : Option (Unfinished Ref K)) → task_at control.graph q ≡ o
        → option_map (task_shown last_names) (option_map (deliver gone (with_number r)) o) ≡ option_map (deliver gone (λ n. x)) (option_map (task_shown control.names) o)
    core q apart None is = refl
    core q apart (Some t) is =
        let inputs = settled_inputs control.names last_names gone (with_number r) x t.inputs
        (λ p s at. known_tree q p s apart (inputs_at control.graph q p t is ∙ at)) (λ p n at. copy_tree q p n apart (inputs_at control.graph q p t is ∙ at)) in
        λ i. Some (record { caller = t.caller; kind = t.kind; inputs = inputs i; runner = t.runner; asked = t.asked })

    graph_end : graph_shown last_names graph_then ≡ removed (all_delivered (graph_shown control.names control.graph) gone (λ n. x)) gone
    graph_end =
        let shown : Graph (Tree C) K = graph_shown control.names control.graph in
        let tasks_are : (graph_shown last_names graph_then).tasks ≡ (removed (all_delivered shown gone (λ n. x)) gone).tasks =
        same_maps _ _ (λ q. elim (same_or_not q gone) [
          | inl same ↦
              shown_at last_names graph_then q
              ∙ ap (option_map (task_shown last_names)) (ap (task_at graph_then) same ∙ none)
              ∙ sym (removed_here (all_delivered shown gone (λ n. x)).tasks gone q same)
          | inr apart ↦
              shown_at last_names graph_then q
              ∙ ap (option_map (task_shown last_names)) (settled_at control.graph gone q (with_number r) apart)
              ∙ core q apart (task_at control.graph q) refl
              ∙ ap (option_map (deliver gone (λ n. x))) (sym (shown_at control.names control.graph q))
              ∙ sym (settled_at shown gone q (λ n. x) apart)
        ]) in
        λ i. record { tasks = tasks_are i; stopped = control.graph.stopped }

    graph_all : graph_shown last_names graph_then ≡ machine_then.graph
    graph_all = graph_end ∙ ap (λ (g : Graph (Tree C) K). removed (all_delivered g gone (λ n. x)) gone) graph_is

    -- outputs that were delivered before
    output_trees : (k : ℕ) (a : Ask (Unit {0}) Ref) → map.get control.asks k ≡ Some a → (o : Option Ref) → a.delivered ≡ o → option_map (tree_of last_names) o ≡ option_map (tree_of control.names) o
    output_trees k a is None done = refl
    output_trees k a is (Some s) done =
        let own = (middle.outputs k a s is done).0 in
        ap Some
        (end_tree arity gone copies then_middle.sound (ByCaller a.caller) s tt (caller_apart a.caller) (ref_more control.names copies (ByCaller a.caller) s more own)
        ∙ tree-kept arity control.names copies middle.sound more s (ref_is_live control.names (ByCaller a.caller) s own))

    shows_then : (k : ℕ) (a b : Ask (Unit {0}) Ref) (c : Ask (Tree C) (Tree C)) → map.get control.asks k ≡ Some a → IsAnswered ran.asked r a b → ShowsAs control.names a c
        → ShowsAs last_names b (answered (asked_of machine.graph gone) x c)
    shows_then k a b c at (Answered asked is) shows =
        let copy = asked_copy arity gone control middle ran there own_ask differ r live a.number asked in
        let tree : tree_of last_names (with_number r a.number) ≡ x = end_tree arity gone copies then_middle.sound (ByCaller ran.caller) (with_number r a.number) tt (caller_apart ran.caller) copy.0 ∙ copy.1 ∙ reads in
        record {
          caller = answer_caller (ByValue x) (asked_of machine.graph gone) c ∙ shows.caller ∙ sym (ap (λ (d : Ask (Unit {0}) Ref). d.caller) is);
          number = answer_number (ByValue x) (asked_of machine.graph gone) c ∙ shows.number ∙ sym (ap (λ (d : Ask (Unit {0}) Ref). d.number) is);
          delivered =
              answer_here x (asked_of machine.graph gone) c (machine_asked ∙ asked ∙ ap Some (sym shows.number))
              ∙ ap Some (sym tree)
              ∙ sym (ap (λ (d : Ask (Unit {0}) Ref). option_map (tree_of last_names) d.delivered) is);
        }
    shows_then k a b c at (Stays never is) shows =
        let same : answered (asked_of machine.graph gone) x c ≡ c = answer_other (ByValue x) (asked_of machine.graph gone) c (λ asked. never (sym machine_asked ∙ asked ∙ ap Some shows.number)) in
        record {
          caller = answer_caller (ByValue x) (asked_of machine.graph gone) c ∙ shows.caller ∙ sym (ap (λ (d : Ask (Unit {0}) Ref). d.caller) is);
          number = answer_number (ByValue x) (asked_of machine.graph gone) c ∙ shows.number ∙ sym (ap (λ (d : Ask (Unit {0}) Ref). d.number) is);
          delivered =
              ap (λ (d : Ask (Tree C) (Tree C)). d.delivered) same
              ∙ shows.delivered
              ∙ sym (output_trees k a at a.delivered refl)
              ∙ sym (ap (λ (d : Ask (Unit {0}) Ref). option_map (tree_of last_names) d.delivered) is);
        }

    all_shows : (k : ℕ) (b : Ask (Unit {0}) Ref) → map.get asks_then k ≡ Some b → (c : Ask (Tree C) (Tree C)) × (map.get machine_then.asks k ≡ Some c) × ShowsAs last_names b c
    all_shows k b is =
        let was = answered_was arity gone control middle ran there own_ask differ r live k b is in
        let one = asks_to k was.0 was.1 in (
          answered (asked_of machine.graph gone) x one.0,
          get-each_changed (answered (asked_of machine.graph gone) x) machine.asks k ∙ ap (option_map (answered (asked_of machine.graph gone) x)) one.1,
          shows_then k was.0 b one.0 was.1 was.2 one.2,
        )

    all_back : (k : ℕ) (c : Ask (Tree C) (Tree C)) → map.get machine_then.asks k ≡ Some c → (b : Ask (Unit {0}) Ref) × (map.get asks_then k ≡ Some b)
    all_back k c is =
        let was = mapped_from (answered (asked_of machine.graph gone) x) (map.get machine.asks k) c (sym (get-each_changed (answered (asked_of machine.graph gone) x) machine.asks k) ∙ is) in
        let a = asks_back k was.0 was.1 in
        (answered_with ran.asked r a.0, get-each_changed (answered_with ran.asked r) control.asks k ∙ ap (option_map (answered_with ran.asked r)) a.1)

    -- what is an output that was not collected
    output_same : (q by : ℕ) (entry : IdRecord) → id_at control.names q ≡ Some entry → is_output asks_then q (ByCaller by) ≡ is_output control.asks q (ByCaller by)
    output_same q by entry is =
        same_bools _ _
        (λ some.
        let one = any_to (is_uncollected by q) asks_then some in
        let was = answered_was arity gone control middle ran there own_ask differ r live one.0 one.1 one.2 in
        go_back one.0 was.0 one.1 was.1 was.2 one.3)
        (λ some.
        let one = any_to (is_uncollected by q) control.asks some in
        any_from (is_uncollected by q) asks_then one.0 (answered_with ran.asked r one.1)
        (get-each_changed (answered_with ran.asked r) control.asks one.0 ∙ ap (option_map (answered_with ran.asked r)) one.2)
        (go_on one.1 (answered_with ran.asked r one.1) (answer_is ran.asked r one.1) one.3))
      where
        never : (a : Ask (Unit {0}) Ref) → ran.asked ≡ Some a.number → a.number ≡ q → ⊥
        never a asked number = none_not_some (ap (id_at control.names) (sym number) ∙ asked_free arity gone control middle ran there own_ask differ r live a.number asked) is

        go_back : (k : ℕ) (a b : Ask (Unit {0}) Ref) → map.get control.asks k ≡ Some a → IsAnswered ran.asked r a b → is_uncollected by q b ≡ true → list_any (is_uncollected by q) (map.values control.asks) ≡ true
        go_back k a b at (Answered asked same) test = absurd (never a asked (sym (ap (λ (d : Ask (Unit {0}) Ref). d.number) same) ∙ uncollected_number by q b test))
        go_back k a b at (Stays none_asked same) test = any_from (is_uncollected by q) control.asks k a at (ap (is_uncollected by q) (sym same) ∙ test)

        go_on : (a b : Ask (Unit {0}) Ref) → IsAnswered ran.asked r a b → is_uncollected by q a ≡ true → is_uncollected by q b ≡ true
        go_on a b (Answered asked same) test = absurd (never a asked (uncollected_number by q a test))
        go_on a b (Stays none_asked same) test = ap (is_uncollected by q) same ∙ test

    output_there : (q : ℕ) → ran.asked ≡ Some q → is_output asks_then q (ByCaller ran.caller) ≡ true
    output_there q asked =
        let own = own_ask q asked in
        any_from (is_uncollected ran.caller q) asks_then own.0 (answered_with ran.asked r own.1)
        (get-each_changed (answered_with ran.asked r) control.asks own.0 ∙ ap (option_map (answered_with ran.asked r)) own.2)
        (go own.1 (answered_with ran.asked r own.1) (answer_is ran.asked r own.1) own.3 own.4)
      where
        go : (a b : Ask (Unit {0}) Ref) → IsAnswered ran.asked r a b → a.caller ≡ ran.caller → a.number ≡ q → is_uncollected ran.caller q b ≡ true
        go a b (Answered asked_too same) caller number =
            all_three (is_of ran.caller b) (nat_eq b.number q) (is_some b.delivered)
            (ap (λ n. nat_eq n ran.caller) (ap (λ (d : Ask (Unit {0}) Ref). d.caller) same ∙ caller) ∙ test_same ran.caller)
            (ap (λ n. nat_eq n q) (ap (λ (d : Ask (Unit {0}) Ref). d.number) same ∙ number) ∙ test_same q)
            (ap (λ (d : Ask (Unit {0}) Ref). is_some d.delivered) same)
        go a b (Stays none_asked same) caller number = absurd (none_asked (asked ∙ ap Some (sym number)))

    held_on : HeldOn control.asks control.names asks_then last_names
    held_on q entry by is held free =
        let still = more.ids q entry is in
        let stays = end_stays arity gone copies then_middle.sound q entry still (subst (λ h. IsOutside h) (sym held) tt) (λ same. caller_apart by (sym held ∙ same)) in (
          stays,
          output_same q by entry is ∙ free,
          end_entry_tree arity gone copies then_middle.sound q entry stays
              ∙ body-tree-kept arity control.names copies middle.sound more entry.body (ap is_some (middle.sound.named q entry is).1),
        )

    held_back : HeldOn asks_then last_names control.asks control.names
    held_back q entry by is held free =
        let was = (end_was arity gone copies then_middle.sound q entry is).0 in
        elim (settled_from arity gone control middle ran there own_ask differ r live q entry by was held) [
          | inl old ↦ (
            old,
            sym (output_same q by entry old) ∙ free,
            sym (body-tree-kept arity control.names copies middle.sound more entry.body (ap is_some (middle.sound.named q entry old).1))
                ∙ sym (end_entry_tree arity gone copies then_middle.sound q entry is),
          )
          | inr new ↦ absurd (let clash : true ≡ false = sym (output_there q new.0) ∙ ap (λ c. is_output asks_then q (ByCaller c)) (sym new.1) ∙ free in cc)
        ]

    state_then : HoldsTogether lib machine_then → machine_of lib last ≡ machine_then
    state_then facts =
        let holdings = holdings_alike asks_then control.asks last_names control.names held_back held_on ∙ holdings_are in
        let asks : chosen (λ task ask. Some (ask_shown lib control.drawn last_names (graph_shown last_names graph_then) ask)) asks_then ≡ machine_then.asks =
        (λ i. chosen (λ (task : ℕ) (ask : Ask (Unit {0}) Ref). Some (ask_shown lib (drawn_is i) last_names (graph_all i) ask)) asks_then)
        ∙ asks_by_facts lib machine_then facts last_names asks_then all_shows all_back in
        λ i. record { drawn = drawn_is i; holdings = holdings i; asks = asks i; graph = graph_all i }

    last_is : last ≡ tidied (without_task (settled_to control gone r) gone)
    last_is =
        λ i. record {
          drawn = control.drawn;
          names = last_names;
          asks = each_changed (answered_with (sym control_asked i) r) control.asks;
          graph = graph_then;
        }

    pub settled_stands : HoldsTogether lib machine_then → machine_of lib (tidied (without_task (settled_to control gone r) gone)) ≡ machine_then
    settled_stands facts = ap (machine_of lib) (sym last_is) ∙ state_then facts

    pub settled_orderly : IsOrderly arity (tidied (without_task (settled_to control gone r) gone))
    settled_orderly = subst (IsOrderly arity) last_is (end_orderly arity gone then_control then_middle none)

  -- ---- A result that is a new task

  module _ (to : ℕ) where
    abbrev graph_next : Graph Ref K
    graph_next = forwarded_graph arity gone control middle ran there own_ask differ to

    abbrev next_control : Control C (Unit {0}) K
    next_control = forwarded_control arity gone control middle ran there own_ask differ to

    next_middle : Middle arity gone next_control
    next_middle = forwarded_middle arity gone control middle ran there own_ask differ to

    none_next : task_at graph_next gone ≡ None
    none_next = (forward_ends arity gone control middle ran there own_ask differ to).none

    abbrev next_names : NameState C
    next_names = left arity gone control.names next_middle.sound

    abbrev pub machine_next : Machine C K
    machine_next = record machine { graph = removed (forwarded machine.graph gone to) gone }

    next_known : (q p : ℕ) (s : Ref) → (q ≡ gone → ⊥) → input_at control.graph q p ≡ Some (Known s) → tree_of next_names s ≡ tree_of control.names s
    next_known q p s apart is = end_tree arity gone control.names next_middle.sound (ByTask q) s tt (task_apart q apart) (middle.inputs q p s is)

    next_core : (q : ℕ) → (q ≡ gone → ⊥) → (asked : Option ℕ) (o : Option (Unfinished Ref K)) → task_at control.graph q ≡ o
        → option_map (task_shown next_names) (option_map (become gone (StandsTask to) asked q) o) ≡ option_map (become gone (StandsTask to) asked q) (option_map (task_shown control.names) o)
    next_core q apart asked None is = refl
    next_core q apart asked (Some t) is =
        let inputs = redirected_inputs control.names next_names gone to t.inputs (λ p s at. next_known q p s apart (inputs_at control.graph q p t is ∙ at)) in
        let own : asked_then {X = Ref} (StandsTask to) asked q t.asked ≡ asked_then {X = Tree C} (StandsTask to) asked q t.asked = asked_alike Ref (Tree C) to q asked t.asked in
        λ i. Some (record { caller = t.caller; kind = t.kind; inputs = inputs i; runner = t.runner; asked = own i })

    next_graph : graph_shown next_names graph_next ≡ removed (forwarded (graph_shown control.names control.graph) gone to) gone
    next_graph =
        let shown : Graph (Tree C) K = graph_shown control.names control.graph in
        let tasks_are : (graph_shown next_names graph_next).tasks ≡ (removed (forwarded shown gone to) gone).tasks =
        same_maps _ _ (λ q. elim (same_or_not q gone) [
          | inl same ↦
              shown_at next_names graph_next q
              ∙ ap (option_map (task_shown next_names)) (ap (task_at graph_next) same ∙ none_next)
              ∙ sym (removed_here (forwarded shown gone to).tasks gone q same)
          | inr apart ↦
              shown_at next_names graph_next q
              ∙ ap (option_map (task_shown next_names)) (stood_at control.graph gone q (StandsTask to) apart)
              ∙ next_core q apart (asked_of control.graph gone) (task_at control.graph q) refl
              ∙ ap (λ asked. option_map (become gone (StandsTask to) asked q) (option_map (task_shown control.names) (task_at control.graph q))) (control_asked ∙ sym shown_asked)
              ∙ ap (option_map (become gone (StandsTask to) (asked_of shown gone) q)) (sym (shown_at control.names control.graph q))
              ∙ sym (stood_at shown gone q (StandsTask to) apart)
        ]) in
        let stopped_are : (graph_shown next_names graph_next).stopped ≡ (removed (forwarded shown gone to) gone).stopped =
        moved_stopped (inputs_redirected control.graph gone to) gone to (asked_of control.graph gone)
        ∙ sym (moved_stopped (inputs_redirected shown gone to) gone to (asked_of shown gone)) in
        λ i. record { tasks = tasks_are i; stopped = stopped_are i }

    next_all : graph_shown next_names graph_next ≡ machine_next.graph
    next_all = next_graph ∙ ap (λ (g : Graph (Tree C) K). removed (forwarded g gone to) gone) graph_is

    next_outputs : (k : ℕ) (a : Ask (Unit {0}) Ref) → map.get control.asks k ≡ Some a → (o : Option Ref) → a.delivered ≡ o → option_map (tree_of next_names) o ≡ option_map (tree_of control.names) o
    next_outputs k a is None done = refl
    next_outputs k a is (Some s) done =
        ap Some (end_tree arity gone control.names next_middle.sound (ByCaller a.caller) s tt (caller_apart a.caller) (middle.outputs k a s is done).0)

    next_shows : (k : ℕ) (a : Ask (Unit {0}) Ref) → map.get control.asks k ≡ Some a → (b : Ask (Tree C) (Tree C)) × (map.get machine.asks k ≡ Some b) × ShowsAs next_names a b
    next_shows k a is =
        let one = asks_to k a is in
        (one.0, one.1, record { caller = one.2.caller; number = one.2.number; delivered = one.2.delivered ∙ sym (next_outputs k a is a.delivered refl) })

    next_on : HeldOn control.asks control.names control.asks next_names
    next_on q entry by is held free =
        let stays = end_stays arity gone control.names next_middle.sound q entry is (subst (λ h. IsOutside h) (sym held) tt) (λ same. caller_apart by (sym held ∙ same)) in
        (stays, free, end_entry_tree arity gone control.names next_middle.sound q entry stays)

    next_back : HeldOn control.asks next_names control.asks control.names
    next_back q entry by is held free =
        ((end_was arity gone control.names next_middle.sound q entry is).0, free, sym (end_entry_tree arity gone control.names next_middle.sound q entry is))

    next_state : HoldsTogether lib machine_next → machine_of lib (ended arity gone next_control next_middle none_next) ≡ machine_next
    next_state facts =
        let holdings = holdings_alike control.asks control.asks next_names control.names next_back next_on ∙ holdings_are in
        let asks : chosen (λ task ask. Some (ask_shown lib control.drawn next_names (graph_shown next_names graph_next) ask)) control.asks ≡ machine_next.asks =
        (λ i. chosen (λ (task : ℕ) (ask : Ask (Unit {0}) Ref). Some (ask_shown lib (drawn_is i) next_names (next_all i) ask)) control.asks)
        ∙ asks_by_facts lib machine_next facts next_names control.asks next_shows asks_back in
        λ i. record { drawn = drawn_is i; holdings = holdings i; asks = asks i; graph = next_all i }

    pub forwarded_stands : HoldsTogether lib machine_next → machine_of lib (tidied (without_task (record control { graph = forwarded control.graph gone to }) gone)) ≡ machine_next
    forwarded_stands facts = next_state facts

    pub forwarded_orderly : IsOrderly arity (tidied (without_task (record control { graph = forwarded control.graph gone to }) gone))
    forwarded_orderly = end_orderly arity gone next_control next_middle none_next
