-- What a control state stands for, where names grow: a copy and a register.
use Rattle.std.proofs.Common.{◌≡◌, ℕ, zero, suc, ◌+◌, ◌<◌, ◌≤◌, ◌⊎◌, inl, inr, Bool, true, false, cond, ◌&&◌, nat_eq, nat_le, List, [], ◌∷◌, map as each, slice_get, length, Option, None, Some, is_some, IsSome, refl, sym, ap, subst, ◌∙◌, arith}
use Rattle.std.specs.Option.{option_map}
use Rattle.std.specs.List.{list_all, list_any}
use Rattle.std.specs.FinMap as map
use Rattle.cht_ids.specs.declared.refs.Id.{Id}
use Rattle.cht_ids.specs.declared.refs.Ref.{Ref}
use Rattle.cht_ids.specs.declared.refs.Ref.TheVariants.{Null as NullRef, Id as Held}
use Rattle.task_types.specs.Tree.{Tree, Nothing, rooted}
use Rattle.task_types.specs.Meanings.{Meanings}
use Rattle.task_types.proofs.FormedTest.{both_left, both_right}
use Rattle.name_states.specs.declared.holder.Holder.{Holder}
use Rattle.name_states.specs.declared.holder.Holder.TheVariants.{Caller, Task, Body}
use Rattle.name_states.specs.States.{NameState, IdRecord, BodyRecord, id_at, body_at, record_of, owned_by, IsLiveRef, AreLive}
use Rattle.name_states.specs.Rules.{IsSound, AreReached}
use Rattle.name_states.specs.Reached.{IsReached, Outside}
use Rattle.name_states.specs.Steps.{present, numbered}
use Rattle.name_states.specs.Steps as names
use Rattle.name_states.specs.Trees.{tree_named, body_tree, tree_of}
use Rattle.name_states.proofs.Basics.{none_not_some, none_or_some, same_some, same_or_not, same_options, same_from_test, test_same, inserted_here, inserted_other, inserted_from}
use Rattle.name_states.proofs.Trees.{tree-kept, body-tree-kept}
use Rattle.name_states.proofs.Within.{AreMore, owned-same, naming-number, unnamed-next, copied-keeps}
use Rattle.name_states.proofs.Copies.{bodies-linked, copied-here, copied-from, bodies-with_copy}
use Rattle.name_states.proofs.Sound.{sound-copied, sound-registered, new-naming, more-registered, naming-from}
use Rattle.name_states.proofs.TreeRegistered.{tree-registered}
use Rattle.name_states.proofs.Reaching.{reached-more}
use Rattle.name_states.proofs.SweptOnce.{nothing_goes}
use Rattle.task_states.specs.Maps.{chosen}
use Rattle.task_states.specs.States.{Input, Known, Awaits, Unfinished, Graph, task_at}
use Rattle.task_states.proofs.Maps.{same_maps}
use Rattle.cht_history.specs.declared.event.Event.TheVariants.{Register, Copy}
use Rattle.name_machine.specs.States.{Holding, Ask, MayMention, MayMentionAll, is_of, mine, held_by, tree_of_holding}
use Rattle.name_machine.specs.States as machine
use Rattle.name_machine.specs.Machine.{Copies, Registers}
use Rattle.name_machine.specs.Steps as steps
use Rattle.name_machine.specs.Replay.{Plans, is_id, is_caller, is_callers, is_mine, may_mention, is_allowed}
use Rattle.name_machine.specs.Forgetting.{forgotten}
use Rattle.name_machine.specs.Goals.{goal_from, goal_within}
use Rattle.name_machine.specs.Facts.{HasLevels, HoldsTogether}
use Rattle.name_machine.specs.Control.{Control, is_uncollected, tidied, copy_event, register_event}
use Rattle.name_machine.specs.Standing.{input_shown, task_shown, graph_shown, is_output, holding_shown, held_shown, asked_among, goal_shown, ask_shown, machine_of, IsOrderly}
use Rattle.name_machine.proofs.Values.{any_to}
use Rattle.name_machine.proofs.Ends.{inputs_at}
use Rattle.name_machine.proofs.Invariant.{same_readings}
use Rattle.name_machine.proofs.Works.{chosen_from, chosen_to}
use Rattle.name_machine.proofs.Stand.{shown_at, not_true}
use Rattle.name_machine.proofs.Orderly.{input_is_live, output_is_live, output_is_drawn}

-- ---- Depths

module _ {C K : Type 0} (lib : Meanings C K) where
  one_goal : (f g : ℕ → Tree C) (graph : Graph (Tree C) K) (q : ℕ) (o : Option (Unfinished (Tree C) K)) → task_at graph q ≡ o
      → ((p a n : ℕ) (t : Unfinished (Tree C) K) → task_at graph q ≡ Some t → slice_get t.inputs p ≡ Some (Awaits a n) → f a ≡ g a)
      → goal_from lib f o ≡ goal_from lib g o
  one_goal f g graph q None is same = refl
  one_goal f g graph q (Some t) is same = ap (lib.goal t.kind) (same_readings f g t.inputs (λ p a n at. same p a n t is at))

  -- goals as far as any depth above the level are the same
  pub deeper : (below : ℕ) (graph : Graph (Tree C) K) → (levels : HasLevels graph below) → (one other q : ℕ) → levels.level q < one → levels.level q < other
      → goal_within lib one graph q ≡ goal_within lib other graph q
  deeper below graph levels zero other q a b = absurd (omega arith)
  deeper below graph levels (suc one) zero q a b = absurd (omega arith)
  deeper below graph levels (suc one) (suc other) q a b =
      one_goal (goal_within lib one graph) (goal_within lib other graph) graph q (task_at graph q) refl (λ p awaited n t is at.
      let falls = levels.falls q awaited (p, n, inputs_at graph q p t is ∙ at) in
      deeper below graph levels one other awaited (omega arith) (omega arith))

  no_goal : (depth : ℕ) (graph : Graph (Tree C) K) (q : ℕ) → task_at graph q ≡ None → goal_within lib depth graph q ≡ Nothing
  no_goal zero graph q is = refl
  no_goal (suc depth) graph q is = ap (goal_from lib (goal_within lib depth graph)) is

  -- more numbers that were drawn change no goal
  pub drawn_deeper : (drawn more : ℕ) (graph : Graph (Tree C) K) → HasLevels graph drawn → drawn ≤ more → (q : ℕ) → goal_within lib more graph q ≡ goal_within lib drawn graph q
  drawn_deeper drawn more graph levels up q =
      elim (none_or_some (task_at graph q)) [
        | inl none ↦ no_goal more graph q none ∙ sym (no_goal drawn graph q none)
        | inr some ↦ (let low = levels.few q some.0 some.1 in deeper drawn graph levels more drawn q (omega arith) low)
      ]

-- ---- Names that grow

module _ {C K : Type 0} (lib : Meanings C K) (arity : C → ℕ) (control : Control C (Unit {0}) K) (orderly : IsOrderly arity control) (more : NameState C) (is_more : AreMore control.names more) where
  one_input : (input : Input Ref) → ((r : Ref) → input ≡ Known r → IsLiveRef control.names r) → input_shown more input ≡ input_shown control.names input
  one_input (Known r) live = ap Known (tree-kept arity control.names more orderly.sound is_more r (live r refl))
  one_input (Awaits task number) live = refl

  all_inputs : (inputs : List (Input Ref)) → ((p : ℕ) (r : Ref) → slice_get inputs p ≡ Some (Known r) → IsLiveRef control.names r) → each (input_shown more) inputs ≡ each (input_shown control.names) inputs
  all_inputs [] live = refl
  all_inputs (input ∷ inputs) live =
      let first = one_input input (λ r is. live 0 r (ap Some is)) in
      let rest = all_inputs inputs (λ p r is. live (suc p) r is) in
      (λ i. first i ∷ rest i)

  one_task : (q : ℕ) (o : Option (Unfinished Ref K)) → task_at control.graph q ≡ o → option_map (task_shown more) o ≡ option_map (task_shown control.names) o
  one_task q None is = refl
  one_task q (Some t) is =
      let inputs = all_inputs t.inputs (λ p r at. input_is_live arity control orderly q p t r is at) in
      λ i. Some (record { caller = t.caller; kind = t.kind; inputs = inputs i; runner = t.runner; asked = t.asked })

  pub graph_grown : graph_shown more control.graph ≡ graph_shown control.names control.graph
  graph_grown =
      let tasks_are : (graph_shown more control.graph).tasks ≡ (graph_shown control.names control.graph).tasks =
      same_maps _ _ (λ q. shown_at more control.graph q ∙ one_task q (task_at control.graph q) refl ∙ sym (shown_at control.names control.graph q)) in
      λ i. record { tasks = tasks_are i; stopped = control.graph.stopped }

  one_ask : (drawn k : ℕ) (a : Ask (Unit {0}) Ref) → control.drawn ≤ drawn → HasLevels (graph_shown control.names control.graph) control.drawn → map.get control.asks k ≡ Some a
      → (o : Option Ref) → a.delivered ≡ o
      → ((goal_shown lib drawn more (graph_shown more control.graph) a.number o ≡ goal_shown lib control.drawn control.names (graph_shown control.names control.graph) a.number o)
      × (option_map (tree_of more) o ≡ option_map (tree_of control.names) o))
  one_ask drawn k a up levels is None at = (
    ap (λ g. goal_within lib drawn g (asked_among a.number (map.entries g.tasks))) graph_grown
        ∙ drawn_deeper lib control.drawn drawn (graph_shown control.names control.graph) levels up (asked_among a.number (map.entries (graph_shown control.names control.graph).tasks)),
    refl,
  )
  one_ask drawn k a up levels is (Some r) at =
      let same = tree-kept arity control.names more orderly.sound is_more r (output_is_live arity control orderly k a r is at) in (same, ap Some same)

  pub asks_grown : (drawn : ℕ) → control.drawn ≤ drawn → HasLevels (graph_shown control.names control.graph) control.drawn
      → chosen (λ task ask. Some (ask_shown lib drawn more (graph_shown more control.graph) ask)) control.asks ≡ (machine_of lib control).asks
  asks_grown drawn up levels =
      let after : ℕ → Ask (Unit {0}) Ref → Option (Ask (Tree C) (Tree C)) = λ task ask. Some (ask_shown lib drawn more (graph_shown more control.graph) ask) in
      let before : ℕ → Ask (Unit {0}) Ref → Option (Ask (Tree C) (Tree C)) = λ task ask. Some (ask_shown lib control.drawn control.names (graph_shown control.names control.graph) ask) in
      let alike : (k : ℕ) (a : Ask (Unit {0}) Ref) → map.get control.asks k ≡ Some a → after k a ≡ before k a = λ k a is.
      (let both = one_ask drawn k a up levels is a.delivered refl in
      let goal = both.0 in
      let output = both.1 in
      λ i. Some (record { caller = a.caller; number = a.number; goal = goal i; delivered = output i })) in
      same_maps (chosen after control.asks) (chosen before control.asks) (λ q. same_options _ _
      (λ x is. let found = chosen_from after control.asks q x is in chosen_to before control.asks q found.0 x found.1 (sym (alike q found.0 found.1) ∙ found.2))
      (λ x is. let found = chosen_from before control.asks q x is in chosen_to after control.asks q found.0 x found.1 (alike q found.0 found.1 ∙ found.2)))

  -- what is held of old identifiers
  holder_same : (entry : IdRecord) (holder : Holder) → body_tree more entry.body ≡ body_tree control.names entry.body → holding_shown more entry holder ≡ holding_shown control.names entry holder
  holder_same entry (Caller caller) same = ap (λ tree. Some (record { caller = caller; owner = entry.owner; tree = tree })) same
  holder_same entry (Task task) same = refl
  holder_same entry (Body body) same = refl

  pub held_same : (q : ℕ) (entry : IdRecord) → id_at control.names q ≡ Some entry → held_shown control.asks more q entry ≡ held_shown control.asks control.names q entry
  held_same q entry is =
      ap (λ o. cond (is_output control.asks q entry.holder) None o) (holder_same entry entry.holder (body-tree-kept arity control.names more orderly.sound is_more entry.body (ap is_some (orderly.sound.named q entry is).1)))

  -- one more is held
  pub holdings_grown : (n : ℕ) (h : Holding C) → id_at control.names n ≡ None → ((e : IdRecord) × (id_at more n ≡ Some e) × (held_shown control.asks more n e ≡ Some h))
      → ((q : ℕ) (e : IdRecord) → id_at more q ≡ Some e → (id_at control.names q ≡ Some e) ⊎ ((q ≡ n) ⊎ (held_shown control.asks more q e ≡ None)))
      → chosen (held_shown control.asks more) more.ids ≡ map.insert (machine_of lib control).holdings n h
  holdings_grown n h free here from =
      same_maps _ _ (λ q. same_options _ _
      (λ x is.
      let found = chosen_from (held_shown control.asks more) more.ids q x is in
      elim (from q found.0 found.1) [
        | inl old ↦
            inserted_other (machine_of lib control).holdings n q h (λ same. none_not_some free (ap (id_at control.names) (sym same) ∙ old))
            ∙ chosen_to (held_shown control.asks control.names) control.names.ids q found.0 x old (sym (held_same q found.0 old) ∙ found.2)
        | inr other ↦ elim other [
          | inl same ↦
              let one : found.0 ≡ here.0 = same_some found.0 here.0 (sym found.1 ∙ ap (id_at more) same ∙ here.1) in
              inserted_here (machine_of lib control).holdings n q h x same (same_some x h (sym found.2 ∙ (λ i. held_shown control.asks more (same i) (one i)) ∙ here.2))
          | inr none ↦ absurd (none_not_some none found.2)
        ]
      ])
      (λ x is. elim (inserted_from (machine_of lib control).holdings n q h x is) [
        | inl new ↦
            ap (map.get (chosen (held_shown control.asks more) more.ids)) new.0
            ∙ chosen_to (held_shown control.asks more) more.ids n here.0 h here.1 here.2
            ∙ ap Some (sym new.1)
        | inr old ↦
            let found = chosen_from (held_shown control.asks control.names) control.names.ids q x old.1 in
            chosen_to (held_shown control.asks more) more.ids q found.0 x (is_more.ids q found.0 found.1) (held_same q found.0 found.1 ∙ found.2)
      ]))

  -- the state that is stood for, where names grow and one more is held
  pub state_grown : (drawn n : ℕ) (h : Holding C) → control.drawn ≤ drawn → HasLevels (graph_shown control.names control.graph) control.drawn → id_at control.names n ≡ None
      → ((e : IdRecord) × (id_at more n ≡ Some e) × (held_shown control.asks more n e ≡ Some h))
      → ((q : ℕ) (e : IdRecord) → id_at more q ≡ Some e → (id_at control.names q ≡ Some e) ⊎ ((q ≡ n) ⊎ (held_shown control.asks more q e ≡ None)))
      → machine_of lib (record control { drawn = drawn; names = more })
      ≡ record (machine_of lib control) { drawn = drawn; holdings = map.insert (machine_of lib control).holdings n h }
  state_grown drawn n h up levels free here from =
      let holdings_are = holdings_grown n h free here from in
      let asks_are = asks_grown drawn up levels in
      let graph_is = graph_grown in
      λ i. record { drawn = drawn; holdings = holdings_are i; asks = asks_are i; graph = graph_is i }

-- ---- Copies and registers

pub uncollected_number : {G : Type 0} (caller n : ℕ) (a : Ask G Ref) → is_uncollected caller n a ≡ true → a.number ≡ n
uncollected_number caller n a is = same_from_test a.number n (both_right (is_of caller a) (nat_eq a.number n) (both_left (is_of caller a && nat_eq a.number n) (is_some a.delivered) is))

pub both_true : (a b : Bool) → a ≡ true → b ≡ true → (a && b) ≡ true
both_true true b p q = q
both_true false b p q = absurd (let clash : false ≡ true = p in cc)

pub false_or : (b : Bool) → (b ≡ true → ⊥) → b ≡ false
false_or true never = absurd (never refl)
false_or false never = refl

is_caller_of : (caller : ℕ) (holder : Holder) → is_caller caller holder ≡ true → holder ≡ Caller caller
is_caller_of caller (Caller other) is = ap Caller (same_from_test other caller is)
is_caller_of caller (Task task) is = absurd (let clash : false ≡ true = is in cc)
is_caller_of caller (Body body) is = absurd (let clash : false ≡ true = is in cc)

module _ {C K : Type 0} (lib : Meanings C K) (arity : C → ℕ) (control : Control C (Unit {0}) K) (orderly : IsOrderly arity control) where
  -- a new number is no output's
  pub no_output : (n : ℕ) (holder : Holder) → control.drawn < n → is_output control.asks n holder ≡ false
  no_output n (Caller caller) high =
      false_or (list_any (is_uncollected caller n) (map.values control.asks)) (λ is.
      let one = any_to (is_uncollected caller n) control.asks is in
      let low = output_is_drawn arity control orderly one.0 one.1 one.2 in
      let number = uncollected_number caller n one.1 one.3 in
      omega arith)
  no_output n (Task task) high = refl
  no_output n (Body body) high = refl

  -- what a caller holds, in the names and in the state that is stood for
  pub record IsMine (caller : ℕ) (id : Id) : Type 0 where
    pub entry : IdRecord
    pub named : record_of control.names id ≡ Some entry
    pub there : id_at control.names id.number ≡ Some entry
    pub holder : entry.holder ≡ Caller caller
    pub fresh : list_any (is_uncollected caller id.number) (map.values control.asks) ≡ false
    pub held : map.get (machine_of lib control).holdings id.number ≡ Some (record { caller = caller; owner = id.owner; tree = body_tree control.names entry.body })

  pub mine_of : (caller : ℕ) (id : Id) → is_mine (forgotten arity control) caller id ≡ true → IsMine caller id
  mine_of caller id is =
      elim (none_or_some (record_of control.names id)) [
        | inl none ↦ absurd (let clash : false ≡ true = sym (ap (is_callers (forgotten arity control) caller id) none) ∙ is in cc)
        | inr some ↦
            let parts = sym (ap (is_callers (forgotten arity control) caller id) some.1) ∙ is in
            let holder : some.0.holder ≡ Caller caller = is_caller_of caller some.0.holder (both_left (is_caller caller some.0.holder) _ parts) in
            let fresh : list_any (is_uncollected caller id.number) (map.values control.asks) ≡ false = not_true (list_any (is_uncollected caller id.number) (map.values control.asks)) (both_right (is_caller caller some.0.holder) _ parts) in
            let at = naming-number control.names id some.0 some.1 in
            let shown : held_shown control.asks control.names id.number some.0 ≡ Some (record { caller = caller; owner = id.owner; tree = body_tree control.names some.0.body }) =
            (λ i. cond (is_output control.asks id.number (holder i)) None (holding_shown control.names some.0 (holder i)))
            ∙ ap (λ b. cond b None (holding_shown control.names some.0 (Caller caller))) fresh
            ∙ ap (λ owner. Some (record { caller = caller; owner = owner; tree = body_tree control.names some.0.body })) at.1 in
            record {
              entry = some.0;
              named = some.1;
              there = at.0;
              holder = holder;
              fresh = fresh;
              held = chosen_to (held_shown control.asks control.names) control.names.ids id.number some.0 _ at.0 shown;
            }
      ]

  pub mine_held : (caller : ℕ) (id : Id) (mine_it : IsMine caller id)
      → held_by (machine_of lib control) caller id ≡ Some (record { caller = caller; owner = id.owner; tree = body_tree control.names mine_it.entry.body })
  mine_held caller id mine_it =
      ap (mine caller id.owner) mine_it.held
      ∙ ap (λ b. cond b (Some (record { caller = caller; owner = id.owner; tree = body_tree control.names mine_it.entry.body })) None) (both_true (nat_eq caller caller) (nat_eq id.owner id.owner) (test_same caller) (test_same id.owner))

  mine_tree : (caller : ℕ) (id : Id) (mine_it : IsMine caller id) → machine.tree_named (machine_of lib control) (Held id) ≡ tree_of control.names (Held id)
  mine_tree caller id mine_it = ap tree_of_holding mine_it.held ∙ sym (ap (tree_named (body_tree control.names)) mine_it.named)

  -- everything stays where all is sound and reached
  tidied_grown : (drawn : ℕ) (more : NameState C) → IsSound arity more → AreReached more → tidied (record control { drawn = drawn; names = more }) ≡ record control { drawn = drawn; names = more }
  tidied_grown drawn more sound reached = ap (λ (n : NameState C). let c : Control C (Unit {0}) K = record control { drawn = drawn; names = n } in c) (nothing_goes arity more sound reached)

  -- names that a copy or a register leaves: they are more, sound and reached
  pub record Grows (more : NameState C) : Type 0 where
    pub is_more : AreMore control.names more
    pub sound : IsSound arity more
    pub reached : AreReached more

  pub copy_grows : (caller : ℕ) (from : Id) → IsMine caller from → Grows (names.copied control.names from.number (control.drawn + 1) (Caller caller))
  copy_grows caller from its =
      let n : ℕ = control.drawn + 1 in
      let more : NameState C = names.copied control.names from.number n (Caller caller) in
      let free : id_at control.names n ≡ None = unnamed-next control.names control.drawn n orderly.within (omega arith) in
      let same_bodies : more.bodies ≡ control.names.bodies = bodies-with_copy control.names n (Caller caller) (id_at control.names from.number) in
      let keeps = copied-keeps control.names from.number n (Caller caller) free in
      record {
        is_more = record { ids = keeps; bodies = λ q body is. ap (λ bodies. map.get bodies q) same_bodies ∙ is };
        sound = sound-copied arity control.names from.number n (Caller caller) its.entry orderly.sound tt its.there free;
        reached = λ q some. reached-more control.names more q keeps (orderly.reached q (subst (λ bodies. IsSome (map.get bodies q)) same_bodies some));
      }

  pub copy_stands : (plans : Plans K) (caller : ℕ) (from to : Id) → HoldsTogether lib (machine_of lib control) → is_allowed plans (forgotten arity control) (Copy caller from to) ≡ true
      → Copies lib arity (machine_of lib control) (machine_of lib (tidied (copy_event control caller from))) caller from to
  copy_stands plans caller from to facts allowed =
      let n : ℕ = control.drawn + 1 in
      let its = mine_of caller from (both_left (is_mine (forgotten arity control) caller from) (is_id from.owner n to) allowed) in
      let to_is = both_right (is_mine (forgotten arity control) caller from) (is_id from.owner n to) allowed in
      let owner : to.owner ≡ from.owner = same_from_test to.owner from.owner (both_left (nat_eq to.owner from.owner) (nat_eq to.number n) to_is) in
      let number : to.number ≡ n = same_from_test to.number n (both_right (nat_eq to.owner from.owner) (nat_eq to.number n) to_is) in
      let more : NameState C = names.copied control.names from.number n (Caller caller) in
      let grows = copy_grows caller from its in
      let free : id_at control.names n ≡ None = unnamed-next control.names control.drawn n orderly.within (omega arith) in
      let entry : IdRecord = record its.entry { holder = Caller caller } in
      let here : id_at more n ≡ Some entry = copied-here control.names from.number n (Caller caller) its.entry its.there in
      let body_same : body_tree more its.entry.body ≡ body_tree control.names its.entry.body = body-tree-kept arity control.names more orderly.sound grows.is_more its.entry.body (ap is_some (orderly.sound.named from.number its.entry its.there).1) in
      let owner_is : its.entry.owner ≡ from.owner = (naming-number control.names from its.entry its.named).1 in
      let h : Holding C = record { caller = caller; owner = to.owner; tree = body_tree control.names its.entry.body } in
      let shown : held_shown control.asks more n entry ≡ Some h =
      ap (λ b. cond b None (holding_shown more entry (Caller caller))) (no_output n (Caller caller) (omega arith))
      ∙ (λ i. Some (record { caller = caller; owner = (owner_is ∙ sym owner) i; tree = body_same i })) in
      record {
        holding = record { caller = caller; owner = from.owner; tree = body_tree control.names its.entry.body };
        held = mine_held caller from its;
        number = number;
        after_is =
            ap (machine_of lib) (tidied_grown n more grows.sound grows.reached)
            ∙ state_grown lib arity control orderly more grows.is_more n n h (omega arith) facts.levels free (entry, here, shown)
            (λ q e is. elim (copied-from control.names n (Caller caller) (id_at control.names from.number) q e is) [ inl old ↦ inl old | inr new ↦ inr (inl new.3) ]);
      }

  may_be : (caller : ℕ) (r : Ref) → may_mention (forgotten arity control) caller r ≡ true
      → (MayMention (machine_of lib control) caller r × IsLiveRef control.names r) × (machine.tree_named (machine_of lib control) r ≡ tree_of control.names r)
  may_be caller NullRef is = ((tt, tt), refl)
  may_be caller (Held id) is =
      let its = mine_of caller id is in ((ap is_some (mine_held caller id its), ap is_some its.named), mine_tree caller id its)

  pub may_all : (caller : ℕ) (refs : List Ref) → list_all (may_mention (forgotten arity control) caller) refs ≡ true
      → (MayMentionAll (machine_of lib control) caller refs × AreLive control.names refs) × (each (machine.tree_named (machine_of lib control)) refs ≡ each (tree_of control.names) refs)
  may_all caller [] is = ((tt, tt), refl)
  may_all caller (r ∷ refs) is =
      let first = may_be caller r (both_left (may_mention (forgotten arity control) caller r) (list_all (may_mention (forgotten arity control) caller) refs) is) in
      let rest = may_all caller refs (both_right (may_mention (forgotten arity control) caller r) (list_all (may_mention (forgotten arity control) caller) refs) is) in
      let head = first.1 in
      let tail = rest.1 in
      (((first.0.0, rest.0.0), (first.0.1, rest.0.1)), λ i. head i ∷ tail i)

  -- a body that a register does not make was there
  old_body : (caller : ℕ) (content : C) (children : List Ref) (q : ℕ) → (q ≡ control.drawn + 1 → ⊥) → IsSome (body_at (names.registered control.names control.drawn (Caller caller) 0 content children) q)
      → IsSome (body_at control.names q)
  old_body caller content children q apart some =
      let new_body : BodyRecord C = record { owner = 0; content = content; children = numbered (control.drawn + 2) children } in
      let entry : IdRecord = record { owner = 0; body = control.drawn + 1; holder = Caller caller } in
      let base : NameState C = names.with_id (names.with_body control.names (control.drawn + 1) new_body) (control.drawn + 2) entry in
      let bodies_are = bodies-linked base (control.drawn + 2) (Body (control.drawn + 1)) children in
      subst (λ o. IsSome o) (ap (λ bodies. map.get bodies q) bodies_are ∙ inserted_other control.names.bodies (control.drawn + 1) q new_body apart) some

  pub register_grows : (caller : ℕ) (content : C) (children : List Ref) → length children ≡ arity content → AreLive control.names children
      → Grows (names.registered control.names control.drawn (Caller caller) 0 content children)
  register_grows caller content children many live =
      let n : ℕ = control.drawn + 2 in
      let more : NameState C = names.registered control.names control.drawn (Caller caller) 0 content children in
      let entry : IdRecord = record { owner = 0; body = control.drawn + 1; holder = Caller caller } in
      let here : id_at more n ≡ Some entry = new-naming control.names control.drawn (Caller caller) 0 content children orderly.within in
      let is_more : AreMore control.names more = more-registered control.names control.drawn (Caller caller) 0 content children orderly.within in
      record {
        is_more = is_more;
        sound = sound-registered arity control.names control.drawn (Caller caller) 0 content children orderly.sound orderly.within tt live many;
        reached = λ q some. elim (same_or_not q (control.drawn + 1)) [
          | inl same ↦ subst (IsReached more) (sym same) (Outside n entry here tt)
          | inr apart ↦ reached-more control.names more q is_more.ids (orderly.reached q (old_body caller content children q apart some))
        ];
      }

  -- a register, with the content that it is of
  registers : (plans : Plans K) (caller : ℕ) (id : Id) (children : List Ref) (content : C) → length children ≡ arity content → HoldsTogether lib (machine_of lib control)
      → is_allowed plans (forgotten arity control) (Register caller id children) ≡ true
      → (it : Registers lib arity (machine_of lib control) (machine_of lib (tidied (register_event control caller content children))) caller id children) × (it.content ≡ content)
  registers plans caller id children content many facts allowed =
      let n : ℕ = control.drawn + 2 in
      let drawn : ℕ = control.drawn + 2 + present children in
      let front = nat_le (length children) 4 && list_all (may_mention (forgotten arity control) caller) children in
      let mentioned = may_all caller children (both_right (nat_le (length children) 4) (list_all (may_mention (forgotten arity control) caller) children) (both_left front (is_id 0 n id) allowed)) in
      let live : AreLive control.names children = mentioned.0.1 in
      let id_is = both_right front (is_id 0 n id) allowed in
      let owner : id.owner ≡ 0 = same_from_test id.owner 0 (both_left (nat_eq id.owner 0) (nat_eq id.number n) id_is) in
      let number : id.number ≡ n = same_from_test id.number n (both_right (nat_eq id.owner 0) (nat_eq id.number n) id_is) in
      let more : NameState C = names.registered control.names control.drawn (Caller caller) 0 content children in
      let free : id_at control.names n ≡ None = unnamed-next control.names control.drawn n orderly.within (omega arith) in
      let entry : IdRecord = record { owner = 0; body = control.drawn + 1; holder = Caller caller } in
      let here : id_at more n ≡ Some entry = new-naming control.names control.drawn (Caller caller) 0 content children orderly.within in
      let grows = register_grows caller content children many live in
      let new_tree : body_tree more (control.drawn + 1) ≡ rooted content (each (tree_of control.names) children) =
      sym (ap (tree_named (body_tree more)) (ap (owned_by 0) here ∙ owned-same 0 entry refl))
      ∙ tree-registered arity control.names control.drawn (Caller caller) 0 content children orderly.sound orderly.within live in
      let tree : Tree C = rooted content (each (machine.tree_named (machine_of lib control)) children) in
      let tree_is : body_tree more (control.drawn + 1) ≡ tree = new_tree ∙ ap (rooted content) (sym mentioned.1) in
      let h : Holding C = record { caller = caller; owner = id.owner; tree = tree } in
      let shown : held_shown control.asks more n entry ≡ Some h =
      ap (λ b. cond b None (holding_shown more entry (Caller caller))) (no_output n (Caller caller) (omega arith))
      ∙ (λ i. Some (record { caller = caller; owner = sym owner i; tree = tree_is i })) in (
        record {
          content = content;
          mentioned = mentioned.0.0;
          all_children = many;
          number = number;
          after_is =
              ap (machine_of lib) (tidied_grown drawn more grows.sound grows.reached)
              ∙ state_grown lib arity control orderly more grows.is_more drawn n h (omega arith) facts.levels free (entry, here, shown)
              (λ q e is. elim (naming-from control.names control.drawn (Caller caller) 0 content children orderly.within live q e is) [
                | inl old ↦ inl old
                | inr other ↦ elim other [
                  | inl new ↦ inr (inl new.0)
                  | inr copy ↦ inr (inr (ap (held_shown control.asks more q) copy.4))
                ]
              ]);
        },
        refl,
      )

  pub register_stands : (plans : Plans K) (caller : ℕ) (id : Id) (children : List Ref) (content : C) → length children ≡ arity content → HoldsTogether lib (machine_of lib control)
      → is_allowed plans (forgotten arity control) (Register caller id children) ≡ true
      → Registers lib arity (machine_of lib control) (machine_of lib (tidied (register_event control caller content children))) caller id children
  register_stands plans caller id children content many facts allowed = (registers plans caller id children content many facts allowed).0

  -- what a register makes of the state, with its content
  pub register_is : (plans : Plans K) (caller : ℕ) (id : Id) (children : List Ref) (content : C) → length children ≡ arity content → HoldsTogether lib (machine_of lib control)
      → is_allowed plans (forgotten arity control) (Register caller id children) ≡ true
      → machine_of lib (tidied (register_event control caller content children)) ≡ steps.registered (machine_of lib control) caller id.owner content children
  register_is plans caller id children content many facts allowed =
      let it = registers plans caller id children content many facts allowed in
      subst (λ c. machine_of lib (tidied (register_event control caller content children)) ≡ steps.registered (machine_of lib control) caller id.owner c children) it.1 it.0.after_is
