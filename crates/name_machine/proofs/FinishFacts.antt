-- From the facts of a state to what is kept, and how asks show where the facts hold.
use Rattle.std.proofs.Common.{◌≡◌, ℕ, zero, suc, ◌<◌, inl, inr, Bool, true, false, cond, nat_cmp, map as each, Option, None, Some, refl, sym, ap, ◌∙◌, arith}
use Rattle.std.specs.Option.{option_map}
use Rattle.std.specs.FinMap as map
use Rattle.cht_ids.specs.declared.refs.Ref.{Ref}
use Rattle.task_types.specs.Tree.{Tree}
use Rattle.task_types.specs.Meanings.{Meanings}
use Rattle.name_states.specs.declared.holder.Holder.{Holder}
use Rattle.name_states.specs.declared.holder.Holder.TheVariants.{Caller as ByCaller, Task as ByTask, Body as ByBody}
use Rattle.name_states.specs.States.{NameState, IdRecord, id_at}
use Rattle.name_states.specs.Trees.{body_tree, tree_of}
use Rattle.name_states.proofs.Basics.{none_not_some, same_some, same_options, same_from_test}
use Rattle.task_states.specs.Maps.{chosen}
use Rattle.task_states.specs.States.{Unfinished, Graph, task_at}
use Rattle.task_states.proofs.Maps.{same_maps}
use Rattle.name_machine.specs.States.{Machine, Holding, Ask, is_of}
use Rattle.name_machine.specs.Goals.{read_input, goal_from, goal_within}
use Rattle.name_machine.specs.Facts.{HasLevels, HoldsTogether}
use Rattle.name_machine.specs.Standing.{is_output, held_shown, holding_shown, goal_shown, ask_shown}
use Rattle.name_machine.proofs.Values.{any_to}
use Rattle.name_machine.proofs.Ends.{inputs_at}
use Rattle.name_machine.proofs.Invariant.{Keeps, same_readings}
use Rattle.name_machine.proofs.Works.{chosen_from, chosen_to}
use Rattle.name_machine.proofs.Grow.{deeper}
use Rattle.name_machine.proofs.AskedFor.{asked_is}

-- an ask with references shows as an ask with trees
pub record ShowsAs {C : Type 0} (names : NameState C) (a : Ask (Unit {0}) Ref) (b : Ask (Tree C) (Tree C)) : Type 0 where
  pub caller : b.caller ≡ a.caller
  pub number : b.number ≡ a.number
  pub delivered : b.delivered ≡ option_map (tree_of names) a.delivered

module _ {C K : Type 0} (lib : Meanings C K) where
  goal_is_its : (below : ℕ) (graph : Graph (Tree C) K) (levels : HasLevels graph below) (depth q : ℕ) (t : Unfinished (Tree C) K) → task_at graph q ≡ Some t → levels.level q < depth
      → goal_within lib depth graph q ≡ lib.goal t.kind (each (read_input (goal_within lib depth graph)) t.inputs)
  goal_is_its below graph levels zero q t is low = absurd (omega arith)
  goal_is_its below graph levels (suc depth) q t is low =
      ap (goal_from lib (goal_within lib depth graph)) is
      ∙ ap (lib.goal t.kind) (same_readings (goal_within lib depth graph) (goal_within lib (suc depth) graph) t.inputs (λ p a n at.
      let falls = levels.falls q a (p, n, inputs_at graph q p t is ∙ at) in
      deeper lib below graph levels depth (suc depth) a (omega arith) (omega arith)))

  -- what is kept, where the facts hold
  pub keeps_of : (machine : Machine C K) → HoldsTogether lib machine → Keeps lib machine.drawn machine.graph machine.asks
  keeps_of machine facts = record {
    goals = goal_within lib machine.drawn machine.graph;
    level = facts.levels.level;
    numbers = facts.numbered.tasks;
    low = facts.levels.few;
    falls = λ q p a n t is at. facts.levels.falls q a (p, n, inputs_at machine.graph q p t is ∙ at);
    there = λ q p a n t is at. facts.own q a t is (p, n, inputs_at machine.graph q p t is ∙ at);
    goal_is = λ q t is. goal_is_its machine.drawn machine.graph facts.levels machine.drawn q t is (facts.levels.few q t is);
    defined = facts.defined;
    runs_known = λ q p a n w t is runs at. facts.runs w q a (t, is, runs) (p, n, inputs_at machine.graph q p t is ∙ at);
    runs_one = λ q r w t u is at runs other. facts.one w q r (t, is, runs) (u, at, other);
    ask_for = facts.asked.asks;
    asked_one = facts.asked.differ;
    ask_one = facts.numbered.differ;
    ask_drawn = facts.numbered.asks;
    served = facts.served;
    awaited = facts.awaited;
    stopped = λ c is. let one = any_to (is_of c) machine.asks (facts.stopped c is) in (one.0, one.1, one.2, same_from_test one.1.caller c one.3);
  }

  module _ (machine : Machine C K) (facts : HoldsTogether lib machine) (names : NameState C) where
    goal_by_facts : (k : ℕ) (a : Ask (Unit {0}) Ref) (b : Ask (Tree C) (Tree C)) → map.get machine.asks k ≡ Some b → ShowsAs names a b → (o : Option Ref) → a.delivered ≡ o
        → goal_shown lib machine.drawn names machine.graph a.number o ≡ b.goal
    goal_by_facts k a b is shows None none =
        elim (facts.served k b is) [
          | inl done ↦ absurd (none_not_some (shows.delivered ∙ ap (option_map (tree_of names)) none) done)
          | inr waits ↦
              ap (goal_within lib machine.drawn machine.graph)
              (asked_is a.number machine.graph waits.1 waits.2 waits.3 (waits.4 ∙ ap Some shows.number) (λ r u at asked. facts.asked.differ r waits.1 a.number u waits.2 at waits.3 asked (waits.4 ∙ ap Some shows.number)))
              ∙ waits.6
        ]
    goal_by_facts k a b is shows (Some r) done =
        let delivered : b.delivered ≡ Some (tree_of names r) = shows.delivered ∙ ap (option_map (tree_of names)) done in
        elim (facts.served k b is) [
          | inl served ↦ same_some (tree_of names r) b.goal (sym delivered ∙ served)
          | inr waits ↦ absurd (none_not_some waits.0 delivered)
        ]

    ask_by_facts : (k : ℕ) (a : Ask (Unit {0}) Ref) (b : Ask (Tree C) (Tree C)) → map.get machine.asks k ≡ Some b → ShowsAs names a b → ask_shown lib machine.drawn names machine.graph a ≡ b
    ask_by_facts k a b is shows =
        let goal = goal_by_facts k a b is shows a.delivered refl in
        let caller = sym shows.caller in
        let number = sym shows.number in
        let delivered = sym shows.delivered in
        λ i. record { caller = caller i; number = number i; goal = goal i; delivered = delivered i }

    -- Where the facts hold, the goals of asks are those that are read off the tasks: so asks with references show as these asks, where
    -- callers, numbers and outputs do.
    pub asks_by_facts : (asks : map.FinMap nat_cmp (Ask (Unit {0}) Ref))
        → ((k : ℕ) (a : Ask (Unit {0}) Ref) → map.get asks k ≡ Some a → (b : Ask (Tree C) (Tree C)) × (map.get machine.asks k ≡ Some b) × ShowsAs names a b)
        → ((k : ℕ) (b : Ask (Tree C) (Tree C)) → map.get machine.asks k ≡ Some b → (a : Ask (Unit {0}) Ref) × (map.get asks k ≡ Some a))
        → chosen (λ task ask. Some (ask_shown lib machine.drawn names machine.graph ask)) asks ≡ machine.asks
    asks_by_facts asks shows back =
        let choice : ℕ → Ask (Unit {0}) Ref → Option (Ask (Tree C) (Tree C)) = λ task ask. Some (ask_shown lib machine.drawn names machine.graph ask) in
        same_maps (chosen choice asks) machine.asks (λ q. same_options _ _
        (λ x is.
        let found = chosen_from choice asks q x is in
        let one = shows q found.0 found.1 in
        one.1 ∙ ap Some (sym (ask_by_facts q found.0 one.0 one.1 one.2)) ∙ found.2)
        (λ x is.
        let a = back q x is in
        let one = shows q a.0 a.1 in
        let same : one.0 ≡ x = same_some one.0 x (sym one.1 ∙ is) in
        chosen_to choice asks q a.0 x a.1 (ap Some (ask_by_facts q a.0 one.0 one.1 one.2 ∙ same))))

-- ---- What callers hold

module _ {C : Type 0} where
  -- what a caller holds in one state, but for outputs, it holds in another
  abbrev pub HeldOn : map.FinMap nat_cmp (Ask (Unit {0}) Ref) → NameState C → map.FinMap nat_cmp (Ask (Unit {0}) Ref) → NameState C → Type 0
  HeldOn asks names others more =
      (q : ℕ) (entry : IdRecord) (by : ℕ) → id_at names q ≡ Some entry → entry.holder ≡ ByCaller by → is_output asks q (ByCaller by) ≡ false
      → (id_at more q ≡ Some entry) × (is_output others q (ByCaller by) ≡ false) × (body_tree more entry.body ≡ body_tree names entry.body)

  abbrev holding_of : NameState C → IdRecord → ℕ → Holding C
  holding_of names entry by = record { caller = by; owner = entry.owner; tree = body_tree names entry.body }

  held_case : (asks : map.FinMap nat_cmp (Ask (Unit {0}) Ref)) (names : NameState C) (q : ℕ) (entry : IdRecord) (x : Holding C) (holder : Holder)
      → cond (is_output asks q holder) None (holding_shown names entry holder) ≡ Some x
      → (by : ℕ) × (holder ≡ ByCaller by) × (is_output asks q (ByCaller by) ≡ false) × (holding_of names entry by ≡ x)
  held_case asks names q entry x (ByCaller by) is = go (is_output asks q (ByCaller by)) refl is
    where
      go : (b : Bool) → is_output asks q (ByCaller by) ≡ b → cond b None (Some (holding_of names entry by)) ≡ Some x
          → (c : ℕ) × (ByCaller by ≡ ByCaller c) × (is_output asks q (ByCaller c) ≡ false) × (holding_of names entry c ≡ x)
      go true at found = absurd (none_not_some refl found)
      go false at found = (by, refl, at, same_some (holding_of names entry by) x found)
  held_case asks names q entry x (ByTask task) is = absurd (none_not_some refl is)
  held_case asks names q entry x (ByBody body) is = absurd (none_not_some refl is)

  one_way : (asks others : map.FinMap nat_cmp (Ask (Unit {0}) Ref)) (names more : NameState C) → HeldOn asks names others more → (q : ℕ) (x : Holding C)
      → map.get (chosen (held_shown asks names) names.ids) q ≡ Some x → map.get (chosen (held_shown others more) more.ids) q ≡ Some x
  one_way asks others names more on q x is =
      let found = chosen_from (held_shown asks names) names.ids q x is in
      let its = held_case asks names q found.0 x found.0.holder found.2 in
      let there = on q found.0 its.0 found.1 its.1 its.2 in
      let holder = its.1 in
      let tree = there.2 in
      chosen_to (held_shown others more) more.ids q found.0 x there.0
      ((λ i. cond (is_output others q (holder i)) None (holding_shown more found.0 (holder i)))
      ∙ ap (λ b. cond b None (Some (holding_of more found.0 its.0))) there.1
      ∙ (λ i. Some (record { caller = its.0; owner = found.0.owner; tree = tree i }))
      ∙ ap Some its.3)

  -- so callers hold the same
  pub holdings_alike : (asks others : map.FinMap nat_cmp (Ask (Unit {0}) Ref)) (names more : NameState C) → HeldOn asks names others more → HeldOn others more asks names
      → chosen (held_shown asks names) names.ids ≡ chosen (held_shown others more) more.ids
  holdings_alike asks others names more on back =
      same_maps _ _ (λ q. same_options _ _ (one_way asks others names more on q) (one_way others asks more names back q))
