-- The parts of callers whose own an event is not.
use Rattle.std.proofs.Common.{◌≡◌, ℕ, ◌+◌, ◌-◌, inl, inr, Bool, true, false, cond, nat_eq, nat_cmp, List, [], ◌∷◌, ◌++◌, map as each, filter, Option, None, Some, refl, sym, ap, ◌∙◌, arith, append-nil}
use Rattle.std.specs.FinMap as map
use Rattle.std.proofs.lemmas.List.Elements.{filter-append}
use Rattle.cht_ids.specs.declared.refs.Ref.{Ref}
use Rattle.name_states.specs.Steps.{present}
use Rattle.task_types.specs.Tree.{Tree, Nothing, Root}
use Rattle.task_types.specs.Meanings.{Meanings}
use Rattle.task_types.specs.Sound.{AddsUp}
use Rattle.task_states.specs.Maps.{chosen}
use Rattle.task_states.proofs.Maps.{same_maps}
use Rattle.name_states.proofs.Basics.{same_some, same_options, some_value, test_same, inserted_from, inserted_other, removed_from, removed_other}
use Rattle.cht_history.specs.declared.event.Event.{Event}
use Rattle.cht_history.specs.declared.event.Event.TheVariants.{Register, Copy, Delete, Ask as AskEvent, Collect, Abandon, Stop, Start, GiveBack, Finish}
use Rattle.name_machine.specs.States.{Machine, Ask, Holding, opening, held_by, tree_named}
use Rattle.name_machine.specs.Steps.{handed}
use Rattle.name_machine.specs.Machine.{owner_of, IsStep}
use Rattle.name_machine.specs.Parts.{Named, named_for, names_of, goal_for, asks_of, is_callers_own, work_left, account_of}
use Rattle.name_machine.specs.Laws.{account_then, LeavesCallers}
use Rattle.name_machine.proofs.Small.{kept_at_opening, left_ask, ask_left}
use Rattle.name_machine.proofs.Answered.{asks_then, asks_from, asks_to, answer, answer_caller, answer_goal}
use Rattle.name_machine.proofs.Stands.{Stand}
use Rattle.name_machine.proofs.Finishing.{stand}
use Rattle.name_machine.proofs.Finished.{finished_asks, finished_holdings}
use Rattle.name_machine.proofs.Runs.{Kept, run_keeps}
use Rattle.name_machine.proofs.Works.{chosen_from, chosen_to, let_through, lets_through}
use Rattle.name_machine.proofs.Held.{mine_from, Held, held_run, held_opening}
use Rattle.name_machine.proofs.Accounts.{accounts_change}

-- two maps of which a choice keeps the same
pub chosen_alike : {X Y : Type 0} (choice : ℕ → X → Option Y) (m n : map.FinMap nat_cmp X)
    → ((q : ℕ) (x : X) (y : Y) → map.get m q ≡ Some x → choice q x ≡ Some y → (z : X) × (map.get n q ≡ Some z) × (choice q z ≡ Some y))
    → ((q : ℕ) (x : X) (y : Y) → map.get n q ≡ Some x → choice q x ≡ Some y → (z : X) × (map.get m q ≡ Some z) × (choice q z ≡ Some y))
    → chosen choice m ≡ chosen choice n
chosen_alike choice m n to back =
    same_maps (chosen choice m) (chosen choice n) (λ q. same_options _ _
    (λ y is. let found = chosen_from choice m q y is in let there = to q found.0 y found.1 found.2 in chosen_to choice n q there.0 y there.1 there.2)
    (λ y is. let found = chosen_from choice n q y is in let there = back q found.0 y found.1 found.2 in chosen_to choice m q there.0 y there.1 there.2))

-- a test that fails says that two numbers differ
pub differ : (a b : ℕ) → nat_eq a b ≡ false → a ≡ b → ⊥
differ a b is same = let clash : true ≡ false = sym (ap (λ k. nat_eq k b) same ∙ test_same b) ∙ is in cc

-- events that pass a test, with one more that does not
pub others_left : {X : Type 0} (test : X → Bool) (events : List X) (event : X) → test event ≡ false → filter test (events ++ event ∷ []) ≡ filter test events
others_left test events event other =
    filter-append test events (event ∷ []) ∙ ap (λ b. filter test events ++ cond b (event ∷ []) []) other ∙ append-nil (filter test events)

-- one more value that is not kept, under a key that had none; and one less
module _ {X Y : Type 0} (choice : ℕ → X → Option Y) where
  pub kept_more : (m : map.FinMap nat_cmp X) (k : ℕ) (v : X) → ((y : Y) → choice k v ≡ Some y → ⊥) → ((x : X) → map.get m k ≡ Some x → ⊥) → chosen choice (map.insert m k v) ≡ chosen choice m
  kept_more m k v none new =
      chosen_alike choice (map.insert m k v) m
      (λ q x y is kept. elim (inserted_from m k q v x is) [
        | inl here ↦ absurd (none y (sym (λ i. choice (here.0 i) (here.1 i)) ∙ kept))
        | inr old ↦ (x, old.1, kept)
      ])
      (λ q x y is kept. (x, inserted_other m k q v (λ same. new x (ap (map.get m) (sym same) ∙ is)) ∙ is, kept))

  pub kept_less : (m : map.FinMap nat_cmp X) (k : ℕ) (v : X) → map.get m k ≡ Some v → ((y : Y) → choice k v ≡ Some y → ⊥) → chosen choice (map.remove m k) ≡ chosen choice m
  kept_less m k v there none =
      chosen_alike choice (map.remove m k) m
      (λ q x y is kept. (x, (removed_from m k q x is).1, kept))
      (λ q x y is kept. (
        x,
        removed_other m k q (λ same.
            none y ((λ i. choice (sym same i) (same_some v x (sym there ∙ ap (map.get m) (sym same) ∙ is) i)) ∙ kept)) ∙ is,
        kept,
      ))

module _ {C K : Type 0} (lib : Meanings C K) where
  not_named : (c number : ℕ) (h : Holding C) (by : ℕ) → h.caller ≡ by → (by ≡ c → ⊥) → (y : Named C) → named_for c number h ≡ Some y → ⊥
  not_named c number h by own apart y is = apart (sym own ∙ (let_through h.caller c (record { owner = h.owner; tree = h.tree }) y is).0)

  not_asked : (c task : ℕ) (a : Ask (Tree C) (Tree C)) (by : ℕ) → a.caller ≡ by → (by ≡ c → ⊥) → (y : Tree C) → goal_for c task a ≡ Some y → ⊥
  not_asked c task a by own apart y is = apart (sym own ∙ (let_through a.caller c a.goal y is).0)

  handed_names : (machine : Machine C K) (number caller owner c : ℕ) (tree : Tree C) → (caller ≡ c → ⊥) → ((h : Holding C) → map.get machine.holdings number ≡ Some h → ⊥)
      → names_of (handed machine number caller owner tree).holdings c ≡ names_of machine.holdings c
  handed_names machine number caller owner c Nothing apart new = refl
  handed_names machine number caller owner c (Root content a b x y) apart new =
      kept_more (named_for c) machine.holdings number (record { caller = caller; owner = owner; tree = Root content a b x y }) (not_named c number _ caller refl apart) new

  handed_asks : (machine : Machine C K) (number caller owner : ℕ) (tree : Tree C) → (handed machine number caller owner tree).asks ≡ machine.asks
  handed_asks machine number caller owner Nothing = refl
  handed_asks machine number caller owner (Root content a b x y) = refl

  -- the map of a caller whose own an event is not
  names_stay : (arity : C → ℕ) (before after : Machine C K) (event : Event K) (c : ℕ) → Kept lib before → Held lib before → IsStep lib arity before event after → is_callers_own c event ≡ false
      → names_of after.holdings c ≡ names_of before.holdings c
  names_stay arity before after (Register by id children) c keeps held step other =
      ap (λ (m : Machine C K). names_of m.holdings c) step.after_is
      ∙ kept_more (named_for c) before.holdings (before.drawn + 2) _ (not_named c (before.drawn + 2) _ by refl (differ by c other))
      (λ h is. let low = held.keys (before.drawn + 2) h is in omega arith)
  names_stay arity before after (Copy by from to) c keeps held step other =
      ap (λ (m : Machine C K). names_of m.holdings c) step.after_is
      ∙ kept_more (named_for c) before.holdings (before.drawn + 1) _ (not_named c (before.drawn + 1) _ by refl (differ by c other))
      (λ h is. let low = held.keys (before.drawn + 1) h is in omega arith)
  names_stay arity before after (Delete by id) c keeps held step other =
      let some = some_value (held_by before by id) step.held in
      let was = mine_from by id.owner (map.get before.holdings id.number) some.0 some.1 in
      ap (λ (m : Machine C K). names_of m.holdings c) step.after_is
      ∙ kept_less (named_for c) before.holdings id.number some.0 was.0 (not_named c id.number some.0 by was.1 (differ by c other))
  names_stay arity before after (AskEvent by task kind inputs) c keeps held step other = ap (λ (m : Machine C K). names_of m.holdings c) step.after_is
  names_stay arity before after (Collect by task got) c keeps held step other =
      ap (λ (m : Machine C K). names_of m.holdings c) step.after_is
      ∙ handed_names (record before { asks = map.remove before.asks task }) step.ask.number step.ask.caller (owner_of got) c step.output (λ same. differ by c other (sym step.own ∙ same))
      (λ h is. held.apart step.ask.number task h step.ask is step.there refl)
  names_stay arity before after (Abandon by) c keeps held step other = ap (λ (m : Machine C K). names_of m.holdings c) step.after_is
  names_stay arity before after (Stop by) c keeps held step other = ap (λ (m : Machine C K). names_of m.holdings c) step.after_is
  names_stay arity before after (Start worker task) c keeps held step other = ap (λ (m : Machine C K). names_of m.holdings c) step.after_is
  names_stay arity before after (GiveBack worker task) c keeps held step other = ap (λ (m : Machine C K). names_of m.holdings c) step.after_is
  names_stay arity before after (Finish worker task chunks tasks result) c keeps held step other =
      ap (λ (m : Machine C K). names_of m.holdings c) step.after_is
      ∙ ap (λ m. names_of m c) (finished_holdings lib arity before keeps task step.unfinished step.there worker step.runs step.outcome step.sound)

  -- answers change no goals
  answered_asks : (s : Stand (Tree C)) (asked : Option ℕ) (asks : map.FinMap nat_cmp (Ask (Tree C) (Tree C))) (c : ℕ) → asks_of (asks_then s asked asks) c ≡ asks_of asks c
  answered_asks s asked asks c =
      chosen_alike (goal_for c) (asks_then s asked asks) asks
      (λ q a y is kept.
      let was = asks_from s asked asks q a is in
      let through = let_through a.caller c a.goal y kept in (
        was.0,
        was.1,
        lets_through was.0.caller c was.0.goal (sym (answer_caller s asked was.0) ∙ ap (λ v. v.caller) (sym was.2) ∙ through.0)
            ∙ ap Some (sym (answer_goal s asked was.0) ∙ ap (λ v. v.goal) (sym was.2) ∙ sym through.1),
      ))
      (λ q a y is kept.
      let through = let_through a.caller c a.goal y kept in (
        answer s asked a,
        asks_to s asked asks q a is,
        lets_through (answer s asked a).caller c (answer s asked a).goal (answer_caller s asked a ∙ through.0)
            ∙ ap Some (answer_goal s asked a ∙ sym through.1),
      ))

  -- the ask that an ask adds
  abbrev asked_ask : Machine C K → ℕ → K → List Ref → Ask (Tree C) (Tree C)
  asked_ask before caller kind inputs =
      record {
        caller = caller;
        number = before.drawn + 2 + present inputs;
        goal = lib.goal kind (each (tree_named before) inputs);
        delivered = None;
      }

  asks_stay : (arity : C → ℕ) (before after : Machine C K) (event : Event K) (c : ℕ) → Kept lib before → IsStep lib arity before event after → is_callers_own c event ≡ false
      → asks_of after.asks c ≡ asks_of before.asks c
  asks_stay arity before after (Register by id children) c keeps step other = ap (λ (m : Machine C K). asks_of m.asks c) step.after_is
  asks_stay arity before after (Copy by from to) c keeps step other = ap (λ (m : Machine C K). asks_of m.asks c) step.after_is
  asks_stay arity before after (Delete by id) c keeps step other = ap (λ (m : Machine C K). asks_of m.asks c) step.after_is
  asks_stay arity before after (AskEvent by task kind inputs) c keeps step other =
      ap (λ (m : Machine C K). asks_of m.asks c) step.after_is
      ∙ kept_more (goal_for c) before.asks (before.drawn + 1) (asked_ask before by kind inputs) (not_asked c (before.drawn + 1) (asked_ask before by kind inputs) by refl (differ by c other))
      (λ a is. let low = (keeps.ask_drawn (before.drawn + 1) a is).0 in omega arith)
  asks_stay arity before after (Collect by task got) c keeps step other =
      ap (λ (m : Machine C K). asks_of m.asks c) step.after_is
      ∙ ap (λ m. asks_of m c) (handed_asks (record before { asks = map.remove before.asks task }) step.ask.number step.ask.caller (owner_of got) step.output)
      ∙ kept_less (goal_for c) before.asks task step.ask step.there (not_asked c task step.ask by step.own (differ by c other))
  asks_stay arity before after (Abandon by) c keeps step other =
      ap (λ (m : Machine C K). asks_of m.asks c) step.after_is
      ∙ chosen_alike (goal_for c) _ before.asks
      (λ q a y is kept. (a, (left_ask lib before.drawn before.graph before.asks keeps by q a is).0, kept))
      (λ q a y is kept.
      (a, ask_left lib before.drawn before.graph before.asks keeps by q a is (λ same. differ by c other (sym same ∙ (let_through a.caller c a.goal y kept).0)), kept))
  asks_stay arity before after (Stop by) c keeps step other = ap (λ (m : Machine C K). asks_of m.asks c) step.after_is
  asks_stay arity before after (Start worker task) c keeps step other = ap (λ (m : Machine C K). asks_of m.asks c) step.after_is
  asks_stay arity before after (GiveBack worker task) c keeps step other = ap (λ (m : Machine C K). asks_of m.asks c) step.after_is
  asks_stay arity before after (Finish worker task chunks tasks result) c keeps step other =
      ap (λ (m : Machine C K). asks_of m.asks c) step.after_is
      ∙ ap (λ m. asks_of m c) (finished_asks lib arity before keeps task step.unfinished step.there worker step.runs step.outcome step.sound)
      ∙ answered_asks (stand lib arity before.drawn before.graph before.asks keeps task step.unfinished step.there worker step.runs step.outcome step.sound) step.unfinished.asked before.asks c

  account_stays : (before : Machine C K) (c account : ℕ) (event : Event K) → is_callers_own c event ≡ false → account_then lib before c event account ≡ account
  account_stays before c account (Register by id children) other = refl
  account_stays before c account (Copy by from to) other = refl
  account_stays before c account (Delete by id) other = refl
  account_stays before c account (AskEvent by task kind inputs) other = ap (λ b. cond b (account + lib.work kind (each (tree_named before) inputs)) account) other
  account_stays before c account (Collect by task got) other = refl
  account_stays before c account (Abandon by) other = ap (λ b. cond b (account - work_left lib before c) account) other
  account_stays before c account (Stop by) other = refl
  account_stays before c account (Start worker task) other = refl
  account_stays before c account (GiveBack worker task) other = refl
  account_stays before c account (Finish worker task chunks tasks result) other = refl

  pub leaves_callers : (arity : C → ℕ) → AddsUp arity lib → LeavesCallers lib arity
  leaves_callers arity adds events before after event c run step other =
      let keeps = run_keeps lib arity opening before events (kept_at_opening lib) run in
      let held = held_run lib arity opening before events (kept_at_opening lib) (held_opening lib) run in
      let names = names_stay arity before after event c keeps held step other in
      let asks = asks_stay arity before after event c keeps step other in
      let account = accounts_change lib arity adds events before after event c run step ∙ account_stays before c (account_of lib before events c) event other in
      let own = others_left (is_callers_own c) events event other in
      λ i. record { names = names i; asks = asks i; account = account i; events = own i }
