-- Each event leaves a control state in order, and the opening state is.
use Rattle.std.proofs.Common.{◌≡◌, ℕ, ◌+◌, ◌≤◌, inl, inr, true, false, not, ◌&&◌, nat_eq, nat_le, nat_cmp, List, [], ◌∷◌, length, Option, None, Some, is_some, refl, sym, ap, subst, ◌∙◌, arith}
use Rattle.std.specs.Option.{option_map}
use Rattle.std.specs.List.{list_all, list_any}
use Rattle.std.specs.FinMap as map
use Rattle.cht_ids.specs.declared.refs.Id.{Id}
use Rattle.cht_ids.specs.declared.refs.Ref.{Ref}
use Rattle.cht_ids.specs.declared.refs.Ref.TheVariants.{Id as Held}
use Rattle.task_types.specs.Tree.{Tree}
use Rattle.task_types.specs.Meanings.{Meanings}
use Rattle.task_types.proofs.FormedTest.{both_left, both_right}
use Rattle.name_states.specs.declared.holder.Holder.{Holder}
use Rattle.name_states.specs.declared.holder.Holder.TheVariants.{Caller, Task, Body}
use Rattle.name_states.specs.States.{NameState, IdRecord, id_at, AreLive}
use Rattle.name_states.specs.Rules.{IsSound, AreWithin}
use Rattle.name_states.specs.Reached.{swept}
use Rattle.name_states.specs.Steps.{present, numbered}
use Rattle.name_states.specs.Steps as names
use Rattle.name_states.proofs.Basics.{none_not_some, same_some, test_same, test_apart, removed_from, removed_other}
use Rattle.name_states.proofs.Within.{AreMore, within-more, within-copied}
use Rattle.name_states.proofs.Copies.{copied-from}
use Rattle.name_states.proofs.Sound.{sound-without, sound-none, naming-from, registered-within}
use Rattle.name_states.proofs.Swept.{id-left}
use Rattle.task_states.specs.States.{Input, Known, Awaits, Unfinished, Graph, task_at, input_at, caller_of, is_stopped, no_tasks}
use Rattle.task_states.specs.Steps.{abandoned, with_stopped, started, given_back}
use Rattle.cht_history.specs.declared.event.Event.TheVariants.{Register, Copy, Delete, Ask as AskEvent, Collect, Abandon, Stop, Start, GiveBack, Finish}
use Rattle.name_machine.specs.States.{Ask}
use Rattle.name_machine.specs.Facts.{HoldsTogether}
use Rattle.name_machine.specs.Control.{Control, tidied, is_uncollected, is_task_of, goes_from, goes_with, without_ids, copy_event, register_event, after_register, delete_event, ask_event, collect_event, abandon_event}
use Rattle.name_machine.specs.Replay.{Plans, is_id, is_mine, may_mention, is_allowed}
use Rattle.name_machine.specs.Forgetting.{forgotten}
use Rattle.name_machine.specs.Standing.{task_shown, graph_shown, ask_shown, machine_of, IsOrderly}
use Rattle.name_machine.specs.Laws.{KeepsOrder, OpeningIsOrderly}
use Rattle.name_machine.proofs.Values.{any_from, any_to}
use Rattle.name_machine.proofs.Ends.{inputs_at}
use Rattle.name_machine.proofs.Works.{chosen_to}
use Rattle.name_machine.proofs.Stand.{shown_at}
use Rattle.name_machine.proofs.Grow.{IsMine, mine_of, may_all, copy_grows, register_grows, false_or, uncollected_number}
use Rattle.name_machine.proofs.Ordered.{input_from, inputs_unchanged, order_same, order_grown, order_left, tidied_still}
use Rattle.name_machine.proofs.Fewer.{left_at, stays_at, sound_without_ids, swept_sound, swept_reached, swept_fewer, outside_stays}
use Rattle.name_machine.proofs.Leaving.{task_was, task_stays, left, ask_was, uncollected_is, uncollected_caller}
use Rattle.name_machine.proofs.AskOrdered.{numbered_above, ask_order}
use Rattle.name_machine.proofs.FinishStands.{finish_keeps_order}

pub opening_is_orderly : {C : Type 0} (K : Type 0) (arity : C → ℕ) → OpeningIsOrderly K arity
opening_is_orderly K arity =
    let no_input : (q p : ℕ) (input : Input Ref) → input_at (no_tasks {X = Ref} {K = K}) q p ≡ Some input → ⊥ = λ q p input is.
    (let t = input_from no_tasks q p input is in none_not_some (map.get-empty nat_cmp q) t.1) in
    record {
      sound = sound-none arity;
      reached = λ q some. absurd (let clash : false ≡ true = sym (ap is_some (map.get-empty nat_cmp q)) ∙ some in cc);
      within = record {
        ids = λ q some. absurd (let clash : false ≡ true = sym (ap is_some (map.get-empty nat_cmp q)) ∙ some in cc);
        bodies = λ q some. absurd (let clash : false ≡ true = sym (ap is_some (map.get-empty nat_cmp q)) ∙ some in cc);
      };
      held = record {
        inputs = λ task place r is. absurd (no_input task place (Known r) is);
        apart = λ task place other one two is at same. absurd (no_input task place (Known (Held one)) is);
        nothing_else = λ number task entry is held. absurd (none_not_some (map.get-empty nat_cmp number) is);
        outputs = λ task ask r is done. absurd (none_not_some (map.get-empty nat_cmp task) is);
      };
      aside = record {
        inputs = λ number awaits. absurd (no_input awaits.0 awaits.1 (Awaits awaits.2 number) awaits.3);
        outputs = λ task ask is none. absurd (none_not_some (map.get-empty nat_cmp task) is);
        drawn = λ task ask is. absurd (none_not_some (map.get-empty nat_cmp task) is);
        one_place = λ task place awaited other place_of_other by_other number is at. absurd (no_input task place (Awaits awaited number) is);
        unasked = λ key ask is awaits. none_not_some (map.get-empty nat_cmp key) is;
      };
    }

caller_no_task : (caller task : ℕ) → Caller caller ≡ Task task → ⊥
caller_no_task caller task is = cc

body_no_task : (body task : ℕ) → Body body ≡ Task task → ⊥
body_no_task body task is = cc

same_caller : (one other : ℕ) → Caller one ≡ Caller other → one ≡ other
same_caller one other is = cc

pub test_false : (n c : ℕ) → nat_eq n c ≡ false → n ≡ c → ⊥
test_false n c is same = let clash : true ≡ false = sym (ap (λ m. nat_eq m c) same ∙ test_same c) ∙ is in cc

module _ {C K : Type 0} (lib : Meanings C K) (arity : C → ℕ) (control : Control C (Unit {0}) K) (orderly : IsOrderly arity control) where
  -- numbers of tasks were drawn, and no two asks have one number
  pub tasks_drawn : HoldsTogether lib (machine_of lib control) → (q : ℕ) (t : Unfinished Ref K) → task_at control.graph q ≡ Some t → q ≤ control.drawn
  tasks_drawn facts q t is = facts.numbered.tasks q (task_shown control.names t) (shown_at control.names control.graph q ∙ ap (option_map (task_shown control.names)) is)

  pub asks_differ : HoldsTogether lib (machine_of lib control) → (k l : ℕ) (a b : Ask (Unit {0}) Ref) → map.get control.asks k ≡ Some a → map.get control.asks l ≡ Some b
      → a.number ≡ b.number → k ≡ l
  asks_differ facts k l a b is at same =
      let shown : Ask (Unit {0}) Ref → Ask (Tree C) (Tree C) = ask_shown lib control.drawn control.names (graph_shown control.names control.graph) in
      facts.numbered.differ k l (shown a) (shown b) (chosen_to (λ task ask. Some (shown ask)) control.asks k a (shown a) is refl) (chosen_to (λ task ask. Some (shown ask)) control.asks l b (shown b) at refl) same

  -- ---- Names that grow

  copy_order : (plans : Plans K) (caller : ℕ) (from to : Id) → is_allowed plans (forgotten arity control) (Copy caller from to) ≡ true → IsOrderly arity (tidied (copy_event control caller from))
  copy_order plans caller from to allowed =
      let n : ℕ = control.drawn + 1 in
      let its = mine_of lib arity control orderly caller from (both_left (is_mine (forgotten arity control) caller from) (is_id from.owner n to) allowed) in
      let more : NameState C = names.copied control.names from.number n (Caller caller) in
      let grows = copy_grows lib arity control orderly caller from its in
      let within : AreWithin more n = within-copied control.names from.number n (Caller caller) n (within-more control.names control.drawn n orderly.within (omega arith)) (omega arith) in
      subst (IsOrderly arity) (sym (tidied_still arity (copy_event control caller from) grows.sound grows.reached))
      (order_grown arity control orderly n more (omega arith) grows.sound grows.reached within grows.is_more
      (λ q e is. elim (copied-from control.names n (Caller caller) (id_at control.names from.number) q e is) [
        | inl old ↦ inl old
        | inr new ↦ (let high = new.3 in inr (omega arith, λ task held. caller_no_task caller task (sym (ap (λ (x : IdRecord). x.holder) new.2) ∙ held)))
      ]))

  register_order : (plans : Plans K) (caller : ℕ) (id : Id) (children : List Ref) (content : C) → length children ≡ arity content
      → is_allowed plans (forgotten arity control) (Register caller id children) ≡ true → IsOrderly arity (tidied (register_event control caller content children))
  register_order plans caller id children content many allowed =
      let drawn : ℕ = control.drawn + 2 + present children in
      let front = nat_le (length children) 4 && list_all (may_mention (forgotten arity control) caller) children in
      let mentioned = may_all lib arity control orderly caller children (both_right (nat_le (length children) 4) (list_all (may_mention (forgotten arity control) caller) children) (both_left front (is_id 0 (control.drawn + 2) id) allowed)) in
      let live : AreLive control.names children = mentioned.0.1 in
      let more : NameState C = names.registered control.names control.drawn (Caller caller) 0 content children in
      let grows = register_grows lib arity control orderly caller content children many live in
      subst (IsOrderly arity) (sym (tidied_still arity (register_event control caller content children) grows.sound grows.reached))
      (order_grown arity control orderly drawn more (omega arith) grows.sound grows.reached (registered-within control.names control.drawn (Caller caller) 0 content children orderly.within) grows.is_more
      (λ q e is. elim (naming-from control.names control.drawn (Caller caller) 0 content children orderly.within live q e is) [
        | inl old ↦ inl old
        | inr other ↦ elim other [
          | inl new ↦ (let high = new.0 in inr (omega arith, λ task held. caller_no_task caller task (sym (ap (λ (x : IdRecord). x.holder) new.1) ∙ held)))
          | inr copy ↦
              let high = numbered_above (control.drawn + 2) children copy.2 (record { owner = copy.0.owner; number = q }) copy.5 in
              inr (omega arith, λ task held. body_no_task (control.drawn + 1) task (sym (ap (λ (x : IdRecord). x.holder) copy.4) ∙ held))
        ]
      ]))

  register_orders : (plans : Plans K) (contents : List C) (caller : ℕ) (id : Id) (children : List Ref) → (content : C) → contents ≡ content ∷ [] → length children ≡ arity content
      → is_allowed plans (forgotten arity control) (Register caller id children) ≡ true → IsOrderly arity (tidied (after_register control caller contents children))
  register_orders plans contents caller id children content is many allowed =
      subst (λ all. IsOrderly arity (tidied (after_register control caller all children))) (sym is) (register_order plans caller id children content many allowed)

  asks_order : (plans : Plans K) (caller task : ℕ) (kind : K) (inputs : List Ref) → HoldsTogether lib (machine_of lib control)
      → is_allowed plans (forgotten arity control) (AskEvent caller task kind inputs) ≡ true → IsOrderly arity (tidied (ask_event control caller tt kind inputs))
  asks_order plans caller task kind inputs facts allowed =
      let front = not (is_stopped control.graph caller) && list_all (may_mention (forgotten arity control) caller) inputs in
      let first = both_left front (nat_eq task (control.drawn + 1)) allowed in
      let mentioned = may_all lib arity control orderly caller inputs (both_right (not (is_stopped control.graph caller)) (list_all (may_mention (forgotten arity control) caller) inputs) first) in
      let ordered = ask_order arity control orderly (tasks_drawn facts) caller kind inputs mentioned.0.1 in
      subst (IsOrderly arity) (sym (tidied_still arity (ask_event control caller tt kind inputs) ordered.sound ordered.reached)) ordered

  -- ---- A delete

  abbrev pub deleting : Id → NameState C
  deleting id = names.without_id control.names id.number

  pub deleting_sound : (caller : ℕ) (id : Id) → IsMine lib arity control orderly caller id → IsSound arity (deleting id)
  deleting_sound caller id its =
      sound-without arity control.names id.number its.entry orderly.sound its.there (subst names.IsOutside (sym its.holder) tt)

  -- what stays at a delete: what has another number and is held by a caller or a task
  pub deleting_stays : (caller : ℕ) (id : Id) → IsMine lib arity control orderly caller id → (q : ℕ) (e : IdRecord) (holder : Holder) → (q ≡ id.number → ⊥) → id_at control.names q ≡ Some e
      → e.holder ≡ holder → names.IsOutside holder → id_at (swept (deleting id)) q ≡ Some e
  deleting_stays caller id its q e holder apart is held outside =
      outside_stays arity control.names (deleting id) (deleting_sound caller id its) (λ n other at. (removed_from control.names.ids id.number n other at).1) refl q e holder
      (removed_other control.names.ids id.number q apart ∙ is) held outside

  pub deleting_fewer : (caller : ℕ) (id : Id) → IsMine lib arity control orderly caller id → AreMore (swept (deleting id)) control.names
  deleting_fewer caller id its = swept_fewer arity control.names (deleting id) (deleting_sound caller id its) (λ n other at. (removed_from control.names.ids id.number n other at).1) refl

  pub delete_order : (caller : ℕ) (id : Id) → IsMine lib arity control orderly caller id → IsOrderly arity (tidied (delete_event control id))
  delete_order caller id its =
      let base = deleting id in
      let sound = deleting_sound caller id its in
      let fewer : (q : ℕ) (e : IdRecord) → id_at base q ≡ Some e → id_at control.names q ≡ Some e = λ n other at. (removed_from control.names.ids id.number n other at).1 in
      let its_own : (q : ℕ) (e : IdRecord) → q ≡ id.number → id_at control.names q ≡ Some e → e.holder ≡ Caller caller = λ q e same is.
      ap (λ (x : IdRecord). x.holder) (same_some e its.entry (sym is ∙ ap (id_at control.names) same ∙ its.there)) ∙ its.holder in
      order_left arity control orderly (swept base) control.asks control.graph (swept_sound arity control.names base sound fewer refl) (swept_reached arity control.names base sound fewer refl) (deleting_fewer caller id its)
      (λ q p input is. is)
      (λ k a is. is)
      (λ q p other e at is held. deleting_stays caller id its other.number e (Task q) (λ same. caller_no_task caller q (sym (its_own other.number e same is) ∙ held)) is held tt)
      (λ k a other e at done is held. deleting_stays caller id its other.number e (Caller a.caller) (λ same.
      let own : a.caller ≡ caller = same_caller a.caller caller (sym held ∙ its_own other.number e same is) in
      let number : other.number ≡ a.number = (orderly.held.outputs k a (Held other) at done).1 in
      let any = any_from (is_uncollected caller id.number) control.asks k a at (uncollected_is caller id.number a own (sym number ∙ same) (ap is_some done)) in
      let clash : true ≡ false = sym any ∙ its.fresh in
      cc) is held tt)
      (λ number task p e input is held at. at)

  -- ---- A collect

  pub collect_order : (task : ℕ) → IsOrderly arity (tidied (collect_event control task))
  collect_order task =
      subst (IsOrderly arity) (sym (tidied_still arity (collect_event control task) orderly.sound orderly.reached))
      (order_left arity control orderly control.names (map.remove control.asks task) control.graph orderly.sound orderly.reached (record { ids = λ q e is. is; bodies = λ q body is. is })
      (λ q p input is. is)
      (λ k a is. (removed_from control.asks task k a is).1)
      (λ q p id e at is held. is)
      (λ k a id e at done is held. is)
      (λ number other p e input is held at. at))

  -- ---- A caller gives up

  abbrev pub leaving : ℕ → NameState C
  leaving caller = without_ids control.names (goes_with control caller)

  pub leaving_sound : (caller : ℕ) → IsSound arity (leaving caller)
  leaving_sound caller = sound_without_ids control.names (goes_with control caller) arity orderly.sound (λ q e body held. ap (goes_from control caller q) held)

  pub leaving_was : (caller q : ℕ) (e : IdRecord) → id_at (leaving caller) q ≡ Some e → id_at control.names q ≡ Some e
  leaving_was caller q e is = (left_at control.names (goes_with control caller) q e is).0

  pub leaving_fewer : (caller : ℕ) → AreMore (swept (leaving caller)) control.names
  leaving_fewer caller = swept_fewer arity control.names (leaving caller) (leaving_sound caller) (leaving_was caller) refl

  pub leaving_stays : (caller q : ℕ) (e : IdRecord) (holder : Holder) → id_at control.names q ≡ Some e → e.holder ≡ holder → names.IsOutside holder → goes_from control caller q holder ≡ false
      → id_at (swept (leaving caller)) q ≡ Some e
  leaving_stays caller q e holder is held outside fixed =
      outside_stays arity control.names (leaving caller) (leaving_sound caller) (leaving_was caller) refl q e holder
      (stays_at control.names (goes_with control caller) q e is (ap (goes_from control caller q) held ∙ fixed)) held outside

  -- an output of another caller is none of this one
  pub not_its_output : HoldsTogether lib (machine_of lib control) → (caller k : ℕ) (a : Ask (Unit {0}) Ref) → map.get control.asks k ≡ Some a → (a.caller ≡ caller → ⊥)
      → list_any (is_uncollected caller a.number) (map.values control.asks) ≡ false
  not_its_output facts caller k a is apart =
      false_or (list_any (is_uncollected caller a.number) (map.values control.asks)) (λ any.
      let one = any_to (is_uncollected caller a.number) control.asks any in
      let key : one.0 ≡ k = asks_differ facts one.0 k one.1 a one.2 is (uncollected_number caller a.number one.1 one.3) in
      let same : one.1 ≡ a = same_some one.1 a (sym one.2 ∙ ap (map.get control.asks) key ∙ is) in
      apart (sym (ap (λ (b : Ask (Unit {0}) Ref). b.caller) same) ∙ uncollected_caller caller a.number one.1 one.3))

  -- a task whose identifiers stay is of another caller
  others_task : (caller task : ℕ) (t : Unfinished Ref K) → task_at control.graph task ≡ Some t → is_task_of caller (caller_of control.graph task) ≡ nat_eq t.caller caller
  others_task caller task t is = ap (λ (o : Option (Unfinished Ref K)). is_task_of caller (option_map (λ u. u.caller) o)) is

  pub abandon_order : HoldsTogether lib (machine_of lib control) → (caller : ℕ) → IsOrderly arity (tidied (abandon_event control caller))
  abandon_order facts caller =
      let base = leaving caller in
      let sound = leaving_sound caller in
      let fewer = leaving_was caller in
      order_left arity control orderly (swept base) (left control.asks caller) (abandoned control.graph caller) (swept_sound arity control.names base sound fewer refl) (swept_reached arity control.names base sound fewer refl) (leaving_fewer caller)
      (λ q p input is.
      let t = input_from (abandoned control.graph caller) q p input is in
      inputs_at control.graph q p t.0 (task_was control.graph caller q t.0 t.1).0 ∙ t.2)
      (λ k a is. (ask_was control.asks caller k a is).0)
      (λ q p id e at is held.
      let t = input_from (abandoned control.graph caller) q p (Known (Held id)) at in
      let was = task_was control.graph caller q t.0 t.1 in
      leaving_stays caller id.number e (Task q) is held tt (others_task caller q t.0 was.0 ∙ test_apart t.0.caller caller was.1))
      (λ k a id e at done is held.
      let was = ask_was control.asks caller k a at in
      let number : id.number ≡ a.number = (orderly.held.outputs k a (Held id) was.0 done).1 in
      leaving_stays caller id.number e (Caller a.caller) is held tt (ap (λ n. list_any (is_uncollected caller n) (map.values control.asks)) number ∙ not_its_output facts caller k a was.0 was.1))
      (λ number task p e input is held at.
      let t = input_from control.graph task p input at in
      let at_left = left_at control.names (goes_with control caller) number e (id-left base number e is).0 in
      let other : nat_eq t.0.caller caller ≡ false = sym (others_task caller task t.0 t.1) ∙ sym (ap (goes_from control caller number) held) ∙ at_left.1 in
      inputs_at (abandoned control.graph caller) task p t.0 (task_stays control.graph caller task t.0 t.1 (λ same. test_false t.0.caller caller other same)) ∙ t.2)

  -- ---- Tasks that are run, and callers that are stopped

  pub same_order : (after : Graph Ref K) → ((q p : ℕ) → input_at after q p ≡ input_at control.graph q p) → IsOrderly arity (tidied (record control { graph = after }))
  same_order after same = subst (IsOrderly arity) (sym (tidied_still arity (record control { graph = after }) orderly.sound orderly.reached)) (order_same arity control orderly after same)

module _ {C K : Type 0} (lib : Meanings C K) (arity : C → ℕ) (plans : Plans K) where
  pub keeps_order : KeepsOrder lib arity plans
  keeps_order control contents (Register caller id children) orderly facts these allowed = register_orders lib arity control orderly plans contents caller id children these.0 these.1 these.2 allowed
  keeps_order control contents (Copy caller from to) orderly facts these allowed = copy_order lib arity control orderly plans caller from to allowed
  keeps_order control contents (Delete caller id) orderly facts these allowed = delete_order lib arity control orderly caller id (mine_of lib arity control orderly caller id allowed)
  keeps_order control contents (AskEvent caller task kind inputs) orderly facts these allowed = asks_order lib arity control orderly plans caller task kind inputs facts allowed
  keeps_order control contents (Collect caller task got) orderly facts these allowed = collect_order lib arity control orderly task
  keeps_order control contents (Abandon caller) orderly facts these allowed = abandon_order lib arity control orderly facts caller
  keeps_order control contents (Stop caller) orderly facts these allowed = same_order lib arity control orderly (with_stopped control.graph caller) (λ q p. refl)
  keeps_order control contents (Start worker task) orderly facts these allowed =
      same_order lib arity control orderly (started control.graph task worker) (inputs_unchanged control.graph task (λ t. record t { runner = Some worker }) (λ t. refl))
  keeps_order control contents (GiveBack worker task) orderly facts these allowed =
      same_order lib arity control orderly (given_back control.graph task) (inputs_unchanged control.graph task (λ t. record t { runner = None }) (λ t. refl))
  keeps_order control contents (Finish worker task chunks tasks result) orderly facts these allowed =
      finish_keeps_order lib arity plans control contents worker task chunks tasks result orderly facts these allowed
