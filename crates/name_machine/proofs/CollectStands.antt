-- A collect of a control state is the machine's.
use Rattle.std.proofs.Common.{◌≡◌, ℕ, inl, inr, true, false, cond, not, nat_eq, nat_cmp, List, map as each, Option, None, Some, refl, sym, ap, subst, ◌∙◌}
use Rattle.std.specs.Option.{option_map}
use Rattle.std.specs.List.{list_any}
use Rattle.std.specs.FinMap as map
use Rattle.cht_ids.specs.declared.refs.Id.{Id}
use Rattle.cht_ids.specs.declared.refs.Ref.{Ref}
use Rattle.cht_ids.specs.declared.refs.Ref.TheVariants.{Null, Id as Held}
use Rattle.task_types.specs.Tree.{Tree, rooted}
use Rattle.task_types.specs.Meanings.{Meanings}
use Rattle.task_types.proofs.FormedTest.{both_left, both_right}
use Rattle.name_states.specs.declared.holder.Holder.{Holder}
use Rattle.name_states.specs.declared.holder.Holder.TheVariants.{Caller, Task, Body}
use Rattle.name_states.specs.States.{IdRecord, BodyRecord, id_at, body_at}
use Rattle.name_states.specs.Trees.{tree_named, led_to, grown, tree_within, body_tree, tree_of}
use Rattle.name_states.proofs.Basics.{none_not_some, same_some, same_or_not, same_options, same_from_test, inserted_here, inserted_other, inserted_from, removed_from, removed_other}
use Rattle.name_states.proofs.Within.{number-naming}
use Rattle.task_states.specs.Maps.{chosen}
use Rattle.task_states.specs.States.{is_stopped}
use Rattle.task_states.proofs.Maps.{same_maps}
use Rattle.cht_history.specs.declared.event.Event.TheVariants.{Collect}
use Rattle.name_machine.specs.States.{Machine, Holding, Ask}
use Rattle.name_machine.specs.Steps.{handed, holding_more, collected}
use Rattle.name_machine.specs.Facts.{HoldsTogether}
use Rattle.name_machine.specs.Machine.{IsAnswer, owner_of, Collects}
use Rattle.name_machine.specs.Control.{Control, tidied, is_uncollected, collect_event}
use Rattle.name_machine.specs.Replay.{Plans, same_ref, delivered_is, is_delivered, is_allowed}
use Rattle.name_machine.specs.Forgetting.{forgotten}
use Rattle.name_machine.specs.Standing.{HasNoOutput, graph_shown, is_output, holding_shown, held_shown, ask_shown, machine_of, IsOrderly}
use Rattle.name_machine.proofs.Values.{any_from, any_to}
use Rattle.name_machine.proofs.Works.{chosen_from, chosen_to}
use Rattle.name_machine.proofs.Stand.{not_true}
use Rattle.name_machine.proofs.Grow.{false_or, uncollected_number}
use Rattle.name_machine.proofs.Linking.{same_bools}
use Rattle.name_machine.proofs.Orderly.{held_entry}
use Rattle.name_machine.proofs.Ordered.{tidied_still}
use Rattle.name_machine.proofs.KeepsOrder.{asks_differ}

-- two references that are the same by the test
ref_same : (got r : Ref) → same_ref got r ≡ true → r ≡ got
ref_same Null Null is = refl
ref_same Null (Held id) is = absurd (let clash : false ≡ true = is in cc)
ref_same (Held id) Null is = absurd (let clash : false ≡ true = is in cc)
ref_same (Held id) (Held other) is =
    let owner : id.owner ≡ other.owner = same_from_test id.owner other.owner (both_left (nat_eq id.owner other.owner) (nat_eq id.number other.number) is) in
    let number : id.number ≡ other.number = same_from_test id.number other.number (both_right (nat_eq id.owner other.owner) (nat_eq id.number other.number) is) in
    λ i. Held (record { owner = sym owner i; number = sym number i })

delivered_same : (got : Ref) (o : Option Ref) → delivered_is got o ≡ true → o ≡ Some got
delivered_same got None is = absurd (let clash : false ≡ true = is in cc)
delivered_same got (Some r) is = ap Some (ref_same got r is)

-- a map with each value changed, and one entry less
chosen_removed : {X Y : Type 0} (choice : ℕ → X → Option Y) (m : map.FinMap nat_cmp X) (key : ℕ) → chosen choice (map.remove m key) ≡ map.remove (chosen choice m) key
chosen_removed choice m key =
    same_maps _ _ (λ q. same_options _ _
    (λ x is.
    let found = chosen_from choice (map.remove m key) q x is in
    let was = removed_from m key q found.0 found.1 in
    removed_other (chosen choice m) key q was.0 ∙ chosen_to choice m q found.0 x was.1 found.2)
    (λ x is.
    let was = removed_from (chosen choice m) key q x is in
    let found = chosen_from choice m q x was.1 in
    chosen_to choice (map.remove m key) q found.0 x (removed_other m key q was.0 ∙ found.1) found.2))

handed_more : {C K : Type 0} (machine : Machine C K) (number caller owner : ℕ) (content : C) (trees : List (Tree C)) (tree : Tree C) → tree ≡ rooted content trees
    → handed machine number caller owner tree ≡ holding_more machine number caller owner tree
handed_more machine number caller owner content trees tree is =
    ap (handed machine number caller owner) is ∙ ap (holding_more machine number caller owner) (sym is)

module _ {C K : Type 0} (lib : Meanings C K) (arity : C → ℕ) (control : Control C (Unit {0}) K) (orderly : IsOrderly arity control) (facts : HoldsTogether lib (machine_of lib control))
    (task : ℕ) (ask : Ask (Unit {0}) Ref) (there : map.get control.asks task ≡ Some ask) where
  abbrev later : map.FinMap nat_cmp (Ask (Unit {0}) Ref)
  later = map.remove control.asks task

  abbrev end : Control C (Unit {0}) K
  end = collect_event control task

  abbrev show : Ask (Unit {0}) Ref → Ask (Tree C) (Tree C)
  show = ask_shown lib control.drawn control.names (graph_shown control.names control.graph)

  asks_are : (machine_of lib end).asks ≡ map.remove (machine_of lib control).asks task
  asks_are = chosen_removed (λ key a. Some (show a)) control.asks task

  -- what is an output, but for the number of the ask
  output_same : (q c : ℕ) → (q ≡ ask.number → ⊥) → is_output later q (Caller c) ≡ is_output control.asks q (Caller c)
  output_same q c apart =
      same_bools (is_output later q (Caller c)) (is_output control.asks q (Caller c))
      (λ is.
      let one = any_to (is_uncollected c q) later is in
      any_from (is_uncollected c q) control.asks one.0 one.1 (removed_from control.asks task one.0 one.1 one.2).1 one.3)
      (λ is.
      let one = any_to (is_uncollected c q) control.asks is in
      any_from (is_uncollected c q) later one.0 one.1
      (removed_other control.asks task one.0 (λ same.
      let which : one.1 ≡ ask = same_some one.1 ask (sym one.2 ∙ ap (map.get control.asks) same ∙ there) in
      apart (sym (uncollected_number c q one.1 one.3) ∙ ap (λ (a : Ask (Unit {0}) Ref). a.number) which)) ∙ one.2) one.3)

  -- the number of the ask is no output's any more
  output_gone : (c : ℕ) → is_output later ask.number (Caller c) ≡ false
  output_gone c =
      false_or (list_any (is_uncollected c ask.number) (map.values later)) (λ is.
      let one = any_to (is_uncollected c ask.number) later is in
      let was = removed_from control.asks task one.0 one.1 one.2 in
      was.0 (asks_differ lib arity control orderly facts one.0 task one.1 ask was.1 there (uncollected_number c ask.number one.1 one.3)))

  shown_same : (q : ℕ) (e : IdRecord) (holder : Holder) → (q ≡ ask.number → ⊥)
      → cond (is_output later q holder) None (holding_shown control.names e holder) ≡ cond (is_output control.asks q holder) None (holding_shown control.names e holder)
  shown_same q e (Caller c) apart = ap (λ b. cond b None (holding_shown control.names e (Caller c))) (output_same q c apart)
  shown_same q e (Task other) apart = refl
  shown_same q e (Body body) apart = refl

  -- ---- Null was delivered

  null_holdings : ask.delivered ≡ Some Null → (machine_of lib end).holdings ≡ (machine_of lib control).holdings
  null_holdings done =
      let free : id_at control.names ask.number ≡ None = orderly.aside.outputs task ask there (subst HasNoOutput (sym done) tt) in
      let apart : (q : ℕ) (e : IdRecord) → id_at control.names q ≡ Some e → q ≡ ask.number → ⊥ = λ q e at same. none_not_some free (ap (id_at control.names) (sym same) ∙ at) in
      same_maps _ _ (λ q. same_options _ _
      (λ x is.
      let found = chosen_from (held_shown later control.names) control.names.ids q x is in
      chosen_to (held_shown control.asks control.names) control.names.ids q found.0 x found.1 (sym (shown_same q found.0 found.0.holder (apart q found.0 found.1)) ∙ found.2))
      (λ x is.
      let found = chosen_from (held_shown control.asks control.names) control.names.ids q x is in
      chosen_to (held_shown later control.names) control.names.ids q found.0 x found.1 (shown_same q found.0 found.0.holder (apart q found.0 found.1) ∙ found.2)))

  -- ---- An identifier was delivered

  module _ (id : Id) (done : ask.delivered ≡ Some (Held id)) where
    record IsTheirs : Type 0 where
      pub entry : IdRecord
      pub at : id_at control.names ask.number ≡ Some entry
      pub owner : entry.owner ≡ id.owner
      pub holder : entry.holder ≡ Caller ask.caller
      pub number : id.number ≡ ask.number
      pub body : BodyRecord C
      pub there_too : body_at control.names entry.body ≡ Some body
      pub leads : tree_of control.names (Held id) ≡ body_tree control.names entry.body

    theirs : IsTheirs
    theirs =
        let was = orderly.held.outputs task ask (Held id) there done in
        let e = held_entry control.names (Caller ask.caller) id was.0 in
        let body = orderly.sound.named id.number e.0 e.1 in
        record {
          entry = e.0;
          at = ap (id_at control.names) (sym was.1) ∙ e.1;
          owner = e.2;
          holder = e.3;
          number = was.1;
          body = body.0;
          there_too = body.1;
          leads = ap (tree_named (body_tree control.names)) (number-naming control.names id e.0 e.1 e.2);
        }

    abbrev below : ℕ → Tree C
    below = tree_within theirs.entry.body control.names

    abbrev trees : List (Tree C)
    trees = each (led_to below control.names) theirs.body.children

    -- its tree is not nothing
    root : tree_of control.names (Held id) ≡ rooted theirs.body.content trees
    root = theirs.leads ∙ ap (grown below control.names) theirs.there_too

    abbrev new : Holding C
    new = record { caller = ask.caller; owner = id.owner; tree = tree_of control.names (Held id) }

    new_shown : held_shown later control.names ask.number theirs.entry ≡ Some new
    new_shown =
        (λ i. cond (is_output later ask.number (theirs.holder i)) None (holding_shown control.names theirs.entry (theirs.holder i)))
        ∙ ap (λ b. cond b None (holding_shown control.names theirs.entry (Caller ask.caller))) (output_gone ask.caller)
        ∙ (λ i. Some (record { caller = ask.caller; owner = theirs.owner i; tree = sym theirs.leads i }))

    held_holdings : (machine_of lib end).holdings ≡ map.insert (machine_of lib control).holdings ask.number new
    held_holdings =
        same_maps _ _ (λ q. same_options _ _
        (λ x is.
        let found = chosen_from (held_shown later control.names) control.names.ids q x is in
        elim (same_or_not q ask.number) [
          | inl same ↦
              let one : found.0 ≡ theirs.entry = same_some found.0 theirs.entry (sym found.1 ∙ ap (id_at control.names) same ∙ theirs.at) in
              inserted_here (machine_of lib control).holdings ask.number q new x same (same_some x new (sym found.2 ∙ (λ i. held_shown later control.names (same i) (one i)) ∙ new_shown))
          | inr apart ↦
              inserted_other (machine_of lib control).holdings ask.number q new apart
              ∙ chosen_to (held_shown control.asks control.names) control.names.ids q found.0 x found.1 (sym (shown_same q found.0 found.0.holder apart) ∙ found.2)
        ])
        (λ x is. elim (inserted_from (machine_of lib control).holdings ask.number q new x is) [
          | inl here ↦
              ap (map.get (machine_of lib end).holdings) here.0
              ∙ chosen_to (held_shown later control.names) control.names.ids ask.number theirs.entry new theirs.at new_shown
              ∙ ap Some (sym here.1)
          | inr old ↦
              let found = chosen_from (held_shown control.asks control.names) control.names.ids q x old.1 in
              chosen_to (held_shown later control.names) control.names.ids q found.0 x found.1 (shown_same q found.0 found.0.holder old.0 ∙ found.2)
        ]))

  -- ---- The step

  collect_is : (r : Ref) → ask.delivered ≡ Some r → machine_of lib end ≡ collected (machine_of lib control) task (owner_of r) (show ask) (tree_of control.names r)
  collect_is Null done = λ i. record {
    drawn = control.drawn;
    holdings = null_holdings done i;
    asks = asks_are i;
    graph = graph_shown control.names control.graph;
  }
  collect_is (Held id) done =
      let after : Machine C K = record (machine_of lib control) { asks = map.remove (machine_of lib control).asks task } in
      let holdings_are = held_holdings id done in
      let first : machine_of lib end ≡ holding_more after ask.number ask.caller id.owner (tree_of control.names (Held id)) =
      λ i. record {
        drawn = control.drawn;
        holdings = holdings_are i;
        asks = asks_are i;
        graph = graph_shown control.names control.graph;
      } in
      first ∙ sym (handed_more after ask.number ask.caller id.owner (theirs id done).body.content (trees id done) (tree_of control.names (Held id)) (root id done))

  answer_is : (r : Ref) → ask.delivered ≡ Some r → IsAnswer ask.number (tree_of control.names r) r
  answer_is Null done = tt
  answer_is (Held id) done = subst (λ tree. IsAnswer ask.number tree (Held id)) (sym (root id done)) (theirs id done).number

module _ {C K : Type 0} (lib : Meanings C K) (arity : C → ℕ) (control : Control C (Unit {0}) K) (orderly : IsOrderly arity control) (facts : HoldsTogether lib (machine_of lib control)) where
  -- the ask that is collected
  found_ask : (caller task : ℕ) (got : Ref) (o : Option (Ask (Unit {0}) Ref)) → is_delivered caller got o ≡ true
      → (ask : Ask (Unit {0}) Ref) × (o ≡ Some ask) × (ask.caller ≡ caller) × (ask.delivered ≡ Some got)
  found_ask caller task got None is = absurd (let clash : false ≡ true = is in cc)
  found_ask caller task got (Some ask) is = (
    ask,
    refl,
    same_from_test ask.caller caller (both_left (nat_eq ask.caller caller) (delivered_is got ask.delivered) is),
    delivered_same got ask.delivered (both_right (nat_eq ask.caller caller) (delivered_is got ask.delivered) is),
  )

  pub collect_stands : (plans : Plans K) (caller task : ℕ) (got : Ref) → is_allowed plans (forgotten arity control) (Collect caller task got) ≡ true
      → Collects lib arity (machine_of lib control) (machine_of lib (tidied (collect_event control task))) caller task got
  collect_stands plans caller task got allowed =
      let free = not (is_stopped control.graph caller) in
      let found = found_ask caller task got (map.get control.asks task) (both_right free (is_delivered caller got (map.get control.asks task)) allowed) in
      let whole = show lib arity control orderly facts task found.0 found.1 found.0 in
      record {
        goes_on = not_true (is_stopped control.graph caller) (both_left free (is_delivered caller got (map.get control.asks task)) allowed);
        ask = whole;
        there = chosen_to (λ key a. Some (ask_shown lib control.drawn control.names (graph_shown control.names control.graph) a)) control.asks task found.0 whole found.1 refl;
        own = found.2;
        output = tree_of control.names got;
        delivered = ap (option_map (tree_of control.names)) found.3;
        answer = answer_is lib arity control orderly facts task found.0 found.1 got found.3;
        after_is =
            ap (machine_of lib) (tidied_still arity (collect_event control task) orderly.sound orderly.reached)
            ∙ collect_is lib arity control orderly facts task found.0 found.1 got found.3;
      }
