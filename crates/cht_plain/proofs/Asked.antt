-- What an ask makes of what the caller sees.
use Rattle.std.proofs.Common.{◌≡◌, ℕ, ◌+◌, List, [], ◌∷◌, ◌++◌, map as each, None, Some, Result, Ok, Err, IfOk, inl, inr, refl, sym, ap, subst, ◌∙◌, append_assoc}
use Rattle.std.specs.FinMap as map
use Rattle.cht_ids.specs.declared.memory.Memory.{Memory}
use Rattle.cht_ids.specs.declared.refs.Ref.{Ref}
use Rattle.cht_ids.specs.declared.refs.Ref.TheVariants.{Null, Id as Held}
use Rattle.task_types.specs.Tree.{Tree, Nothing, Root}
use Rattle.task_types.specs.Meanings.{Meanings}
use Rattle.task_states.specs.States.{Unfinished, Known, task_at, is_stopped}
use Rattle.task_states.specs.Steps.{added, with_asked}
use Rattle.name_states.specs.Steps.{present}
use Rattle.name_states.proofs.Basics.{none_not_some, test_apart, inserted_from}
use Rattle.cht_history.specs.declared.event.Event.{Event}
use Rattle.cht_history.specs.declared.event.Event.TheVariants.{Ask as AskEvent, Collect, Abandon}
use Rattle.name_machine.specs.States.{Machine, Ask, IsIdle}
use Rattle.name_machine.specs.States as machine
use Rattle.name_machine.specs.Facts.{HoldsTogether}
use Rattle.name_machine.specs.Parts.{goal_for, names_of, asks_of}
use Rattle.name_machine.proofs.Tasks.{changed_from}
use Rattle.core_state.specs.Contents.{Contents}
use Rattle.cht_core.specs.Events.{state, Happens}
use Rattle.cht_engine.specs.Seen.{Seen, MayMentionAll, with_name}
use Rattle.cht_engine.specs.Calls.{trees_named, IsOutput, answered, IsAsked}
use Rattle.cht_plain.specs.Alone.{seen_of, IsAtRest, IsWaiting}
use Rattle.cht_plain.specs.Serving.{AwaitsOne, IsServed, collected, waiting_for}
use Rattle.cht_plain.proofs.Chosen.{chosen-insert}
use Rattle.cht_plain.proofs.Kept.{alone_then, own_written}
use Rattle.cht_plain.proofs.Mentions.{trees_so}
use Rattle.cht_plain.proofs.Absent.{none_unfinished, none_stopped}

-- a task that nobody runs is not run
not_run : {X K : Type 0} (t u : Unfinished X K) → t ≡ u → u.runner ≡ None → (worker : ℕ) → t.runner ≡ Some worker → ⊥
not_run t u same none worker runs = none_not_some (ap (λ v. v.runner) same ∙ none) runs

module _ {C K : Type 0} (lib : Meanings C K) (arity : C → ℕ) (before after : Contents C K) (rest : IsAtRest lib before) (kind : K) (inputs : List Ref) (task : ℕ)
    (happens : Happens lib arity before after (AskEvent 0 task kind inputs)) where
  -- the new task is not run, and there is no other
  idle_then : HoldsTogether lib (state lib before) → (worker : ℕ) → IsIdle (state lib after) worker
  idle_then facts worker q runs =
      let now : Machine C K = state lib before in
      let graph = added now.graph (now.drawn + 1) 0 kind (each Known (each (machine.tree_named now) inputs)) in
      let change : Unfinished (Tree C) K → Unfinished (Tree C) K = λ unfinished. record unfinished { asked = Some (now.drawn + 2 + present inputs) } in
      let there : task_at (with_asked graph (now.drawn + 1) (now.drawn + 2 + present inputs)) q ≡ Some runs.0 = ap (λ (m : Machine C K). task_at m.graph q) (sym happens.step.after_is) ∙ runs.1 in
      let from = changed_from graph (now.drawn + 1) q change runs.0 there in
      let new = inserted_from now.graph.tasks (now.drawn + 1) q _ from.0 from.1 in
      elim new [
        | inl here ↦
            let none : from.0.runner ≡ None = ap (λ v. v.runner) here.1 in
            elim from.2 [
              | inl changed ↦ not_run runs.0 (change from.0) changed.1 none worker runs.2
              | inr same ↦ not_run runs.0 from.0 same.1 none worker runs.2
            ]
        | inr old ↦ none_unfinished lib before rest facts q from.0 old.1
      ]

  waits : HoldsTogether lib (state lib before) → IsWaiting lib after
  waits facts = record {
    alone = alone_then lib arity before after (AskEvent 0 task kind inputs) happens rest.alone (λ caller apart. test_apart 0 caller (λ same. apart (sym same))) refl;
    going = ap (λ (m : Machine C K). is_stopped m.graph 0) happens.step.after_is ∙ none_stopped lib before rest facts 0;
    idle = idle_then facts;
  }

  seen_waiting : MayMentionAll (seen_of lib before) inputs → seen_of lib after ≡ waiting_for lib (seen_of lib before) kind inputs task
  seen_waiting held =
      let now : Machine C K = state lib before in
      let step = happens.step in
      let trees = trees_so lib before inputs held in
      let goal : Tree C = lib.goal kind (each (machine.tree_named now) inputs) in
      let asks : (seen_of lib after).asks ≡ map.insert map.empty task (lib.goal kind (trees_named (seen_of lib before) inputs)) =
      ap (λ (m : Machine C K). asks_of m.asks 0) step.after_is
      ∙ chosen-insert (goal_for 0) now.asks (now.drawn + 1) (record { caller = 0; number = now.drawn + 2 + present inputs; goal = goal; delivered = None }) goal refl
      ∙ (λ i. map.insert (rest.asks i) (sym step.number i) (lib.goal kind (sym trees i))) in
      let account : (seen_of lib after).account ≡ (seen_of lib before).account + lib.work kind (trees_named (seen_of lib before) inputs) =
      happens.account 0 ∙ ap (λ ts. (seen_of lib before).account + lib.work kind ts) (sym trees) in
      λ i. record {
        caller = 0;
        names = names_of (step.after_is i).holdings 0;
        asks = asks i;
        account = account i;
        events = own_written lib arity before after (AskEvent 0 task kind inputs) happens refl i;
      }

module _ {C K : Type 0} (lib : Meanings C K) (arity : C → ℕ) (before after : Contents C K) (rest : IsAtRest lib before) (kind : K) (inputs : List Ref) where
  pub asked_waits : (result : Result ℕ Memory) → HoldsTogether lib (state lib before)
      → IfOk result (λ task. Happens lib arity before after (AskEvent 0 task kind inputs)) → IfOk result (λ task. IsWaiting lib after)
  asked_waits (Ok task) facts happens = waits lib arity before after rest kind inputs task happens facts
  asked_waits (Err e) facts happens = tt

  pub asked_seen : (result : Result ℕ Memory) → MayMentionAll (seen_of lib before) inputs
      → IfOk result (λ task. Happens lib arity before after (AskEvent 0 task kind inputs))
      → IfOk result (λ task. seen_of lib after ≡ waiting_for lib (seen_of lib before) kind inputs task)
  asked_seen (Ok task) held happens = seen_waiting lib arity before after rest kind inputs task happens held
  asked_seen (Err e) held happens = tt

module _ {C K : Type 0} (lib : Meanings C K) (first : Seen C K) (kind : K) (inputs : List Ref) (task : ℕ) (none : first.asks ≡ map.empty) where
  abbrev goal : Tree C
  goal = lib.goal kind (trees_named first inputs)

  abbrev waiting : Seen C K
  waiting = waiting_for lib first kind inputs task

  -- the caller awaits the goal
  pub awaits_goal : (mid : Seen C K) → mid ≡ waiting → AwaitsOne mid task goal
  awaits_goal mid is = ap (λ (s : Seen C K). s.asks) is

  same_output : (output : Tree C) (r : Ref) → IsOutput waiting output r → IsOutput first output r
  same_output Nothing Null is = is
  same_output Nothing (Held id) is = is
  same_output (Root content a b c d) Null is = is
  same_output (Root content a b c d) (Held id) is = is

  both_events : (event : Event K) → waiting.events ++ event ∷ [] ≡ first.events ++ AskEvent first.caller task kind inputs ∷ event ∷ []
  both_events event = append_assoc first.events (AskEvent first.caller task kind inputs ∷ []) (event ∷ [])

  same_answer : (r : Ref) → collected waiting task goal r ≡ answered lib first kind inputs task r
  same_answer Null =
      let events = both_events (Collect first.caller task Null) in
      λ i. record { caller = first.caller; names = first.names; asks = sym none i; account = waiting.account; events = events i }
  same_answer (Held id) =
      let events = both_events (Collect first.caller task (Held id)) in
      λ i. record { caller = first.caller; names = (with_name first id goal).names; asks = sym none i; account = waiting.account; events = events i }

  -- what was waited for was asked
  served_asked : (last : Seen C K) (result : Result Ref Memory) → IsServed waiting last task result → IsAsked lib first last kind inputs result
  served_asked last (Ok r) served =
      let got = served goal refl in (same_output goal r got.0, task, got.1 ∙ same_answer r)
  served_asked last (Err e) gone = record {
    caller = gone.caller;
    names = gone.names;
    asks = gone.asks;
    events = inr (task, gone.events ∙ both_events (Abandon first.caller));
  }

  pub asked_so : (mid last : Seen C K) (result : Result Ref Memory) → mid ≡ waiting → IsServed mid last task result → IsAsked lib first last kind inputs result
  asked_so mid last result is served = served_asked last result (subst (λ (s : Seen C K). IsServed s last task result) is served)

-- an ask that found no memory at once leaves all as it was
pub not_asked : {C K : Type 0} (lib : Meanings C K) (first last : Seen C K) (kind : K) (inputs : List Ref) (e : Memory) → first.asks ≡ map.empty → last ≡ first
    → IsAsked lib first last kind inputs (Err e)
not_asked {C} {K} lib first last kind inputs e none same = record {
  caller = ap (λ (s : Seen C K). s.caller) same;
  names = ap (λ (s : Seen C K). s.names) same;
  asks = ap (λ (s : Seen C K). s.asks) same ∙ none;
  events = inl (ap (λ (s : Seen C K). s.events) same);
}
