-- What is left after the caller collected, or gave up.
use Rattle.std.proofs.Common.{◌≡◌, ℕ, Bool, true, false, cond, not, nat_eq, nat_cmp, [], ◌∷◌, ◌++◌, Option, None, Some, inl, inr, refl, sym, ap, subst, ◌∙◌, arith}
use Rattle.std.specs.Option.{option_and_then, is_some}
use Rattle.std.specs.List.{list_any}
use Rattle.std.specs.FinMap as map
use Rattle.cht_ids.specs.declared.refs.Ref.{Ref}
use Rattle.cht_ids.specs.declared.refs.Ref.TheVariants.{Null, Id as Held}
use Rattle.task_types.specs.Tree.{Tree, Nothing, Root}
use Rattle.task_types.specs.Meanings.{Meanings}
use Rattle.task_states.specs.Maps.{kept}
use Rattle.task_states.specs.declared.states.TaskStatus.TheVariants.{Waiting, Ready, Running}
use Rattle.task_states.specs.States.{Unfinished, task_at, status_of, is_awaiting, is_running, running, is_run_for}
use Rattle.task_states.proofs.Maps.{get-chosen, get-kept, same_maps}
use Rattle.task_types.proofs.FormedTest.{both_right}
use Rattle.name_states.proofs.Basics.{none_not_some, none_or_some, same_some, test_apart}
use Rattle.cht_history.specs.declared.event.Event.TheVariants.{Collect, Abandon}
use Rattle.name_machine.specs.States.{Machine, Ask, is_of, has_ask}
use Rattle.name_machine.specs.Steps.{collected}
use Rattle.name_machine.specs.Machine.{IsLegalRun, IsAnswer, owner_of}
use Rattle.name_machine.specs.Facts.{HoldsTogether}
use Rattle.name_machine.specs.Parts.{named_for, goal_for, names_of, asks_of}
use Rattle.name_machine.proofs.Tasks.{passed_from}
use Rattle.name_machine.proofs.Empty.{no_len}
use Rattle.name_machine.proofs.Values.{any_from}
use Rattle.name_machine.proofs.Works.{chosen_from, let_through, lets_through}
use Rattle.core_state.specs.Contents.{Contents}
use Rattle.cht_core.specs.Events.{state, Happens}
use Rattle.cht_core.specs.Answers.{IsAbandoned}
use Rattle.cht_core.specs.declared.answers.Abandoned.{Abandoned}
use Rattle.cht_core.specs.declared.answers.Abandoned.TheVariants.{Gone, StillRunning}
use Rattle.cht_engine.specs.Calls.{IsOutput, with_output}
use Rattle.cht_plain.specs.Alone.{seen_of, IsAtRest, IsWaiting}
use Rattle.cht_plain.specs.Serving as serving
use Rattle.cht_plain.specs.Serving.{AwaitsOne, IsLeft, IsServed}
use Rattle.cht_plain.proofs.Chosen.{chosen-insert, chosen-remove, one_less}
use Rattle.cht_plain.proofs.Kept.{alone_then, own_written}
use Rattle.cht_plain.proofs.Own.{apart_in}
use Rattle.cht_plain.proofs.Ready.{ask_awaited}

module _ {C K : Type 0} (lib : Meanings C K) (arity : C → ℕ) (before after : Contents C K) (waiting : IsWaiting lib before) (task : ℕ) where
  -- an output comes to the caller under the number of its ask
  record Came (output : Tree C) (r : Ref) (ask : Ask (Tree C) (Tree C)) : Type 0 where
    output_is : IsOutput (seen_of lib before) output r
    names : names_of (collected (state lib before) task (owner_of r) ask output).holdings 0 ≡ (with_output (seen_of lib before) r output).names
    asks : (collected (state lib before) task (owner_of r) ask output).asks ≡ map.remove (state lib before).asks task

  came : (output : Tree C) (r : Ref) (ask : Ask (Tree C) (Tree C)) → ask.caller ≡ 0 → IsAnswer ask.number output r
      → map.get (seen_of lib before).names ask.number ≡ None → Came output r ask
  came Nothing Null ask own answer new = record { output_is = tt; names = refl; asks = refl }
  came Nothing (Held id) ask own answer new = absurd answer
  came (Root content a b c d) Null ask own answer new = absurd answer
  came (Root content a b c d) (Held id) ask own answer new = record {
    output_is = ap (map.get (seen_of lib before).names) answer ∙ new;
    names = chosen-insert (named_for 0) (state lib before).holdings ask.number (record { caller = ask.caller; owner = id.owner; tree = Root content a b c d })
        (record { owner = id.owner; tree = Root content a b c d }) (lets_through ask.caller 0 (record { owner = id.owner; tree = Root content a b c d }) own)
        ∙ (λ i. map.insert (seen_of lib before).names (sym answer i) (record { owner = id.owner; tree = Root content a b c d }));
    asks = refl;
  }

  -- the number of an ask is no identifier's
  number_free : IsLegalRun lib arity before.events (state lib before) → (ask : Ask (Tree C) (Tree C)) → map.get (state lib before).asks task ≡ Some ask
      → map.get (seen_of lib before).names ask.number ≡ None
  number_free run ask is =
      elim (none_or_some (map.get (state lib before).holdings ask.number)) [
        | inl none ↦ get-chosen (named_for 0) (state lib before).holdings ask.number ∙ ap (option_and_then (named_for 0 ask.number)) none
        | inr some ↦ absurd ((apart_in lib arity before run).apart ask.number task some.0 ask some.1 is refl)
      ]

  no_more : (goal : Tree C) → AwaitsOne (seen_of lib before) task goal → asks_of (map.remove (state lib before).asks task) 0 ≡ map.empty
  no_more goal awaits = chosen-remove (goal_for 0) (state lib before).asks task ∙ ap (λ m. map.remove m task) awaits ∙ one_less task goal

  module _ (goal : Tree C) (awaits : AwaitsOne (seen_of lib before) task goal) (run : IsLegalRun lib arity before.events (state lib before)) (facts : HoldsTogether lib (state lib before))
      (r : Ref) (happens : Happens lib arity before after (Collect 0 task r)) where
    its : Came happens.step.output r happens.step.ask
    its = came happens.step.output r happens.step.ask happens.step.own happens.step.answer (number_free run happens.step.ask happens.step.there)

    goal_came : happens.step.output ≡ goal
    goal_came =
        let step = happens.step in
        let a = ask_awaited lib before task goal awaits in
        let same : ◌≡◌ {A = Ask (Tree C) (Tree C)} step.ask a.0 = same_some step.ask a.0 (sym step.there ∙ a.1) in
        elim (facts.served task step.ask step.there) [
          | inl delivered ↦ same_some step.output step.ask.goal (sym step.delivered ∙ delivered) ∙ ap (λ v. v.goal) same ∙ a.3
          | inr open_ask ↦ absurd (none_not_some open_ask.0 step.delivered)
        ]

    collected_asks : (seen_of lib after).asks ≡ map.empty
    collected_asks = ap (λ (m : Machine C K). asks_of m.asks 0) happens.step.after_is ∙ ap (λ m. asks_of m 0) its.asks ∙ no_more goal awaits

    pub collected_rests : IsAtRest lib after
    collected_rests = record {
      alone = alone_then lib arity before after (Collect 0 task r) happens waiting.alone (λ caller apart. test_apart 0 caller (λ same. apart (sym same))) refl;
      asks = collected_asks;
    }

    pub collected_seen : IsOutput (seen_of lib before) goal r × (seen_of lib after ≡ serving.collected (seen_of lib before) task goal r)
    collected_seen =
        let names : (seen_of lib after).names ≡ (with_output (seen_of lib before) r goal).names =
        ap (λ (m : Machine C K). names_of m.holdings 0) happens.step.after_is ∙ its.names ∙ ap (λ (t : Tree C). (with_output (seen_of lib before) r t).names) goal_came in (
          subst (λ (t : Tree C). IsOutput (seen_of lib before) t r) goal_came its.output_is,
          with_it r names (own_written lib arity before after (Collect 0 task r) happens refl),
        )
      where
        with_it : (s : Ref) → (seen_of lib after).names ≡ (with_output (seen_of lib before) s goal).names → (seen_of lib after).events ≡ (seen_of lib before).events ++ Collect 0 task s ∷ []
            → seen_of lib after ≡ serving.collected (seen_of lib before) task goal s
        with_it Null names events = λ i. record { caller = 0; names = names i; asks = collected_asks i; account = happens.account 0 i; events = events i }
        with_it (Held id) names events = λ i. record { caller = 0; names = names i; asks = collected_asks i; account = happens.account 0 i; events = events i }

-- a task that is Running is run by a worker
is_run_runner : {X K : Type 0} (t : Unfinished X K) → is_running (status_of t) ≡ true → (w : ℕ) × (t.runner ≡ Some w)
is_run_runner t run =
    elim (none_or_some t.runner) [
      | inl none ↦
          absurd (elim (list_any is_awaiting t.inputs) as (λ b. is_running (cond b Waiting (cond (is_some t.runner) Running Ready)) ≡ true → ⊥) [
            | true ↦ λ e. let clash : false ≡ true = e in cc
            | false ↦ λ e. let clash : false ≡ true = sym (ap (λ (o : Option ℕ). is_running (cond (is_some o) Running Ready)) none) ∙ e in cc
          ] run)
      | inr some ↦ some
    ]

-- what an abandon leaves of the caller's asks
not_kept : (b : Bool) → b ≡ true → not b ≡ true → ⊥
not_kept b is stays = let clash : false ≡ true = sym (ap not is) ∙ stays in cc

module _ {C K : Type 0} (lib : Meanings C K) (arity : C → ℕ) (before after : Contents C K) (waiting : IsWaiting lib before) where
  -- nobody runs a task of the caller
  none_running : running (state lib before).graph 0 ≡ 0
  none_running =
      no_len (kept (is_run_for 0) (state lib before).graph.tasks) (λ q t is.
      let passed = passed_from (is_run_for 0) (task_at (state lib before).graph q) t (sym (get-kept (is_run_for 0) (state lib before).graph.tasks q) ∙ is) in
      let run = is_run_runner t (both_right (nat_eq t.caller 0) (is_running (status_of t)) passed.1) in
      waiting.idle run.0 q (t, passed.0, run.1))

  no_ask_left : (asks : map.FinMap nat_cmp (Ask (Tree C) (Tree C))) → asks_of (kept (λ ask. not (is_of 0 ask)) asks) 0 ≡ map.empty
  no_ask_left asks =
      same_maps _ _ (λ q. elim (none_or_some (map.get (asks_of (kept (λ ask. not (is_of 0 ask)) asks) 0) q)) [
        | inl none ↦ none ∙ sym (map.get-empty nat_cmp q)
        | inr some ↦
            absurd (let from = chosen_from (goal_for 0) (kept (λ ask. not (is_of 0 ask)) asks) q some.0 some.1 in
            let passed = passed_from (λ (ask : Ask (Tree C) (Tree C)). not (is_of 0 ask)) (map.get asks q) from.0 (sym (get-kept (λ (ask : Ask (Tree C) (Tree C)). not (is_of 0 ask)) asks q) ∙ from.1) in
            let own = (let_through from.0.caller 0 from.0.goal some.0 from.2).0 in
            not_kept (nat_eq from.0.caller 0) (ap (λ k. nat_eq k 0) own) passed.1)
      ])

  abandoned_asks : Happens lib arity before after (Abandon 0) → (seen_of lib after).asks ≡ map.empty
  abandoned_asks happens = ap (λ (m : Machine C K). asks_of m.asks 0) happens.step.after_is ∙ no_ask_left (state lib before).asks

  gave_up_rests : Happens lib arity before after (Abandon 0) → IsAtRest lib after
  gave_up_rests happens = record {
    alone = alone_then lib arity before after (Abandon 0) happens waiting.alone (λ caller apart. test_apart 0 caller (λ same. apart (sym same))) refl;
    asks = abandoned_asks happens;
  }

  gave_up_seen : Happens lib arity before after (Abandon 0) → IsLeft (seen_of lib before) (seen_of lib after)
  gave_up_seen happens = record {
    caller = refl;
    names = ap (λ (m : Machine C K). names_of m.holdings 0) happens.step.after_is;
    asks = abandoned_asks happens;
    events = own_written lib arity before after (Abandon 0) happens refl;
  }

  module _ (task : ℕ) (goal : Tree C) (awaits : AwaitsOne (seen_of lib before) task goal) where
    asks_one : has_ask (state lib before).asks 0 ≡ true
    asks_one = let a = ask_awaited lib before task goal awaits in any_from (is_of 0) (state lib before).asks task a.0 a.1 (ap (λ k. nat_eq k 0) a.2)

    happened : (answer : Abandoned) → IsAbandoned lib arity before after 0 answer → Happens lib arity before after (Abandon 0)
    happened Gone gone = gone.gives_up asks_one
    happened (StillRunning n) runs = absurd (let some = runs.1 in let count = runs.0 in let none = none_running in omega arith)

    pub abandoned_rests : (answer : Abandoned) → IsAbandoned lib arity before after 0 answer → IsAtRest lib after
    abandoned_rests answer is = gave_up_rests (happened answer is)

    pub abandoned_seen : (answer : Abandoned) → IsAbandoned lib arity before after 0 answer → IsLeft (seen_of lib before) (seen_of lib after)
    abandoned_seen answer is = gave_up_seen (happened answer is)
