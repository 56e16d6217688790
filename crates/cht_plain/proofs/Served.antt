-- What the caller that waits has to do with what it saw first.
use Rattle.std.proofs.Common.{◌≡◌, ℕ, ap, subst, ◌∙◌}
use Rattle.cht_ids.specs.declared.refs.Ref.{Ref}
use Rattle.task_types.specs.Tree.{Tree}
use Rattle.task_types.specs.Meanings.{Meanings}
use Rattle.task_states.specs.Awaiters.{IsRunnable}
use Rattle.cht_history.specs.declared.event.Event.TheVariants.{Collect}
use Rattle.name_machine.specs.Machine.{IsLegalRun}
use Rattle.name_machine.specs.Facts.{HoldsTogether}
use Rattle.core_state.specs.Contents.{Contents}
use Rattle.cht_core.specs.Events.{state, Happens}
use Rattle.cht_core.specs.Answers.{HasAsked, IsNotDelivered}
use Rattle.cht_core.specs.Answers.{IsAbandoned}
use Rattle.cht_core.specs.declared.answers.Abandoned.{Abandoned}
use Rattle.cht_engine.specs.Seen.{Seen}
use Rattle.cht_engine.specs.Calls.{IsOutput}
use Rattle.cht_plain.specs.Alone.{seen_of, IsAtRest, IsWaiting}
use Rattle.cht_plain.specs.Serving.{AwaitsOne, IsLeft, collected}
use Rattle.cht_plain.proofs.Collected.{collected_rests, collected_seen, abandoned_rests, abandoned_seen}
use Rattle.cht_plain.proofs.Ready.{has_asked, runnable}

module _ {C K : Type 0} (lib : Meanings C K) (arity : C → ℕ) (first now : Contents C K) (task : ℕ) (waiting : IsWaiting lib now) (seen : seen_of lib now ≡ seen_of lib first) where
  still : (goal : Tree C) → AwaitsOne (seen_of lib first) task goal → AwaitsOne (seen_of lib now) task goal
  still goal awaits = ap (λ (s : Seen C K). s.asks) seen ∙ awaits

  pub asked_still : (goal : Tree C) × AwaitsOne (seen_of lib first) task goal → HasAsked (state lib now) 0 task
  asked_still awaits = has_asked lib now task awaits.0 (still awaits.0 awaits.1)

  pub ready_still : (goal : Tree C) × AwaitsOne (seen_of lib first) task goal → HoldsTogether lib (state lib now) → IsNotDelivered (state lib now) task
      → (r : ℕ) × IsRunnable (state lib now).graph r
  ready_still awaits facts undelivered = runnable lib now task awaits.0 (still awaits.0 awaits.1) waiting facts undelivered

  module _ (after : Contents C K) where
    pub got_rests : (goal : Tree C) × AwaitsOne (seen_of lib first) task goal → IsLegalRun lib arity now.events (state lib now) → HoldsTogether lib (state lib now) → (r : Ref)
        → Happens lib arity now after (Collect 0 task r) → IsAtRest lib after
    got_rests awaits run facts r happens = collected_rests lib arity now after waiting task awaits.0 (still awaits.0 awaits.1) run facts r happens

    pub got_served : IsLegalRun lib arity now.events (state lib now) → HoldsTogether lib (state lib now) → (r : Ref) → Happens lib arity now after (Collect 0 task r)
        → (goal : Tree C) → AwaitsOne (seen_of lib first) task goal
        → IsOutput (seen_of lib first) goal r × (seen_of lib after ≡ collected (seen_of lib first) task goal r)
    got_served run facts r happens goal awaits =
        subst (λ (s : Seen C K). IsOutput s goal r × (seen_of lib after ≡ collected s task goal r)) seen
        (collected_seen lib arity now after waiting task goal (still goal awaits) run facts r happens)

    pub left_rests : (goal : Tree C) × AwaitsOne (seen_of lib first) task goal → (answer : Abandoned) → IsAbandoned lib arity now after 0 answer → IsAtRest lib after
    left_rests awaits answer is = abandoned_rests lib arity now after waiting task awaits.0 (still awaits.0 awaits.1) answer is

    pub left_served : (goal : Tree C) × AwaitsOne (seen_of lib first) task goal → (answer : Abandoned) → IsAbandoned lib arity now after 0 answer
        → IsLeft (seen_of lib first) (seen_of lib after)
    left_served awaits answer is =
        subst (λ (s : Seen C K). IsLeft s (seen_of lib after)) seen (abandoned_seen lib arity now after waiting task awaits.0 (still awaits.0 awaits.1) answer is)
