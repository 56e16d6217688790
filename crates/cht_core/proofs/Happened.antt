-- What the control state makes of an event is an event of the machine.
use Rattle.std.proofs.Common.{◌≡◌, ℕ, List, [], ◌∷◌, ◌++◌, sym, ap, subst}
use Rattle.task_types.specs.Meanings.{Meanings}
use Rattle.task_types.specs.Sound.{AddsUp}
use Rattle.cht_history.specs.declared.event.Event.{Event}
use Rattle.name_machine.specs.Control.{Control, tidied, effect_with}
use Rattle.name_machine.specs.Machine.{IsStep, IsLegalRun}
use Rattle.name_machine.specs.Laws.{ComesOf, account_then}
use Rattle.name_machine.specs.Parts.{account_of, caller_part, worker_part}
use Rattle.name_machine.specs.Replay.{Plans}
use Rattle.name_machine.specs.Standing.{machine_of}
use Rattle.name_machine.proofs.Runs.{facts_hold}
use Rattle.name_machine.proofs.StandsStep.{stands_step}
use Rattle.name_machine.proofs.ComesOn.{events_lead_on}
use Rattle.name_machine.proofs.Accounts.{accounts_change}
use Rattle.name_machine.proofs.CallerParts.{leaves_callers}
use Rattle.name_machine.proofs.WorkerParts.{leaves_workers}
use Rattle.core_state.specs.Contents.{Contents}
use Rattle.cht_core.specs.Events.{state, Stands, Happens, IsDone}

module _ {C K : Type 0} (lib : Meanings C K) (arity : C → ℕ) (plans : Plans K) (adds_up : AddsUp arity lib) where
  pub happened : (before after : Contents C K) (contents : List C) (event : Event K) → Stands lib arity plans before → IsDone lib arity plans before after contents event
      → Happens lib arity before after event × Stands lib arity plans after
  happened before after contents event stands done =
      let next : Control C (Unit {0}) K = tidied (effect_with before.control contents event) in
      let written : after.events ≡ before.events ++ event ∷ [] = ap (λ (k : Contents C K). k.events) done.after_is in
      let run : IsLegalRun lib arity before.events (state lib before) = stands.comes.run in
      let step_so : IsStep lib arity (state lib before) event (machine_of lib next) =
      stands_step lib arity plans before.control contents event stands.comes.ordered stands.facts done.wanted done.allowed in
      let step : IsStep lib arity (state lib before) event (state lib after) =
      subst (λ (k : Contents C K). IsStep lib arity (state lib before) event (state lib k)) (sym done.after_is) step_so in
      let comes : ComesOf lib arity plans after.events after.control =
      subst (λ (k : Contents C K). ComesOf lib arity plans k.events k.control) (sym done.after_is)
      (events_lead_on lib arity plans before.events before.control contents event stands.comes done.wanted done.many done.allowed) in (
        record {
          step = step;
          written = written;
          callers = ap (λ (k : Contents C K). k.callers) done.after_is;
          workers = ap (λ (k : Contents C K). k.workers) done.after_is;
          other_callers = λ caller other. subst (λ events. caller_part lib (state lib after) events caller ≡ caller_part lib (state lib before) before.events caller) (sym written)
              (leaves_callers lib arity adds_up before.events (state lib before) (state lib after) event caller run step other);
          other_workers = λ worker other. subst (λ events. worker_part (state lib after) events worker ≡ worker_part (state lib before) before.events worker) (sym written)
              (leaves_workers lib arity before.events (state lib before) (state lib after) event worker run step other);
          account = λ caller. subst (λ events. account_of lib (state lib after) events caller ≡ account_then lib (state lib before) caller event (account_of lib (state lib before) before.events caller)) (sym written)
              (accounts_change lib arity adds_up before.events (state lib before) (state lib after) event caller run step);
        },
        record { comes = comes; facts = facts_hold lib arity after.events (state lib after) comes.run },
      )
