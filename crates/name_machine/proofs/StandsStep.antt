-- Each event of a control state is the machine's step.
use Rattle.std.proofs.Common.{◌≡◌, ℕ, true, List, [], ◌∷◌, length, sym, subst}
use Rattle.cht_ids.specs.declared.refs.Id.{Id}
use Rattle.cht_ids.specs.declared.refs.Ref.{Ref}
use Rattle.task_types.specs.Meanings.{Meanings}
use Rattle.cht_history.specs.declared.event.Event.TheVariants.{Register, Copy, Delete, Ask as AskEvent, Collect, Abandon, Stop, Start, GiveBack, Finish}
use Rattle.name_machine.specs.Facts.{HoldsTogether}
use Rattle.name_machine.specs.Machine.{Registers}
use Rattle.name_machine.specs.Control.{Control, tidied, after_register}
use Rattle.name_machine.specs.Replay.{Plans, is_allowed}
use Rattle.name_machine.specs.Forgetting.{forgotten}
use Rattle.name_machine.specs.Standing.{machine_of, IsOrderly}
use Rattle.name_machine.specs.Laws.{StandsStep}
use Rattle.name_machine.proofs.Stand.{stands_still}
use Rattle.name_machine.proofs.Grow.{register_stands, copy_stands}
use Rattle.name_machine.proofs.AskStands.{ask_stands}
use Rattle.name_machine.proofs.FewerStand.{delete_stands, abandon_stands}
use Rattle.name_machine.proofs.CollectStands.{collect_stands}
use Rattle.name_machine.proofs.FinishStands.{finish_stands}

module _ {C K : Type 0} (lib : Meanings C K) (arity : C → ℕ) (plans : Plans K) where
  register_some : (control : Control C (Unit {0}) K) (contents : List C) (caller : ℕ) (id : Id) (children : List Ref) → IsOrderly arity control → HoldsTogether lib (machine_of lib control)
      → (content : C) → contents ≡ content ∷ [] → length children ≡ arity content → is_allowed plans (forgotten arity control) (Register caller id children) ≡ true
      → Registers lib arity (machine_of lib control) (machine_of lib (tidied (after_register control caller contents children))) caller id children
  register_some control contents caller id children orderly facts content is many allowed =
      subst (λ all. Registers lib arity (machine_of lib control) (machine_of lib (tidied (after_register control caller all children))) caller id children) (sym is)
      (register_stands lib arity control orderly plans caller id children content many facts allowed)

  pub stands_step : StandsStep lib arity plans
  stands_step control contents (Register caller id children) orderly facts these allowed = register_some control contents caller id children orderly facts these.0 these.1 these.2 allowed
  stands_step control contents (Copy caller from to) orderly facts these allowed = copy_stands lib arity control orderly plans caller from to facts allowed
  stands_step control contents (Delete caller id) orderly facts these allowed = delete_stands lib arity control orderly facts caller id allowed
  stands_step control contents (AskEvent caller task kind inputs) orderly facts these allowed =
      ask_stands lib arity control plans caller task kind inputs orderly facts these allowed
  stands_step control contents (Collect caller task got) orderly facts these allowed = collect_stands lib arity control orderly facts plans caller task got allowed
  stands_step control contents (Abandon caller) orderly facts these allowed = abandon_stands lib arity control orderly facts plans caller allowed
  stands_step control contents (Stop caller) orderly facts these allowed = stands_still lib arity plans control contents (Stop caller) orderly.sound orderly.reached tt allowed
  stands_step control contents (Start worker task) orderly facts these allowed = stands_still lib arity plans control contents (Start worker task) orderly.sound orderly.reached tt allowed
  stands_step control contents (GiveBack worker task) orderly facts these allowed = stands_still lib arity plans control contents (GiveBack worker task) orderly.sound orderly.reached tt allowed
  stands_step control contents (Finish worker task chunks tasks result) orderly facts these allowed =
      finish_stands lib arity plans control contents worker task chunks tasks result orderly facts these allowed
