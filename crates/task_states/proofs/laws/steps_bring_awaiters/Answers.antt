use Rattle.std.proofs.Common.{None, Some, refl}
use Rattle.task_states.proofs.Awaited.{awaits_added, awaits_asked, awaits_kept, awaits_removed}
use Rattle.task_states.proofs.laws.steps_bring_awaiters.Goals as goal

pub returns : goal.returns
returns g c = record {
  adding = awaits_added;
  asking = awaits_asked;
  starting = λ graph task worker of awaiter. awaits_kept graph task (λ u. record u { runner = Some worker }) (λ u. (refl, refl, refl)) of awaiter;
  giving_back = λ graph task of awaiter. awaits_kept graph task (λ u. record u { runner = None }) (λ u. (refl, refl, refl)) of awaiter;
  removing = awaits_removed;
}
