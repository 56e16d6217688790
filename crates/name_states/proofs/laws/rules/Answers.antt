use Rattle.name_states.proofs.Sound.{sound-none, sound-registered, registered-within, sound-without}
use Rattle.name_states.proofs.SweptOnce.{copy-keeps, sound-swept, all-reached-swept}
use Rattle.name_states.proofs.laws.rules.Goals as goal

pub returns : goal.returns
returns g c = record {
  none = sound-none;
  registering = λ arity names drawn holder worker content refs sound within outside live all. (
    sound-registered arity names drawn holder worker content refs sound within outside live all,
    registered-within names drawn holder worker content refs within,
  );
  copying = copy-keeps;
  ending = sound-without;
  sweeping = λ arity names sound. (sound-swept arity names sound, all-reached-swept arity names sound);
}
