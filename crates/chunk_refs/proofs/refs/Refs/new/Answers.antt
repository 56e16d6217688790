use Rattle.std.proofs.Common.{sym, subst}
use Rattle.name_states.specs.Rules.{IsSound}
use Rattle.name_states.proofs.Sound.{sound-none}
use Rattle.chunk_refs.proofs.Calls.{none-within}
use Rattle.chunk_refs.proofs.refs.Refs.new.Goals as goal

pub invariant_of-result : goal.invariant_of-result
invariant_of-result g c =
    let e = c.in_ok-new.ensures in
    (e.chain, subst (λ names. IsSound g.C.Payload.arity names) (sym e.names) (sound-none g.C.Payload.arity))

pub returns-clause-numbered : goal.returns-clause-numbered
returns-clause-numbered g c = none-within _ c.in_ok-new.ensures.names
