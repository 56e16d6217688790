use Rattle.std.proofs.Common.{sym, ap, ◌∙◌}
use Rattle.name_states.specs.Reached.{swept}
use Rattle.name_machine.specs.Control.{without_ids}
use Rattle.core_state.specs.Ended.{is_number_of, ref_delivered}
use Rattle.core_state.proofs.Ended.{null_goes}
use Rattle.core_state.proofs.abandoning.end_output.Goals as goal

pub returns-in-None-clause-names : goal.returns-in-None-clause-names
returns-in-None-clause-names g c =
    null_goes g.C.Payload.arity c.args.names.now.names c.rules.ensures.sound c.rules.ensures.reached
    ∙ ap (λ o. swept (without_ids c.args.names.now.names (is_number_of (ref_delivered o)))) (sym c.in-None.is)
