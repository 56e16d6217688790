use Rattle.std.proofs.Common.{sym, ap, ◌∙◌}
use Rattle.name_states.specs.Reached.{swept}
use Rattle.name_machine.specs.Control.{without_ids}
use Rattle.core_state.specs.Ended.{is_number_of}
use Rattle.core_state.proofs.Ended.{null_goes, one_goes}
use Rattle.core_state.proofs.abandoning.end_ref.Goals as goal

pub returns-in-Null-clause-names : goal.returns-in-Null-clause-names
returns-in-Null-clause-names g c =
    null_goes g.C.Payload.arity c.args.names.now.names c.rules.ensures.sound c.rules.ensures.reached
    ∙ ap (λ r. swept (without_ids c.args.names.now.names (is_number_of r))) (sym c.in-Null.is)

pub returns-in-Id-clause-names : goal.returns-in-Id-clause-names
returns-in-Id-clause-names g c =
    c.delete.ensures.names ∙ one_goes c.args.names.now.names c.in-Id.id
    ∙ ap (λ r. swept (without_ids c.args.names.now.names (is_number_of r))) (sym c.in-Id.is)
