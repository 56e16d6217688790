use Rattle.std.proofs.Common.{◌+◌, ap, sym, subst, ◌∙◌, arith}
use Rattle.name_states.specs.declared.holder.Holder.TheVariants.{Task as ByTask}
use Rattle.name_states.specs.States.{IsLiveRef}
use Rattle.name_states.specs.Steps.{drawn_by, numbered_ref, linked_ref}
use Rattle.core_state.proofs.FourInputs.{ref_none, ref_some}
use Rattle.core_state.proofs.inputs.hold_input_at.Goals as goal

pub hold_input-requires-clause-live : goal.hold_input-requires-clause-live
hold_input-requires-clause-live g c κs inside =
    subst (IsLiveRef c.args.names.now.names) (sym (ref_some c.args.inputs.now c.args.place c.in-Some.input.now (sym c.in-Some.ensures))) c.requires.live

pub returns-in-None-clause-result : goal.returns-in-None-clause-result
returns-in-None-clause-result g c = ap (numbered_ref c.args.counter.now) (ref_none c.args.inputs.now c.args.place (sym c.in-None.ensures))

pub returns-in-None-clause-names : goal.returns-in-None-clause-names
returns-in-None-clause-names g c = ap (linked_ref c.args.names.now.names c.args.counter.now (ByTask c.args.task)) (ref_none c.args.inputs.now c.args.place (sym c.in-None.ensures))

pub returns-in-None-clause-drawn : goal.returns-in-None-clause-drawn
returns-in-None-clause-drawn g c = let none = ap drawn_by (ref_none c.args.inputs.now c.args.place (sym c.in-None.ensures)) in omega arith

pub returns-in-Some-clause-result : goal.returns-in-Some-clause-result
returns-in-Some-clause-result g c = c.hold_input.ensures.result ∙ ap (numbered_ref c.args.counter.now) (ref_some c.args.inputs.now c.args.place c.in-Some.input.now (sym c.in-Some.ensures))

pub returns-in-Some-clause-names : goal.returns-in-Some-clause-names
returns-in-Some-clause-names g c = c.hold_input.ensures.names ∙ ap (linked_ref c.args.names.now.names c.args.counter.now (ByTask c.args.task)) (ref_some c.args.inputs.now c.args.place c.in-Some.input.now (sym c.in-Some.ensures))

pub returns-in-Some-clause-drawn : goal.returns-in-Some-clause-drawn
returns-in-Some-clause-drawn g c = c.hold_input.ensures.drawn ∙ ap (λ r. c.args.counter.now + drawn_by r) (ref_some c.args.inputs.now c.args.place c.in-Some.input.now (sym c.in-Some.ensures))
