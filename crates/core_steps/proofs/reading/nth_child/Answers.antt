use Rattle.std.proofs.Common.{sym}
use Rattle.name_states.specs.States.{children_of}
use Rattle.core_steps.proofs.Places.{ref_none, ref_some}
use Rattle.core_steps.proofs.reading.nth_child.Goals as goal

pub returns-in-None-clause-value : goal.returns-in-None-clause-value
returns-in-None-clause-value g c = ref_none (children_of c.args.names.now.names c.args.id) c.args.j (sym c.in-None.ensures.value)

pub returns-in-Some-clause-value : goal.returns-in-Some-clause-value
returns-in-Some-clause-value g c = ref_some (children_of c.args.names.now.names c.args.id) c.args.j c.in-Some.child (sym c.in-Some.ensures.value)
