use Rattle.std.proofs.Common.{sym, subst}
use Rattle.name_states.specs.States.{IsLiveRef}
use Rattle.name_machine.proofs.FinishNamesRead.{live_at}
use Rattle.core_steps.proofs.reading.read_place.Goals as goal

pub child_at-requires-after_bounds : goal.child_at-requires-after_bounds
child_at-requires-after_bounds g c κs within =
    subst (IsLiveRef c.args.names.now.names) (sym c.nth_ref-in-Child.ensures) (live_at c.args.names.now.names c.args.inputs.now c.in-Child.i c.requires.inputs)

pub returns-in-Input-clause-live : goal.returns-in-Input-clause-live
returns-in-Input-clause-live g c =
    subst (IsLiveRef c.args.names.now.names) (sym c.nth_ref.ensures) (live_at c.args.names.now.names c.args.inputs.now c.in-Input.i c.requires.inputs)

pub returns-in-Chunk-clause-live : goal.returns-in-Chunk-clause-live
returns-in-Chunk-clause-live g c =
    subst (IsLiveRef c.args.names.now.names) (sym c.nth_ref-in-Chunk.ensures) (live_at c.args.names.now.names c.args.made.now c.in-Chunk.i c.requires.made)
