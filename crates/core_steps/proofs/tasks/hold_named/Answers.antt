use Rattle.std.proofs.Common.{arith}
use Rattle.name_states.specs.declared.holder.Holder.TheVariants.{Task as ByTask}
use Rattle.name_states.proofs.Within.{unnamed-next}
use Rattle.core_steps.proofs.Holding.{copy_kept}
use Rattle.core_steps.proofs.tasks.hold_named.Goals as goal

pub returns-clause-kept : goal.returns-clause-kept
returns-clause-kept g c =
    copy_kept c.args.names.now.names c.copy_for.new.names.names c.read_place-r.result c.next-number.result (ByTask c.args.task) c.read_place-r.ensures.live
    (unnamed-next c.args.names.now.names c.args.counter.now c.next-number.result c.requires.within (omega arith)) tt c.copy_for.ensures.names
