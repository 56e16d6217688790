use Rattle.std.proofs.Common.{refl}
use Rattle.steal_deque.proofs.Groups
use Rattle.steal_deque.proofs.thief.Thief.steal.Goals as goal

pub returns-clause-same : goal.returns-clause-same
returns-clause-same g c = let ends = Groups.same_ends c.args.self.now.victims.items c.args.victim c.index_mut.result.now c.steal.new.self c.requires c.index_mut.ensures.value c.steal.ensures.same in (refl, ends.0, ends.1)

pub returns-clause-told : goal.returns-clause-told
returns-clause-told g c = Groups.told c.args.self.now.victims.items c.args.victim c.index_mut.result.now c.steal.new.self c.steal.result c.requires c.index_mut.ensures.value c.steal.ensures.told
