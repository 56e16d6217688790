use Rattle.std.proofs.Common.{None, sym, ◌∙◌}
use Rattle.chunk_store.proofs.SlabMap.{get-held, len-held, held-emptied, get-held-updated}
use Rattle.chunk_store.proofs.Store.remove.Goals as goal

pub returns-clause-value : goal.returns-clause-value
returns-clause-value g c =
    rw (← c.self.view_is) (c.try_remove.ensures.value ∙ sym (get-held c.self.inside.slab c.args.key))

pub returns-clause-removed : goal.returns-clause-removed
returns-clause-removed g c =
    rw (← c.self.view_is) (held-emptied c.self.inside.slab _ c.args.key c.try_remove.ensures.updates)

pub returns-clause-values : goal.returns-clause-values
returns-clause-values g c = λ other.
    rw (← c.self.view_is) (get-held-updated c.self.inside.slab c.try_remove.new.self c.args.key None c.try_remove.ensures.updates other)

pub returns-clause-count : goal.returns-clause-count
returns-clause-count g c =
    rw (← c.self.view_is, len-held c.try_remove.new.self, len-held c.self.inside.slab) c.try_remove.ensures.len
