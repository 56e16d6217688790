use Rattle.std.proofs.Common.{sym, ◌∙◌}
use Rattle.chunk_store.proofs.SlabMap.{len-held}
use Rattle.chunk_store.proofs.Store.len.Goals as goal

pub returns : goal.returns
returns g c = rw (← c.self.view_is) (c.len.ensures ∙ sym (len-held c.self.inside.slab))
