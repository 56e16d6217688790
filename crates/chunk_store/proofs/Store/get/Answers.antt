use Rattle.std.proofs.Common.{sym, ◌∙◌}
use Rattle.chunk_store.proofs.SlabMap.{get-held}
use Rattle.chunk_store.proofs.Store.get.Goals as goal

pub returns : goal.returns
returns g c = rw (← c.self.view_is) (c.get.ensures ∙ sym (get-held c.self.inside.slab c.args.key))
