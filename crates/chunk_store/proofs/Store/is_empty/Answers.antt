use Rattle.std.proofs.Common.{◌==◌, sym, ap, ◌∙◌}
use Rattle.chunk_store.proofs.SlabMap.{len-held}
use Rattle.chunk_store.proofs.Store.is_empty.Goals as goal

pub returns : goal.returns
returns g c = rw (← c.self.view_is) (c.is_empty.ensures ∙ ap (λ n. n == 0) (sym (len-held c.self.inside.slab)))
