use Rattle.std.proofs.Common.{◌+◌, Some, sym, ap, ◌∙◌}
use Rattle.chunk_store.proofs.SlabMap.{get-held, len-held, held-updated, get-held-updated}
use Rattle.chunk_store.proofs.Store.insert_reserved.Goals as goal

pub returns-clause-free : goal.returns-clause-free
returns-clause-free g c =
    rw (← c.self.view_is) (get-held c.self.inside.slab c.insert_reserved.result ∙ c.insert_reserved.ensures.was_vacant)

pub returns-clause-inserted : goal.returns-clause-inserted
returns-clause-inserted g c =
    rw (← c.self.view_is) (held-updated c.self.inside.slab _ _ c.args.value c.insert_reserved.ensures.updates)

pub returns-clause-values : goal.returns-clause-values
returns-clause-values g c = λ key.
    rw (← c.self.view_is) (get-held-updated c.self.inside.slab c.insert_reserved.new.self c.insert_reserved.result (Some c.args.value) c.insert_reserved.ensures.updates key)

pub returns-clause-count : goal.returns-clause-count
returns-clause-count g c =
    rw (← c.self.view_is) (
    len-held c.insert_reserved.new.self
    ∙ c.insert_reserved.ensures.len
    ∙ ap (λ n. n + 1) (sym (len-held c.self.inside.slab)))
