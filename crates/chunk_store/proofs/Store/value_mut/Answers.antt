use Rattle.std.proofs.Common.{refl, ◌∙◌}
use Rattle.chunk_store.proofs.SlabMap.{get-held, present-contents, contents-written}
use Rattle.chunk_store.proofs.Store.value_mut.Goals as goal

pub index_mut-requires : goal.index_mut-requires
index_mut-requires g c = present-contents c.self.inside.slab c.args.self.now c.args.key c.self.view_is c.requires

pub returns : goal.returns
returns g c =
    let present = present-contents c.self.inside.slab c.args.self.now c.args.key c.self.view_is c.requires in (
      (refl, λ w. rw (← c.self.view_is) (contents-written c.self.inside.slab c.args.key w present)),
      record { writes_back = tt; value = rw (← c.self.view_is) (get-held c.self.inside.slab c.args.key ∙ c.index_mut.ensures.value) },
    )
