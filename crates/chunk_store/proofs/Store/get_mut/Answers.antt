use Rattle.std.proofs.Common.{◌≡◌, true, false, refl, sym, ◌∙◌}
use Rattle.chunk_store.proofs.SlabMap.{contents-present, contents-absent}
use Rattle.chunk_store.proofs.Store.get_mut.Goals as goal

pub value_mut-requires : goal.value_mut-requires
value_mut-requires g c =
    contents-present c.self.inside.slab c.args.self.now c.args.key c.self.view_is (c.contains.ensures.0 c.if-contains.true)

pub returns-else-contains : goal.returns-else-contains
returns-else-contains g c = (
  refl,
  record {
    writes_back = tt;
    value =
        sym (contents-absent c.self.inside.slab c.args.self.now c.args.key c.self.view_is (λ present.
        let clash : false ≡ true = sym c.if-contains.false ∙ c.contains.ensures.1 present in cc));
  },
)
