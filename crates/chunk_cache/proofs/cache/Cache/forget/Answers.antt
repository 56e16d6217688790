use Rattle.std.proofs.Common.{arith}
use Rattle.chunk_cache.proofs.Pairs.{without_shorter}
use Rattle.chunk_cache.proofs.cache.Cache.forget.Goals as goal

pub invariant_of-self : goal.invariant_of-self
invariant_of-self g c =
    let shorter = without_shorter c.args.body c.self.inside.entries.entries in
    rw c.pop.ensures.entries (c.self.invariant.0, omega (arith, shorter, c.self.invariant.1))
