use Rattle.std.proofs.Common.{ℕ, List, length, ap, ◌∙◌, refl, arith}
use Rattle.chunk_cache.specs.Held.{Held}
use Rattle.chunk_cache.proofs.Pairs.{front_is, front_length}
use Rattle.chunk_cache.proofs.cache.Cache.find.Goals as goal

pub invariant_of-self : goal.invariant_of-self
invariant_of-self g c =
    let long : List (ℕ × g.row.C.Denot) → ℕ = length in
    let pairs = c.self.inside.entries.entries in
    let same = ap long (front_is c.args.body pairs) ∙ front_length c.args.body pairs in
    rw c.get.follows.holds-at-none (c.self.invariant.0, omega (arith, same, c.self.invariant.1))

pub returns : goal.returns
returns g c =
    let pairs = c.self.inside.entries.entries in
    let make : List (ℕ × g.row.C.Denot) → Held g.row.C.Denot = λ es. record { pairs = es; capacity = c.self.inside.capacity } in
    rw (← c.self.view_is, c.get.follows.holds-at-none)
    ((refl, λ _. tt, ap make (front_is c.args.body pairs)), record { brought = tt; value = c.get.ensures.value })
