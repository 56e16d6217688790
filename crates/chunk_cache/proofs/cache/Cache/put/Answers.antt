use Rattle.std.proofs.Common.{◌≡◌, ℕ, ◌∷◌, nat_eq, List, take, ap, ◌∙◌, arith, length-take}
use Rattle.std.specs.Map.{remove_entry}
use Rattle.chunk_cache.specs.Held.{Held}
use Rattle.chunk_cache.proofs.Pairs.{put_is}
use Rattle.chunk_cache.proofs.cache.Cache.put.Goals as goal

pub invariant_of-self-2 : goal.invariant_of-self-2
invariant_of-self-2 g c =
    let pairs = c.self.inside.entries.entries in
    let room = c.self.inside.entries.cap in
    let cap : room ≡ c.self.inside.capacity = omega (arith, c.self.invariant.0) in
    let put = put_is c.args.body c.args.content pairs room (omega (arith, cap)) (omega (arith, cap, c.self.invariant.1)) in
    let few = length-take room ((c.args.body, c.args.content) ∷ remove_entry (nat_eq c.args.body) pairs) in
    rw (c.in_ok-put.ensures.entries, put) (c.self.invariant.0, omega (arith, few, cap))

pub returns-clause-ok : goal.returns-clause-ok
returns-clause-ok g c =
    let pairs = c.self.inside.entries.entries in
    let room = c.self.inside.entries.cap in
    let cap : room ≡ c.self.inside.capacity = omega (arith, c.self.invariant.0) in
    let put = put_is c.args.body c.args.content pairs room (omega (arith, cap)) (omega (arith, cap, c.self.invariant.1)) in
    let make : List (ℕ × g.row.C.Denot) → Held g.row.C.Denot = λ es. record { pairs = es; capacity = c.self.inside.capacity } in
    let kept : ℕ → List (ℕ × g.row.C.Denot) = λ n. take n ((c.args.body, c.args.content) ∷ remove_entry (nat_eq c.args.body) pairs) in
    rw (← c.self.view_is, c.in_ok-put.ensures.entries) (ap make (put ∙ ap kept cap))
