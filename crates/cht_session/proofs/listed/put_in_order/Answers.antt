use Rattle.std.proofs.Common.{sym, subst, rules}
use Rattle.std.proofs.lemmas.List.Sorted.{IsNonDecreasingBy-from_sort_by_key}
use Rattle.cht_session.specs.Listed.{place_of, ArePutInOrder}
use Rattle.cht_session.proofs.listed.put_in_order.Goals as goal

pub returns-in-Symmetric : goal.returns-in-Symmetric
returns-in-Symmetric c =
    let new = c.sort_unstable_by_key.new.self.items in
    subst (λ form. ArePutInOrder form c.args.spots.now.items new) (sym c.in-Symmetric.is) (
      c.sort_unstable_by_key.ensures.permutation,
      IsNonDecreasingBy-from_sort_by_key place_of new c.sort_unstable_by_key.ensures.sorted (λ a r f' q. search rules),
    )
