use Rattle.std.proofs.Common.{nat_eq}
use Rattle.std.proofs.lemmas.List.Sorted.{IsNonDecreasingBy-from_sort, Contains-permutation, IsPermutation-sym}
use Rattle.std.proofs.lemmas.Map.Keys.{IsDistinct-IsPermutation, IsStrictlyIncreasing-from_distinct}
use Rattle.core_state.proofs.Resolving.{test_flips}
use Rattle.core_state.proofs.finish.sort_ready.Goals as goal

pub returns-clause-rise : goal.returns-clause-rise
returns-clause-rise c =
    IsStrictlyIncreasing-from_distinct c.sort_unstable.new.self.items
    (IsNonDecreasingBy-from_sort (λ x. x) c.sort_unstable.new.self.items c.sort_unstable.ensures.sorted)
    (IsDistinct-IsPermutation nat_eq test_flips c.args.ready.now.items c.sort_unstable.new.self.items c.sort_unstable.ensures.permutation c.requires)

pub returns-clause-same : goal.returns-clause-same
returns-clause-same c = λ q. (
  (λ among. Contains-permutation c.sort_unstable.new.self.items c.args.ready.now.items q (IsPermutation-sym _ _ c.sort_unstable.ensures.permutation) among),
  (λ among. Contains-permutation c.args.ready.now.items c.sort_unstable.new.self.items q c.sort_unstable.ensures.permutation among),
)
