use Rattle.std.proofs.Common.{rules, ◌≡◌, ◌++◌, ◌∷◌, []}
use Rattle.steal_deque.proofs.Groups
use Rattle.steal_deque.proofs.settling.count_left.Goals as goal

pub loop-own-init : goal.loop-own-init
loop-own-init c = Groups.counts c.args.owns.items

pub loop-own-preserved : goal.loop-own-preserved
loop-own-preserved c = let popped : c.loop-own.owns.items ≡ c.pop.new.self.items ++ c.in-Some.own ∷ [] = search rules in
    Groups.counts_one c.args.owns.items c.loop-own.owns.items c.pop.new.self.items c.in-Some.own c.loop-own.numbers c.left.result c.saturating_add-numbers.result c.left.ensures.0 c.loop-own.invariant popped c.left.ensures.1 c.left.ensures.2 c.saturating_add-numbers.ensures
