use Rattle.std.proofs.Common.{rules, ◌≡◌, ◌++◌, ◌∷◌, [], ◌-◌, ◌^◌}
use Rattle.steal_deque.proofs.Groups
use Rattle.steal_deque.proofs.Whole
use Rattle.steal_deque.proofs.settling.settle.Goals as goal

pub loop-thief-preserved : goal.loop-thief-preserved
loop-thief-preserved c = let popped : c.loop-thief.thieves.items ≡ c.pop.new.self.items ++ c.in-Some.thief ∷ [] = search rules in
    Groups.settles_one c.into_vec-owns.result.items c.loop-thief.owns.items c.give_back.new.owns.items c.into_vec-thieves.result.items c.loop-thief.thieves.items c.pop.new.self.items c.in-Some.thief c.loop-thief.invariant popped c.give_back.ensures.deques c.give_back.ensures.views

pub give_back-requires : goal.give_back-requires
give_back-requires c = let popped : c.loop-thief.thieves.items ≡ c.pop.new.self.items ++ c.in-Some.thief ∷ [] = search rules in
    Groups.reaches c.into_vec-owns.result.items c.loop-thief.owns.items c.into_vec-thieves.result.items c.loop-thief.thieves.items c.pop.new.self.items c.in-Some.thief c.loop-thief.invariant popped

pub returns-clause-whole : goal.returns-clause-whole
returns-clause-whole c = Whole.whole c.args.owns c.args.thieves c.count_left.ensures.0 c.count_left.result.numbers (2 ^ 64 - 1) c.requires (search rules) c.count_left.ensures.2
