use Rattle.std.proofs.Common.{rules, arith, ◌≡◌, ◌++◌, ◌∷◌, [], length, sym, ◌∙◌, ap, ℕ, get_or}
use Rattle.steal_deque.specs.Ends.{own_deque}
use Rattle.steal_deque.proofs.Groups
use Rattle.steal_deque.proofs.settling.give_back.Goals as goal

pub index_mut-requires : goal.index_mut-requires
index_mut-requires c = let popped : c.loop-victim.victims.items ≡ c.pop.new.self.items ++ c.in-Some.victim ∷ [] = search rules in
    let place : c.len.result ≡ length c.pop.new.self.items = search rules in
    let inside = Groups.place_reached c.loop-victim.owns.items c.loop-victim.victims.items c.pop.new.self.items c.in-Some.victim c.loop-victim.invariant.reaches popped in omega (arith, inside, place)

pub take_back-requires : goal.take_back-requires
take_back-requires c = let popped : c.loop-victim.victims.items ≡ c.pop.new.self.items ++ c.in-Some.victim ∷ [] = search rules in
    let place : c.len.result ≡ length c.pop.new.self.items = search rules in
    (Groups.reached c.loop-victim.owns.items c.loop-victim.victims.items c.pop.new.self.items c.in-Some.victim c.index_mut.result.now c.loop-victim.invariant.reaches popped).1
    ∙ ap own_deque (sym (c.index_mut.ensures.value ∙ ap (λ (k : ℕ). get_or c.loop-victim.owns.items k c.index_mut.result.now) place))

pub loop-victim-preserved : goal.loop-victim-preserved
loop-victim-preserved c = let popped : c.loop-victim.victims.items ≡ c.pop.new.self.items ++ c.in-Some.victim ∷ [] = search rules in
    let place : c.len.result ≡ length c.pop.new.self.items = search rules in
    Groups.one_returned c.args.owns.now.items c.loop-victim.owns.items c.args.thief.victims.items c.loop-victim.victims.items c.pop.new.self.items c.in-Some.victim c.len.result c.index_mut.result.now c.take_back.new.self
    c.loop-victim.invariant popped place c.index_mut.ensures.value c.take_back.ensures.same c.take_back.ensures.joined

pub returns-clause-views : goal.returns-clause-views
returns-clause-views c = Groups.all_returned c.args.owns.now.items c.loop-victim.owns.items c.args.thief.victims.items c.loop-victim.victims.items c.loop-victim.invariant (search rules)
