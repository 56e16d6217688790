use Rattle.std.proofs.Common.{rules, ◌≡◌, ◌++◌, ◌∷◌, [], subst}
use Rattle.steal_deque.proofs.Groups
use Rattle.steal_deque.proofs.opening.hire_all.Goals as goal

pub loop-number-preserved : goal.loop-number-preserved
loop-number-preserved c = let pushed : c.push.new.self.items ≡ c.loop-number.thieves.items ++ c.in_ok-hire.field-0 ∷ [] = search rules in
    rw pushed (Groups.staffs_one c.args.owns.now.items c.loop-number.owns.items c.hire.new.owns.items c.args.workers c.loop-number.number c.loop-number.thieves.items c.in_ok-hire.field-0 c.loop-number.invariant
    c.in_ok-hire.ensures.owns.0 c.in_ok-hire.ensures.owns.1 c.in_ok-hire.ensures.thief.0 c.in_ok-hire.ensures.thief.1 c.in_ok-hire.ensures.thief.2)

pub returns : goal.returns
returns c = let end : c.loop-number.number ≡ c.args.workers = search rules in
    Groups.staffed c.args.owns.now.items c.loop-number.owns.items c.args.workers c.loop-number.thieves.items (subst (λ n. Groups.IsStaffed c.args.owns.now.items c.loop-number.owns.items c.args.workers n c.loop-number.thieves.items) end c.loop-number.invariant)
