use Rattle.std.proofs.Common.{rules, ◌≡◌, ◌++◌, ◌∷◌, [], ◌<◌, length, ap}
use Rattle.steal_deque.proofs.Groups
use Rattle.steal_deque.proofs.opening.hire.Goals as goal

pub hire-requires : goal.hire-requires
hire-requires c = let inside : c.loop-worker.worker < length c.loop-worker.owns.items = search rules in
    ap (λ v. v.joined) (Groups.next_known c.args.owns.now.items c.loop-worker.owns.items c.loop-worker.victims.items c.args.number c.loop-worker.worker c.index_mut.result.now c.loop-worker.invariant inside c.index_mut.ensures.value)

pub loop-worker-preserved : goal.loop-worker-preserved
loop-worker-preserved c = let inside : c.loop-worker.worker < length c.loop-worker.owns.items = search rules in
    let pushed : c.push.new.self.items ≡ c.loop-worker.victims.items ++ c.in_ok-hire.field-0 ∷ [] = search rules in
    rw pushed (Groups.hires_one c.args.owns.now.items c.loop-worker.owns.items c.loop-worker.victims.items c.args.number c.loop-worker.worker c.index_mut.result.now c.hire.new.self c.in_ok-hire.field-0 c.loop-worker.invariant inside c.index_mut.ensures.value
    c.hire.ensures.same c.in_ok-hire.ensures.hired.0 c.in_ok-hire.ensures.hired.1 c.in_ok-hire.ensures.hired.2)
