use Rattle.std.proofs.Common.{ap, arith, length, length-append}
use Rattle.core_state.proofs.Fresh.{idle_more}
use Rattle.core_state.proofs.state.idle_workers.Goals as goal

pub loop-worker-preserved : goal.loop-worker-preserved
loop-worker-preserved c =
    let items = c.in_ok-push.ensures.items in
    record {
      workers = omega (arith, simp length-append at (ap length items), c.loop-worker.invariant.workers);
      idle = rw items (idle_more c.loop-worker.running.items c.loop-worker.invariant.idle);
    }
