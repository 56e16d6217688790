use Rattle.std.proofs.Common.{ap, arith, length, length-append}
use Rattle.chunk_refs.proofs.Reserving.{empty-push}
use Rattle.chunk_refs.proofs.parts.Parts.stores.Goals as goal

pub loop-worker-preserved : goal.loop-worker-preserved
loop-worker-preserved g c =
    let items = c.in_ok-push.ensures.items in
    record {
      workers = omega (arith, simp length-append at (ap length items), c.loop-worker.invariant.workers);
      empty = λ owner key. rw items (empty-push c.loop-worker.stores.items c.new.result c.loop-worker.invariant.empty c.new.ensures.empty owner key);
    }
