use Rattle.std.proofs.Common.{ap, arith, length, length-append}
use Rattle.core_state.proofs.Listing.{rows_more}
use Rattle.core_state.proofs.rows.empty_rows.Goals as goal

pub loop-caller-preserved : goal.loop-caller-preserved
loop-caller-preserved c =
    let items = c.in_ok-push.ensures.items in
    record {
      callers = omega (arith, simp length-append at (ap length items), c.loop-caller.invariant.callers);
      empty = λ caller task. rw items (rows_more c.loop-caller.rows.items c.new.result c.loop-caller.invariant.empty c.new.ensures.empty caller task);
    }
