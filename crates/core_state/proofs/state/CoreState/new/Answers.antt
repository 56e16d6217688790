use Rattle.core_state.proofs.Fresh.{fresh_kept}
use Rattle.core_state.proofs.state.CoreState.new.Goals as goal

pub invariant_of-result : goal.invariant_of-result
invariant_of-result g c =
    fresh_kept c.new-3.result c.in_ok-names.names c.in_ok-asks.asks c.new-4.result.graph c.new-5.result c.args.callers c.args.workers c.in_ok-running.running.items
    c.new-3.ensures c.in_ok-names.ensures.names c.in_ok-asks.ensures.asks c.new-4.ensures c.requires.callers c.requires.workers c.requires.some
    c.in_ok-names.ensures.workers c.in_ok-asks.ensures.callers c.in_ok-running.ensures.len c.in_ok-running.ensures.idle
