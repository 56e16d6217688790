use Rattle.std.proofs.Common.{None}
use Rattle.core_state.specs.Asked.{shown_ask}
use Rattle.core_state.specs.Lists.{items_of}
use Rattle.core_state.proofs.Asking.{shown_at}
use Rattle.core_state.proofs.Tables.{asks_put, listed_more, not_there}
use Rattle.core_state.proofs.asked.Asks.add.Goals as goal

pub invariant_of-self : goal.invariant_of-self
invariant_of-self c =
    let asks = c.self.inside in
    record {
      unique = c.put_ask.ensures.unique;
      listed_rightly = listed_more asks.by_task.entries c.put_ask.new.asks.entries asks.by_output.entries c.put_output.new.outputs.entries
          (items_of asks.of_callers.items) (items_of c.list_task.new.rows.items) c.self.invariant.listed_rightly
          c.args.task (record { caller = c.args.c; number = c.args.number; delivered = None })
          (not_there asks.by_task.entries c.args.task (rw (← c.self.view_is) at c.requires.new))
          (λ q k is same. (rw (← c.self.view_is) at c.requires.free) q (shown_ask k) (shown_at asks.by_task.entries q k is) same)
          c.put_ask.ensures.at c.put_output.ensures c.list_task.ensures.listed;
    }

pub returns-clause-asks : goal.returns-clause-asks
returns-clause-asks c =
    rw (← c.self.view_is)
    (asks_put c.self.inside.by_task.entries c.put_ask.new.asks.entries c.args.task (record { caller = c.args.c; number = c.args.number; delivered = None }) c.put_ask.ensures.at)
