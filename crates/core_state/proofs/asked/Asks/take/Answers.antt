use Rattle.std.proofs.Common.{sym, subst, ◌<◌}
use Rattle.core_state.specs.Lists.{items_of}
use Rattle.core_state.proofs.Asking.{delivered_is}
use Rattle.core_state.proofs.Listing.{listed_within, length_items}
use Rattle.core_state.proofs.Tables.{asks_less, listed_less, is_there}
use Rattle.core_state.proofs.asked.Asks.take.Goals as goal

pub take_ask-kept-requires : goal.take_ask-kept-requires
take_ask-kept-requires c = is_there c.self.inside.by_task.entries c.args.task (rw (← c.self.view_is) at c.requires)

pub unlist_task-requires : goal.unlist_task-requires
unlist_task-requires c =
    let asks = c.self.inside in
    subst (λ n. c.take_ask-kept.result.caller < n) (length_items asks.of_callers.items)
    (listed_within (items_of asks.of_callers.items) c.take_ask-kept.result.caller c.args.task
    (c.self.invariant.listed_rightly.listed c.args.task c.take_ask-kept.result c.take_ask-kept.ensures.kept))

pub invariant_of-self : goal.invariant_of-self
invariant_of-self c =
    let asks = c.self.inside in
    record {
      unique = c.take_ask-kept.ensures.unique;
      listed_rightly = listed_less asks.by_task.entries c.take_ask-kept.new.asks.entries asks.by_output.entries c.take_output.new.outputs.entries
          (items_of asks.of_callers.items) (items_of c.unlist_task.new.rows.items) c.self.invariant.listed_rightly
          c.args.task c.take_ask-kept.result c.take_ask-kept.ensures.kept c.take_ask-kept.ensures.at c.take_output.ensures c.unlist_task.ensures.listed;
    }

pub returns-clause-asks : goal.returns-clause-asks
returns-clause-asks c = rw (← c.self.view_is) (asks_less c.self.inside.by_task.entries c.take_ask-kept.new.asks.entries c.args.task c.take_ask-kept.ensures.at)

pub returns-clause-delivered : goal.returns-clause-delivered
returns-clause-delivered c = rw (← c.self.view_is) (delivered_is c.self.inside.by_task.entries c.args.task c.take_ask-kept.result (sym c.take_ask-kept.ensures.kept))
