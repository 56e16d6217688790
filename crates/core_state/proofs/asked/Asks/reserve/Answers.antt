use Rattle.std.proofs.Common.{ap}
use Rattle.core_state.specs.Lists.{items_of, is_listed}
use Rattle.core_state.proofs.Listing.{length_rooms}
use Rattle.core_state.proofs.Tables.{asks_same, listed_same}
use Rattle.core_state.proofs.asked.Asks.reserve.Goals as goal

pub reserve_all-requires : goal.reserve_all-requires
reserve_all-requires c = rw (length_rooms c.self.inside.of_callers.items) at (rw (← c.self.view_is) at c.requires)

pub invariant_of-self : goal.invariant_of-self
invariant_of-self c =
    let asks = c.self.inside in
    record {
      unique = c.reserve_all.ensures.unique;
      listed_rightly = listed_same asks.by_task.entries c.reserve_all.new.asks.entries asks.by_output.entries c.reserve_all.new.outputs.entries
          (items_of asks.of_callers.items) (items_of c.reserve_all.new.rows.items) c.self.invariant.listed_rightly
          c.reserve_all.ensures.asks c.reserve_all.ensures.outputs (λ caller q. ap (λ lists. is_listed lists caller q) c.reserve_all.ensures.items);
    }

pub returns-clause-asks : goal.returns-clause-asks
returns-clause-asks c = rw (← c.self.view_is) (asks_same c.self.inside.by_task.entries c.reserve_all.new.asks.entries c.reserve_all.ensures.asks)
