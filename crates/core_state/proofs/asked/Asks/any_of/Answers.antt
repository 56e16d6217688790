use Rattle.core_state.specs.Lists.{items_of}
use Rattle.core_state.proofs.Asking.{any_asked, any_is}
use Rattle.core_state.proofs.Listing.{length_rooms}
use Rattle.core_state.proofs.asked.Asks.any_of.Goals as goal

pub returns-clause-task : goal.returns-clause-task
returns-clause-task c =
    let asks = c.self.inside in
    rw (← c.self.view_is) (any_asked asks.by_task.entries asks.by_output.entries (items_of asks.of_callers.items) c.self.invariant.listed_rightly c.args.c c.last_task.result c.last_task.ensures.some)

pub returns-clause-some : goal.returns-clause-some
returns-clause-some c =
    let asks = c.self.inside in
    rw (← c.self.view_is)
    (any_is asks.by_task.entries asks.by_output.entries (items_of asks.of_callers.items) c.self.invariant.listed_rightly c.args.c c.last_task.result c.last_task.ensures.some c.last_task.ensures.none)

pub last_task-requires : goal.last_task-requires
last_task-requires c =
    rw (length_rooms c.self.inside.of_callers.items) at (rw (← c.self.view_is) at c.requires)
