use Rattle.core_state.specs.Lists.{items_of}
use Rattle.core_state.proofs.Fresh.{nothing_asked, nothing_listed}
use Rattle.core_state.proofs.asked.Asks.new.Goals as goal

pub returns-clause-asks : goal.returns-clause-asks
returns-clause-asks c = nothing_asked c.new.result.entries c.new.ensures.empty

pub invariant_of-result : goal.invariant_of-result
invariant_of-result c = record {
  unique = c.new.ensures.unique;
  listed_rightly = nothing_listed c.new.result.entries c.new-2.result.entries (items_of c.in_ok-of_callers.of_callers.items) c.new.ensures.empty c.new-2.ensures.empty c.in_ok-of_callers.ensures.empty;
}
