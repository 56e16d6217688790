use Rattle.task_states.proofs.Listings.{lists_awaiters, lists_none, takes_one_out}
use Rattle.task_states.proofs.laws.awaiters_are_listed.Goals as goal

pub returns : goal.returns
returns g c = record {
  members = lists_awaiters;
  none = lists_none;
  delivered = takes_one_out;
}
