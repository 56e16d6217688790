use Rattle.task_states.proofs.Deliveries.{delivers_one_by_one, delivers_to_none, delivers_to_one}
use Rattle.task_states.proofs.laws.deliveries_go_one_by_one.Goals as goal

pub returns : goal.returns
returns g c = record {
  step = delivers_one_by_one;
  end = delivers_to_none;
  left = delivers_to_one;
}
