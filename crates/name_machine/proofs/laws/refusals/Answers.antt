use Rattle.name_machine.proofs.Refusing.{refuses_strange, dead_is_strange, others_are_strange, uncollected_is_strange, refuses_out_of_turn, refuses_not_ready, refuses_second_start, refuses_unplanned}
use Rattle.name_machine.proofs.laws.refusals.Goals as goal

pub returns : goal.returns
returns g c = record {
  strange = refuses_strange;
  dead = dead_is_strange;
  others = others_are_strange;
  uncollected = uncollected_is_strange;
  out_of_turn = refuses_out_of_turn;
  not_ready = refuses_not_ready;
  second_start = refuses_second_start;
  unplanned = refuses_unplanned;
}
