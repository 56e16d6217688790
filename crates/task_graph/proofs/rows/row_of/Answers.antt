use Rattle.std.proofs.Common.{take}
use Rattle.std.specs.Prelude.{map as each}
use Rattle.task_links.specs.Kept.{opened}
use Rattle.task_links.specs.Inside.{shown_place}
use Rattle.task_graph.proofs.rows.row_of.Goals as goal

pub returns-clause-row : goal.returns-clause-row
returns-clause-row g c = λ i. record {
  caller = c.args.kept.now.caller;
  kind = c.args.kept.now.kind;
  inputs = each shown_place (take c.args.kept.now.count (opened c.args.kept.now).places);
  runner = c.args.kept.now.runner;
  asked = c.asked.ensures i;
}
