-- What a row tells of its task.
use Rattle.std.specs.Prelude.{take, map as each}
use Rattle.cht_ids.specs.declared.refs.Ref.{Ref}
use Rattle.task_states.specs.States.{Unfinished}
use Rattle.task_links.specs.Inside.{shown_place}
use Rattle.task_links.specs.Kept.{opened_place}
use Rattle.task_graph.specs.declared.rows.TaskRow.{TaskRow}

-- the task of a row
abbrev pub unfinished_in : {K : Type 0} → TaskRow K → Unfinished Ref K
unfinished_in row = record {
  caller = row.caller;
  kind = row.kind;
  inputs = each shown_place (take row.count (each opened_place row.places));
  runner = row.runner;
  asked = row.asked;
}
