use Rattle.std.proofs.Common.{refl}
use Rattle.task_graph.proofs.Opening.{none-held, none-graph}
use Rattle.task_graph.proofs.held.Held.new.Goals as goal

pub returns-clause-held : goal.returns-clause-held
returns-clause-held g c =
    none-held (record { parts = record { entries = record { tasks = c.new.result }; callers = c.new-2.result }; ready = c.new-3.result; spare = 0 }) c.new.ensures.empty c.new-2.ensures.rows c.new-2.ensures.len c.new-3.ensures.queue c.new-3.ensures.empty c.new.ensures.len refl

pub returns-clause-graph : goal.returns-clause-graph
returns-clause-graph g c = none-graph (record { entries = record { tasks = c.new.result }; callers = c.new-2.result }) c.new.ensures.empty c.new-2.ensures.rows c.new-2.ensures.len
