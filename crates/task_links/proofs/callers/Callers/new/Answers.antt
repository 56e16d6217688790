use Rattle.task_links.proofs.Splicing.{get_replicate}
use Rattle.task_links.proofs.callers.Callers.new.Goals as goal

pub returns-clause-rows : goal.returns-clause-rows
returns-clause-rows c = λ caller low. get_replicate 64 caller _ low
