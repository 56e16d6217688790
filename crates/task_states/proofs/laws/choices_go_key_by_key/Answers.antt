use Rattle.task_states.proofs.Maps.{get-chosen}
use Rattle.task_states.proofs.laws.choices_go_key_by_key.Goals as goal

pub returns : goal.returns
returns c = λ choice values key. get-chosen choice values key
