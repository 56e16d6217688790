use Rattle.std.proofs.Common.{ap, sym, ◌∙◌, nat_eq}
use Rattle.core_state.proofs.Asking.{len-asks_of}
use Rattle.core_state.proofs.asked.Asks.is_empty.Goals as goal

pub returns : goal.returns
returns c = rw (← c.self.view_is) (ap (λ n. nat_eq n 0) (c.len.ensures.len ∙ sym (len-asks_of c.self.inside.by_task.entries c.self.invariant.unique)))
