use Rattle.std.proofs.Common.{sym, ◌∙◌}
use Rattle.core_state.specs.Lists.{items_of}
use Rattle.core_state.proofs.Asking.{no_output, output_is}
use Rattle.core_state.proofs.asked.Asks.is_output.Goals as goal

pub returns-in-None : goal.returns-in-None
returns-in-None c =
    let asks = c.self.inside in
    rw (← c.self.view_is) (sym (no_output asks.by_task.entries asks.by_output.entries (items_of asks.of_callers.items) c.self.invariant.listed_rightly c.args.c c.args.number (sym c.in-None.ensures.value)))

pub returns-in-Some-get : goal.returns-in-Some-get
returns-in-Some-get c =
    let asks = c.self.inside in
    rw (← c.self.view_is)
    (c.is_delivered_to.ensures
    ∙ sym (output_is asks.by_task.entries asks.by_output.entries (items_of asks.of_callers.items) c.self.invariant.listed_rightly c.args.c c.args.number c.in-Some.task.now c.in-Some-get.kept.now (sym c.in-Some.ensures.value) (sym c.in-Some-get.ensures.value)))
