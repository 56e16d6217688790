use Rattle.std.proofs.Common.{◌≡◌, ap, ◌∙◌, sym, Some}
use Rattle.std.specs.Option.{option_copied}
use Rattle.core_state.specs.Asked.{kept_at}
use Rattle.core_state.specs.Lists.{items_of}
use Rattle.core_state.proofs.Tables.{answered_none, answered_one}
use Rattle.core_state.proofs.asked.Asks.answer.Goals as goal

pub returns-in-None-clause-asks : goal.returns-in-None-clause-asks
returns-in-None-clause-asks c = λ r made.
    let asks = c.self.inside in
    rw (← c.self.view_is) (answered_none asks.by_task.entries c.args.number r asks.by_output.entries (items_of asks.of_callers.items) c.self.invariant.listed_rightly (sym c.in-None.ensures.value))

pub returns-in-Some-clause-asks : goal.returns-in-Some-clause-asks
returns-in-Some-clause-asks c = λ r made.
    let asks = c.self.inside in
    let there : kept_at asks.by_task.entries c.in-Some.task.now ≡ Some c.unwrap-kept.result.now = sym c.get-in-Some.ensures.value ∙ ap option_copied c.unwrap-kept.ensures in
    rw (← c.self.view_is)
    (answered_one asks.by_task.entries c.args.number r c.write_ask.new.asks.entries asks.by_output.entries (items_of asks.of_callers.items) c.in-Some.task.now c.unwrap-kept.result.now c.args.output
    c.self.invariant.listed_rightly (sym c.in-Some.ensures.value) there made c.write_ask.ensures.at)
