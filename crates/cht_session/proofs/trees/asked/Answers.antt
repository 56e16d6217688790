use Rattle.std.proofs.Common.{◌∙◌, sym, subst}
use Rattle.cht_session.specs.Given.{Answers}
use Rattle.cht_session.proofs.Asked.{asked_answers}
use Rattle.cht_session.proofs.Effects.{pair_inputs}
use Rattle.cht_session.proofs.trees.asked.Goals as goal

pub returns-else-is_single : goal.returns-else-is_single
returns-else-is_single g c =
    let before = g.E.Engine.seen c.args.engine.now in
    let after = g.E.Engine.seen c.ask-else-is_single.new.self in
    subst (λ refs. Answers before after c.args.kind refs c.ask-else-is_single.result) (sym (pair_inputs c.args.operation c.args.first c.args.second (sym c.is_single.ensures ∙ c.if-is_single.false)))
    (asked_answers before after c.args.kind _ c.ask-else-is_single.result c.ask-else-is_single.ensures)
