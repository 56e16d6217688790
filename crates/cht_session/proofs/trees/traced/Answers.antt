use Rattle.std.proofs.Common.{[], ◌∷◌, subst, sym}
use Rattle.quad_matrix.specs.Goals.{kind_of, goal_of}
use Rattle.cht_engine.specs.Seen.{MayMention, tree_named}
use Rattle.cht_session.specs.Given.{Traces}
use Rattle.cht_session.proofs.Asked.{asked_answered, given_mentioned, traced_done}
use Rattle.cht_session.proofs.trees.traced.Goals as goal

pub number_at-number-requires : goal.number_at-number-requires
number_at-number-requires g c =
    let seen = g.E.Engine.seen in
    let before = seen c.args.engine.now in
    let is = asked_answered before (seen c.ask.new.self) (kind_of c.tracing.result c.args.height) (c.args.at ∷ []) c.in_ok-trace.trace c.in_ok-trace.ensures in
    given_mentioned before (seen c.ask.new.self) (goal_of (kind_of c.tracing.result c.args.height) (tree_named before c.args.at ∷ [])) c.in_ok-trace.trace is.names

pub delete-requires : goal.delete-requires
delete-requires g c =
    let seen = g.E.Engine.seen in
    let before = seen c.args.engine.now in
    let is = asked_answered before (seen c.ask.new.self) (kind_of c.tracing.result c.args.height) (c.args.at ∷ []) c.in_ok-trace.trace c.in_ok-trace.ensures in
    subst (λ s. MayMention s c.in_ok-trace.trace) (sym c.number_at-number.ensures.unchanged)
    (given_mentioned before (seen c.ask.new.self) (goal_of (kind_of c.tracing.result c.args.height) (tree_named before c.args.at ∷ [])) c.in_ok-trace.trace is.names)

pub returns : goal.returns
returns g c =
    let seen = g.E.Engine.seen in
    let before = seen c.args.engine.now in
    let kind = kind_of c.tracing.result c.args.height in
    let is = asked_answered before (seen c.ask.new.self) kind (c.args.at ∷ []) c.in_ok-trace.trace c.in_ok-trace.ensures in
    let done = traced_done before (seen c.ask.new.self) (seen c.delete.new.self) kind c.args.at c.in_ok-trace.trace c.number_at-number.result
    c.requires.idle is c.number_at-number.ensures.number (rw c.number_at-number.ensures.unchanged at c.delete.ensures) in
    subst (λ what. Traces before (seen c.delete.new.self) (kind_of what c.args.height) c.args.at c.number_at-number.result) c.tracing.ensures done
