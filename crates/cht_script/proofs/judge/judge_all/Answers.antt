use Rattle.std.proofs.Common.{rules}
use Rattle.cht_script.proofs.Judged.{judged_start, judged_more, judged_stopped, all_judged, begun_judged, none_begun}
use Rattle.cht_script.proofs.judge.judge_all.Goals as goal

pub loop-statement-init : goal.loop-statement-init
loop-statement-init c =
    rw c.new-shapes.ensures (judged_start c.args.statements.now c.new-known.result c.new-known.ensures c.requires)

pub loop-statement-preserved : goal.loop-statement-preserved
loop-statement-preserved c =
    judged_more c.args.statements.now c.loop-statement.left.now c.in-Some.behind.now c.in-Some.statement.now c.loop-statement.shapes c.push.new.self c.in-Ok.judged
    c.loop-statement.known c.judge_next.new.known c.loop-statement.invariant c.in-Some.ensures.cases.0 c.in-Ok.ensures (search rules)

pub returns-in-Err : goal.returns-in-Err
returns-in-Err c =
    judged_stopped c.args.statements.now c.loop-statement.left.now c.in-Some.behind.now c.in-Some.statement.now c.loop-statement.shapes
    c.loop-statement.known c.judge_next.new.known c.args.begun c.in-Err.refused c.loop-statement.invariant c.in-Some.ensures.cases.0 c.in-Err.ensures

pub returns-in_default-begun : goal.returns-in_default-begun
returns-in_default-begun c =
    rw c.in_default-begun.is
    (none_begun c.args.statements.now c.loop-statement.shapes c.loop-statement.known
    (all_judged c.args.statements.now c.loop-statement.shapes c.loop-statement.known c.loop-statement.left.now c.loop-statement.invariant c.in_default.ensures.cases))

pub returns-then-is_some : goal.returns-then-is_some
returns-then-is_some c =
    let judged = begun_judged c.args.statements.now c.loop-statement.shapes c.loop-statement.known c.loop-statement.left.now c.in-Some-begun.begun c.find.result c.is_some.result c.as_bytes.result.now
    c.loop-statement.invariant c.in_default.ensures.cases c.is_some.ensures c.find.ensures c.as_bytes.ensures in
    rw c.in-Some-begun.is (judged.refused c.if-is_some.true)

pub returns : goal.returns
returns c =
    let judged = begun_judged c.args.statements.now c.loop-statement.shapes c.loop-statement.known c.loop-statement.left.now c.in-Some-begun.begun c.find.result c.is_some.result c.as_bytes.result.now
    c.loop-statement.invariant c.in_default.ensures.cases c.is_some.ensures c.find.ensures c.as_bytes.ensures in
    rw c.in-Some-begun.is (judged.free c.if-is_some.false)
