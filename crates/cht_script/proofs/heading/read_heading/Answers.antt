use Rattle.std.proofs.Common.{◌+◌, arith}
use Rattle.cht_script.proofs.Headings.{heading_decided}
use Rattle.cht_script.proofs.heading.read_heading.Goals as goal

pub returns-then-not-is_skipped : goal.returns-then-not-is_skipped
returns-then-not-is_skipped c =
    heading_decided c.args.text.now c.loop-line.rest.now c.in-Some.line.now c.in-Some.behind.now (c.loop-line.number + 1) c.heading_at.result
    c.loop-line.invariant.same c.in-Some.ensures.line (omega (arith, c.in-Some.ensures.shorter, c.loop-line.invariant.room)) c.heading_at.ensures
