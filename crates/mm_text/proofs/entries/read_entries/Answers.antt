use Rattle.std.proofs.Common.{sym, ◌∙◌, arith}
use Rattle.mm_text.specs.Steps.{sizes_told}
use Rattle.mm_text.proofs.Cursors.{Passes-then}
use Rattle.mm_text.proofs.Gathering.{gathered_more, gathered_stop, last_line-push}
use Rattle.mm_text.proofs.entries.read_entries.Goals as goal

pub returns-in-Err-clause-entries : goal.returns-in-Err-clause-entries
returns-in-Err-clause-entries c =
    gathered_stop c.args.form (sizes_told c.args.sizes) c.args.sizes.entries c.loop.counter c.loop.at.passed _ c.loop.listed.items c.loop.at.rest.now _ (omega arith)
    c.loop.invariant.so_far c.in-Err.ensures.stop

pub loop-preserved : goal.loop-preserved
loop-preserved c = record {
  passes = Passes-then _ _ _ _ _ _ c.loop.invariant.passes c.in-Ok.ensures.passes;
  so_far = rw c.in_ok-push-in-Ok.ensures.items
      (gathered_more c.args.form (sizes_told c.args.sizes) c.args.sizes.entries c.loop.counter c.loop.at.passed c.in-Ok.behind.passed _ c.loop.listed.items c.loop.at.rest.now c.in-Ok.behind.rest.now c.in-Ok.one (omega arith)
      c.loop.invariant.so_far c.in-Ok.ensures.next);
  last = sym (rw c.in_ok-push-in-Ok.ensures.items (last_line-push c.args.from.passed c.loop.listed.items c.in-Ok.one) ∙ c.in-Ok.ensures.line);
}
