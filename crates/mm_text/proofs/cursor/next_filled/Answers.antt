use Rattle.std.proofs.Common.{refl, sym, ap, ◌∙◌, arith}
use Rattle.mm_text.specs.Block.{fault_at}
use Rattle.mm_text.proofs.Cursors.{Passes-none, Passes-then, Passes-count, from_line-passed, from_line-here, end_line}
use Rattle.mm_text.proofs.cursor.next_filled.Goals as goal

pub loop-line-init : goal.loop-line-init
loop-line-init c = record { passes = Passes-none _ _; same = refl }

pub cut_line-requires : goal.cut_line-requires
cut_line-requires c = omega (arith, Passes-count _ _ _ _ c.loop-line.invariant.passes)

pub returns-then-not-is_passed-clause-line : goal.returns-then-not-is_passed-clause-line
returns-then-not-is_passed-clause-line c =
    c.loop-line.invariant.same ∙ from_line-here c.args.comments _ _ _ _ c.in-Some.ensures.line (sym c.if-not-is_passed.ensures)

pub returns-then-not-is_passed-clause-passes : goal.returns-then-not-is_passed-clause-passes
returns-then-not-is_passed-clause-passes c = Passes-then _ _ _ _ _ _ c.loop-line.invariant.passes c.in-Some.ensures.passes

pub loop-line-smaller : goal.loop-line-smaller
loop-line-smaller c = omega (arith, c.in-Some.ensures.shorter)

pub loop-line-preserved : goal.loop-line-preserved
loop-line-preserved c = record {
  passes = Passes-then _ _ _ _ _ _ c.loop-line.invariant.passes c.in-Some.ensures.passes;
  same = c.loop-line.invariant.same ∙ from_line-passed c.args.comments _ _ _ _ c.in-Some.ensures.line (sym c.if-not-is_passed.ensures);
}

pub returns-clause-end : goal.returns-clause-end
returns-clause-end c = ap (λ n. fault_at n 13) (end_line _ _ _ _ c.loop-line.invariant.passes c.in_default.ensures.none)
