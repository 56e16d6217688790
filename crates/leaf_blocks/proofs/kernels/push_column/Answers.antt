use Rattle.std.proofs.Common.{rules, arith, length, ap, ◌∙◌, FitsSigned, length-append}
use Rattle.std.specs.Int.{w128}
use Rattle.std.proofs.lemmas.Int.{to_z-of_z}
use Rattle.dense_def.proofs.Entries.{length-tabulate}
use Rattle.dense_def.proofs.RowByRow.{tabulate_push}
use Rattle.leaf_blocks.specs.Block.{place}
use Rattle.leaf_blocks.proofs.kernels.push_column.Goals as goal

pub push_reserved-requires : goal.push_reserved-requires
push_reserved-requires c =
    omega (arith, c.loop-i.out.ok.0, c.args.out.now.ok.0, simp (length-append, length-tabulate) at (ap length c.loop-i.invariant.1))

pub loop-i-preserved : goal.loop-i-preserved
loop-i-preserved c =
    let fits : FitsSigned w128 (place c.args.side c.args.numbers.now c.loop-i.i c.args.column) = search rules in (
      c.push_reserved.ensures.capacity ∙ c.loop-i.invariant.0,
      tabulate_push c.args.out.now.items _ _ c.loop-i.i (λ i. place c.args.side c.args.numbers.now i c.args.column) _ c.loop-i.invariant.1 c.push_reserved.ensures.items (to_z-of_z w128 _ fits),
    )
