use Rattle.std.proofs.Common.{rules, arith, length, ap, ap₂, ◌∙◌, min, max, FitsSigned, length-append}
use Rattle.std.specs.Int.{w128}
use Rattle.std.proofs.lemmas.Int.{to_z-of_z}
use Rattle.dense_def.proofs.Entries.{length-tabulate}
use Rattle.dense_def.proofs.RowByRow.{tabulate_push}
use Rattle.leaf_blocks.specs.Block.{number_at}
use Rattle.leaf_blocks.specs.Symmetric.{triangle_index, mirrored_place}
use Rattle.leaf_blocks.proofs.Triangles.{index_within}
use Rattle.quad_symm.proofs.kernels.push_mirrored_row.Goals as goal

pub push_reserved-requires : goal.push_reserved-requires
push_reserved-requires c =
    omega (arith, c.loop-j.out.ok.0, c.args.out.now.ok.0, simp (length-append, length-tabulate) at (ap length c.loop-j.invariant.1))

pub loop-j-preserved : goal.loop-j-preserved
loop-j-preserved c =
    let fits : FitsSigned w128 (number_at c.args.numbers.now c.triangle_index.result) = search rules in
    let index = c.triangle_index.ensures ∙ ap₂ (triangle_index c.args.side) c.min.ensures c.max.ensures in (
      c.push_reserved.ensures.capacity ∙ c.loop-j.invariant.0,
      tabulate_push c.args.out.now.items _ _ c.loop-j.j (λ j. mirrored_place c.args.side c.args.numbers.now c.args.row j) _ c.loop-j.invariant.1 c.push_reserved.ensures.items
          (to_z-of_z w128 _ fits ∙ ap (number_at c.args.numbers.now) index),
    )

pub bounds-numbers-triangle_index : goal.bounds-numbers-triangle_index
bounds-numbers-triangle_index c =
    let index = c.triangle_index.ensures ∙ ap₂ (triangle_index c.args.side) c.min.ensures c.max.ensures in
    rw (index, c.requires.full) (index_within c.args.side (min c.args.row c.loop-j.j) (max c.args.row c.loop-j.j) (omega arith) (omega arith))
