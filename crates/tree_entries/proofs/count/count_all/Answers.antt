use Rattle.std.proofs.Common.{refl, ◌+◌, ◌*◌, ◌^◌, ◌<◌, length, arith}
use Rattle.tree_entries.specs.Strips.{row_listed}
use Rattle.tree_entries.proofs.CellLists.{pushed_alone}
use Rattle.tree_entries.proofs.Printing.{counted_more, counted_small}
use Rattle.tree_entries.proofs.count.count_all.Goals as goal

pub overflow_add-count : goal.overflow_add-count
overflow_add-count c =
    let strips = c.args.strips.now in
    let f = row_listed strips.side strips.strips.items in
    let row =
    pushed_alone c.as_slice.result.now c.push_row.new.cells.items c.clear.new.self.items (f c.loop-row.row) c.as_slice.ensures.value c.in_ok-push_row.ensures
    c.clear.ensures.items in
    let lt : c.loop-row.row < length strips.strips.items * strips.side = omega (arith, c.rows-row-end.ensures) in
    let small = counted_small c.loop-row.row (length strips.strips.items * strips.side) f c.loop-row.count (2 ^ 64) c.as_slice.result.now c.loop-row.invariant.count row lt c.requires.few in
    record { fits = omega (arith, small) }

pub loop-row-preserved : goal.loop-row-preserved
loop-row-preserved c =
    let strips = c.args.strips.now in
    let f = row_listed strips.side strips.strips.items in
    let row =
    pushed_alone c.as_slice.result.now c.push_row.new.cells.items c.clear.new.self.items (f c.loop-row.row) c.as_slice.ensures.value c.in_ok-push_row.ensures
    c.clear.ensures.items in
    record {
      same = refl;
      count =
          counted_more c.loop-row.row f c.loop-row.count (c.loop-row.count + length c.as_slice.result.now) c.as_slice.result.now c.loop-row.invariant.count row
          refl;
    }
