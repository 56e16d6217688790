use Rattle.std.proofs.Common.{refl, ap, ◌≡◌, ◌∙◌, ◌*◌, length, arith}
use Rattle.tree_entries.specs.Strips.{lists_below, row_listed}
use Rattle.tree_entries.proofs.CellLists.{list_pushed}
use Rattle.tree_entries.proofs.entries.list_all.Goals as goal

pub loop-row-preserved : goal.loop-row-preserved
loop-row-preserved c = record {
  same = refl;
  cells =
      list_pushed c.loop-row.row (row_listed c.args.strips.now.side c.args.strips.now.strips.items) c.loop-row.cells.items c.push_row.new.cells.items
      c.loop-row.invariant.cells c.in_ok-push_row.ensures;
}

pub returns : goal.returns
returns c =
    let strips = c.args.strips.now in
    let all : c.loop-row.row ≡ length strips.strips.items * strips.side = omega (arith, c.rows-row-end.ensures) in
    c.from_vec.ensures ∙ c.loop-row.invariant.cells ∙ ap (λ n. lists_below n (row_listed strips.side strips.strips.items)) all
