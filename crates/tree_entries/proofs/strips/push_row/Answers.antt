use Rattle.std.proofs.Common.{ap, sym, subst, ◌∙◌, ◌+◌, ◌++◌}
use Rattle.std.specs.Prelude.{All, ◌/◌, ◌%◌, length}
use Rattle.std.proofs.lemmas.Result.{on_ok_weaker}
use Rattle.tree_entries.specs.Strips.{strip_cells, Fits}
use Rattle.tree_entries.proofs.Gathered.{strip_is}
use Rattle.tree_entries.proofs.Listed.{strip_there}
use Rattle.tree_entries.proofs.strips.push_row.Goals as goal

pub push_lines-requires-clause-fit : goal.push_lines-requires-clause-fit
push_lines-requires-clause-fit c =
    let strips = c.args.strips.now in
    let there = strip_there c.args.row (length strips.strips.items) strips.side c.requires.row in
    subst (All (Fits strips.side)) (sym (c.pieces.ensures ∙ strip_is strips.strips.items (c.args.row / strips.side) c.index-strip.result.now there c.index-strip.ensures))
    (c.requires.readable.fit (c.args.row / strips.side))

pub returns : goal.returns
returns c =
    let strips = c.args.strips.now in
    let there = strip_there c.args.row (length strips.strips.items) strips.side c.requires.row in
    on_ok_weaker c.push_lines.result
    (λ e. e ∙ ap (λ pieces. c.args.cells.now.items ++ strip_cells strips.side (c.args.row % strips.side) (c.args.row + 1) pieces)
    (c.pieces.ensures ∙ strip_is strips.strips.items (c.args.row / strips.side) c.index-strip.result.now there c.index-strip.ensures))
    c.push_lines.ensures
