use Rattle.std.proofs.Common.{◌<◌, sym, rules, ◌∙◌, to_z-of_z, SFits, pos, vec_len}
use Rattle.std.proofs.lemmas.List.{get_or_read_under}
use Rattle.std.specs.Int.{w128}
use Rattle.dense_def.proofs.RowByRow.{stores, place_below}
use Rattle.dense_def.proofs.dense.Dense.at.Goals as goal

pub index-requires : goal.index-requires
index-requires c =
    let s = stores _ _ _ _ c.self.view_is in
    place_below _ _ _ _ _ c.self.invariant (rw (← s.tall) c.requires.row_in) (rw (← s.wide) c.requires.column_in)

pub returns : goal.returns
returns c =
    let s = stores _ _ _ _ c.self.view_is in
    let row_in : c.args.row < c.self.inside.rows = rw (← s.tall) c.requires.row_in in
    let column_in : c.args.column < c.self.inside.columns = rw (← s.wide) c.requires.column_in in
    let fits : SFits w128 c.index.result.now = search rules in
    rw to_z-of_z
    (get_or_read_under c.self.inside.entries.items _ (vec_len c.self.inside.entries) _ (pos 0) c.index.ensures
    (place_below _ _ _ _ _ c.self.invariant row_in column_in) c.self.inside.entries.ok.0
    ∙ sym (s.place _ _ row_in column_in))
