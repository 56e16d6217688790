use Rattle.std.proofs.Common.{◌≤◌, length, refl, sym, subst}
use Rattle.std.proofs.lemmas.Option.{slice_get_read}
use Rattle.core_state.proofs.Listing.{room_set, items_same}
use Rattle.core_state.proofs.rows.reserve_row.Goals as goal

pub returns-in_err-reserve-clause-items : goal.returns-in_err-reserve-clause-items
returns-in_err-reserve-clause-items c =
    let rows = c.args.rows.now.items in
    let row = slice_get_read rows (length rows) c.args.c c.index_mut.result.now refl c.requires c.index_mut.ensures.value in
    items_same rows c.args.c c.index_mut.result.now c.reserve.new.self row c.reserve.ensures.keys

pub returns-clause-items : goal.returns-clause-items
returns-clause-items c =
    let rows = c.args.rows.now.items in
    let row = slice_get_read rows (length rows) c.args.c c.index_mut.result.now refl c.requires c.index_mut.ensures.value in
    items_same rows c.args.c c.index_mut.result.now c.reserve.new.self row c.reserve.ensures.keys

pub returns-clause-room : goal.returns-clause-room
returns-clause-room c =
    let rows = c.args.rows.now.items in
    let row = slice_get_read rows (length rows) c.args.c c.index_mut.result.now refl c.requires c.index_mut.ensures.value in
    subst (λ n. 1 ≤ n) (sym (room_set rows c.args.c c.index_mut.result.now c.reserve.new.self row)) c.in_ok-reserve.ensures.ok
