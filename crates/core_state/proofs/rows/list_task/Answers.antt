use Rattle.std.proofs.Common.{◌≤◌, true, length, refl, subst}
use Rattle.std.proofs.lemmas.Option.{slice_get_read}
use Rattle.core_state.proofs.Listing.{room_row, listed_set}
use Rattle.core_state.proofs.rows.list_task.Goals as goal

pub put_in-requires : goal.put_in-requires
put_in-requires c =
    let rows = c.args.rows.now.items in
    let row = slice_get_read rows (length rows) c.args.c c.index_mut.result.now refl c.requires.within c.index_mut.ensures.value in
    subst (λ n. 1 ≤ n) (room_row rows c.args.c c.index_mut.result.now row) c.requires.room

pub returns-clause-listed : goal.returns-clause-listed
returns-clause-listed c =
    let rows = c.args.rows.now.items in
    let row = slice_get_read rows (length rows) c.args.c c.index_mut.result.now refl c.requires.within c.index_mut.ensures.value in
    listed_set rows c.args.c c.args.task c.index_mut.result.now c.put_in.new.row true row c.put_in.ensures
