use Rattle.std.proofs.Common.{false, length, refl}
use Rattle.std.proofs.lemmas.Option.{slice_get_read}
use Rattle.core_state.proofs.Listing.{listed_set}
use Rattle.core_state.proofs.rows.unlist_task.Goals as goal

pub returns-clause-listed : goal.returns-clause-listed
returns-clause-listed c =
    let rows = c.args.rows.now.items in
    let row = slice_get_read rows (length rows) c.args.c c.index_mut.result.now refl c.requires c.index_mut.ensures.value in
    listed_set rows c.args.c c.args.task c.index_mut.result.now c.take_out.new.row false row c.take_out.ensures
