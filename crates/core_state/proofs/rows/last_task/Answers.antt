use Rattle.std.proofs.Common.{length, refl, ◌∙◌}
use Rattle.std.proofs.lemmas.Option.{slice_get_read}
use Rattle.core_state.proofs.Listing.{last_listed, last_none}
use Rattle.core_state.proofs.rows.last_task.Goals as goal

pub returns-clause-some : goal.returns-clause-some
returns-clause-some c =
    let rows = c.args.rows.now.items in
    let row = slice_get_read rows (length rows) c.args.c c.index.result.now refl c.requires c.index.ensures in
    last_listed rows c.args.c c.index.result.now c.copied.result row (c.copied.ensures ∙ c.last.ensures.key)

pub returns-clause-none : goal.returns-clause-none
returns-clause-none c =
    let rows = c.args.rows.now.items in
    let row = slice_get_read rows (length rows) c.args.c c.index.result.now refl c.requires c.index.ensures in
    last_none rows c.args.c c.index.result.now c.copied.result row (c.copied.ensures ∙ c.last.ensures.key)
