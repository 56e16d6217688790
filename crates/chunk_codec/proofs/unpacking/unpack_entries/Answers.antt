use Rattle.std.proofs.Common.{Err, ap, ◌∙◌}
use Rattle.std.proofs.lemmas.Result.{err_from_is_err_and}
use Rattle.chunk_codec.specs.Parts.{AreListed, bytes_of_list}
use Rattle.chunk_codec.proofs.Reading.{reads_err, entries_only}
use Rattle.chunk_codec.proofs.unpacking.unpack_entries.Goals as goal

pub returns-in_err-leaf : goal.returns-in_err-leaf
returns-in_err-leaf c =
    let p = err_from_is_err_and c.from_residual.result c.from_residual.ensures.1 in
    reads_err AreListed bytes_of_list c.args.fields.now 5 c.from_residual.result c.in_err-leaf.field-0.0 (p.1 ∙ ap Err p.2) c.in_err-leaf.ensures (entries_only c.args.fields.now)
