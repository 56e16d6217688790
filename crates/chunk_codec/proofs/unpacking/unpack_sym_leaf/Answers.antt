use Rattle.std.proofs.Common.{Err, ap, ◌∙◌, true}
use Rattle.std.proofs.lemmas.Result.{err_from_is_err_and}
use Rattle.chunk_codec.specs.Parts.{IsBlock, bytes_of_block}
use Rattle.chunk_codec.proofs.Reading.{reads_err, sym_leaf_only}
use Rattle.chunk_codec.proofs.unpacking.unpack_sym_leaf.Goals as goal

pub returns-in_err-side : goal.returns-in_err-side
returns-in_err-side c =
    let p = err_from_is_err_and c.from_residual.result c.from_residual.ensures.1 in
    reads_err (IsBlock true) bytes_of_block c.args.fields.now 3 c.from_residual.result c.in_err-side.field-0.0 (p.1 ∙ ap Err p.2) c.in_err-side.ensures (sym_leaf_only c.args.fields.now)
