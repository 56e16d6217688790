use Rattle.std.proofs.Common.{Err, ap, ◌∙◌}
use Rattle.std.proofs.lemmas.Result.{err_from_is_err_and}
use Rattle.chunk_codec.specs.Parts.{IsNode, bytes_of_node}
use Rattle.chunk_codec.proofs.Reading.{reads_err, sym_node_only}
use Rattle.chunk_codec.proofs.unpacking.unpack_sym_node.Goals as goal

pub returns-in_err-height : goal.returns-in_err-height
returns-in_err-height c =
    let p = err_from_is_err_and c.from_residual.result c.from_residual.ensures.1 in
    reads_err IsNode bytes_of_node c.args.fields.now 4 c.from_residual.result c.in_err-height.field-0.0 (p.1 ∙ ap Err p.2) c.in_err-height.ensures (sym_node_only c.args.fields.now)
