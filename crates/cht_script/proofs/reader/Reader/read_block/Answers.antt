use Rattle.std.proofs.Common.{◌≡◌, rules, arith, Err}
use Rattle.mm_text.specs.Block.{block_in}
use Rattle.mm_text.specs.Lines.{lines_of}
use Rattle.cht_script.proofs.BlockParts.{block_faulty}
use Rattle.cht_script.proofs.reader.Reader.read_block.Goals as goal

pub overflow_add-result : goal.overflow_add-result
overflow_add-result c =
    let found : block_in c.args.self.now.grid (lines_of c.args.self.now.rest.now) ≡ Err c.in-Err-Fault.fault = search rules in
    let low = block_faulty c.args.self.now.grid (lines_of c.args.self.now.rest.now) c.in-Err-Fault.fault found in
    omega (arith, low, c.requires.room.lines)
