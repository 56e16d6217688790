use Rattle.std.proofs.Common.{◌+◌, drop, arith, ap, ◌∙◌}
use Rattle.cht_script.specs.declared.reader.Reader.{Reader}
use Rattle.cht_script.proofs.BlockTaken.{slice_rest, lines_enough, block_taken}
use Rattle.cht_script.proofs.reader.Reader.take_block.Goals as goal

pub overflow_add-self : goal.overflow_add-self
overflow_add-self c =
    let enough = lines_enough c.args.self.now.grid c.args.self.now.rest.now c.args.read c.requires.read in
    let same = ap (λ (r : Reader). r.lines) c.in_ok-add.ensures in
    omega (arith, c.requires.room.lines)

pub returns : goal.returns
returns c = λ line said.
    let moved = c.in_ok-add.ensures in
    let rest = ap (λ (r : Reader). r.rest.now) moved in
    block_taken line c.args.self.now _ c.args.word.now c.args.to c.args.read said c.requires.named.0 c.requires.named.1 c.requires.read
    (record {
      rest = slice_rest c.add.new.self.rest.now c.args.read.bytes ∙ ap (drop c.args.read.bytes) rest;
      lines = ap (λ (r : Reader). r.lines + c.args.read.lines) moved;
      statements = ap (λ (r : Reader). r.statements) moved;
      grid = ap (λ (r : Reader). r.grid) moved;
    })
