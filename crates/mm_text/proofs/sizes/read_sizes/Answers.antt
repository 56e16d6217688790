use Rattle.mm_text.specs.Steps.{sizes_told}
use Rattle.mm_text.proofs.Heads.{sizes-bad, sizes-good}
use Rattle.mm_text.proofs.sizes.read_sizes.Goals as goal

pub returns-in_default-sizes_of : goal.returns-in_default-sizes_of
returns-in_default-sizes_of c =
    sizes-bad c.args.grid c.args.form c.args.number c.args.line.now c.in-Some.numbers c.in-Some.ensures c.in_default-sizes_of.ensures

pub returns : goal.returns
returns c =
    sizes-good c.args.grid c.args.form c.args.number c.args.line.now c.in-Some.numbers (sizes_told c.in-Some-sizes_of.sizes) c.in-Some.ensures c.in-Some-sizes_of.ensures
