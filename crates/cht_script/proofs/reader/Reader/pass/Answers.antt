use Rattle.std.proofs.Common.{◌≡◌, rules, false}
use Rattle.cht_script.specs.Words.{is_skipped}
use Rattle.cht_script.proofs.Whole.{read_passed}
use Rattle.cht_script.proofs.reader.Reader.pass.Goals as goal

pub returns : goal.returns
returns c =
    let kept : is_skipped c.args.line.now ≡ false = search rules in
    let h = read_passed c.args.self.now c.read_line.new.self c.args.line.now c.args.behind c.read_line.result c.requires.cut c.requires.place kept c.read_line.ensures in
    record { passed = h.passed; grid = h.grid; few = h.few; place = h.place; shorter = h.shorter }
