use Rattle.std.proofs.Common.{◌≡◌, rules, true}
use Rattle.mm_text.specs.Lines.{is_text}
use Rattle.cht_script.specs.Steps.{words_told}
use Rattle.cht_script.proofs.Taken.{act_taken}
use Rattle.cht_script.proofs.reader.Reader.read_act.Goals as goal

pub returns : goal.returns
returns c =
    let text : is_text c.args.line.now ≡ true = search rules in
    act_taken c.args.line.now c.args.self.now c.add.new.self c.args.verb (words_told c.args.words) c.in-Some.names c.requires.said text c.in-Some.ensures c.in_ok-add.ensures
