use Rattle.cht_script.specs.Reading.{name_bytes}
use Rattle.cht_script.proofs.NameRules.{found, one_refused, one_judged}
use Rattle.cht_script.proofs.judge.judge_use.Goals as goal

pub returns-in-Err : goal.returns-in-Err
returns-in-Err c = λ bound deleted keeps.
    one_refused bound deleted c.args.verb c.args.names.now c.find-input.result c.in-Err.code keeps.bound c.requires.binds c.requires.count
    (found bound deleted c.args.known.now c.find-input.result c.as_bytes.result.now (name_bytes c.args.names.now.first) keeps c.find-input.ensures c.as_bytes.ensures)
    c.in-Err.ensures

pub returns-in-Ok : goal.returns-in-Ok
returns-in-Ok c = λ bound deleted keeps.
    one_judged bound deleted c.args.verb c.args.names.now c.find-input.result c.in-Ok.shape _ keeps.bound c.requires.binds c.requires.count
    (found bound deleted c.args.known.now c.find-input.result c.as_bytes.result.now (name_bytes c.args.names.now.first) keeps c.find-input.ensures c.as_bytes.ensures)
    c.in-Ok.ensures
