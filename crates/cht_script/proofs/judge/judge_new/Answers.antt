use Rattle.std.proofs.Common.{◌≡◌, ◌∙◌, rules, arith}
use Rattle.cht_script.specs.Statements.{names_after}
use Rattle.cht_script.specs.Reading.{name_bytes}
use Rattle.cht_script.proofs.NameRules.{found, found_any, two_names, three_refused, three_judged, two_refused, two_judged}
use Rattle.cht_script.proofs.judge.judge_new.Goals as goal

pub returns-in-Err : goal.returns-in-Err
returns-in-Err c = λ bound deleted keeps.
    let count : c.args.names.now.count ≡ 3 = search rules in
    three_refused bound deleted c.args.verb c.args.names.now c.find-first.result c.find-second.result c.is_some-is_taken.result c.in-Err.code keeps.bound c.requires.binds count
    (found bound deleted c.args.known.now c.find-first.result c.as_bytes-2.result.now (name_bytes c.args.names.now.second) keeps c.find-first.ensures c.as_bytes-2.ensures)
    (found bound deleted c.args.known.now c.find-second.result c.as_bytes-then-names-eq3.result.now (name_bytes c.args.names.now.third) keeps c.find-second.ensures c.as_bytes-then-names-eq3.ensures)
    (found_any bound deleted c.args.known.now c.find.result c.is_some-is_taken.result c.as_bytes.result.now (name_bytes c.args.names.now.first) keeps c.is_some-is_taken.ensures c.find.ensures c.as_bytes.ensures)
    c.in-Err.ensures

pub returns-in-Ok : goal.returns-in-Ok
returns-in-Ok c = λ bound deleted keeps.
    let count : c.args.names.now.count ≡ 3 = search rules in
    three_judged bound deleted c.args.verb c.args.names.now c.find-first.result c.find-second.result c.is_some-is_taken.result c.in-Ok.a c.in-Ok.b c.shape_bound.result keeps.bound c.requires.binds count
    (found bound deleted c.args.known.now c.find-first.result c.as_bytes-2.result.now (name_bytes c.args.names.now.second) keeps c.find-first.ensures c.as_bytes-2.ensures)
    (found bound deleted c.args.known.now c.find-second.result c.as_bytes-then-names-eq3.result.now (name_bytes c.args.names.now.third) keeps c.find-second.ensures c.as_bytes-then-names-eq3.ensures)
    (found_any bound deleted c.args.known.now c.find.result c.is_some-is_taken.result c.as_bytes.result.now (name_bytes c.args.names.now.first) keeps c.is_some-is_taken.ensures c.find.ensures c.as_bytes.ensures)
    c.in-Ok.ensures c.shape_bound.ensures

pub returns-in-Err-judge_inputs : goal.returns-in-Err-judge_inputs
returns-in-Err-judge_inputs c = λ bound deleted keeps.
    let two : names_after c.args.verb ≡ 2 = two_names c.args.verb c.requires.binds (λ three. omega (arith, three, c.requires.count, c.if-names-eq3.false)) in
    two_refused bound deleted c.args.verb c.args.names.now c.find-first.result c.is_some-is_taken.result c.in-Err-judge_inputs.code keeps.bound c.requires.binds two (c.requires.count ∙ two)
    (found bound deleted c.args.known.now c.find-first.result c.as_bytes-2.result.now (name_bytes c.args.names.now.second) keeps c.find-first.ensures c.as_bytes-2.ensures)
    (found_any bound deleted c.args.known.now c.find.result c.is_some-is_taken.result c.as_bytes.result.now (name_bytes c.args.names.now.first) keeps c.is_some-is_taken.ensures c.find.ensures c.as_bytes.ensures)
    c.in-Err-judge_inputs.ensures

pub returns-in-Ok-judge_inputs : goal.returns-in-Ok-judge_inputs
returns-in-Ok-judge_inputs c = λ bound deleted keeps.
    let two : names_after c.args.verb ≡ 2 = two_names c.args.verb c.requires.binds (λ three. omega (arith, three, c.requires.count, c.if-names-eq3.false)) in
    two_judged bound deleted c.args.verb c.args.names.now c.find-first.result c.is_some-is_taken.result c.in-Ok-judge_inputs.a c.in-Ok-judge_inputs.b c.shape_bound-new.result keeps.bound c.requires.binds two (c.requires.count ∙ two)
    (found bound deleted c.args.known.now c.find-first.result c.as_bytes-2.result.now (name_bytes c.args.names.now.second) keeps c.find-first.ensures c.as_bytes-2.ensures)
    (found_any bound deleted c.args.known.now c.find.result c.is_some-is_taken.result c.as_bytes.result.now (name_bytes c.args.names.now.first) keeps c.is_some-is_taken.ensures c.find.ensures c.as_bytes.ensures)
    c.in-Ok-judge_inputs.ensures c.shape_bound-new.ensures
