use Rattle.std.proofs.Common.{refl}
use Rattle.cht_script.proofs.ScriptJudged.{parsed_names, names_refused, stop_refused, all_checked}
use Rattle.cht_script.proofs.check.Goals as goal

pub judge_all-requires : goal.judge_all-requires
judge_all-requires c = parsed_names c.args.script c.as_slice.result.now c.requires c.as_slice.ensures

pub returns-in-Err-clause-verdict : goal.returns-in-Err-clause-verdict
returns-in-Err-clause-verdict c = names_refused c.args.script c.as_slice.result.now c.in-Err.refused c.as_slice.ensures c.in-Err.ensures

pub returns-in-Some-clause-verdict : goal.returns-in-Some-clause-verdict
returns-in-Some-clause-verdict c = stop_refused c.args.script c.as_slice.result.now c.in-Ok.shapes c.in-Some.fault c.as_slice.ensures c.in-Ok.ensures c.in-Some.is

pub returns-clause-verdict : goal.returns-clause-verdict
returns-clause-verdict c =
    all_checked c.args.script c.as_slice.result.now c.in-Ok.shapes c.as_slice-2.result.now _ c.as_slice.ensures c.in-Ok.ensures c.in_default.is
    c.as_slice-2.ensures refl refl c.height.ensures c.in_ok-steps.ensures
