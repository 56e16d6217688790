use Rattle.std.proofs.Common.{ap, subst, sym, ◌∙◌, ◌+◌}
use Rattle.std.proofs.lemmas.Result.{IfOk-weaker}
use Rattle.task_types.specs.Sound.{IsSound}
use Rattle.task_types.specs.Sums.{arity_of, sum_meanings, number_outcome, number_in}
use Rattle.task_types.proofs.SumsSound.{total_executes, plus_executes}
use Rattle.task_types.proofs.sums.SumsLibrary.execute.Goals as goal

pub returns-in-Total : goal.returns-in-Total
returns-in-Total c =
    IfOk-weaker c.total.result _ _ (λ outcome e trees s d. subst (λ answer. IsSound arity_of sum_meanings c.args.kind trees answer) (sym e) (total_executes c.args.kind.aim c.args.kind.height c.args.inputs.now c.in-Total.is c.requires.present trees s d)) c.total.ensures

pub returns-in-Plus : goal.returns-in-Plus
returns-in-Plus c =
    let n = ap number_outcome (ap (λ first. first + c.number_in-in-Plus.result) c.number_in.ensures ∙ ap (λ second. number_in c.args.inputs.now.first + second) c.number_in-in-Plus.ensures) in
    IfOk-weaker c.number.result _ _ (λ outcome e trees s d. subst (λ answer. IsSound arity_of sum_meanings c.args.kind trees answer) (sym (e ∙ n)) (plus_executes c.args.kind.aim c.args.kind.height c.args.inputs.now c.in-Plus.is c.requires.present trees s d)) c.number.ensures
