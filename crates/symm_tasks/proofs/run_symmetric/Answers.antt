use Rattle.std.proofs.Common.{sym, ap, ◌∙◌, subst, arith}
use Rattle.std.proofs.lemmas.Result.{IfOk-weaker}
use Rattle.task_types.specs.Sound.{IsSound}
use Rattle.quad_matrix.specs.Chunks.{arity_of}
use Rattle.quad_matrix.specs.Matrices.{matrices}
use Rattle.task_plans.specs.Outcomes.{given}
use Rattle.symm_tasks.proofs.Joins.{join_sound, node_fits}
use Rattle.symm_tasks.proofs.NullInputs.{null_sound}
use Rattle.symm_tasks.proofs.Executed.{plan_sound, have_portions}
use Rattle.symm_tasks.proofs.run_symmetric.Goals as goal

pub join-requires : goal.join-requires
join-requires c =
    node_fits c.args.kind.what c.args.kind.height c.args.inputs.now c.in-SJoin.is c.requires.defined.0 c.requires.defined.1 c.requires.defined.2

pub returns-in-SJoin : goal.returns-in-SJoin
returns-in-SJoin c =
    IfOk-weaker c.join.result _ _ (λ outcome e trees s d. subst (λ answer. IsSound arity_of matrices c.args.kind trees answer) (sym e) (join_sound c.args.kind.what c.args.kind.height c.args.inputs.now c.in-SJoin.is trees s d)) c.join.ensures

pub returns-then-not-all_present : goal.returns-then-not-all_present
returns-then-not-all_present c =
    λ trees s d. subst (λ answer. IsSound arity_of matrices c.args.kind trees answer) (sym (c.given.ensures ∙ ap given c.null_place-output.ensures)) (null_sound c.args.kind.what c.args.kind.height c.args.inputs.now c.requires.serves c.in_default.not-SJoin (sym c.if-not-all_present.ensures) trees s d)

pub answer_by_plan-requires : goal.answer_by_plan-requires
answer_by_plan-requires c =
    have_portions c.args.kind.what c.args.kind.height c.args.inputs.now c.requires.serves c.in_default.not-SJoin (omega arith) (sym c.if-not-all_present.ensures) c.requires.defined.0 c.requires.defined.1 c.requires.defined.2

pub returns-then-kind-gt0 : goal.returns-then-kind-gt0
returns-then-kind-gt0 c =
    IfOk-weaker c.answer_by_plan.result _ _ (λ outcome e trees s d. subst (λ answer. IsSound arity_of matrices c.args.kind trees answer) (sym e) (plan_sound c.args.kind.what c.args.kind.height c.args.inputs.now c.requires.serves c.in_default.not-SJoin (omega arith) (sym c.if-not-all_present.ensures) trees s d)) c.answer_by_plan.ensures
