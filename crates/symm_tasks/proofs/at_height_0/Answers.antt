use Rattle.std.proofs.Common.{sym, subst}
use Rattle.std.proofs.lemmas.Result.{IfOk-weaker}
use Rattle.task_types.specs.Sound.{IsSound}
use Rattle.quad_matrix.specs.Chunks.{arity_of}
use Rattle.quad_matrix.specs.Matrices.{matrices}
use Rattle.symm_tasks.proofs.Joins.{join_sound, node_fits}
use Rattle.symm_tasks.proofs.Low.{assign_sound, assign_fits, add_sound, add_fits, square_sound, square_fits, rank_sound, rank_fits, transposed_rank_sound, transposed_rank_fits, symmetric_first_sound, symmetric_first_fits, symmetric_second_sound, symmetric_second_fits, full_sound, full_fits, trace_sound, trace_fits}
use Rattle.symm_tasks.proofs.at_height_0.Goals as goal

pub assign-requires : goal.assign-requires
assign-requires c =
    assign_fits c.args.inputs.now c.requires.present c.args.kind.what c.args.kind.height c.in-SAssign.is c.requires.low c.requires.defined.0 c.requires.defined.1 c.requires.defined.2

pub returns-in-SAssign : goal.returns-in-SAssign
returns-in-SAssign c =
    IfOk-weaker c.assign.result _ _ (λ outcome e trees s d. subst (λ answer. IsSound arity_of matrices c.args.kind trees answer) (sym e) (assign_sound c.args.inputs.now c.requires.present c.args.kind.what c.args.kind.height c.in-SAssign.is c.requires.low trees s d)) c.assign.ensures

pub add-requires : goal.add-requires
add-requires c =
    add_fits c.args.inputs.now c.requires.present c.args.kind.what c.args.kind.height c.in-SAdd.is c.requires.low c.requires.defined.0 c.requires.defined.1 c.requires.defined.2

pub returns-in-SAdd : goal.returns-in-SAdd
returns-in-SAdd c =
    IfOk-weaker c.add.result _ _ (λ outcome e trees s d. subst (λ answer. IsSound arity_of matrices c.args.kind trees answer) (sym e) (add_sound c.args.inputs.now c.requires.present c.args.kind.what c.args.kind.height c.in-SAdd.is c.requires.low trees s d)) c.add.ensures

pub square-requires : goal.square-requires
square-requires c =
    square_fits c.args.inputs.now c.requires.present c.args.kind.what c.args.kind.height c.in-Square.is c.requires.low c.requires.defined.0 c.requires.defined.1 c.requires.defined.2

pub returns-in-Square : goal.returns-in-Square
returns-in-Square c =
    IfOk-weaker c.square.result _ _ (λ outcome e trees s d. subst (λ answer. IsSound arity_of matrices c.args.kind trees answer) (sym e) (square_sound c.args.inputs.now c.requires.present c.args.kind.what c.args.kind.height c.in-Square.is c.requires.low trees s d)) c.square.ensures

pub rank_update-requires : goal.rank_update-requires
rank_update-requires c =
    rank_fits c.args.inputs.now c.requires.present c.args.kind.what c.args.kind.height c.in-RankMul.is c.requires.low c.requires.defined.0 c.requires.defined.1 c.requires.defined.2

pub returns-in-RankMul : goal.returns-in-RankMul
returns-in-RankMul c =
    IfOk-weaker c.rank_update.result _ _ (λ outcome e trees s d. subst (λ answer. IsSound arity_of matrices c.args.kind trees answer) (sym e) (rank_sound c.args.inputs.now c.requires.present c.args.kind.what c.args.kind.height c.in-RankMul.is c.requires.low trees s d)) c.rank_update.ensures

pub transposed_rank_update-requires : goal.transposed_rank_update-requires
transposed_rank_update-requires c =
    transposed_rank_fits c.args.inputs.now c.requires.present c.args.kind.what c.args.kind.height c.in-TRank.is c.requires.low c.requires.defined.0 c.requires.defined.1 c.requires.defined.2

pub returns-in-TRank : goal.returns-in-TRank
returns-in-TRank c =
    IfOk-weaker c.transposed_rank_update.result _ _ (λ outcome e trees s d. subst (λ answer. IsSound arity_of matrices c.args.kind trees answer) (sym e) (transposed_rank_sound c.args.inputs.now c.requires.present c.args.kind.what c.args.kind.height c.in-TRank.is c.requires.low trees s d)) c.transposed_rank_update.ensures

pub symmetric_first-requires : goal.symmetric_first-requires
symmetric_first-requires c =
    symmetric_first_fits c.args.inputs.now c.requires.present c.args.kind.what c.args.kind.height c.in-SMul.is c.requires.low c.requires.defined.0 c.requires.defined.1 c.requires.defined.2

pub returns-in-SMul : goal.returns-in-SMul
returns-in-SMul c =
    IfOk-weaker c.symmetric_first.result _ _ (λ outcome e trees s d. subst (λ answer. IsSound arity_of matrices c.args.kind trees answer) (sym e) (symmetric_first_sound c.args.inputs.now c.requires.present c.args.kind.what c.args.kind.height c.in-SMul.is c.requires.low trees s d)) c.symmetric_first.ensures

pub symmetric_second-requires : goal.symmetric_second-requires
symmetric_second-requires c =
    symmetric_second_fits c.args.inputs.now c.requires.present c.args.kind.what c.args.kind.height c.in-MulS.is c.requires.low c.requires.defined.0 c.requires.defined.1 c.requires.defined.2

pub returns-in-MulS : goal.returns-in-MulS
returns-in-MulS c =
    IfOk-weaker c.symmetric_second.result _ _ (λ outcome e trees s d. subst (λ answer. IsSound arity_of matrices c.args.kind trees answer) (sym e) (symmetric_second_sound c.args.inputs.now c.requires.present c.args.kind.what c.args.kind.height c.in-MulS.is c.requires.low trees s d)) c.symmetric_second.ensures

pub full_form-requires : goal.full_form-requires
full_form-requires c =
    full_fits c.args.inputs.now c.requires.present c.args.kind.what c.args.kind.height c.in-Full.is c.requires.low c.requires.defined.0 c.requires.defined.1 c.requires.defined.2

pub returns-in-Full : goal.returns-in-Full
returns-in-Full c =
    IfOk-weaker c.full_form.result _ _ (λ outcome e trees s d. subst (λ answer. IsSound arity_of matrices c.args.kind trees answer) (sym e) (full_sound c.args.inputs.now c.requires.present c.args.kind.what c.args.kind.height c.in-Full.is c.requires.low trees s d)) c.full_form.ensures

pub trace-requires : goal.trace-requires
trace-requires c =
    trace_fits c.args.inputs.now c.requires.present c.args.kind.what c.args.kind.height c.in-STrace.is c.requires.low c.requires.defined.0 c.requires.defined.1 c.requires.defined.2

pub returns-in-STrace : goal.returns-in-STrace
returns-in-STrace c =
    IfOk-weaker c.trace.result _ _ (λ outcome e trees s d. subst (λ answer. IsSound arity_of matrices c.args.kind trees answer) (sym e) (trace_sound c.args.inputs.now c.requires.present c.args.kind.what c.args.kind.height c.in-STrace.is c.requires.low trees s d)) c.trace.ensures

pub join-requires : goal.join-requires
join-requires c =
    node_fits c.args.kind.what c.args.kind.height c.args.inputs.now c.in-SJoin.is c.requires.defined.0 c.requires.defined.1 c.requires.defined.2

pub returns-in-SJoin : goal.returns-in-SJoin
returns-in-SJoin c =
    IfOk-weaker c.join.result _ _ (λ outcome e trees s d. subst (λ answer. IsSound arity_of matrices c.args.kind trees answer) (sym e) (join_sound c.args.kind.what c.args.kind.height c.args.inputs.now c.in-SJoin.is trees s d)) c.join.ensures
