use Rattle.std.proofs.Common.{sym, subst}
use Rattle.std.proofs.lemmas.Result.{IfOk-weaker}
use Rattle.task_types.specs.Sound.{IsSound}
use Rattle.quad_matrix.specs.Chunks.{arity_of}
use Rattle.quad_matrix.specs.Matrices.{matrices}
use Rattle.matrix_tasks.proofs.Joins.{join_sound}
use Rattle.matrix_tasks.proofs.LowBlocks.{sum_sound, numbers_fit, add_sound, leaves_fit}
use Rattle.matrix_tasks.proofs.LowSingles.{trace_sound, leaf_fits, assign_sound, entries_fit}
use Rattle.matrix_tasks.proofs.LowProducts.{product_sound, factors_fit, transpose_sound, leaf_turns}
use Rattle.quad_matrix.specs.Products.{Neither, First, Second}
use Rattle.matrix_tasks.proofs.Contents.{node_fits}
use Rattle.matrix_tasks.proofs.at_height_0.Goals as goal

pub assign-requires : goal.assign-requires
assign-requires c =
    entries_fit c.args.kind.what c.args.kind.height c.args.inputs.now c.in-Assign.is c.requires.low c.requires.defined.0 c.requires.defined.1 c.requires.defined.2

pub returns-in-Assign : goal.returns-in-Assign
returns-in-Assign c =
    IfOk-weaker c.assign.result _ _ (λ outcome e trees s d. subst (λ answer. IsSound arity_of matrices c.args.kind trees answer) (sym e) (assign_sound c.args.kind.what c.args.kind.height c.args.inputs.now c.in-Assign.is c.requires.low c.requires.present trees s d)) c.assign.ensures

pub add-requires : goal.add-requires
add-requires c =
    leaves_fit c.args.kind.what c.args.kind.height c.args.inputs.now c.in-Add.is c.requires.low c.requires.defined.0 c.requires.defined.1 c.requires.defined.2

pub returns-in-Add : goal.returns-in-Add
returns-in-Add c =
    IfOk-weaker c.add.result _ _ (λ outcome e trees s d. subst (λ answer. IsSound arity_of matrices c.args.kind trees answer) (sym e) (add_sound c.args.kind.what c.args.kind.height c.args.inputs.now c.in-Add.is c.requires.low c.requires.present trees s d)) c.add.ensures

pub trace-requires : goal.trace-requires
trace-requires c =
    leaf_fits c.args.kind.what c.args.kind.height c.args.inputs.now c.in-Trace.is c.requires.low c.requires.defined.0 c.requires.defined.1 c.requires.defined.2

pub returns-in-Trace : goal.returns-in-Trace
returns-in-Trace c =
    IfOk-weaker c.trace.result _ _ (λ outcome e trees s d. subst (λ answer. IsSound arity_of matrices c.args.kind trees answer) (sym e) (trace_sound c.args.kind.what c.args.kind.height c.args.inputs.now c.in-Trace.is c.requires.low c.requires.present trees s d)) c.trace.ensures

pub add-requires-in-AddNum : goal.add-requires-in-AddNum
add-requires-in-AddNum c =
    numbers_fit c.args.kind.what c.args.kind.height c.args.inputs.now c.in-AddNum.is c.requires.defined.0 c.requires.defined.1 c.requires.defined.2

pub returns-in-AddNum : goal.returns-in-AddNum
returns-in-AddNum c =
    IfOk-weaker c.add-in-AddNum.result _ _ (λ outcome e trees s d. subst (λ answer. IsSound arity_of matrices c.args.kind trees answer) (sym e) (sum_sound c.args.kind.what c.args.kind.height c.args.inputs.now c.in-AddNum.is c.requires.present trees s d)) c.add-in-AddNum.ensures

pub join-requires : goal.join-requires
join-requires c =
    node_fits c.args.kind.what c.args.kind.height c.args.inputs.now c.in-Join.is c.requires.defined.0 c.requires.defined.1 c.requires.defined.2

pub returns-in-Join : goal.returns-in-Join
returns-in-Join c =
    IfOk-weaker c.join.result _ _ (λ outcome e trees s d. subst (λ answer. IsSound arity_of matrices c.args.kind trees answer) (sym e) (join_sound c.args.kind.what c.args.kind.height c.args.inputs.now c.in-Join.is trees s d)) c.join.ensures

pub mul-requires : goal.mul-requires
mul-requires c =
    factors_fit Neither c.args.kind.what c.args.kind.height c.args.inputs.now c.in-Mul.is c.requires.low c.requires.defined.0 c.requires.defined.1 c.requires.defined.2

pub returns-in-Mul : goal.returns-in-Mul
returns-in-Mul c =
    IfOk-weaker c.mul.result _ _ (λ outcome e trees s d. subst (λ answer. IsSound arity_of matrices c.args.kind trees answer) (sym e) (product_sound Neither c.args.kind.what c.args.kind.height c.args.inputs.now c.in-Mul.is c.requires.low c.requires.present trees s d)) c.mul.ensures

pub tmul-requires : goal.tmul-requires
tmul-requires c =
    factors_fit First c.args.kind.what c.args.kind.height c.args.inputs.now c.in-TMul.is c.requires.low c.requires.defined.0 c.requires.defined.1 c.requires.defined.2

pub returns-in-TMul : goal.returns-in-TMul
returns-in-TMul c =
    IfOk-weaker c.tmul.result _ _ (λ outcome e trees s d. subst (λ answer. IsSound arity_of matrices c.args.kind trees answer) (sym e) (product_sound First c.args.kind.what c.args.kind.height c.args.inputs.now c.in-TMul.is c.requires.low c.requires.present trees s d)) c.tmul.ensures

pub mult-requires : goal.mult-requires
mult-requires c =
    factors_fit Second c.args.kind.what c.args.kind.height c.args.inputs.now c.in-MulT.is c.requires.low c.requires.defined.0 c.requires.defined.1 c.requires.defined.2

pub returns-in-MulT : goal.returns-in-MulT
returns-in-MulT c =
    IfOk-weaker c.mult.result _ _ (λ outcome e trees s d. subst (λ answer. IsSound arity_of matrices c.args.kind trees answer) (sym e) (product_sound Second c.args.kind.what c.args.kind.height c.args.inputs.now c.in-MulT.is c.requires.low c.requires.present trees s d)) c.mult.ensures

pub transpose-requires : goal.transpose-requires
transpose-requires c =
    leaf_turns c.args.kind.what c.args.kind.height c.args.inputs.now c.in-Transpose.is c.requires.low c.requires.defined.0 c.requires.defined.1 c.requires.defined.2

pub returns-in-Transpose : goal.returns-in-Transpose
returns-in-Transpose c =
    IfOk-weaker c.transpose.result _ _ (λ outcome e trees s d. subst (λ answer. IsSound arity_of matrices c.args.kind trees answer) (sym e) (transpose_sound c.args.kind.what c.args.kind.height c.args.inputs.now c.in-Transpose.is c.requires.low c.requires.present trees s d)) c.transpose.ensures
