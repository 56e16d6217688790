use Rattle.std.proofs.Common.{refl, sym, ap, ◌∙◌, subst, ◌++◌, List, false}
use Rattle.task_types.specs.declared.inputs.View.TheVariants as view
use Rattle.chunk_codec.specs.declared.plain.Spot.{Spot}
use Rattle.chunk_codec.specs.Spots.{AreSoundSpots}
use Rattle.matrix_tests.proofs.MatrixInputs.{assign_has_goal}
use Rattle.matrix_tests.proofs.matrix_kinds.assign.Goals as goal

pub run_general-requires-clause-defined : goal.run_general-requires-clause-defined
run_general-requires-clause-defined c =
    let same = c.in_ok-extend.ensures.ok ∙ ap (λ (list : List Spot). list ++ c.args.spots.now) c.new-list.ensures in
    assign_has_goal c.args.leaf c.args.height (record { count = 1; first = view.There c.in_ok-new.field-0 0; second = view.Nothing; third = view.Nothing; fourth = view.Nothing }) c.extend.new.self refl (ap (λ content. view.There content 0) c.in_ok-new.ensures)
    (subst (λ (spots : List Spot). AreSoundSpots c.args.leaf c.args.height false spots) (sym same) c.requires)
