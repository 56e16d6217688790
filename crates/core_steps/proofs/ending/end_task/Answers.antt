use Rattle.std.proofs.Common.{◌++◌, sym, ap, subst, ◌∙◌}
use Rattle.core_steps.specs.Ending.{AreDeletable, deleted_refs}
use Rattle.core_steps.proofs.Endings.{all_deletable, deletable_first, deletable_second, deleted_more, ended_is}
use Rattle.core_steps.proofs.ending.end_task.Goals as goal

pub delete_refs-requires-after_bounds : goal.delete_refs-requires-after_bounds
delete_refs-requires-after_bounds g c κs within =
    let names = c.args.names.now.names in
    deletable_first names c.args.inputs.now c.args.made.now
    (all_deletable g.C.Payload.arity names c.args.task (c.args.inputs.now ++ c.args.made.now) c.rules.ensures.sound c.requires.held)

pub delete_refs-requires-2-after_bounds : goal.delete_refs-requires-2-after_bounds
delete_refs-requires-2-after_bounds g c κs within =
    let names = c.args.names.now.names in
    subst (λ n. AreDeletable n c.args.made.now) (sym c.delete_refs.ensures.names)
    (deletable_second names c.args.inputs.now c.args.made.now
    (all_deletable g.C.Payload.arity names c.args.task (c.args.inputs.now ++ c.args.made.now) c.rules.ensures.sound c.requires.held))

pub returns-clause-names : goal.returns-clause-names
returns-clause-names g c =
    let names = c.args.names.now.names in
    c.delete_refs-2.ensures.names
    ∙ ap (λ n. deleted_refs n c.args.made.now) c.delete_refs.ensures.names
    ∙ sym (deleted_more names c.args.inputs.now c.args.made.now)
    ∙ ended_is g.C.Payload.arity names c.args.task (c.args.inputs.now ++ c.args.made.now) c.rules.ensures.sound c.requires.held c.rules.ensures.reached
