use Rattle.std.proofs.Common.{◌∙◌, sym, subst, ◌≤◌}
use Rattle.task_graph.specs.Rows.{unfinished_in}
use Rattle.name_machine.specs.Steps.{input_trees}
use Rattle.name_machine.specs.Standing.{task_shown}
use Rattle.cht_core.proofs.InputTrees.{view_at, slot_there, few_in, all_there, many_trees, all_shown}
use Rattle.cht_core.proofs.cores.Core.views.Goals as goal

pub returns : goal.returns
returns g c =
    let names = c.args.self.now.control.names in
    let u = unfinished_in c.args.row.now in
    let few = few_in c.args.row.now c.requires.few in
    all_shown (input_trees (task_shown names u))
    (record { count = c.count_there-count.result; first = c.or_nothing.result; second = c.or_nothing-2.result; third = c.or_nothing-3.result; fourth = c.or_nothing-4.result })
    (all_there _ _ _ _ _ u.inputs few c.count_there-count.ensures
    (c.is_some.ensures ∙ c.in_ok-one.ensures.there ∙ slot_there u.inputs 0 c.input.result c.input.ensures.input)
    (c.is_some-2.ensures ∙ c.in_ok-two.ensures.there ∙ slot_there u.inputs 1 c.input-2.result c.input-2.ensures.input)
    (c.is_some-3.ensures ∙ c.in_ok-three.ensures.there ∙ slot_there u.inputs 2 c.input-3.result c.input-3.ensures.input)
    (c.is_some-4.ensures ∙ c.in_ok-four.ensures.there ∙ slot_there u.inputs 3 c.input-4.result c.input-4.ensures.input)
    ∙ sym (many_trees names u))
    (subst (λ n. n ≤ 4) (sym (many_trees names u)) few)
    (c.or_nothing.ensures ∙ c.in_ok-one.ensures.shows ∙ view_at names u.inputs 0 _ c.input.ensures.input)
    (c.or_nothing-2.ensures ∙ c.in_ok-two.ensures.shows ∙ view_at names u.inputs 1 _ c.input-2.ensures.input)
    (c.or_nothing-3.ensures ∙ c.in_ok-three.ensures.shows ∙ view_at names u.inputs 2 _ c.input-3.ensures.input)
    (c.or_nothing-4.ensures ∙ c.in_ok-four.ensures.shows ∙ view_at names u.inputs 3 _ c.input-4.ensures.input)
