use Rattle.std.proofs.Common.{◌≡◌, ◌<◌, rules, arith, length, ap, ◌∙◌}
use Rattle.task_links.specs.Inside.{shown_place}
use Rattle.task_graph.proofs.Additions.{get_at}
use Rattle.task_graph.proofs.RowReading.{input_first, input_past, input_none}
use Rattle.task_graph.proofs.rows.TaskRow.input.Goals as goal
use Rattle.task_graph.proofs.rows.TaskRow.input.Goals.{else-place-lt4-via-then-place-lt4+else-place-self, else-place-lt4-via-else-place-lt4}

pub returns-then-place-self-clause-input : goal.returns-then-place-self-clause-input
returns-then-place-self-clause-input g c =
    let len : length c.args.self.now.places ≡ 4 = search rules in
    let low = c.if-place-lt4.true in
    let within : c.args.place < length c.args.self.now.places = omega (arith, len, low) in
    input_first c.args.self.now.places c.args.self.now.count c.args.place c.slot.result _ (get_at c.args.self.now.places c.args.place _ within) c.if-place-self.true (c.slot.ensures ∙ ap shown_place c.open.ensures)

pub returns-else-place-lt4-clause-input : goal.returns-else-place-lt4-clause-input
returns-else-place-lt4-clause-input g c =
    let len : length c.args.self.now.places ≡ 4 = search rules in
    elim c.else-place-lt4.branch [
      | else-place-lt4-via-then-place-lt4+else-place-self w ↦ input_past c.args.self.now.places c.args.self.now.count c.args.place (let high = w.if-place-self.false in λ low. absurd (omega (arith, low, high)))
      | else-place-lt4-via-else-place-lt4 w ↦ input_none c.args.self.now.places c.args.self.now.count c.args.place (let high = w.if-place-lt4.false in omega (arith, len, high))
    ]
