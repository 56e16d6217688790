use Rattle.task_links.specs.Kept.{opened}
use Rattle.std.proofs.Common.{◌≡◌, ap, refl, subst, Some, arith, ◌∙◌, sym}
use Rattle.std.specs.Option.{option_map}
use Rattle.task_states.proofs.Options.{not_none, same_some}
use Rattle.task_links.specs.Inside.{entries_at, station_at, station_of, Station}
use Rattle.task_links.specs.Callers.{caller_at, bounds_at, bounds_of}
use Rattle.task_links.specs.Order.{IsFloor}
use Rattle.task_links.proofs.Splicing.{floor_first, floor_next}
use Rattle.task_graph.proofs.parts.Parts.below.Goals as goal

pub loop-at-init : goal.loop-at-init
loop-at-init g c =
    floor_first (bounds_at (caller_at c.args.self.now.callers)) (station_at (entries_at c.args.self.now.entries)) c.args.caller c.args.task c.requires.ordered (bounds_of c.get-row.result)
    (ap (option_map bounds_of) c.get-row.ensures) c.get-row.result.last refl

pub loop-at-preserved : goal.loop-at-preserved
loop-at-preserved g c =
    let floor : IsFloor (station_at (entries_at c.args.self.now.entries)) c.args.caller c.args.task (Some c.in-Some.other) = subst (IsFloor (station_at (entries_at c.args.self.now.entries)) c.args.caller c.args.task) c.in-Some.is c.loop-at.invariant in
    let there : station_at (entries_at c.args.self.now.entries) c.in-Some.other ≡ Some (station_of (opened c.look-kept.result.now)) = ap (option_map station_of) c.look-kept.ensures in
    let own : floor.0 ≡ station_of (opened c.look-kept.result.now) = same_some floor.0 (station_of (opened c.look-kept.result.now)) (sym floor.1 ∙ there) in
    let apart : c.in-Some.other ≡ c.args.task → ⊥ = λ same. not_none (entries_at c.args.self.now.entries c.args.task) (opened c.look-kept.result.now) c.requires.new (sym (ap (entries_at c.args.self.now.entries) same) ∙ c.look-kept.ensures) in
    let low = c.if-other-task.false in
    floor_next (bounds_at (caller_at c.args.self.now.callers)) (station_at (entries_at c.args.self.now.entries)) c.args.caller c.args.task c.requires.ordered c.in-Some.other (station_of (opened c.look-kept.result.now)) there
    (ap (λ (s : Station). s.caller) (sym own) ∙ floor.2) (omega arith) c.leader-at.result (sym c.leader-at.ensures)
