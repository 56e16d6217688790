use Rattle.std.proofs.Common.{◌≡◌, ℕ, ap, sym, subst, ◌∙◌, Some, None, IsSome, arith}
use Rattle.std.specs.Option.{option_map}
use Rattle.task_states.proofs.Maps.{test_same}
use Rattle.task_links.specs.Inside.{entries_at, station_at, station_of}
use Rattle.task_links.specs.Callers.{caller_at, bounds_at}
use Rattle.task_links.specs.Order.{with_after_at, with_before_at, with_last_at}
use Rattle.task_links.proofs.Besides.{besides, other_put, here_put, entry_behind}
use Rattle.task_links.proofs.Orders.{taken-ordered}
use Rattle.task_links.proofs.Walking.{some_is}
use Rattle.task_links.proofs.Splicing.{spliced, gone_as, next_there, back_there, before_below, after_above}
use Rattle.task_graph.proofs.parts.Parts.take.Goals as goal

pub lead_on-requires-clause-caller : goal.lead_on-requires-clause-caller
lead_on-requires-clause-caller g c =
    let station : station_at (entries_at c.args.self.now.entries) c.args.task ≡ Some (station_of c.remove-entry.result) = ap (option_map station_of) c.remove-entry.ensures.entry in
    let k = c.requires.ordered.known c.args.task (station_of c.remove-entry.result) station in
    c.requires.callers c.remove-entry.result.caller (some_is (bounds_at (caller_at c.args.self.now.callers) c.remove-entry.result.caller) k.0 k.1)

pub lead_back-requires-clause-caller : goal.lead_back-requires-clause-caller
lead_back-requires-clause-caller g c =
    let station : station_at (entries_at c.args.self.now.entries) c.args.task ≡ Some (station_of c.remove-entry.result) = ap (option_map station_of) c.remove-entry.ensures.entry in
    let k = c.requires.ordered.known c.args.task (station_of c.remove-entry.result) station in
    c.requires.callers c.remove-entry.result.caller (some_is (bounds_at (caller_at c.args.self.now.callers) c.remove-entry.result.caller) k.0 k.1)

pub lead_on-requires-clause-there : goal.lead_on-requires-clause-there
lead_on-requires-clause-there g c = λ q is.
    let old = station_at (entries_at c.args.self.now.entries) in
    let bounds = bounds_at (caller_at c.args.self.now.callers) in
    let station : old c.args.task ≡ Some (station_of c.remove-entry.result) = ap (option_map station_of) c.remove-entry.ensures.entry in
    let t = back_there bounds old c.remove-entry.result.caller c.args.task c.requires.ordered c.args.task (station_of c.remove-entry.result) q station is in
    let low = before_below bounds old c.remove-entry.result.caller c.args.task c.requires.ordered c.args.task (station_of c.remove-entry.result) q station is in
    subst IsSome (sym (other_put (entries_at c.args.self.now.entries) (entries_at c.remove-entry.new.self) c.args.task None c.remove-entry.ensures.at q (λ same. omega arith))) (entry_behind (entries_at c.args.self.now.entries) q t.0 t.1)

pub lead_back-requires-clause-there : goal.lead_back-requires-clause-there
lead_back-requires-clause-there g c = λ q is.
    let old = station_at (entries_at c.args.self.now.entries) in
    let bounds = bounds_at (caller_at c.args.self.now.callers) in
    let station : old c.args.task ≡ Some (station_of c.remove-entry.result) = ap (option_map station_of) c.remove-entry.ensures.entry in
    let t = next_there bounds old c.remove-entry.result.caller c.args.task c.requires.ordered c.args.task (station_of c.remove-entry.result) q station is in
    let low = after_above bounds old c.remove-entry.result.caller c.args.task c.requires.ordered c.args.task (station_of c.remove-entry.result) q station is in
    let kept : station_at (entries_at c.remove-entry.new.self) q ≡ Some t.0 = ap (option_map station_of) (other_put (entries_at c.args.self.now.entries) (entries_at c.remove-entry.new.self) c.args.task None c.remove-entry.ensures.at q (λ same. omega arith)) ∙ t.1 in
    entry_behind (entries_at c.lead_on.new.self.entries) q (with_after_at q c.remove-entry.result.before c.remove-entry.result.after t.0)
    (c.lead_on.ensures.stations q ∙ ap (option_map (with_after_at q c.remove-entry.result.before c.remove-entry.result.after)) kept)

pub returns-clause-beside : goal.returns-clause-beside
returns-clause-beside g c = (
  entries_at c.remove-entry.new.self,
  c.remove-entry.ensures.at,
  besides (entries_at c.remove-entry.new.self) (entries_at c.lead_on.new.self.entries) (entries_at c.lead_back.new.self.entries) c.lead_on.ensures.beside c.lead_back.ensures.beside,
)

pub returns-clause-ordered : goal.returns-clause-ordered
returns-clause-ordered g c =
    let old = station_at (entries_at c.args.self.now.entries) in
    let bounds = bounds_at (caller_at c.args.self.now.callers) in
    let middle = station_at (entries_at c.remove-entry.new.self) in
    let rest = λ (q : ℕ) (apart : q ≡ c.args.task → ⊥). ap (option_map station_of) (other_put (entries_at c.args.self.now.entries) (entries_at c.remove-entry.new.self) c.args.task None c.remove-entry.ensures.at q apart) in
    let made = λ (q : ℕ). c.lead_back.ensures.stations q ∙ ap (option_map (with_before_at q c.remove-entry.result.after c.remove-entry.result.before)) (c.lead_on.ensures.stations q) in
    let bound = λ (q : ℕ). c.lead_back.ensures.bounds q ∙ ap (option_map (with_last_at q c.remove-entry.result.caller c.remove-entry.result.after c.remove-entry.result.before)) (c.lead_on.ensures.bounds q) in
    let station : old c.args.task ≡ Some (station_of c.remove-entry.result) = ap (option_map station_of) c.remove-entry.ensures.entry in
    taken-ordered bounds (bounds_at (caller_at c.lead_back.new.self.callers)) old (station_at (entries_at c.lead_back.new.self.entries)) c.args.task (station_of c.remove-entry.result) c.requires.ordered station
    (gone_as bounds (bounds_at (caller_at c.lead_back.new.self.callers)) old middle (station_at (entries_at c.lead_back.new.self.entries)) c.args.task c.remove-entry.result.caller c.remove-entry.result.before c.remove-entry.result.after c.remove-entry.result.after c.remove-entry.result.before rest made bound
    (ap (option_map station_of) (here_put (entries_at c.args.self.now.entries) (entries_at c.remove-entry.new.self) c.args.task None c.remove-entry.ensures.at (test_same c.args.task))))
    (spliced bounds (bounds_at (caller_at c.lead_back.new.self.callers)) old middle (station_at (entries_at c.lead_back.new.self.entries)) c.args.task c.remove-entry.result.caller c.remove-entry.result.before c.remove-entry.result.after c.remove-entry.result.after c.remove-entry.result.before rest made bound)
