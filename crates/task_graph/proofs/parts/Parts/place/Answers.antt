use Rattle.std.proofs.Common.{◌≡◌, ℕ, ap, sym, ◌∙◌, Some, None}
use Rattle.std.specs.Option.{option_map}
use Rattle.task_states.proofs.Maps.{test_same}
use Rattle.task_states.proofs.Options.{not_none}
use Rattle.task_links.specs.Inside.{entries_at, station_at, station_of}
use Rattle.task_links.specs.Callers.{caller_at, bounds_at}
use Rattle.task_links.specs.Order.{IsRoom, with_after_at, with_before_at, with_last_at}
use Rattle.task_links.proofs.Besides.{besides, other_put, here_put, entry_behind}
use Rattle.task_links.proofs.Orders.{placed-ordered}
use Rattle.task_links.proofs.Splicing.{spliced, here_as, room_made, home_made, before_apart, after_there}
use Rattle.task_graph.proofs.parts.Parts.place.Goals as goal

room : (g : _) (c : goal.After-lead_back g) → IsRoom (bounds_at (caller_at c.args.self.now.callers)) (station_at (entries_at c.args.self.now.entries)) c.args.entry.caller c.args.task c.around-gap.result.0 c.around-gap.result.1
room g c = room_made _ _ _ _ c.requires.ordered c.around-gap.result.0 c.around-gap.result.1 c.around-gap.ensures.below c.around-gap.ensures.behind

pub lead_back-requires-clause-there : goal.lead_back-requires-clause-there
lead_back-requires-clause-there g c = λ q is.
    let old = station_at (entries_at c.args.self.now.entries) in
    let bounds = bounds_at (caller_at c.args.self.now.callers) in
    let free = room_made _ _ _ _ c.requires.ordered c.around-gap.result.0 c.around-gap.result.1 c.around-gap.ensures.below c.around-gap.ensures.behind in
    let t = after_there bounds old c.args.entry.caller c.args.task c.requires.ordered c.around-gap.result.0 c.around-gap.result.1 free q is in
    let fresh : old c.args.task ≡ None = ap (option_map station_of) c.requires.new in
    let kept : station_at (entries_at c.insert.new.self) q ≡ Some t.0 =
    ap (option_map station_of) (other_put (entries_at c.args.self.now.entries) (entries_at c.insert.new.self) c.args.task _ c.insert.ensures.at q (λ same. not_none (old c.args.task) t.0 fresh (ap old (sym same) ∙ t.1))) ∙ t.1 in
    entry_behind (entries_at c.lead_on.new.self.entries) q (with_after_at q c.around-gap.result.0 (Some c.args.task) t.0)
    (c.lead_on.ensures.stations q ∙ ap (option_map (with_after_at q c.around-gap.result.0 (Some c.args.task))) kept)

pub returns-clause-beside : goal.returns-clause-beside
returns-clause-beside g c = (
  entries_at c.insert.new.self,
  (c.around-gap.result.0, c.around-gap.result.1, c.insert.ensures.at),
  besides (entries_at c.insert.new.self) (entries_at c.lead_on.new.self.entries) (entries_at c.lead_back.new.self.entries) c.lead_on.ensures.beside c.lead_back.ensures.beside,
)

pub returns-clause-ordered : goal.returns-clause-ordered
returns-clause-ordered g c =
    let old = station_at (entries_at c.args.self.now.entries) in
    let bounds = bounds_at (caller_at c.args.self.now.callers) in
    let middle = station_at (entries_at c.insert.new.self) in
    let rest = λ (q : ℕ) (apart : q ≡ c.args.task → ⊥). ap (option_map station_of) (other_put (entries_at c.args.self.now.entries) (entries_at c.insert.new.self) c.args.task _ c.insert.ensures.at q apart) in
    let made = λ (q : ℕ). c.lead_back.ensures.stations q ∙ ap (option_map (with_before_at q c.around-gap.result.1 (Some c.args.task))) (c.lead_on.ensures.stations q) in
    let bound = λ (q : ℕ). c.lead_back.ensures.bounds q ∙ ap (option_map (with_last_at q c.args.entry.caller c.around-gap.result.1 (Some c.args.task))) (c.lead_on.ensures.bounds q) in
    let fresh : old c.args.task ≡ None = ap (option_map station_of) c.requires.new in
    let free = room g c in
    placed-ordered bounds (bounds_at (caller_at c.lead_back.new.self.callers)) old (station_at (entries_at c.lead_back.new.self.entries)) c.args.task c.args.entry.caller c.around-gap.result.0 c.around-gap.result.1
    c.requires.ordered fresh free (home_made bounds old c.args.entry.caller c.args.task c.requires.ordered c.around-gap.result.0 c.around-gap.result.1 free)
    (here_as bounds (bounds_at (caller_at c.lead_back.new.self.callers)) old middle (station_at (entries_at c.lead_back.new.self.entries)) c.args.task c.args.entry.caller c.around-gap.result.0 c.around-gap.result.1 (Some c.args.task) (Some c.args.task) rest made bound
    (before_apart bounds old c.args.entry.caller c.args.task c.requires.ordered c.around-gap.result.0 c.around-gap.result.1 free fresh)
    (λ is. let there = after_there bounds old c.args.entry.caller c.args.task c.requires.ordered c.around-gap.result.0 c.around-gap.result.1 free c.args.task is in not_none (old c.args.task) there.0 fresh there.1)
    _
    (ap (option_map station_of) (here_put (entries_at c.args.self.now.entries) (entries_at c.insert.new.self) c.args.task _ c.insert.ensures.at (test_same c.args.task))))
    (spliced bounds (bounds_at (caller_at c.lead_back.new.self.callers)) old middle (station_at (entries_at c.lead_back.new.self.entries)) c.args.task c.args.entry.caller c.around-gap.result.0 c.around-gap.result.1 (Some c.args.task) (Some c.args.task) rest made bound)
