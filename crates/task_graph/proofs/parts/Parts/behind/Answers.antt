use Rattle.task_links.specs.Kept.{opened}
use Rattle.std.proofs.Common.{ap, refl, subst, sym}
use Rattle.std.specs.Option.{option_map}
use Rattle.task_links.specs.Inside.{entries_at, station_at, station_of}
use Rattle.task_links.specs.Callers.{caller_at, bounds_at, bounds_of}
use Rattle.task_links.specs.Order.{IsBehind}
use Rattle.task_graph.proofs.parts.Parts.behind.Goals as goal

pub returns-in-None : goal.returns-in-None
returns-in-None g c =
    subst (λ o. IsBehind (bounds_at (caller_at c.args.self.now.callers)) (station_at (entries_at c.args.self.now.entries)) c.args.caller o c.get-row.result.first) (sym c.in-None.is)
    (bounds_of c.get-row.result, ap (option_map bounds_of) c.get-row.ensures, refl)

pub returns-in-Some : goal.returns-in-Some
returns-in-Some g c =
    subst (λ o. IsBehind (bounds_at (caller_at c.args.self.now.callers)) (station_at (entries_at c.args.self.now.entries)) c.args.caller o c.follower.result) (sym c.in-Some.is)
    (station_of (opened c.look-kept.result.now), ap (option_map station_of) c.look-kept.ensures, c.follower.ensures)
