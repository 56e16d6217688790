use Rattle.std.proofs.Common.{◌≡◌, ℕ, Some, ◌∙◌, ap, set}
use Rattle.std.specs.Option.{option_map}
use Rattle.task_links.specs.Inside.{entries_at, put_in, with_place_at}
use Rattle.task_links.specs.declared.entries.Entry.{Entry}
use Rattle.task_links.proofs.Writing.{placed, shown_placed, put_place, entry_there}
use Rattle.task_links.proofs.entries.Entries.set_watched.Goals as goal

entry : (g : _) (c : goal.After-link_in g) → (e : Entry _) × (entries_at c.args.self.now c.args.spot.task ≡ Some e)
entry g c = entry_there (entries_at c.args.self.now c.args.spot.task) c.args.spot.place c.requires.there

written : (g : _) (c : goal.After-link_in g) (q : ℕ)
    → entries_at c.swap_watched-was.new.self q ≡ put_in c.args.spot.task (record ((entry g c).0) { places = set ((entry g c).0).places c.args.spot.place c.args.place }) (entries_at c.args.self.now) q
written g c =
    put_place (entries_at c.args.self.now) (entries_at c.swap_watched-was.new.self) c.args.spot c.args.place ((entry g c).0) ((entry g c).1)
    (λ q. c.swap_watched-was.ensures.at q ∙ ap (λ place. option_map (with_place_at q c.args.spot place) (entries_at c.args.self.now q)) c.kept_place.ensures)

pub returns-clause-places : goal.returns-clause-places
returns-clause-places g c = placed _ _ c.args.spot ((entry g c).0) c.args.place ((entry g c).1) c.requires.there (written g c)

pub returns-clause-shown : goal.returns-clause-shown
returns-clause-shown g c = shown_placed _ _ c.args.spot ((entry g c).0) c.args.place ((entry g c).1) c.requires.there (written g c)
