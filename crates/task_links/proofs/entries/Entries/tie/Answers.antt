use Rattle.std.proofs.Common.{Some, ap, ◌∙◌}
use Rattle.std.specs.Option.{option_map}
use Rattle.task_links.specs.declared.entries.Place.TheVariants.{Awaits}
use Rattle.task_links.specs.Inside.{entries_at}
use Rattle.task_links.specs.Weave.{head_at, link_at, with_next_at, with_joined}
use Rattle.task_links.proofs.Writing.{link_placed}
use Rattle.task_links.proofs.Tying.{tied, joined_as, head_there}
use Rattle.task_links.proofs.entries.Entries.tie.Goals as goal

pub returns-clause-tied : goal.returns-clause-tied
returns-clause-tied g c =
    let old = entries_at c.args.self.now in
    let head = head_there old c.args.link.task c.requires.task in
    tied (head_at old) (head_at (entries_at c.join_ends.new.self)) (link_at old) (link_at (entries_at c.join_ends.new.self)) c.args.spot c.args.link c.args.before head.0
    c.requires.free c.requires.gap head.1
    (λ p. c.join_ends.ensures.links p ∙ c.set_behind.ensures.links p ∙ ap (option_map (with_next_at p c.args.before (Some c.args.spot))) (link_placed old _ c.args.spot (Awaits c.args.link) c.set_place-was.ensures.places p))
    (joined_as (head_at old) (head_at (entries_at c.join_ends.new.self)) c.args.link.task head.0 c.args.before c.args.spot c.args.link.next head.1
    (λ q. c.join_ends.ensures.heads q ∙ ap (option_map (with_joined q c.args.link.task c.args.before c.args.spot c.args.link.next)) (c.set_behind.ensures.heads q ∙ c.set_place-was.ensures.heads q)))
