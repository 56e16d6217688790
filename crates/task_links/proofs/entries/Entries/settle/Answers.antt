use Rattle.std.proofs.Common.{◌≡◌, Some, ap, sym, ◌∙◌, cond}
use Rattle.std.specs.Option.{option_map}
use Rattle.task_states.proofs.Options.{same_some}
use Rattle.task_links.specs.declared.entries.Link.{Link}
use Rattle.task_links.specs.declared.entries.Place.TheVariants.{Known}
use Rattle.task_links.specs.Inside.{entries_at, place_at}
use Rattle.task_links.specs.Weave.{head_at, link_at, with_passed, IsUntied}
use Rattle.task_links.proofs.Writing.{link_placed}
use Rattle.task_links.proofs.Tying.{untied, passed_as, spot_same}
use Rattle.task_links.proofs.Walking.{some_is}
use Rattle.task_links.proofs.Weaving.{untied-woven}
use Rattle.task_links.proofs.entries.Entries.settle.Goals as goal

-- the link that goes
gone : (g : _) (c : goal.After-pass_first g) → link_at (entries_at c.args.self.now) c.args.spot ≡ Some c.unwrap-link.result
gone g c = sym c.set_watched-was.ensures.link ∙ c.unwrap-link.ensures

-- the head of the list, before
own : (g : _) (c : goal.After-pass_first g) → head_at (entries_at c.args.self.now) c.unwrap-link.result.task ≡ Some c.requires.first.1
own g c =
    let f = c.requires.first in
    ap (λ (l : Link). head_at (entries_at c.args.self.now) l.task) (sym (same_some f.0 c.unwrap-link.result (sym f.2 ∙ gone g c))) ∙ f.3

made : (g : _) (c : goal.After-pass_first g) → IsUntied (head_at (entries_at c.args.self.now)) (head_at (entries_at c.pass_first.new.self)) (link_at (entries_at c.args.self.now)) (link_at (entries_at c.pass_first.new.self)) c.args.spot c.unwrap-link.result
made g c =
    untied (head_at (entries_at c.args.self.now)) (head_at (entries_at c.pass_first.new.self)) (link_at (entries_at c.args.self.now)) (link_at (entries_at c.pass_first.new.self)) c.args.spot c.unwrap-link.result c.requires.first.1
    (gone g c) (own g c) c.requires.first.4
    (λ p. c.pass_first.ensures.links p ∙ link_placed (entries_at c.args.self.now) (entries_at c.set_watched-was.new.self) c.args.spot (Known c.args.r) c.set_watched-was.ensures.places p)
    (passed_as (head_at (entries_at c.args.self.now)) (head_at (entries_at c.pass_first.new.self)) c.unwrap-link.result.task c.requires.first.1 c.unwrap-link.result.next (own g c)
    (λ q. c.pass_first.ensures.heads q ∙ ap (option_map (with_passed q c.unwrap-link.result.task c.unwrap-link.result.next)) (c.set_watched-was.ensures.heads q)))

pub returns-clause-untied : goal.returns-clause-untied
returns-clause-untied g c = made g c

pub returns-clause-woven : goal.returns-clause-woven
returns-clause-woven g c =
    untied-woven (head_at (entries_at c.args.self.now)) (head_at (entries_at c.pass_first.new.self)) (link_at (entries_at c.args.self.now)) (link_at (entries_at c.pass_first.new.self)) c.args.spot c.unwrap-link.result c.requires.woven (made g c)
    c.requires.first.1 (own g c) c.requires.first.4

pub returns-clause-there : goal.returns-clause-there
returns-clause-there g c =
    some_is (place_at (entries_at c.pass_first.new.self) c.args.spot) (Known c.args.r)
    (c.pass_first.ensures.places c.args.spot ∙ c.set_watched-was.ensures.places c.args.spot ∙ ap (λ b. cond b (Some (Known c.args.r)) (place_at (entries_at c.args.self.now) c.args.spot)) (spot_same c.args.spot))
