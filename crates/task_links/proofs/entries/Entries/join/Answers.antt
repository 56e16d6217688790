use Rattle.std.proofs.Common.{◌<◌, ◌^◌, rules}
use Rattle.task_links.specs.Inside.{entries_at}
use Rattle.task_links.specs.Weave.{head_at, link_at}
use Rattle.task_links.proofs.Weaving.{tied-woven}
use Rattle.task_links.proofs.entries.Entries.join.Goals as goal

pub returns-clause-woven : goal.returns-clause-woven
returns-clause-woven g c =
    let small : c.args.number < 2 ^ 128 = search rules in
    let h = c.requires.home in
    tied-woven (head_at (entries_at c.args.self.now)) (head_at (entries_at c.tie.new.self)) (link_at (entries_at c.args.self.now)) (link_at (entries_at c.tie.new.self)) c.args.spot c.args.task c.args.number c.gap-before.result.0 c.gap-before.result.1
    c.requires.woven c.requires.free c.gap-before.ensures c.tie.ensures.tied h.0 h.1 h.2 h.3 h.4 h.5 c.requires.unused c.requires.unasked small

pub returns-clause-tied : goal.returns-clause-tied
returns-clause-tied g c = (c.gap-before.result.0, c.gap-before.result.1, c.tie.ensures.tied)
