use Rattle.std.proofs.Common.{sym, ◌∙◌}
use Rattle.chunk_refs.proofs.Ending.{released_last, released_less}
use Rattle.chunk_refs.proofs.parts.Parts.release.Goals as goal

pub returns-then-count_less-clause-released : goal.returns-then-count_less-clause-released
returns-then-count_less-clause-released g c = λ chunk at.
    released_last c.args.self.now.stores.items c.count_less.new.self.stores.items c.args.name chunk c.args.first (c.requires.counted chunk at)
    (c.count_less.ensures.placed chunk at) (sym c.if-count_less.true ∙ c.count_less.ensures.last chunk at)

pub returns-else-count_less-clause-released : goal.returns-else-count_less-clause-released
returns-else-count_less-clause-released g c = λ chunk at.
    released_less c.args.self.now.stores.items c.count_less.new.self.stores.items c.args.name chunk c.args.first (c.requires.counted chunk at)
    (c.count_less.ensures.placed chunk at) (sym c.if-count_less.false ∙ c.count_less.ensures.last chunk at)
