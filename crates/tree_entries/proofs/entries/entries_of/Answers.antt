use Rattle.std.proofs.Common.{◌≡◌}
use Rattle.std.proofs.lemmas.Result.{IfOk-weaker}
use Rattle.cht_engine.specs.Seen.{tree_named}
use Rattle.tree_entries.specs.BlockTrees.{AreEntriesOf}
use Rattle.tree_entries.specs.Strips.{all_listed}
use Rattle.tree_entries.proofs.Levels.{block_levels}
use Rattle.tree_entries.proofs.Listed.{readable_of, entries_listed}
use Rattle.tree_entries.proofs.entries.entries_of.Goals as goal

pub strips_of-requires-clause-levels : goal.strips_of-requires-clause-levels
strips_of-requires-clause-levels g c = block_levels c.args.form (tree_named (g.E.Engine.seen c.args.engine.now) c.args.r) c.requires.canonical

pub list_all-requires : goal.list_all-requires
list_all-requires g c =
    readable_of c.args.form (tree_named (g.E.Engine.seen c.args.engine.now) c.args.r) c.in_ok-strips.strips c.requires.canonical c.in_ok-strips.ensures.strips

pub returns-clause-listed : goal.returns-clause-listed
returns-clause-listed g c =
    let tree = tree_named (g.E.Engine.seen c.args.engine.now) c.args.r in
    let strips = c.in_ok-strips.strips in
    IfOk-weaker c.list_all.result (λ cells. cells ≡ all_listed strips) (AreEntriesOf c.args.form tree)
    (λ cells same. entries_listed c.args.form tree strips cells c.requires.canonical c.in_ok-strips.ensures.strips same) c.list_all.ensures
