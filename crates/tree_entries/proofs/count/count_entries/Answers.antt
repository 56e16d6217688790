use Rattle.std.proofs.Common.{◌≡◌, length}
use Rattle.std.proofs.lemmas.Result.{IfOk-weaker}
use Rattle.cht_engine.specs.Seen.{tree_named}
use Rattle.tree_entries.specs.BlockTrees.{IsCountOf}
use Rattle.tree_entries.specs.Strips.{all_listed}
use Rattle.tree_entries.proofs.Levels.{block_levels}
use Rattle.tree_entries.proofs.Listed.{readable_of, few_listed, count_listed}
use Rattle.tree_entries.proofs.count.count_entries.Goals as goal

pub strips_of-requires-clause-levels : goal.strips_of-requires-clause-levels
strips_of-requires-clause-levels g c = block_levels c.args.form (tree_named (g.E.Engine.seen c.args.engine.now) c.args.r) c.requires.canonical

pub count_all-requires-clause-readable : goal.count_all-requires-clause-readable
count_all-requires-clause-readable g c =
    readable_of c.args.form (tree_named (g.E.Engine.seen c.args.engine.now) c.args.r) c.in_ok-strips.strips c.requires.canonical c.in_ok-strips.ensures.strips

pub count_all-requires-clause-few : goal.count_all-requires-clause-few
count_all-requires-clause-few g c =
    few_listed c.args.form (tree_named (g.E.Engine.seen c.args.engine.now) c.args.r) c.in_ok-strips.strips c.requires.canonical c.in_ok-strips.ensures.strips

pub returns-clause-counted : goal.returns-clause-counted
returns-clause-counted g c =
    let tree = tree_named (g.E.Engine.seen c.args.engine.now) c.args.r in
    let strips = c.in_ok-strips.strips in
    IfOk-weaker c.count_all.result (λ count. count ≡ length (all_listed strips)) (IsCountOf c.args.form tree)
    (λ count same. count_listed c.args.form tree strips count c.requires.canonical c.in_ok-strips.ensures.strips same) c.count_all.ensures
