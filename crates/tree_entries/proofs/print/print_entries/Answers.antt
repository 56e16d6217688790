use Rattle.std.proofs.lemmas.Result.{err_from_is_err_and}
use Rattle.cht_engine.specs.Seen.{tree_named}
use Rattle.tree_entries.proofs.Levels.{block_levels}
use Rattle.tree_entries.proofs.Listed.{readable_of, few_listed, text_listed, nothing_printed}
use Rattle.tree_entries.proofs.print.print_entries.Goals as goal

pub strips_of-requires-clause-levels : goal.strips_of-requires-clause-levels
strips_of-requires-clause-levels g c = block_levels c.args.form (tree_named (g.E.Engine.seen c.args.engine.now) c.args.r) c.requires.canonical

pub returns-in_err-strips-clause-printed : goal.returns-in_err-strips-clause-printed
returns-in_err-strips-clause-printed g c =
    let p = err_from_is_err_and c.from_residual.result c.from_residual.ensures.1 in
    nothing_printed c.args.form c.args.rows c.args.columns (tree_named (g.E.Engine.seen c.args.engine.now) c.args.r) p.0 c.from_residual.result
    (g.K.Sink.took c.args.out.now) p.1

pub count_all-requires-clause-readable : goal.count_all-requires-clause-readable
count_all-requires-clause-readable g c =
    readable_of c.args.form (tree_named (g.E.Engine.seen c.args.engine.now) c.args.r) c.in_ok-strips.strips c.requires.canonical c.in_ok-strips.ensures.strips

pub count_all-requires-clause-few : goal.count_all-requires-clause-few
count_all-requires-clause-few g c =
    few_listed c.args.form (tree_named (g.E.Engine.seen c.args.engine.now) c.args.r) c.in_ok-strips.strips c.requires.canonical c.in_ok-strips.ensures.strips

pub returns-in_err-count-clause-printed : goal.returns-in_err-count-clause-printed
returns-in_err-count-clause-printed g c =
    let p = err_from_is_err_and c.from_residual-in_err-count.result c.from_residual-in_err-count.ensures.1 in
    nothing_printed c.args.form c.args.rows c.args.columns (tree_named (g.E.Engine.seen c.args.engine.now) c.args.r) p.0 c.from_residual-in_err-count.result
    (g.K.Sink.took c.args.out.now) p.1

pub write_rows-requires : goal.write_rows-requires
write_rows-requires g c =
    readable_of c.args.form (tree_named (g.E.Engine.seen c.args.engine.now) c.args.r) c.in_ok-strips.strips c.requires.canonical c.in_ok-strips.ensures.strips

pub returns-clause-printed : goal.returns-clause-printed
returns-clause-printed g c =
    text_listed c.args.form c.args.rows c.args.columns (tree_named (g.E.Engine.seen c.args.engine.now) c.args.r) c.in_ok-strips.strips c.in_ok-count.count
    c.write_opening-text.result c.write_rows.result (g.K.Sink.took c.args.out.now) (g.K.Sink.took c.write_rows.new.out) c.requires.canonical
    c.in_ok-strips.ensures.strips c.in_ok-count.ensures c.write_opening-text.ensures c.write_rows.ensures.written
