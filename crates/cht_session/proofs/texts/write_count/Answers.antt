use Rattle.std.proofs.Common.{rules, ◌≡◌, Some, true, pos, [], ◌∷◌, ◌++◌, refl, sym, subst}
use Rattle.cht_ids.specs.Numeral.{number_text}
use Rattle.cht_session.specs.Running.{IsWritten}
use Rattle.cht_session.specs.Bindings.{found_in}
use Rattle.cht_session.proofs.Doing.{stays_still}
use Rattle.cht_session.proofs.Writing.{name_mentioned, name_block, count_stated}
use Rattle.cht_session.proofs.texts.write_count.Goals as goal

pub returns-in_default-clause-going : goal.returns-in_default-clause-going
returns-in_default-clause-going g c = let seen = g.E.Engine.seen c.args.engine.now in stays_still seen seen c.args.held.now c.requires.well refl

pub count_entries-requires-clause-held : goal.count_entries-requires-clause-held
count_entries-requires-clause-held g c =
    let seen = g.E.Engine.seen c.args.engine.now in
    name_mentioned seen seen c.args.held.now c.requires.well.0 _ c.in-Some.a c.requires.well.1 (sym c.in-Some.ensures)

pub count_entries-requires-clause-canonical : goal.count_entries-requires-clause-canonical
count_entries-requires-clause-canonical g c =
    let seen = g.E.Engine.seen c.args.engine.now in
    name_block seen seen c.args.held.now c.requires.well.0 _ c.in-Some.a c.requires.well.1 (sym c.in-Some.ensures)

pub returns-in_err-count-clause-going : goal.returns-in_err-count-clause-going
returns-in_err-count-clause-going g c = stays_still (g.E.Engine.seen c.args.engine.now) (g.E.Engine.seen c.count_entries.new.engine) c.args.held.now c.requires.well c.count_entries.ensures.unchanged

pub returns-clause-acts : goal.returns-clause-acts
returns-clause-acts g c = λ line env shown.
    let found = subst (λ n. found_in c.args.held.now n ≡ Some c.in-Some.a) c.as_bytes.ensures (sym c.in-Some.ensures) in
    let took = g.K.Sink.took c.args.out.now in
    let after = g.K.Sink.took c.write_line.new.out in
    let written : IsWritten c.write_line.result true (number_text (pos c.in_ok-count.count) ++ 10 ∷ []) took after = search rules in
    count_stated c.args.names.now (g.E.Engine.seen c.args.engine.now) (g.E.Engine.seen c.count_entries.new.engine) c.args.held.now env c.in-Some.a c.requires.count shown found line
    c.in_ok-count.count c.write_line.result (g.K.Sink.took c.args.out.now) (g.K.Sink.took c.write_line.new.out) c.count_entries.ensures.unchanged c.in_ok-count.ensures.counted
    written

pub returns-clause-going : goal.returns-clause-going
returns-clause-going g c = stays_still (g.E.Engine.seen c.args.engine.now) (g.E.Engine.seen c.count_entries.new.engine) c.args.held.now c.requires.well c.count_entries.ensures.unchanged
