use Rattle.std.proofs.Common.{◌≡◌, ◌∙◌, Some, refl, sym, subst}
use Rattle.cht_script.specs.Meaning.{Acts as Does}
use Rattle.cht_script.specs.Reading.{names_of}
use Rattle.cht_script.specs.declared.script.Verb.TheVariants.{Print}
use Rattle.cht_session.specs.Bindings.{found_in}
use Rattle.cht_session.specs.Running.{Acts}
use Rattle.cht_session.proofs.Doing.{stays_still}
use Rattle.cht_session.proofs.Writing.{name_mentioned, name_block, print_stated, stopped_fault}
use Rattle.cht_session.proofs.texts.print.Goals as goal

pub returns-in_default-clause-going : goal.returns-in_default-clause-going
returns-in_default-clause-going g c = let seen = g.E.Engine.seen c.args.engine.now in stays_still seen seen c.args.held.now c.requires.well refl

pub print_entries-requires-clause-held : goal.print_entries-requires-clause-held
print_entries-requires-clause-held g c =
    let seen = g.E.Engine.seen c.args.engine.now in
    name_mentioned seen seen c.args.held.now c.requires.well.0 _ c.in-Some.a c.requires.well.1 (sym c.in-Some.ensures)

pub print_entries-requires-clause-canonical : goal.print_entries-requires-clause-canonical
print_entries-requires-clause-canonical g c =
    let seen = g.E.Engine.seen c.args.engine.now in
    name_block seen seen c.args.held.now c.requires.well.0 _ c.in-Some.a c.requires.well.1 (sym c.in-Some.ensures)

pub returns-clause-acts : goal.returns-clause-acts
returns-clause-acts g c = λ line env shown.
    let seen = g.E.Engine.seen c.args.engine.now in
    let now = g.E.Engine.seen c.print_entries.new.engine in
    let took = g.K.Sink.took c.args.out.now in
    let after = g.K.Sink.took c.print_entries.new.out in
    let found = subst (λ n. found_in c.args.held.now n ≡ Some c.in-Some.a) c.as_bytes.ensures (sym c.in-Some.ensures) in
    subst (λ answer. Acts env (Does line Print (names_of c.args.names.now)) answer seen c.args.held.now now c.args.held.now took after) (sym c.stopped.ensures)
    (print_stated c.args.names.now seen now c.args.held.now env c.in-Some.a c.requires.count shown found line c.print_entries.result took after
    c.print_entries.ensures.unchanged c.print_entries.ensures.printed)

pub returns-clause-going : goal.returns-clause-going
returns-clause-going g c = stays_still (g.E.Engine.seen c.args.engine.now) (g.E.Engine.seen c.print_entries.new.engine) c.args.held.now c.requires.well c.print_entries.ensures.unchanged

pub returns-clause-cause : goal.returns-clause-cause
returns-clause-cause g c = λ failed. c.print_entries.ensures.cause (stopped_fault c.print_entries.result (sym c.stopped.ensures ∙ failed))
