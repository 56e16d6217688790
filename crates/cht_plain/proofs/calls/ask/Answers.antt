use Rattle.std.proofs.Common.{sym, ap, subst}
use Rattle.core_state.specs.Contents.{Contents}
use Rattle.cht_engine.specs.Calls.{trees_named}
use Rattle.cht_plain.specs.Alone.{seen_of, IsAtRest}
use Rattle.cht_plain.proofs.Asked.{asked_so, not_asked, awaits_goal}
use Rattle.cht_plain.proofs.calls.ask.Goals as goal

pub serve-requires-clause-awaits : goal.serve-requires-clause-awaits
serve-requires-clause-awaits g c κs within =
    let lib = g.L.Library.meanings in
    let first = seen_of lib c.args.core.now in (
      lib.goal c.args.kind (trees_named first c.args.inputs.now),
      awaits_goal lib first c.args.kind c.args.inputs.now c.in-Ok.task c.requires.rest.asks (seen_of lib c.enter.new.core) c.in-Ok.ensures.seen,
    )

pub returns-in-Ok-clause-asked : goal.returns-in-Ok-clause-asked
returns-in-Ok-clause-asked g c =
    let lib = g.L.Library.meanings in
    asked_so lib (seen_of lib c.args.core.now) c.args.kind c.args.inputs.now c.in-Ok.task c.requires.rest.asks (seen_of lib c.enter.new.core) (seen_of lib c.serve.new.core)
    c.serve.result c.in-Ok.ensures.seen c.serve.ensures.served

pub returns-in-Err-clause-rest : goal.returns-in-Err-clause-rest
returns-in-Err-clause-rest g c =
    subst (λ (core : Contents g.row.L-Chunk.Denot g.row.L-Kind.Denot). IsAtRest g.L.Library.meanings core) (sym c.in-Err.ensures.unchanged) c.requires.rest

pub returns-in-Err-clause-asked : goal.returns-in-Err-clause-asked
returns-in-Err-clause-asked g c =
    let lib = g.L.Library.meanings in
    not_asked lib (seen_of lib c.args.core.now) (seen_of lib c.enter.new.core) c.args.kind c.args.inputs.now c.in-Err.memory c.requires.rest.asks
    (ap (seen_of lib) c.in-Err.ensures.unchanged)
