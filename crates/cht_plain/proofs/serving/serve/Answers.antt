use Rattle.std.proofs.Common.{◌≡◌, true, false, sym, ap, subst, ◌∙◌}
use Rattle.core_state.specs.Contents.{Contents}
use Rattle.task_states.specs.Awaiters.{IsRunnable}
use Rattle.cht_core.specs.Events.{state}
use Rattle.cht_plain.specs.Alone.{seen_of}
use Rattle.cht_plain.proofs.Served.{asked_still, ready_still, got_rests, got_served, left_rests, left_served}
use Rattle.cht_plain.proofs.serving.serve.Goals as goal

pub collect-requires-clause-asked : goal.collect-requires-clause-asked
collect-requires-clause-asked g c κs within =
    asked_still g.L.Library.meanings g.L.Chunk.Payload.arity c.args.core.now c.loop-r.core c.args.task c.loop-r.invariant.waiting c.loop-r.invariant.seen c.requires.awaits

pub returns-in-Got-clause-rest : goal.returns-in-Got-clause-rest
returns-in-Got-clause-rest g c =
    got_rests g.L.Library.meanings g.L.Chunk.Payload.arity c.args.core.now c.loop-r.core c.args.task c.loop-r.invariant.waiting c.loop-r.invariant.seen c.collect.new.self
    c.requires.awaits c.stands.ensures.comes.run c.stands.ensures.facts c.in-Got.r c.in-Got.ensures

pub returns-in-Got-clause-served : goal.returns-in-Got-clause-served
returns-in-Got-clause-served g c =
    got_served g.L.Library.meanings g.L.Chunk.Payload.arity c.args.core.now c.loop-r.core c.args.task c.loop-r.invariant.waiting c.loop-r.invariant.seen c.collect.new.self
    c.stands.ensures.comes.run c.stands.ensures.facts c.in-Got.r c.in-Got.ensures

pub unreachable-requires : goal.unreachable-requires
unreachable-requires g c = let clash : false ≡ true = sym c.loop-r.invariant.waiting.going ∙ c.in-Stopped.ensures.0 in cc

pub work-requires-clause-ready : goal.work-requires-clause-ready
work-requires-clause-ready g c κs within =
    let here = c.in-NotYet.ensures.2 in
    let ready = ready_still g.L.Library.meanings g.L.Chunk.Payload.arity c.args.core.now c.loop-r.core c.args.task c.loop-r.invariant.waiting c.loop-r.invariant.seen
    c.requires.awaits c.stands.ensures.facts c.in-NotYet.ensures.0 in
    (ready.0, subst (λ (core : Contents g.row.L-Chunk.Denot g.row.L-Kind.Denot). IsRunnable (state g.L.Library.meanings core).graph ready.0) (sym here) ready.1)

pub returns-in-Err-clause-rest : goal.returns-in-Err-clause-rest
returns-in-Err-clause-rest g c =
    left_rests g.L.Library.meanings g.L.Chunk.Payload.arity c.args.core.now c.work.new.core c.args.task c.work.ensures.waiting (c.work.ensures.seen ∙ ap (seen_of g.L.Library.meanings) c.in-NotYet.ensures.2 ∙ c.loop-r.invariant.seen) c.abandon.new.self
    c.requires.awaits c.abandon.result c.abandon.ensures

pub returns-in-Err-clause-served : goal.returns-in-Err-clause-served
returns-in-Err-clause-served g c =
    left_served g.L.Library.meanings g.L.Chunk.Payload.arity c.args.core.now c.work.new.core c.args.task c.work.ensures.waiting (c.work.ensures.seen ∙ ap (seen_of g.L.Library.meanings) c.in-NotYet.ensures.2 ∙ c.loop-r.invariant.seen) c.abandon.new.self
    c.requires.awaits c.abandon.result c.abandon.ensures
