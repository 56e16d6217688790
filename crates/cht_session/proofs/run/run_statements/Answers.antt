use Rattle.std.proofs.Common.{◌+◌, List, drop, sym, subst, arith}
use Rattle.std.proofs.lemmas.List.{drop_all}
use Rattle.cht_script.specs.declared.checked.Step.{Step}
use Rattle.cht_session.proofs.Underway.{IsUnderway, next_step, underway_begins, underway_ready, underway_next, underway_ends, underway_ran, underway_stops}
use Rattle.cht_session.proofs.run.run_statements.Goals as goal

pub loop-step-init : goal.loop-step-init
loop-step-init g c =
    let checked = c.args.checked.now in
    let seen = g.E.Engine.seen c.args.engine.now in
    let took = g.K.Sink.took c.args.out.now in
    record {
      same = c.as_slice-step-items.ensures;
      later = omega arith;
      underway =
          subst (λ (steps : List Step). IsUnderway checked.grid checked.leaf checked.height checked.steps steps seen seen c.args.held.now took took) (sym c.as_slice-step-items.ensures)
          (underway_begins checked.grid checked.leaf checked.height checked.steps seen c.args.held.now took c.requires.empty c.requires.idle c.requires.nothing c.requires.order
          c.requires.same_leaf c.requires.same_height c.requires.leaf c.requires.small c.requires.height c.requires.steps);
    }

pub act-requires-clause-ready : goal.act-requires-clause-ready
act-requires-clause-ready g c =
    let checked = c.args.checked.now in
    let items = c.as_slice-step-items.result.now in
    let i = c.loop-step.step-index in
    let before = g.E.Engine.seen c.args.engine.now in
    let now = g.E.Engine.seen c.loop-step.engine in
    let taken = g.K.Sink.took c.args.out.now in
    let took = g.K.Sink.took c.loop-step.out in
    let next = next_step items i c.step-item.result (omega (arith, c.loop-step-test.true)) c.step-item.is in
    underway_ready checked.grid checked.leaf checked.height checked.steps before taken c.step-item.result (drop (i + 1) items) now c.loop-step.held took c.requires.grid
    (subst (λ (steps : List Step). IsUnderway checked.grid checked.leaf checked.height checked.steps steps before now c.loop-step.held taken took) next c.loop-step.invariant.underway)

pub returns-in-Err-clause-ran : goal.returns-in-Err-clause-ran
returns-in-Err-clause-ran g c =
    let checked = c.args.checked.now in
    let items = c.as_slice-step-items.result.now in
    let i = c.loop-step.step-index in
    let before = g.E.Engine.seen c.args.engine.now in
    let now = g.E.Engine.seen c.loop-step.engine in
    let after = g.E.Engine.seen c.act.new.engine in
    let taken = g.K.Sink.took c.args.out.now in
    let took = g.K.Sink.took c.loop-step.out in
    let next = next_step items i c.step-item.result (omega (arith, c.loop-step-test.true)) c.step-item.is in
    underway_ran checked.grid checked.leaf checked.height checked.steps before taken c.step-item.result (drop (i + 1) items) now after c.loop-step.held c.act.new.held took
    (g.K.Sink.took c.act.new.out) c.in-Err.stop c.stopped.result
    (subst (λ (steps : List Step). IsUnderway checked.grid checked.leaf checked.height checked.steps steps before now c.loop-step.held taken took) next c.loop-step.invariant.underway)
    c.in-Err.ensures.acts (rw c.line.ensures at c.stopped.ensures)

pub returns-in-Err-clause-program : goal.returns-in-Err-clause-program
returns-in-Err-clause-program g c =
    let checked = c.args.checked.now in
    let items = c.as_slice-step-items.result.now in
    let i = c.loop-step.step-index in
    let before = g.E.Engine.seen c.args.engine.now in
    let now = g.E.Engine.seen c.loop-step.engine in
    let after = g.E.Engine.seen c.act.new.engine in
    let taken = g.K.Sink.took c.args.out.now in
    let took = g.K.Sink.took c.loop-step.out in
    let next = next_step items i c.step-item.result (omega (arith, c.loop-step-test.true)) c.step-item.is in
    underway_stops checked.grid checked.leaf checked.height checked.steps before taken c.step-item.result (drop (i + 1) items) now after c.loop-step.held c.act.new.held took
    (g.K.Sink.took c.act.new.out) c.in-Err.stop c.stopped.result
    (subst (λ (steps : List Step). IsUnderway checked.grid checked.leaf checked.height checked.steps steps before now c.loop-step.held taken took) next c.loop-step.invariant.underway)
    c.in-Err.ensures.acts (rw c.line.ensures at c.stopped.ensures)

pub loop-step-preserved : goal.loop-step-preserved
loop-step-preserved g c =
    let checked = c.args.checked.now in
    let items = c.as_slice-step-items.result.now in
    let i = c.loop-step.step-index in
    let before = g.E.Engine.seen c.args.engine.now in
    let now = g.E.Engine.seen c.loop-step.engine in
    let after = g.E.Engine.seen c.act.new.engine in
    let taken = g.K.Sink.took c.args.out.now in
    let took = g.K.Sink.took c.loop-step.out in
    let next = next_step items i c.step-item.result (omega (arith, c.loop-step-test.true)) c.step-item.is in
    record {
      same = c.loop-step.invariant.same;
      later = omega (arith, c.loop-step.invariant.later, c.in-Ok.ensures.later);
      underway =
          underway_next checked.grid checked.leaf checked.height checked.steps before taken c.step-item.result (drop (i + 1) items) now after c.loop-step.held c.act.new.held took
          (g.K.Sink.took c.act.new.out) tt
          (subst (λ (steps : List Step). IsUnderway checked.grid checked.leaf checked.height checked.steps steps before now c.loop-step.held taken took) next c.loop-step.invariant.underway)
          c.in-Ok.ensures.acts;
    }

pub returns-clause-ran : goal.returns-clause-ran
returns-clause-ran g c =
    let checked = c.args.checked.now in
    let before = g.E.Engine.seen c.args.engine.now in
    let now = g.E.Engine.seen c.loop-step.engine in
    let taken = g.K.Sink.took c.args.out.now in
    let took = g.K.Sink.took c.loop-step.out in
    (underway_ends checked.grid checked.leaf checked.height checked.steps before taken now c.loop-step.held took
    (subst (λ (steps : List Step). IsUnderway checked.grid checked.leaf checked.height checked.steps steps before now c.loop-step.held taken took)
    (drop_all c.loop-step.step-index c.as_slice-step-items.result.now c.loop-step-test.false) c.loop-step.invariant.underway)).0

pub returns-clause-program : goal.returns-clause-program
returns-clause-program g c =
    let checked = c.args.checked.now in
    let before = g.E.Engine.seen c.args.engine.now in
    let now = g.E.Engine.seen c.loop-step.engine in
    let taken = g.K.Sink.took c.args.out.now in
    let took = g.K.Sink.took c.loop-step.out in
    (underway_ends checked.grid checked.leaf checked.height checked.steps before taken now c.loop-step.held took
    (subst (λ (steps : List Step). IsUnderway checked.grid checked.leaf checked.height checked.steps steps before now c.loop-step.held taken took)
    (drop_all c.loop-step.step-index c.as_slice-step-items.result.now c.loop-step-test.false) c.loop-step.invariant.underway)).1

pub returns-clause-left : goal.returns-clause-left
returns-clause-left g c =
    let checked = c.args.checked.now in
    let before = g.E.Engine.seen c.args.engine.now in
    let now = g.E.Engine.seen c.loop-step.engine in
    let taken = g.K.Sink.took c.args.out.now in
    let took = g.K.Sink.took c.loop-step.out in
    (underway_ends checked.grid checked.leaf checked.height checked.steps before taken now c.loop-step.held took
    (subst (λ (steps : List Step). IsUnderway checked.grid checked.leaf checked.height checked.steps steps before now c.loop-step.held taken took)
    (drop_all c.loop-step.step-index c.as_slice-step-items.result.now c.loop-step-test.false) c.loop-step.invariant.underway)).2
