use Rattle.std.proofs.Common.{◌∙◌, nat_eq, ap, arith}
use Rattle.std.specs.Map.{lookup}
use Rattle.std.specs.Option.{option_map}
use Rattle.task_states.specs.States.{status_of}
use Rattle.task_states.proofs.Options.{map_behind}
use Rattle.task_links.specs.Inside.{shown_entry}
use Rattle.task_links.specs.Kept.{opened}
use Rattle.task_graph.proofs.Refilling.{refill_start, refill_room, refill_at, refill_step, refill_end}
use Rattle.task_graph.proofs.held.refill.Goals as goal

pub loop-number-init : goal.loop-number-init
loop-number-init g c = (
  c.clear.ensures.queue,
  (let same = c.clear.ensures.capacity in omega arith),
  refill_start c.args.entries.now.tasks.entries c.into_iter-number-iterator.result c.clear.new.self (c.into_iter-number-iterator.ensures.into_iter_gives ∙ c.iter-number-items.ensures.rest) c.clear.ensures.len,
)

pub offer-requires-clause-short : goal.offer-requires-clause-short
offer-requires-clause-short g c =
    c.requires.short c.in-Some.number.now (opened c.in-Some.kept.now)
    (ap (option_map opened) (refill_at c.args.entries.now.tasks.entries c.in-Some.number.now c.in-Some.kept.now c.loop-number.number-iterator c.next.new.self c.loop-number.ready c.in-Some.ensures.steps c.loop-number.invariant.2 c.iter-number-items.ensures.unique))

pub offer-requires-clause-room : goal.offer-requires-clause-room
offer-requires-clause-room g c =
    let low = refill_room c.args.entries.now.tasks.entries c.in-Some.number.now c.in-Some.kept.now c.loop-number.number-iterator c.next.new.self c.loop-number.ready c.in-Some.ensures.steps c.loop-number.invariant.2 in
    let room = c.requires.room in
    let more = c.loop-number.invariant.1 in
    omega arith

pub loop-number-preserved : goal.loop-number-preserved
loop-number-preserved g c =
    let more = c.loop-number.invariant.1 in
    let next = c.offer.ensures.capacity in (
      c.offer.ensures.queue,
      omega arith,
      refill_step c.args.entries.now.tasks.entries c.in-Some.number.now c.in-Some.kept.now c.loop-number.number-iterator c.next.new.self c.loop-number.ready c.offer.new.ready c.in-Some.ensures.steps c.loop-number.invariant.2 c.offer.ensures.here c.offer.ensures.rest c.offer.ensures.len,
    )

pub returns-clause-queued : goal.returns-clause-queued
returns-clause-queued g c = λ q entry at status.
    let kept = map_behind opened (lookup (nat_eq q) c.args.entries.now.tasks.entries) entry at in
    refill_end c.args.entries.now.tasks.entries c.loop-number.number-iterator c.loop-number.ready c.in-None.ensures.steps.0 c.loop-number.invariant.2 q kept.0 kept.1
    (ap (λ e. status_of (shown_entry e)) kept.2 ∙ status)
