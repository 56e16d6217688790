use Rattle.std.proofs.Common.{◌<◌, length}
use Rattle.std.specs.BinaryHeap.{heap_items}
use Rattle.task_links.proofs.Queues.{bound_of, first_queued}
use Rattle.task_links.proofs.queue.Queue.least.Goals as goal

pub returns-in-Some : goal.returns-in-Some
returns-in-Some c =
    let items = heap_items c.args.self.now.heap in
    let some : 0 < length items = c.in-Some.ensures.item.3.0 in
    (first_queued items c.in-Some.least.now c.in-Some.least.now some c.in-Some.ensures.lookup, λ q is. bound_of items c.in-Some.least.now (c.in-Some.ensures.greatest c.requires) q is)
