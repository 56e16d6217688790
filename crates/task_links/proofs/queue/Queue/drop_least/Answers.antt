use Rattle.std.specs.BinaryHeap.{heap_items}
use Rattle.task_links.proofs.Queues.{rest_of, empty_from_len}
use Rattle.task_links.proofs.queue.Queue.drop_least.Goals as goal

pub returns-clause-rest : goal.returns-clause-rest
returns-clause-rest c = λ least is q.
    let e = c.pop-least.ensures in
    rest_of (heap_items c.args.self.now.heap) (heap_items c.pop-least.new.self) c.pop-least.result c.requires.queue e.permutation e.heap_order
    (empty_from_len c.pop-least.result (heap_items c.args.self.now.heap) _ c.args.self.now.heap.data.ok.0 e.none) least is.0 is.1 q
