use Rattle.task_links.proofs.Queues.{queued_put}
use Rattle.task_links.proofs.queue.Queue.push.Goals as goal

pub returns-clause-queued : goal.returns-clause-queued
returns-clause-queued c = λ q.
    let perm = rw c.unwrap.ensures at c.push-reserved.ensures.permutation in
    queued_put _ _ _ perm q
