use Rattle.thread_tests.specs.declared.deque_tests.Worker.{Worker}
use Rattle.thread_tests.proofs.Crew
use Rattle.thread_tests.proofs.deque_tests.run.Goals as goal

pub settled-requires : goal.settled-requires
settled-requires g c = Crew.crew_stays (λ (worker : Worker). worker.own) (λ (worker : Worker). worker.thief) c.in_ok-workers.workers.items c.race.new.workers.items c.race.ensures.len c.race.ensures.ends c.in_ok-workers.ensures
