use Rattle.std.proofs.Common.{rules, ◌≡◌, [], ◌∷◌, ◌++◌, length, ap, ◌∙◌}
use Rattle.steal_deque.specs.Groups.{AreAll, reach_of}
use Rattle.thread_tests.specs.declared.deque_tests.Worker.{Worker}
use Rattle.thread_tests.proofs.Crew
use Rattle.thread_tests.proofs.deque_tests.crew.Goals as goal

pub loop-own-init : goal.loop-own-init
loop-own-init c = Crew.forms (λ (worker : Worker). worker.own) (λ (worker : Worker). worker.thief) c.into_vec-owns.result.items c.into_vec-thieves.result.items c.new-workers.result.items c.new-workers.ensures.items

pub unreachable-requires : goal.unreachable-requires
unreachable-requires c =
    let are : AreAll c.into_vec-owns.result.items c.into_vec-thieves.result.items = Crew.shown c.into_vec-owns.result.items c.args.owns c.into_vec-thieves.result.items c.args.thieves c.into_vec-owns.ensures c.into_vec-thieves.ensures c.requires.0 in
    let popped : c.loop-own.owns.items ≡ c.pop.new.self.items ++ c.in-Some.own ∷ [] = search rules in
    let none : c.loop-own.thieves.items ≡ [] = search rules in
    Crew.none_short (λ (worker : Worker). worker.own) (λ (worker : Worker). worker.thief) c.into_vec-owns.result.items c.into_vec-thieves.result.items c.loop-own.owns.items c.pop.new.self.items c.loop-own.thieves.items c.loop-own.workers.items c.in-Some.own c.loop-own.invariant are popped none

pub invariant_of-push : goal.invariant_of-push
invariant_of-push c =
    let are : AreAll c.into_vec-owns.result.items c.into_vec-thieves.result.items = Crew.shown c.into_vec-owns.result.items c.args.owns c.into_vec-thieves.result.items c.args.thieves c.into_vec-owns.ensures c.into_vec-thieves.ensures c.requires.0 in
    let popped : c.loop-own.thieves.items ≡ c.pop-in-Some.new.self.items ++ c.in-Some-pop.thief ∷ [] = search rules in
    let reach : reach_of c.in-Some-pop.thief ≡ length c.into_vec-owns.result.items = Crew.reaches (λ (worker : Worker). worker.own) (λ (worker : Worker). worker.thief) c.into_vec-owns.result.items c.into_vec-thieves.result.items c.loop-own.owns.items c.loop-own.thieves.items c.pop-in-Some.new.self.items c.loop-own.workers.items c.in-Some-pop.thief c.loop-own.invariant are popped in
    record { reaches = reach ∙ ap length c.into_vec-owns.ensures ∙ c.requires.1 }

pub loop-own-preserved : goal.loop-own-preserved
loop-own-preserved c =
    let owned : c.loop-own.owns.items ≡ c.pop.new.self.items ++ c.in-Some.own ∷ [] = search rules in
    let thieving : c.loop-own.thieves.items ≡ c.pop-in-Some.new.self.items ++ c.in-Some-pop.thief ∷ [] = search rules in
    rw (c.in_ok-push.ensures.items) (Crew.forms_one (λ (worker : Worker). worker.own) (λ (worker : Worker). worker.thief) c.into_vec-owns.result.items c.into_vec-thieves.result.items c.loop-own.owns.items c.pop.new.self.items c.loop-own.thieves.items c.pop-in-Some.new.self.items c.loop-own.workers.items _ c.loop-own.invariant owned thieving)

pub returns : goal.returns
returns c =
    let are : AreAll c.into_vec-owns.result.items c.into_vec-thieves.result.items = Crew.shown c.into_vec-owns.result.items c.args.owns c.into_vec-thieves.result.items c.args.thieves c.into_vec-owns.ensures c.into_vec-thieves.ensures c.requires.0 in
    let none : c.loop-own.owns.items ≡ [] = search rules in
    Crew.formed (λ (worker : Worker). worker.own) (λ (worker : Worker). worker.thief) c.into_vec-owns.result.items c.into_vec-thieves.result.items c.loop-own.owns.items c.loop-own.thieves.items c.loop-own.workers.items c.loop-own.invariant are none
