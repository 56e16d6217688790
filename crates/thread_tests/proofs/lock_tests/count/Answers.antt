use Rattle.std.proofs.Common.{◌≡◌, ◌++◌, ◌∷◌, [], sym, arith, ap, ◌∙◌}
use Rattle.thread_tests.proofs.TwoSeats
use Rattle.thread_tests.proofs.lock_tests.count.Goals as goal

pub join-first-requires-after_bounds : goal.join-first-requires-after_bounds
join-first-requires-after_bounds g c κs outlives =
    let is = TwoSeats.two_seats c.in_ok-lock.lock (0 ∷ 0 ∷ []) c.in_ok-lock.seats c.pop.new.self.items c.pop-2.new.self.items c.in-Some-pop.first c.in-Some.second c.in_ok-lock.ensures.seated c.in_ok-lock.ensures.count (sym c.into_vec-seats.ensures ∙ c.in-Some.ensures.items) c.in-Some-pop.ensures.items in
    let zero = is.0.1 in
    let one = is.1.1 in ((is.0.0, omega (arith, zero), is.0.2), (is.1.0, omega (arith, one), is.1.2))

pub close-requires : goal.close-requires
close-requires g c =
    let is = TwoSeats.two_seats c.in_ok-lock.lock (0 ∷ 0 ∷ []) c.in_ok-lock.seats c.pop.new.self.items c.pop-2.new.self.items c.in-Some-pop.first c.in-Some.second c.in_ok-lock.ensures.seated c.in_ok-lock.ensures.count (sym c.into_vec-seats.ensures ∙ c.in-Some.ensures.items) c.in-Some-pop.ensures.items in
    let first = c.join-first.ensures.first in
    let second = c.join-first.ensures.second in
    let pushed : c.push-2.new.self ≡ c.join-first.result.0 ∷ c.join-first.result.1 ∷ [] = c.in-Ok-push.ensures.ok ∙ ap (λ l. l ++ c.join-first.result.1 ∷ []) (c.in-Ok.ensures.ok ∙ ap (λ l. l ++ c.join-first.result.0 ∷ []) c.new-seats.ensures) in
    rw pushed (TwoSeats.all_seats c.in_ok-lock.lock c.join-first.result.0 c.join-first.result.1 (first.0, first.1 ∙ is.0.1, first.2) (second.0, second.1 ∙ is.1.1, second.2) c.in_ok-lock.ensures.count)
