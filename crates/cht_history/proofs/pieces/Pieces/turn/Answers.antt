use Rattle.std.proofs.Common.{◌≡◌, ◌⊎◌, inl, inr, ◌+◌, ◌-◌, ◌*◌, ◌≤◌, List, [], ◌∷◌, ◌++◌, length, vec_items, vec_len, vec_capacity, arith, sym, ap, ◌∙◌, ◌==◌, refl}
use Rattle.std.specs.List.{flat_map, AllByRecursion}
use Rattle.cht_history.proofs.PieceLists.{all_push, first_of_two, last_empty, same_events, some_there, none_there, nothing_in}
use Rattle.cht_history.proofs.pieces.Pieces.turn.Goals as goal

pub returns-then-not-is_empty-clause-pieced : goal.returns-then-not-is_empty-clause-pieced
returns-then-not-is_empty-clause-pieced g c =
    let next = last_empty (λ piece. vec_items piece) (λ piece. vec_capacity piece) c.args.self.now.spares.items c.pop.new.self.items c.in-Some.next c.in-Some.ensures.items c.requires.pieced.spares in
    let some : 1 ≤ vec_len c.args.self.now.current = some_there _ (ap (λ piece. vec_len piece == 0) (sym c.replace-done.ensures.value) ∙ sym c.is_empty.ensures ∙ c.if-not-is_empty.true) in
    let whole : vec_capacity c.args.self.now.current ≡ 1024 = first_of_two _ 1024 c.requires.pieced.current (omega (arith, some, c.requires.full)) in
    record {
      full = rw c.push_reserved.ensures.items (all_push (λ piece. length (vec_items piece) ≡ 1024) c.args.self.now.full.items c.replace-done.result c.requires.pieced.full (omega (arith, ap (λ piece. vec_len piece) c.replace-done.ensures.value, c.replace-done.result.ok.0, whole, c.requires.full)));
      current = rw c.replace-done.ensures.after (inl next.1.1);
      within = rw c.replace-done.ensures.after (omega (arith, next.1.0, next.1.1, c.in-Some.next.ok.0));
      spares = next.0;
      room = omega (arith, c.push_reserved.ensures.len, c.push_reserved.ensures.capacity, c.in-Some.ensures.len, c.requires.pieced.room);
      few = omega (arith, c.push_reserved.ensures.len, c.in-Some.ensures.len, c.requires.pieced.few);
    }

pub returns-then-not-is_empty-clause-events : goal.returns-then-not-is_empty-clause-events
returns-then-not-is_empty-clause-events g c =
    let next = last_empty (λ piece. vec_items piece) (λ piece. vec_capacity piece) c.args.self.now.spares.items c.pop.new.self.items c.in-Some.next c.in-Some.ensures.items c.requires.pieced.spares in
    rw c.replace-done.ensures.after (same_events (λ piece. vec_items piece) (λ piece. vec_capacity piece) c.args.self.now.full.items c.push_reserved.new.self.items c.replace-done.result c.in-Some.next c.args.self.now.current.items c.push_reserved.ensures.items (ap (λ piece. vec_items piece) c.replace-done.ensures.value) next.1.0)

pub returns-then-not-is_empty-clause-room : goal.returns-then-not-is_empty-clause-room
returns-then-not-is_empty-clause-room g c =
    let next = last_empty (λ piece. vec_items piece) (λ piece. vec_capacity piece) c.args.self.now.spares.items c.pop.new.self.items c.in-Some.next c.in-Some.ensures.items c.requires.pieced.spares in
    rw c.replace-done.ensures.after (omega (arith, next.1.0, next.1.1, c.in-Some.next.ok.0, c.in-Some.ensures.len, c.requires.full))

pub returns-then-not-is_empty-clause-ready : goal.returns-then-not-is_empty-clause-ready
returns-then-not-is_empty-clause-ready g c =
    let next = last_empty (λ piece. vec_items piece) (λ piece. vec_capacity piece) c.args.self.now.spares.items c.pop.new.self.items c.in-Some.next c.in-Some.ensures.items c.requires.pieced.spares in
    rw c.replace-done.ensures.after (omega (arith, next.1.0, next.1.1, c.in-Some.next.ok.0))

pub returns-else-not-is_empty-clause-events : goal.returns-else-not-is_empty-clause-events
returns-else-not-is_empty-clause-events g c =
    let next = last_empty (λ piece. vec_items piece) (λ piece. vec_capacity piece) c.args.self.now.spares.items c.pop.new.self.items c.in-Some.next c.in-Some.ensures.items c.requires.pieced.spares in
    let none : vec_len c.args.self.now.current ≡ 0 = none_there _ (ap (λ piece. vec_len piece == 0) (sym c.replace-done.ensures.value) ∙ sym c.is_empty.ensures ∙ c.if-not-is_empty.false) in
    let empty : c.args.self.now.current.items ≡ [] = nothing_in _ (omega (arith, none, c.args.self.now.current.ok.0)) in
    rw (c.replace-done.ensures.after, nothing_in c.in-Some.next.items next.1.0, empty) refl

pub returns-else-not-is_empty-clause-room : goal.returns-else-not-is_empty-clause-room
returns-else-not-is_empty-clause-room g c =
    let next = last_empty (λ piece. vec_items piece) (λ piece. vec_capacity piece) c.args.self.now.spares.items c.pop.new.self.items c.in-Some.next c.in-Some.ensures.items c.requires.pieced.spares in
    rw c.replace-done.ensures.after (omega (arith, next.1.0, next.1.1, c.in-Some.next.ok.0, c.in-Some.ensures.len, c.requires.full))

pub returns-else-not-is_empty-clause-ready : goal.returns-else-not-is_empty-clause-ready
returns-else-not-is_empty-clause-ready g c =
    let next = last_empty (λ piece. vec_items piece) (λ piece. vec_capacity piece) c.args.self.now.spares.items c.pop.new.self.items c.in-Some.next c.in-Some.ensures.items c.requires.pieced.spares in
    rw c.replace-done.ensures.after (omega (arith, next.1.0, next.1.1, c.in-Some.next.ok.0))
