use Rattle.std.proofs.Common.{ℕ, ◌≤◌, get_or, sym, ap, ◌∙◌, ◌+◌, subst, IsPermutation}
use Rattle.std.specs.List.{filter}
use Rattle.mm_text.specs.Places.{are_rising, is_shared, places_of, slot_of}
use Rattle.mm_text.proofs.Repeats.{apart_once, apart_sorted, slot_within}
use Rattle.mm_text.proofs.places.are_apart.Goals as goal

pub returns-then-not-again-clause-apart : goal.returns-then-not-again-clause-apart
returns-then-not-again-clause-apart c _ =
    let (first, long, low, marks) = c.in_ok-marks.ensures.marks in
    let slots = c.slots_for-slots.result in
    let width = c.from-width.result + 1 in
    apart_once slots width first c.args.listed.now (λ x. slot_within slots width x c.slots_for-slots.ensures.some) long low
    (subst (λ ms. (i : ℕ) → get_or ms i 0 ≤ 1) marks (c.in_ok-marks.ensures.once c.if-not-again.true))

pub returns-clause-apart : goal.returns-clause-apart
returns-clause-apart c rises =
    let (first, long, low, marks) = c.in_ok-marks.ensures.marks in
    let slots = c.slots_for-slots.result in
    let width = c.from-width.result + 1 in
    apart_sorted slots width first c.args.listed.now c.sort_unstable.new.self.items (λ x. slot_within slots width x c.slots_for-slots.ensures.some) long low
    (subst (λ ns. IsPermutation ns c.sort_unstable.new.self.items)
    (c.in_ok-places.ensures.places ∙ ap (λ ms. places_of (filter (is_shared (slot_of slots width) ms) c.args.listed.now)) (c.deref.ensures.value ∙ marks))
    c.sort_unstable.ensures.permutation)
    (sym (c.are_rising.ensures ∙ ap are_rising c.deref-2.ensures.value) ∙ rises)
