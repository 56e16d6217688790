use Rattle.std.proofs.Common.{sym, ap, ◌∙◌, None, arith, rules}
use Rattle.std.proofs.lemmas.List.Sorted.{IsNonDecreasingBy-from_sort_by_key}
use Rattle.mm_text.specs.Places.{rank_of, least_repeat}
use Rattle.mm_text.proofs.Repeats.{ranks_from_sorted, first_repeat_sorted, rise_sorted}
use Rattle.mm_text.proofs.places.sort_by_place.Goals as goal

pub returns-clause-repeat : goal.returns-clause-repeat
returns-clause-repeat c =
    let old = c.args.listed.now.items in
    let new = c.sort_unstable_by_key.new.self.items in
    let sorted = IsNonDecreasingBy-from_sort_by_key rank_of new c.sort_unstable_by_key.ensures.sorted (λ a r f' q. search rules) in
    c.least_repeat.ensures ∙ ap (least_repeat None) c.deref.ensures.value
    ∙ first_repeat_sorted 0 old new c.sort_unstable_by_key.ensures.permutation c.requires (ranks_from_sorted new 0 sorted (λ d some. omega arith))

pub returns-clause-rising : goal.returns-clause-rising
returns-clause-rising c none =
    let old = c.args.listed.now.items in
    let new = c.sort_unstable_by_key.new.self.items in
    let sorted = IsNonDecreasingBy-from_sort_by_key rank_of new c.sort_unstable_by_key.ensures.sorted (λ a r f' q. search rules) in
    let least = sym (c.least_repeat.ensures ∙ ap (least_repeat None) c.deref.ensures.value) ∙ none in
    rise_sorted 0 old new c.sort_unstable_by_key.ensures.permutation c.requires (ranks_from_sorted new 0 sorted (λ d some. omega arith)) least
