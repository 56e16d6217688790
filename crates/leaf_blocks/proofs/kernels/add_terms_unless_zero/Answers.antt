use Rattle.std.proofs.Common.{◌≡◌, ℕ, ◌+◌, ◌-◌, ◌<◌, pos, drop, length, refl, sym, ◌∙◌, arith, length-take, length-drop}
use Rattle.std.proofs.lemmas.List.{get_or-take, get_or-drop}
use Rattle.leaf_blocks.specs.Block.{number_at}
use Rattle.leaf_blocks.proofs.Terms.{zero_terms}
use Rattle.leaf_blocks.proofs.kernels.add_terms_unless_zero.Goals as goal

pub returns-else-not-are_zero-clause-sums : goal.returns-else-not-are_zero-clause-sums
returns-else-not-are_zero-clause-sums c = λ j h.
    let none : (k : ℕ) → k < 8 → number_at c.args.factors.now (c.args.from + k) ≡ pos 0 =
    λ k low.
    sym (get_or-drop c.args.from c.args.factors.now k (pos 0))
    ∙ sym (get_or-take (c.args.from + 8 - c.args.from) (drop c.args.from c.args.factors.now) k (pos 0) (omega arith))
    ∙ c.if-not-are_zero.ensures.0 refl k (pos 0) (simp (length-take, length-drop) (omega arith)) in
    c.requires.before j h ∙ sym (zero_terms c.args.factors.now c.args.other.now (length c.args.row.now) j c.args.from 8 none)
