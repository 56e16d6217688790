-- Canonical trees of one block, and trees of one number, are one.
use Rattle.std.proofs.Common.{sym, ap, ◌∙◌}
use Rattle.quad_matrix.specs.Blocks.{canonical, number_tree}
use Rattle.quad_matrix.specs.Laws.{CanonicalStands, CanonicalIsOnly, NumberIsOnly}
use Rattle.quad_matrix.proofs.Canonical.{block_of_canonical}

-- the canonical tree of a block stands for it
pub canonical_stands : CanonicalStands
canonical_stands b h m sized = block_of_canonical b h m sized.whole sized.tall sized.wide

-- and is the only one
pub canonical_is_only : CanonicalIsOnly
canonical_is_only b h one other is is' same = is.same ∙ ap (canonical b h) same ∙ sym is'.same

-- a number has one tree
pub number_is_only : NumberIsOnly
number_is_only one other is is' same = is.same ∙ ap number_tree same ∙ sym is'.same
