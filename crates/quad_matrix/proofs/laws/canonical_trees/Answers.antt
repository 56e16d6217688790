use Rattle.quad_matrix.proofs.Canonical.{canonical_of_block, nothing_is_canonical}
use Rattle.quad_matrix.proofs.OnlyTrees.{canonical_stands, canonical_is_only}
use Rattle.quad_matrix.proofs.laws.canonical_trees.Goals as goal

pub returns : goal.returns
returns c =
    record {
      stands = canonical_stands;
      canonical = canonical_of_block;
      only = canonical_is_only;
      nothing = nothing_is_canonical;
    }
