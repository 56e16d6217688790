use Rattle.std.proofs.Common.{refl, sym, ap, subst, ◌∙◌}
use Rattle.leaf_blocks.specs.Symmetric.{mirrored, FillsTriangle}
use Rattle.leaf_blocks.proofs.Triangles.{mirrors}
use Rattle.leaf_blocks.proofs.symmetric.SymLeaf.entries.Goals as goal

pub returns-clause-value : goal.returns-clause-value
returns-clause-value c =
    let tall = (mirrors _ _ _ _ refl c.self.view_is).tall in
    ap (λ n. mirrored n c.self.inside.entries.items) tall ∙ c.self.view_is

pub returns-clause-fills : goal.returns-clause-fills
returns-clause-fills c =
    let tall = (mirrors _ _ _ _ refl c.self.view_is).tall in
    subst (λ n. FillsTriangle n c.self.inside.entries.items) (sym tall) c.self.invariant
