use Rattle.std.proofs.Common.{rules, FitsSigned, ◌∙◌}
use Rattle.std.specs.Int.{w128}
use Rattle.std.proofs.lemmas.Int.{to_z-of_z}
use Rattle.leaf_blocks.proofs.Triangles.{mirrors, triangle_trace_fits, triangle_trace_is}
use Rattle.leaf_blocks.proofs.symmetric.SymLeaf.trace.Goals as goal

pub triangle_trace_of-requires-clause-fits : goal.triangle_trace_of-requires-clause-fits
triangle_trace_of-requires-clause-fits c =
    triangle_trace_fits c.args.self.now c.self.inside.side c.deref.result.now (mirrors _ _ _ _ c.deref.ensures.value c.self.view_is) c.requires

pub returns : goal.returns
returns c =
    let fits : FitsSigned w128 c.triangle_trace_of.result = search rules in
    to_z-of_z w128 _ fits ∙ c.triangle_trace_of.ensures
    ∙ triangle_trace_is c.args.self.now c.self.inside.side c.deref.result.now (mirrors _ _ _ _ c.deref.ensures.value c.self.view_is)
